-- A goal's cells with a clause's behind them, its variables made fresh: what stands where; and what is written of them is the resolvent.
use Prim.Native.Nat.{ℕ, suc, ◌+◌, ◌-◌, ◌%◌, ◌≤◌, ◌<◌}
use mathlib.Core.Path.{◌≡◌, refl, sym, ◌∙◌, ap, ap₂, subst, transport}
use mathlib.Core.List.{List, [], ◌∷◌, ◌++◌, map, append_assoc}
use native.Mathlib.Decide.{dec_lt}
use native.Mathlib.Omega.{arith}
use lib.ListN.{length, get_or, take, drop, length-append, length-map}
use lib.Seq.{length-take-le, get_or-take, sets, sets-eq, take_at}
use Rattle.rules.specs.Terms.{app, Terms, nil, cons, ◌+++◌, count, sizes, tops}
use Rattle.rules.specs.Syntax.{Symbol, Literal, pos, Clause, Goal, map_literals, vars_literals, vars_goal}
use Rattle.rules.specs.Cells.{write_terms}
use Rattle.rules.specs.Unification.{unify}
use Rattle.rules.specs.Resolution.{fresh, place, resolvent}
use Rattle.rules.specs.WellFormed.{All, WfLiteral, clause_literals}
use Rattle.rules.proofs.ListLaws.{all_split, all-weaken}
use Rattle.rules.proofs.TermLaws.{size-pos, sizes-join, count-join, tops-join}
use Rattle.rules.proofs.CellLaws.{Small, terms-length, write-append, write-join, literal_sizes, literals-vars, numbered_below}
use Rattle.rules.proofs.GoalLaws.{goal-small}
use Rattle.rules.proofs.FormedLaws.{renames-count}
use Rattle.rules.proofs.NumberingLaws.{above, tops_above, top_goal-above}
use Rattle.matching.specs.Taking.{take_t, head_t}
use Rattle.matching.specs.Cells.{args_of, reads, from, Formed}
use Rattle.matching.specs.Written.{Fits}
use Rattle.matching.proofs.CellLaws.{args-functor}
use Rattle.resolvents.specs.Naming.{within}
use Rattle.resolvents.specs.Variables.{fresh_cell}
use Rattle.resolvents.specs.Deriving.{Calls, About, leading_symbol, equations_of, IsAttempt}
use Rattle.resolvents.specs.Child.{AttemptedBy, place_after, literals_before, GoalThenClause}
use Rattle.resolvents.specs.declared.resolve.Resolved.{Resolved}
use Rattle.std.specs.Prelude as std
use Rattle.resolvents.proofs.CellTrees.{lit_terms, lits-append, lits-sizes, lits-vars, lits-renames, join-fits, split-fits, goal_terms, goal-cells, goal-vars, clause_terms, clause-cells, Known, positive-known, literals-fit}
use Rattle.resolvents.proofs.RowLaws.{TermsStand, stands-room, stands_from, stands-taken, stands-within, stands_after, stands-first, stands-second, stands-head, stands-cell, stands-arguments, terms-formed, terms-fresh, renames-fit, fresh-tops, cells-below, goal-fits, goal-few}
use Rattle.resolvents.proofs.LeadingLaws.{none-leads, some-leads, variable-leads, leads-some}
use Rattle.resolvents.proofs.ResolventLaws.{attempted-resolvent}

all_above : (b : ℕ) (vs : List ℕ) → All (λ v. v < b) vs → above vs ≤ b
all_above b [] h = omega arith
all_above b (v ∷ vs) h = omega (arith, h.0, all_above b vs h.1)

-- A list written into another: what is before it, and up to its end.
module _ (l vs : List ℕ) (i : ℕ) (h : i + length vs ≤ length l) where
  sets-before : take i (sets l i vs) ≡ take i l
  sets-before =
      ap (take i) (sets-eq vs l i h ∙ append_assoc (take i l) vs (drop (i + length vs) l))
      ∙ take_at (take i l) (vs ++ drop (i + length vs) l) i (length-take-le i l (omega arith))

  sets-through : take (i + length vs) (sets l i vs) ≡ take i l ++ vs
  sets-through =
      ap (take (i + length vs)) (sets-eq vs l i h)
      ∙ take_at (take i l ++ vs) (drop (i + length vs) l) (i + length vs) (omega (arith, length-append (take i l) vs, length-take-le i l (omega arith)))

count-sizes : (ts : Terms) → count ts ≤ sizes ts
count-sizes nil = omega arith
count-sizes (cons t ts) = omega (arith, size-pos t, count-sizes ts)

module _ {ar cells : List ℕ} {size answer_cells s e n : ℕ} {S : List Symbol} {g : Goal} {before : List Literal} {p : ℕ} {ts : Terms} {after : List Literal}
    (k : Calls ar cells (record { len = size; answer_cells = answer_cells; s = s; e = e }) n S g before p ts after) where
  -- THE GOAL
  abbrev parts : Terms
  parts = g.answer_terms +++ (lit_terms before +++ cons (app p ts) (lit_terms after))

  goal-parts : goal_terms g ≡ parts
  goal-parts = ap (g.answer_terms +++◌) (ap lit_terms k.literals ∙ lits-append before (pos p ts ∷ after))

  parts-fit : Fits ar g.answer_terms × Fits ar (lit_terms before +++ cons (app p ts) (lit_terms after))
  parts-fit = split-fits ar g.answer_terms _ (rw goal-parts at (goal-fits k.goal))

  literals-parts : Fits ar (lit_terms before) × Fits ar (cons (app p ts) (lit_terms after))
  literals-parts = split-fits ar (lit_terms before) _ parts-fit.1

  goal-row : take size cells ≡ write_terms parts []
  goal-row = k.goal.goal ∙ goal-cells g ∙ ap (λ us. write_terms us []) goal-parts

  parts-size : size ≡ sizes parts
  parts-size = omega (arith, length-take-le size cells k.inside, ap length goal-row, terms-length parts [])

  goal-size : size ≡ sizes g.answer_terms + (sizes (lit_terms before) + (suc (sizes ts) + sizes (lit_terms after)))
  goal-size =
      parts-size
      ∙ sizes-join g.answer_terms (lit_terms before +++ cons (app p ts) (lit_terms after))
      ∙ ap (sizes g.answer_terms +◌) (sizes-join (lit_terms before) (cons (app p ts) (lit_terms after)))

  starts : s ≡ answer_cells + sizes (lit_terms before)
  starts = omega (arith, k.span.start, k.goal.wide, lits-sizes before)

  -- What stands where in cells that begin with the goal's.
  module _ {cs rest : List ℕ} (h : TermsStand cs 0 parts rest) where
    at-answers : TermsStand cs 0 g.answer_terms (write_terms (lit_terms before +++ cons (app p ts) (lit_terms after)) rest)
    at-answers = stands-first g.answer_terms _ h

    at-literals : TermsStand cs answer_cells (lit_terms before +++ cons (app p ts) (lit_terms after)) rest
    at-literals = stands-second g.answer_terms _ h answer_cells (k.goal.wide ∙ omega arith)

    at_literal : TermsStand cs s (cons (app p ts) (lit_terms after)) rest
    at_literal = stands-second (lit_terms before) _ at-literals s starts

    at_after : TermsStand cs e (lit_terms after) rest
    at_after = stands-second (cons (app p ts) nil) (lit_terms after) at_literal e (k.span.end ∙ ap (s +◌) (omega arith))

  goal-stands : TermsStand (take size cells) 0 parts []
  goal-stands = record { inside = omega arith; there = goal-row }

  -- THE PREDICATE
  literal-wf : WfLiteral S (pos p ts)
  literal-wf = (all_split (WfLiteral S) before (pos p ts ∷ after) (rw k.literals at k.goal.well_formed.literals)).1.0

  predicate-known : Known ar p (count ts)
  predicate-known = positive-known ar S k.goal.symbols p (count ts) literal-wf.0

  pub selected-inside : s < size
  selected-inside = omega (arith, goal-size, starts, k.goal.wide)

  selected-cell : get_or cells s 0 ≡ p
  selected-cell = sym (get_or-take size cells s 0 selected-inside) ∙ stands-cell (at_literal goal-stands)

  pub arity-known : get_or cells s 0 < 32768 → get_or cells s 0 % 16384 < length ar
  arity-known _ = rw selected-cell predicate-known.1

  arity-is : args_of ar (get_or cells s 0) ≡ count ts
  arity-is = ap (args_of ar) selected-cell ∙ args-functor ar p predicate-known.0 ∙ predicate-known.2

  -- THE FIRST ARGUMENT
  pub first-argument : 0 < args_of ar (get_or cells s 0) → s + 1 < size
  first-argument h = omega (arith, arity-is, goal-size, starts, k.goal.wide, count-sizes ts)

  first-cell : 0 < args_of ar (get_or cells s 0) → get_or cells (s + 1) 0 ≡ get_or (write_terms ts (write_terms (lit_terms after) [])) 0 0
  first-cell h = sym (get_or-take size cells (s + 1) 0 (first-argument h)) ∙ stands-head (stands-arguments (at_literal goal-stands))

  pub leading-none : args_of ar (get_or cells s 0) ≡ 0 → leading_symbol ts ≡ std.None
  leading-none h = none-leads ts (sym arity-is ∙ h)

  pub leading-some : 0 < args_of ar (get_or cells s 0) → get_or cells (s + 1) 0 < 32768 → leading_symbol ts ≡ std.Some (get_or cells (s + 1) 0)
  leading-some h l = rw (first-cell h) (some-leads ts (write_terms (lit_terms after) []) (omega (arith, arity-is)) (omega (arith, first-cell h)))

  pub leading-variable : 0 < args_of ar (get_or cells s 0) → 32768 ≤ get_or cells (s + 1) 0 → leading_symbol ts ≡ std.None
  leading-variable h l = variable-leads ar ts (write_terms (lit_terms after) []) literals-parts.1.0.3 (omega (arith, first-cell h))

  -- THE VARIABLES: at most 1,024 of the goal.
  goal-tops : tops parts ≡ n
  goal-tops = ap tops (sym goal-parts) ∙ omega (arith, tops_above (goal_terms g) [], ap above (goal-vars g), top_goal-above g, k.fresh)

  pub few-variables : n ≤ 1024
  few-variables =
      omega (arith, k.fresh, top_goal-above g, all_above 1024 (vars_goal g) (all-weaken Small (λ v. v < 1024) (λ v l. omega arith) (vars_goal g) (goal-small S g k.goal.well_formed)))

  module _ {clause : List ℕ} {c : Clause} (a : About clause S p c) where
    -- THE CLAUSE
    clause-fits : Fits ar (clause_terms c)
    clause-fits = literals-fit ar S k.goal.symbols (clause_literals c) a.well_formed.literals

    pub head-count : count c.arguments ≡ count ts
    head-count =
        let h = positive-known ar S k.goal.symbols c.predicate (count c.arguments) a.well_formed.literals.0.0 in
        sym h.2 ∙ ap (λ f. get_or ar (f % 16384) 0 % 256) a.about ∙ predicate-known.2

    clause-length : length clause ≡ suc (sizes c.arguments) + literal_sizes c.body
    clause-length = ap length (a.cells ∙ clause-cells c) ∙ terms-length (clause_terms c) [] ∙ omega (arith, lits-sizes c.body)

    pub first-of-head : (o : std.Option ℕ) → o ≡ leading_symbol ts → std.IfSome o (λ f. 1 < length clause)
    first-of-head std.None e = tt
    first-of-head (std.Some f) e = omega (arith, leads-some ts f e, head-count, clause-length, count-sizes c.arguments)

    clause-short : length clause ≤ 256
    clause-short = omega (arith, ap length a.cells, a.well_formed.short)

    pub call-short : size + length clause ≤ 1278
    call-short = omega (arith, length-take-le size cells k.inside, goal-few k.goal, clause-short)

    pub call-room : 8192 ≤ length cells → size + length clause ≤ length cells
    call-room h = omega (arith, call-short)

    -- The cells of the clause are written behind the goal's.
    module _ {cells' : List ℕ} (w : cells' ≡ sets cells size (map (fresh_cell n) clause)) (h : 8192 ≤ length cells) where
      fresh-room : size + length (map (fresh_cell n) clause) ≤ length cells
      fresh-room = omega (arith, call-room h, length-map clause (fresh_cell n))

      pub goal-kept : take size cells' ≡ take size cells
      goal-kept = ap (take size) w ∙ sets-before cells (map (fresh_cell n) clause) size fresh-room

      -- The part that starts at 0 and ends after both.
      pub both-cells : take (size + length clause) cells' ≡ take size cells ++ map (fresh_cell n) clause
      both-cells =
          let e : size + length clause ≡ size + length (map (fresh_cell n) clause) = omega (arith, length-map clause (fresh_cell n)) in
          ap₂ take e w ∙ sets-through cells (map (fresh_cell n) clause) size fresh-room

    -- The variables: at most 1,024 of the goal, and 256 of the clause.
    clause-tops : tops (clause_terms c) ≤ 256
    clause-tops =
        let vs : List ℕ = vars_literals (clause_literals c) in
        let few : length vs ≤ 256 = omega (arith, literals-vars (clause_literals c), clause-length, clause-short) in
        omega (arith, tops_above (clause_terms c) [], ap above (lits-vars (clause_literals c)), all_above 256 vs (numbered_below 256 0 vs a.well_formed.in_order (omega arith)))

    pub fresh-fit : (i : ℕ) → i < length clause → get_or clause i 0 + n < 65536
    fresh-fit i l = go (dec_lt (get_or clause i 0) 32768)
      where
        row : clause ≡ write_terms (clause_terms c) []
        row = a.cells ∙ clause-cells c

        go : Dec (get_or clause i 0 < 32768) → get_or clause i 0 + n < 65536
        go (yes h) = omega (arith, few-variables)
        go (no h) = omega (arith, few-variables, clause-tops, subst (λ cs. i < length cs → 32768 ≤ get_or cs i 0 → get_or cs i 0 - 32768 < tops (clause_terms c)) (sym row) (cells-below ar (clause_terms c) clause-fits i) l (omega arith))

    -- The cells of the clause with fresh variables.
    abbrev body : Terms
    body = lit_terms (map_literals (fresh n) c.body)

    abbrev renamed : Terms
    renamed = cons (app c.predicate (fresh n c.arguments)) body

    renamed-is : renamed ≡ fresh n (clause_terms c)
    renamed-is = ap (cons (app c.predicate (fresh n c.arguments))) (lits-renames (λ v. n + v) c.body)

    renamed-fits : Fits ar renamed
    renamed-fits = subst (Fits ar) (sym renamed-is) (renames-fit ar (λ v. n + v) (clause_terms c) clause-fits)

    renamed-row : map (fresh_cell n) clause ≡ write_terms renamed []
    renamed-row = ap (map (fresh_cell n)) (a.cells ∙ clause-cells c) ∙ terms-fresh ar n (clause_terms c) clause-fits [] ∙ ap (λ us. write_terms us []) (sym renamed-is)

    -- BOTH TOGETHER
    module _ {both : List ℕ} (q : both ≡ take size cells ++ map (fresh_cell n) clause) where
      both-stands : TermsStand both 0 parts (write_terms renamed [])
      both-stands = record { inside = omega arith; there = q ∙ ap₂ ◌++◌ goal-row renamed-row ∙ sym (write-append parts (write_terms renamed [])) }

      at-clause : TermsStand both size renamed []
      at-clause = stands_after both-stands renamed [] size refl (omega (arith, parts-size))

      both-row : both ≡ write_terms (parts +++ renamed) []
      both-row = both-stands.there ∙ sym (write-join parts renamed [])

      both-fits : Fits ar (parts +++ renamed)
      both-fits = join-fits ar parts renamed (rw goal-parts at (goal-fits k.goal)) renamed-fits

      both-length : length both ≡ size + length clause
      both-length =
          omega (arith, ap length q, length-append (take size cells) (map (fresh_cell n) clause), length-take-le size cells k.inside, length-map clause (fresh_cell n))

      both-short : length both < 65536
      both-short = omega (arith, both-length, call-short)

      both_below : (i : ℕ) → i < length both → 32768 ≤ get_or both i 0 → get_or both i 0 - 32768 < 1280
      both_below i l h =
          omega (
            arith,
            few-variables,
            subst (λ cs. i < length cs → 32768 ≤ get_or cs i 0 → get_or cs i 0 - 32768 < tops (parts +++ renamed)) (sym both-row) (cells-below ar (parts +++ renamed) both-fits i) l h,
            tops-join parts renamed,
            goal-tops,
            ap tops renamed-is,
            fresh-tops n (clause_terms c),
            clause-tops,
          )

      at-terms : TermsStand both (s + 1) ts (write_terms (lit_terms after) (write_terms renamed []))
      at-terms = stands-arguments (at_literal both-stands)

      at-arguments : TermsStand both (size + 1) (fresh n c.arguments) (write_terms body [])
      at-arguments = stands-arguments at-clause

      module _ {number : ℕ} (w : number ≡ args_of ar (get_or cells s 0)) where
        terms-taken : take_t number (from ar both (s + 1)) ≡ ts
        terms-taken = stands-taken at-terms ar number literals-parts.1.0.3 (w ∙ arity-is)

        arguments-count : count (fresh n c.arguments) ≡ number
        arguments-count = renames-count (λ v. n + v) c.arguments ∙ head-count ∙ sym (w ∙ arity-is)

        arguments-taken : take_t number (from ar both (size + 1)) ≡ fresh n c.arguments
        arguments-taken = stands-taken at-arguments ar number renamed-fits.0.3 (sym arguments-count)

        pub call-together : GoalThenClause ar both (record { len = size; answer_cells = answer_cells; s = s; e = e }) number
        call-together = record {
          formed = subst (Formed ar) (sym both-row) (terms-formed ar (parts +++ renamed) both-fits (subst (λ cs. length cs < 65536) both-row both-short));
          few = both_below;
          answered = omega (arith, starts);
          selected = omega (arith, k.span.end);
          rest = omega (arith, goal-size, starts, k.goal.wide, k.span.end);
          clause = omega (arith, both-length, clause-length);
          literal = omega (arith, w, arity-is, ap count (stands_from at-terms ar literals-parts.1.0.3), count-join ts (reads ar (write_terms (lit_terms after) (write_terms renamed []))));
          head = omega (arith, arguments-count, ap count (stands_from at-arguments ar renamed-fits.0.3), count-join (fresh n c.arguments) (reads ar (write_terms body [])));
        }

      -- The ranges: the answer terms, the literals before, the body, the literals after.
      answers-range : within ar both 0 answer_cells ≡ g.answer_terms
      answers-range = stands-within (at-answers both-stands) ar answer_cells parts-fit.0 (k.goal.wide ∙ omega arith)

      before-range : within ar both answer_cells s ≡ lit_terms before
      before-range = stands-within (stands-first (lit_terms before) _ (at-literals both-stands)) ar s literals-parts.0 starts

      after-range : within ar both e size ≡ lit_terms after
      after-range = stands-within (at_after both-stands) ar size literals-parts.1.1 (omega (arith, goal-size, starts, k.goal.wide, k.span.end))

      head-after : place_after ar both size ≡ size + suc (sizes (fresh n c.arguments))
      head-after = ap (λ us. size + Rattle.rules.specs.Terms.size (head_t us)) (stands_from at-clause ar renamed-fits)

      at_body : TermsStand both (place_after ar both size) body []
      at_body = stands-second (cons (app c.predicate (fresh n c.arguments)) nil) body at-clause (place_after ar both size) (head-after ∙ ap (size +◌) (omega arith))

      body-range : within ar both (place_after ar both size) (length both) ≡ body
      body-range = stands-within at_body ar (length both) renamed-fits.1 (omega (arith, stands-room at_body))

      literals-range : literals_before ar both (record { len = size; answer_cells = answer_cells; s = s; e = e }) ≡ lit_terms (place before (map_literals (fresh n) c.body) after)
      literals-range =
          ap₂ ◌+++◌ before-range (ap₂ ◌+++◌ after-range body-range)
          ∙ ap (lit_terms before +++◌) (sym (lits-append after (map_literals (fresh n) c.body)))
          ∙ sym (lits-append before (after ++ map_literals (fresh n) c.body))

      -- What is written of them is the resolvent.
      pub call-resolved :
          {number : ℕ} (w : number ≡ args_of ar (get_or cells s 0)) (left : ℕ) (child : List ℕ) (r : std.Option (Resolved × ℕ))
          → AttemptedBy (unify (take_t number (from ar both (s + 1))) (take_t number (from ar both (size + 1)))) left (within ar both 0 answer_cells) (literals_before ar both (record { len = size; answer_cells = answer_cells; s = s; e = e })) child r
          → IsAttempt (resolvent n g.answer_terms before ts after c) (equations_of n ts c) left child r
      unfolding resolvent
      call-resolved w left child r h =
          attempted-resolvent g.answer_terms (place before (map_literals (fresh n) c.body) after) left child r (unify ts (fresh n c.arguments))
          (transport (λ i. AttemptedBy (unify (terms-taken w i) (arguments-taken w i)) left (answers-range i) (literals-range i) child r) h)
