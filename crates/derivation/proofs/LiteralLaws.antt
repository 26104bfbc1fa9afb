-- The selected literal in a goal's cells. Assumes nothing.
use Prim.Native.Nat.{ℕ, ◌<◌}
use mathlib.Core.Path.{◌≡◌, refl, ap, sym, ◌∙◌, subst}
use mathlib.Core.List.{List, [], ◌∷◌, ◌++◌, append_assoc}
use native.Mathlib.Omega.{arith}
use lib.ListN.{length, get_or, take, length-append}
use lib.Seq.{length-take-le, get_or-take, get_or_at}
use Rattle.rules.specs.Terms.{Terms, nil, cons, var, app, count}
use Rattle.rules.specs.Syntax.{Symbol, Literal, pos, Goal}
use Rattle.rules.specs.Cells.{positive, read_cell, write_terms, write_literals}
use Rattle.rules.specs.Resolution.{row_of}
use Rattle.rules.specs.Goals.{goal_cells}
use Rattle.rules.proofs.CellLaws.{terms-length, literals-length, write-append, write_literals-append}
use Rattle.resolvents.specs.Deriving.{Calls, leading_symbol}
use Rattle.clauses.specs.Tried.{row_of_symbol}
use Rattle.resolvents.specs.declared.resolve.Call.{Call}
use Rattle.rules.specs.WellFormed.{WfLiteral, WfLiterals}
use Rattle.rules.proofs.ListLaws.{all_split}
use Rattle.rules.proofs.CellLaws.{positive-below}
use Rattle.rules.specs.Syntax.{Deck}
use Rattle.derivation.specs.declared.Attempt.{Attempt}
use Rattle.derivation.specs.Derives.{Tries}

-- The cell at which the selected literal starts is its predicate.
pub literal-cell :
    {ar cells : List ℕ} {call : Call} {n : ℕ} {S : List Symbol} {g : Goal} {before : List Literal} {p : ℕ} {ts : Terms} {after : List Literal}
    → Calls ar cells call n S g before p ts after → (call.s < call.len) × (get_or cells call.s 0 ≡ p)
unfolding goal_cells
literal-cell {cells = cells} {call = call} {g = g} {before = before} {p = p} {ts = ts} {after = after} r =
    let s = call.s in
    let size = call.len in
    let front = write_terms g.answer_terms [] ++ write_literals before in
    let rest = write_terms ts (write_literals after) in
    let whole : take size cells ≡ front ++ (p ∷ rest) =
    r.goal.goal ∙ rw (r.literals, write-append g.answer_terms (write_literals (before ++ (pos p ts ∷ after))), write_literals-append before (pos p ts ∷ after)) (simp append_assoc) in
    let long : length front ≡ s =
    length-append (write_terms g.answer_terms []) (write_literals before) ∙ omega (arith, terms-length g.answer_terms [], literals-length before, r.span.start) in
    let h : s < size = omega (arith, ap length whole, length-take-le size cells r.inside, length-append front (p ∷ rest)) in
    (h, sym (get_or-take size cells s 0 h) ∙ ap (λ (l : List ℕ). get_or l s 0) whole ∙ get_or_at front p rest 0 s long)

-- It is a predicate with as many arguments as the literal has, and so one of the deck's symbols.
pub literal-read :
    {ws cells : List ℕ} {a : Attempt} {d : Deck} {g : Goal} {before : List Literal} {p : ℕ} {ts : Terms} {after : List Literal}
    → Tries ws cells a d g before p ts after → read_cell d.symbols p ≡ positive p (count ts)
literal-read {d = d} {before = before} {p} {ts} {after} t =
    let w = subst (WfLiterals d.symbols) t.calls.literals t.calls.goal.well_formed.literals in
    (all_split (WfLiteral d.symbols) before (pos p ts ∷ after) w).1.0.0

pub literal-below :
    {ws cells : List ℕ} {a : Attempt} {d : Deck} {g : Goal} {before : List Literal} {p : ℕ} {ts : Terms} {after : List Literal}
    → Tries ws cells a d g before p ts after → p < length d.symbols
literal-below {d = d} {p = p} t = positive-below d.symbols p _ (literal-read t)

-- The row of the terms is that of the symbol that they begin with.
pub row-leads : (ts : Terms) → row_of_symbol (leading_symbol ts) ≡ row_of ts
unfolding row_of
row-leads nil = refl
row-leads (cons (var v) ts) = refl
row-leads (cons (app f us) ts) = refl
