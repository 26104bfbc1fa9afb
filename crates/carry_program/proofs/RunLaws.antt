-- What the runs of the two programs come to and leave, on their buffers.
use Prim.Native.Nat.{ℕ, suc, ◌+◌, ◌*◌, ◌≤◌}
use mathlib.Core.Path.{◌≡◌, refl, ap, sym, ◌∙◌, subst}
use mathlib.Core.Bool.{true}
use mathlib.Core.Option.{Option, some}
use mathlib.Core.List.{List, [], ◌∷◌, ◌++◌}
use native.Mathlib.Omega.{arith}
use lib.ListN.{length, drop, replicate, length-replicate, length-drop, take-append-drop}
use Rattle.rules.specs.Terms.{nil, count}
use Rattle.rules.specs.Syntax.{Literal, Symbol, Deck, Goal, vars_literals, top_goal}
use Rattle.rules.specs.Refusals.{Refusal, Checked, refused, accepted, and_then, require}
use Rattle.rules.specs.Decks.{symbol_words, open_deck, read_query, check_query}
use Rattle.rules.specs.Loose.{tight_clauses, tight_query, check_tight, check_tight_query}
use Rattle.rules.specs.Goals.{Marked, first_goal, variables, query_variables}
use Rattle.rules.specs.Stored.{read_open}
use Rattle.rules.specs.Evaluation.{Outcome, evaluate}
use Rattle.rules.specs.Run.{run, run_on, carry, carry_on, carry_from, Report, report, store_start, Slices, Filled, Leaves, Ran, RanOn}
use Rattle.rules.specs.Program.{words_from, query_input}
use Rattle.rules.specs.CarryProgram.{Kept, number_from, deck_input, bars_from, open_words, open_run, goals_input, store_from, carry_bytes, carry_run}
use Rattle.rules.specs.WellFormed.{All, WfGoal, WfMarked}
use Rattle.rules.proofs.ListLaws.{all-weaken}
use Rattle.rules.proofs.DeckLaws.{steps-open, opened-written, query-reads}
use Rattle.rules.proofs.FirstGoal.{first_goal-wf}
use Rattle.rules.proofs.NumberingLaws.{numbered-count, top_goal-above}
use Rattle.rules.proofs.Demand3.{run-accepted}
use Rattle.rules.proofs.StoredLaws.{Fits, ParkedFits, open-reads, read-open, left-fit}
use Rattle.rules.proofs.Carried.{carry-accepted}
use Rattle.report.specs.Reports.{report_of}
use Rattle.report.specs.declared.Report as code
use Rattle.resolvents.specs.Selecting.{GoalCells}
use Rattle.top_level.proofs.FirstLaws.{query-cells}
use Rattle.listing.specs.Shown.{Shown}
use Rattle.listing.specs.Put.{Put}
use Rattle.listing.proofs.RunLaws.{evaluated-shown}
use Rattle.listing.proofs.PrintedLaws.{put-printed}
use Rattle.program.proofs.PartLaws.{Buffers, returned-refused, returned-accepted, and_then-refused, and_then-accepted}
use Rattle.carry_program.specs.Finished.{LeftOpen, Finished}

-- WHAT IS LEFT by an evaluation of goals of so many answer terms: answers that can be listed, and a store that begins with open goals.
module _ (deck_words : List ℕ) (deck : Deck) (opens : open_deck deck_words ≡ accepted deck) (terms budget : ℕ) (gs : List Goal) (ms : List Marked)
    (p : All (Fits deck.symbols terms) gs) (q : All (ParkedFits deck.symbols terms) ms) (entry exit : Slices) (o : Outcome)
    (evaluates : o ≡ evaluate deck (length entry.answers) (length entry.store) gs ms budget) (left : Filled o entry exit) where
  shows : (r : code.Report) → report_of r ≡ report o → Shown o r exit.answers (symbol_words deck_words)
  shows r same = subst (λ (list : List ℕ). Shown o r list (symbol_words deck_words)) (sym left.answers)
      (evaluated-shown deck_words deck opens (length entry.answers) (length entry.store) gs ms budget
      (all-weaken (Fits deck.symbols terms) (WfGoal deck.symbols) (λ g h. h.wf) gs p)
      (all-weaken (ParkedFits deck.symbols terms) (WfMarked deck.symbols) (λ m h. h.1.wf) ms q) o evaluates r same entry.answers)

  begins : store_start o ++ drop (length (store_start o)) exit.store ≡ exit.store
  begins = ap (λ ws. ws ++ drop (length (store_start o)) exit.store) (sym left.store) ∙ take-append-drop (length (store_start o)) exit.store

  still_open : LeftOpen o deck_words terms exit.store
  unfolding store_start
  still_open =
      let fit = left-fit deck (opened-written deck_words deck opens).1 terms gs ms p q (length entry.answers) (length entry.store) budget in
      record {
        deck = deck;
        opens = opens;
        reads = subst (λ ws. read_open deck.symbols (length o.pending) (length o.parked) terms ws ≡ some (record { pending = o.pending; parked = o.parked })) begins
            (read-open deck.symbols terms o.pending o.parked _
            (subst (λ (x : Outcome). All (Fits deck.symbols terms) x.pending) (sym evaluates) fit.0)
            (subst (λ (x : Outcome). All (ParkedFits deck.symbols terms) x.parked) (sym evaluates) fit.1));
      }

  pub finished : (c : Checked Kept) → c ≡ accepted (record { outcome = o; terms = terms }) → (r : code.Report) → report_of r ≡ report o
      → Finished c deck_words terms exit.answers exit.store r
  finished c e r same = record { outcome = o; comes = e; shown = shows r same; left = still_open }

-- THE NUMBER OF ANSWER TERMS of a fresh run
variables-count : (vs : List ℕ) → count (variables vs) ≡ length vs
unfolding variables
variables-count [] = refl
variables-count (v ∷ vs) = ap suc (variables-count vs)

query-checked :
    (deck_words query_words : List ℕ) (d : Deck) (query : List Literal) → open_deck deck_words ≡ accepted d → read_query d query_words ≡ accepted query
    → tight_clauses d.clauses ≡ true → tight_query query ≡ true → check_query deck_words query_words ≡ accepted query
unfolding check_query check_tight_query check_tight require and_then
query-checked deck_words query_words d query o a t u = rw (o, a, t, u) refl

-- FRESH RUNS
pub open-deck :
    (deck_words query_words : List ℕ) (file : Option (List ℕ)) (budget : ℕ) (n : Refusal) → open_deck deck_words ≡ refused n → open_words deck_words query_words file budget ≡ refused n
unfolding open_words
open-deck deck_words query_words file budget n e = and_then-refused (open_deck deck_words) _ n e

module _ (deck_words query_words bars : List ℕ) (d : Deck) (opens : open_deck deck_words ≡ accepted d) (file : Option (List ℕ)) (list : bars ≡ bars_from (length d.symbols) file) (budget : ℕ)
    (entry exit : Slices) (b : Buffers entry) where
  same-run : run deck_words query_words (bars_from (length d.symbols) file) budget 8192 16384 8192 ≡ run_on deck_words query_words bars budget entry
  unfolding run_on
  same-run = rw (list, b.answers, b.store, b.scratch)

  pub open-refused : (n : Refusal) → Ran deck_words query_words bars budget entry (refused n) exit → open_words deck_words query_words file budget ≡ refused n
  unfolding open_words
  open-refused n r =
      and_then-accepted (open_deck deck_words) _ d opens
      ∙ and_then-refused (run deck_words query_words (bars_from (length d.symbols) file) budget 8192 16384 8192) _ n (same-run ∙ returned-refused _ n r.returns)

  pub open_done : (r : code.Report) (terms : ℕ)
      → ((ar : List ℕ) (answers : ℕ) (S : List Symbol) (g : Goal) → GoalCells ar query_words answers S g → terms ≡ top_goal g)
      → Ran deck_words query_words bars budget entry (accepted (report_of r)) exit
      → Finished (open_words deck_words query_words file budget) deck_words terms exit.answers exit.store r
  unfolding open_words query_variables first_goal Leaves run_on
  open_done r terms many ran =
      let t = returned-accepted _ (report_of r) ran.returns in
      let o = t.0 in
      let left : Filled o entry exit = subst (λ (x : Checked Outcome). Leaves x entry exit) t.1 ran.leaves in
      let a = run-accepted deck_words query_words bars budget (length entry.answers) (length entry.store) (length entry.scratch) o t.1 in
      let q = query-reads a.deck query_words a.query a.asks in
      let cells = query-cells (record { symbols = (steps-open deck_words a.deck a.opens).symbols; well_formed = q.1; are = q.0 }) in
      let named : terms ≡ length (query_variables a.query) =
      many (symbol_words deck_words) 0 a.deck.symbols _ cells ∙ sym (top_goal-above (record { answer_terms = nil; literals = a.query })) ∙ sym (numbered-count (vars_literals a.query) q.1.in_order) in
      let first : Fits a.deck.symbols terms (first_goal a.query) = record {
        wf = first_goal-wf a.deck.symbols a.query q.1;
        many = variables-count (query_variables a.query) ∙ sym named;
      } in
      let checks : check_query deck_words query_words ≡ accepted a.query = query-checked deck_words query_words a.deck a.query a.opens a.asks a.tight_deck a.tight_asked in
      let comes : open_words deck_words query_words file budget ≡ accepted (record { outcome = o; terms = terms }) =
      and_then-accepted (open_deck deck_words) _ d opens ∙ and_then-accepted (run deck_words query_words (bars_from (length d.symbols) file) budget 8192 16384 8192) _ o (same-run ∙ t.1) ∙ and_then-accepted (check_query deck_words query_words) _ a.query checks
      ∙ ap {B = Checked Kept} (λ (n : ℕ). accepted (record { outcome = o; terms = n })) (sym named) in
      finished deck_words a.deck a.opens terms budget (first_goal a.query ∷ []) [] (first, tt) tt entry exit o a.evaluates left (open_words deck_words query_words file budget) comes r t.2

-- RUNS THAT CARRY ON
words-few : (bytes : List ℕ) → 2 * length (words_from bytes) ≤ length bytes
unfolding words_from
words-few [] = omega arith
words-few (low ∷ []) = omega arith
words-few (low ∷ high ∷ bytes) = omega (arith, words-few bytes)

pub stored-from : {n : ℕ} {store words : List ℕ} → Put (replicate 16384 0) 0 words n store → length words ≤ 16384 → store ≡ store_from words
unfolding store_from
stored-from {n} {store} {words} p h =
    let w = put-printed p (omega (arith, length-replicate {A = ℕ} 16384 0)) in
    w.bytes ∙ ap (λ (k : ℕ). words ++ drop k (replicate 16384 0)) w.number

-- The words of a file after its numbers.
pub goals-stored : (front : ℕ) (bytes part : List ℕ) {n : ℕ} {store : List ℕ} → part ≡ drop front bytes → length bytes ≤ front + 32768 → Put (replicate 16384 0) 0 (words_from part) n store
    → store ≡ store_from (words_from (drop front bytes))
goals-stored front bytes part {n} {store} e h p =
    stored-from (subst (λ (xs : List ℕ). Put (replicate 16384 0) 0 (words_from xs) n store) e p) (omega (arith, words-few (drop front bytes), length-drop front bytes))

pub carry-deck : (deck_words bytes : List ℕ) (file : Option (List ℕ)) (budget : ℕ) (n : Refusal) → open_deck deck_words ≡ refused n → carry_bytes deck_words bytes file budget ≡ refused n
unfolding carry_bytes
carry-deck deck_words bytes file budget n e = and_then-refused (open_deck deck_words) _ n e

module _ (deck_words bytes bars : List ℕ) (d : Deck) (opens : open_deck deck_words ≡ accepted d) (file : Option (List ℕ)) (list : bars ≡ bars_from (length d.symbols) file) (budget : ℕ)
    (entry exit : Slices) (b : Buffers entry) (s : entry.store ≡ store_from (words_from (drop 24 bytes))) where
  abbrev pending : ℕ
  pending = number_from 8 bytes

  abbrev parked : ℕ
  parked = number_from 8 (drop 8 bytes)

  abbrev terms : ℕ
  terms = number_from 8 (drop 16 bytes)

  abbrev listed : List ℕ
  listed = bars_from (length d.symbols) file

  same-carry : carry_on (carry deck_words pending parked terms (store_from (words_from (drop 24 bytes))) 8192) listed budget 8192 16384 ≡ carry_from deck_words pending parked terms bars budget entry
  unfolding carry_from
  same-carry = rw (list, b.answers, b.store, b.scratch, s)

  pub carry-refused : (n : Refusal) → RanOn deck_words pending parked terms bars budget entry (refused n) exit → carry_bytes deck_words bytes file budget ≡ refused n
  unfolding carry_bytes
  carry-refused n r =
      and_then-accepted (open_deck deck_words) _ d opens
      ∙ and_then-refused (carry_on (carry deck_words pending parked terms (store_from (words_from (drop 24 bytes))) 8192) listed budget 8192 16384) _ n (same-carry ∙ returned-refused _ n r.returns)

  pub carry-done : (r : code.Report) → RanOn deck_words pending parked terms bars budget entry (accepted (report_of r)) exit
      → Finished (carry_bytes deck_words bytes file budget) deck_words terms exit.answers exit.store r
  unfolding carry_bytes Leaves carry_from
  carry-done r ran =
      let t = returned-accepted _ (report_of r) ran.returns in
      let o = t.0 in
      let left : Filled o entry exit = subst (λ (x : Checked Outcome). Leaves x entry exit) t.1 ran.leaves in
      let a = carry-accepted deck_words pending parked terms bars budget (length entry.answers) entry.store (length entry.scratch) o t.1 in
      let q = open-reads a.deck.symbols pending parked terms entry.store a.goals a.carries in
      let comes : carry_bytes deck_words bytes file budget ≡ accepted (record { outcome = o; terms = terms }) =
      and_then-accepted (open_deck deck_words) _ d opens
      ∙ and_then-accepted (carry_on (carry deck_words pending parked terms (store_from (words_from (drop 24 bytes))) 8192) listed budget 8192 16384) _ o (same-carry ∙ t.1) in
      finished deck_words a.deck a.opens terms budget a.goals.pending a.goals.parked q.pending q.parked entry exit o a.evaluates left (carry_bytes deck_words bytes file budget) comes r t.2

-- The same of numbers that are those of the file.
module _ (deck_words bytes bars : List ℕ) (budget p q t : ℕ) (e : p ≡ number_from 8 bytes) (f : q ≡ number_from 8 (drop 8 bytes)) (g : t ≡ number_from 8 (drop 16 bytes)) (result : Checked Report)
    (entry exit : Slices) where
  pub numbered : RanOn deck_words p q t bars budget entry result exit
      → RanOn deck_words (number_from 8 bytes) (number_from 8 (drop 8 bytes)) (number_from 8 (drop 16 bytes)) bars budget entry result exit
  numbered r = subst (λ (n : ℕ). RanOn deck_words (number_from 8 bytes) (number_from 8 (drop 8 bytes)) n bars budget entry result exit) g
      (subst (λ (n : ℕ). RanOn deck_words (number_from 8 bytes) n t bars budget entry result exit) f
      (subst (λ (n : ℕ). RanOn deck_words n q t bars budget entry result exit) e r))

-- THE PROGRAMS, test by test
module _ (file bars : Option (List ℕ)) (budget : ℕ) where
  pub open_run-deck : (input : List ℕ) (n : Refusal) → deck_input file ≡ refused n → open_run file input bars budget ≡ refused n
  unfolding open_run
  open_run-deck input n e = and_then-refused (deck_input file) _ n e

  pub carry_run-deck : (goals : Option (List ℕ)) (n : Refusal) → deck_input file ≡ refused n → carry_run file goals bars budget ≡ refused n
  unfolding carry_run
  carry_run-deck goals n e = and_then-refused (deck_input file) _ n e

  module _ (deck_words : List ℕ) (d : deck_input file ≡ accepted deck_words) where
    pub open_run-query : (input : List ℕ) (n : Refusal) → query_input input ≡ refused n → open_run file input bars budget ≡ refused n
    unfolding open_run
    open_run-query input n e = and_then-accepted (deck_input file) _ deck_words d ∙ and_then-refused (query_input input) _ n e

    pub open_run-words : (input query_words : List ℕ) → query_input input ≡ accepted query_words → open_run file input bars budget ≡ open_words deck_words query_words bars budget
    unfolding open_run
    open_run-words input query_words e = and_then-accepted (deck_input file) _ deck_words d ∙ and_then-accepted (query_input input) _ query_words e

    pub carry_run-goals : (goals : Option (List ℕ)) (n : Refusal) → goals_input goals ≡ refused n → carry_run file goals bars budget ≡ refused n
    unfolding carry_run
    carry_run-goals goals n e = and_then-accepted (deck_input file) _ deck_words d ∙ and_then-refused (goals_input goals) _ n e

    pub carry_run-bytes : (goals : Option (List ℕ)) (bytes : List ℕ) → goals_input goals ≡ accepted bytes → carry_run file goals bars budget ≡ carry_bytes deck_words bytes bars budget
    unfolding carry_run
    carry_run-bytes goals bytes e = and_then-accepted (deck_input file) _ deck_words d ∙ and_then-accepted (goals_input goals) _ bytes e
