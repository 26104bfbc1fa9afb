-- Closed sites (document 02, U9): what a member gets does not depend on clauses about predicates that are barred to the member.
use Prim.Native.Nat.{ℕ, zero, suc}
use mathlib.Core.Path.{◌≡◌, refl, sym, ◌∙◌, ap, subst}
use mathlib.Core.Logic.{◌⊎◌, inl, inr}
use mathlib.Core.Bool.{Bool, true, false, true≢false}
use mathlib.Core.Option.{Option, none, some}
use mathlib.Core.List.{List, [], ◌∷◌, ◌++◌, Memᴰ, append-nil}
use lib.ListN.{length, replicate}
use borrow.Author.Tests.{not-true}
use Rattle.rules.specs.Syntax.{Symbol, functor, predicate, Literal, Clause, Deck, Goal}
use Rattle.rules.specs.Refusals.{bad_goals, bad_bars, barred_reached, Checked, refused, accepted, and_then, require, obtain}
use Rattle.rules.specs.Decks.{open_deck, read_query}
use Rattle.rules.specs.Goals.{Marked, unmarked, first_goal}
use Rattle.rules.specs.Stored.{OpenGoals, read_open}
use Rattle.rules.specs.Loose.{tight_clauses, check_tight, check_tight_query}
use Rattle.rules.specs.Resolution.{clauses_about}
use Rattle.rules.specs.Rights.{literals_of, ReachesBy, named, onward, Reaches, reached, bar_fits, bars_fit, barred, Unbarred, any_barred, check_rights, SameClauses}
use Rattle.rules.specs.Evaluation.{Level, Outcome, evaluate}
use Rattle.rules.specs.Run.{run_from, check_sizes, run, Carried, carry, carry_on, Report, Slices, run_on, carry_from, Ran, RanOn}
use Rattle.rules.proofs.Continued.{Lent, continued}
use Rattle.rules.proofs.Demand3.{passed, required}
use Rattle.rules.proofs.Reach.{ReachesBarred, barred-reached}
use Rattle.rules.proofs.SameDecks.{about-in, in-about, evaluate-same, left-reaches}

-- THE FIRST BARRED PREDICATE ON THE WAY
module _ (clauses : List Clause) (bars : List ℕ) (starts : List Literal) where
  -- Reached through unbarred predicates, or a barred one is.
  openly : {p : ℕ} → Reaches clauses starts p → ReachesBarred (Unbarred bars) clauses bars starts ⊎ ReachesBy (Unbarred bars) clauses starts p
  openly (named m) = inr (named m)
  openly (onward {c} {p} r a i m) = go (openly r) (barred bars c.predicate) refl
    where
      go : ReachesBarred (Unbarred bars) clauses bars starts ⊎ ReachesBy (Unbarred bars) clauses starts c.predicate → (b : Bool) → barred bars c.predicate ≡ b
          → ReachesBarred (Unbarred bars) clauses bars starts ⊎ ReachesBy (Unbarred bars) clauses starts p
      go (inl s) b e = inl s
      go (inr s) true e = inl (record { predicate = c.predicate; reaches = s; is_barred = e })
      go (inr s) false e = inr (onward s e i m)

  first-barred : ReachesBarred (λ q. Unit {0}) clauses bars starts → ReachesBarred (Unbarred bars) clauses bars starts
  first-barred r = elim (openly r.reaches) [ inl s ↦ s | inr s ↦ record { predicate = r.predicate; reaches = s; is_barred = r.is_barred } ]

-- However it is reached.
reaches-whatever : {passed' : ℕ → Type 0} {clauses : List Clause} {starts : List Literal} {p : ℕ} → ReachesBy passed' clauses starts p → Reaches clauses starts p
reaches-whatever (named m) = named m
reaches-whatever (onward r a i m) = onward (reaches-whatever r) tt i m

-- TWO DECKS
swapped : (cs ds : List Clause) (bars : List ℕ) (starts : List Literal) → SameClauses cs ds bars starts → SameClauses ds cs bars starts
swapped cs ds bars starts h p u r s = sym (h p u s r)

-- The request's premise, whichever of the two decks "the query names or reaches" is read in.
pub same-in-first : (cs ds : List Clause) (bars : List ℕ) (starts : List Literal)
    → ((p : ℕ) → Unbarred bars p → Reaches cs starts p → clauses_about p cs ≡ clauses_about p ds) → SameClauses cs ds bars starts
same-in-first cs ds bars starts h p u r s = h p u (reaches-whatever r)

pub same-in-second : (cs ds : List Clause) (bars : List ℕ) (starts : List Literal)
    → ((p : ℕ) → Unbarred bars p → Reaches ds starts p → clauses_about p cs ≡ clauses_about p ds) → SameClauses cs ds bars starts
same-in-second cs ds bars starts h p u r s = h p u (reaches-whatever s)

module _ (cs ds : List Clause) (bars : List ℕ) (starts : List Literal) (h : SameClauses cs ds bars starts) where
  -- What is reached through unbarred predicates in one is so in the other,
  same-openly : {p : ℕ} → ReachesBy (Unbarred bars) cs starts p → ReachesBy (Unbarred bars) ds starts p
  same-openly (named m) = named m
  same-openly (onward {c} r a i m) =
      let s = same-openly r in
      onward s a (about-in c c.predicate ds (subst (Memᴰ c) (h c.predicate a r s) (in-about i))).0 m

  -- so a barred one is reached in the other too.
  same-barred : any_barred bars (reached cs starts) ≡ true → any_barred bars (reached ds starts) ≡ true
  same-barred e =
      let r = first-barred cs bars starts ((barred-reached cs bars starts).0 e) in
      (barred-reached ds bars starts).1 (record { predicate = r.predicate; reaches = reaches-whatever (same-openly r.reaches); is_barred = r.is_barred })

  -- Where none is reached, the clauses about every predicate reached are the same.
  pub same-clauses : any_barred bars (reached cs starts) ≡ false → (p : ℕ) → Reaches cs starts p → clauses_about p cs ≡ clauses_about p ds
  same-clauses e p r = go (openly cs bars starts r) (barred bars p) refl
    where
      none : ReachesBarred (λ q. Unit {0}) cs bars starts → ⊥
      none s = true≢false (sym ((barred-reached cs bars starts).1 s) ∙ e)

      go : ReachesBarred (Unbarred bars) cs bars starts ⊎ ReachesBy (Unbarred bars) cs starts p → (b : Bool) → barred bars p ≡ b → clauses_about p cs ≡ clauses_about p ds
      go (inl s) b f = absurd (none (record { predicate = s.predicate; reaches = reaches-whatever s.reaches; is_barred = s.is_barred }))
      go (inr s) true f = absurd (none (record { predicate = p; reaches = r; is_barred = f }))
      go (inr s) false f = h p f s (same-openly s)

both : (a b : Bool) → (a ≡ true → b ≡ true) → (b ≡ true → a ≡ true) → a ≡ b
both true b h k = sym (h refl)
both false true h k = k refl
both false false h k = refl

-- Where the rights are in order, no barred predicate is reached.
pub rights-clear : {a : Unit {0}} (d : Deck) (bars : List ℕ) (goals : List Marked) → check_rights d bars goals ≡ accepted a
    → any_barred bars (reached d.clauses (literals_of goals)) ≡ false
unfolding check_rights
rights-clear d bars goals e =
    let r = passed (require bad_bars (bars_fit d.symbols bars)) _ e in
    not-true (any_barred bars (reached d.clauses (literals_of goals))) (required barred_reached _ r.2)

-- WHAT IS LET THROUGH reaches no barred predicate from its goals, pending or parked.
pub from-clear : {o : Outcome} (d : Deck) (bars : List ℕ) (gs : List Goal) (ms : List Marked) (budget answer_room store_size : ℕ)
    → run_from d bars gs ms budget answer_room store_size ≡ accepted o → (p : ℕ) → Reaches d.clauses (literals_of (unmarked gs ++ ms)) p → Unbarred bars p
unfolding run_from
from-clear d bars gs ms budget answer_room store_size e p r = go (barred bars p) refl
  where
    go : (b : Bool) → barred bars p ≡ b → b ≡ false
    go false f = refl
    go true f =
        let c = passed (check_rights d bars (unmarked gs ++ ms)) _ e in
        sym ((barred-reached d.clauses bars (literals_of (unmarked gs ++ ms))).1 (record { predicate = p; reaches = r; is_barred = f }))
        ∙ rights-clear d bars (unmarked gs ++ ms) c.1

-- A LIST OF ZEROS, as the program's: nothing is barred, and nothing is refused.
zeros-fit : (S : List Symbol) → bars_fit S (replicate (length S) 0) ≡ true
unfolding bars_fit bar_fits
zeros-fit [] = refl
zeros-fit (functor k ∷ S) = zeros-fit S
zeros-fit (predicate k ∷ S) = zeros-fit S

zeros-bar : (n p : ℕ) → barred (replicate n 0) p ≡ false
zeros-bar zero p = refl
zeros-bar (suc n) zero = refl
zeros-bar (suc n) (suc p) = zeros-bar n p

zeros-none : (n : ℕ) (ps : List ℕ) → any_barred (replicate n 0) ps ≡ false
unfolding any_barred
zeros-none n [] = refl
zeros-none n (p ∷ ps) = rw (zeros-bar n p) (zeros-none n ps)

pub zeros-clear : (d : Deck) (goals : List Marked) → check_rights d (replicate (length d.symbols) 0) goals ≡ accepted tt
unfolding check_rights and_then require
zeros-clear d goals = rw (zeros-fit d.symbols, zeros-none (length d.symbols) (reached d.clauses (literals_of goals))) refl

-- So a run comes to the evaluation, as it did without a list.
pub zeros-run : (d : Deck) (gs : List Goal) (ms : List Marked) (budget answer_room store_size : ℕ)
    → run_from d (replicate (length d.symbols) 0) gs ms budget answer_room store_size ≡ accepted (evaluate d answer_room store_size gs ms budget)
unfolding run_from and_then
zeros-run d gs ms budget answer_room store_size = rw (zeros-clear d (unmarked gs ++ ms)) refl

-- Checks go on alike after what is let through.
pub then_same : {A B : Type 0} (c : Checked A) {f g : A → Checked B} → ((a : A) → c ≡ accepted a → f a ≡ g a) → and_then c f ≡ and_then c g
unfolding and_then
then_same (refused n) h = refl
then_same (accepted a) h = h a refl

-- A RUN FROM OPEN GOALS. The same refusal, or the same outcome.
module _ (d e : Deck) (symbols : d.symbols ≡ e.symbols) (bars : List ℕ) (gs : List Goal) (ms : List Marked) where
  abbrev starts : List Literal
  starts = literals_of (unmarked gs ++ ms)

  module _ (h : SameClauses d.clauses e.clauses bars starts) where
    pub rights-same : check_rights d bars (unmarked gs ++ ms) ≡ check_rights e bars (unmarked gs ++ ms)
    unfolding check_rights
    rights-same = rw (symbols, both _ _ (same-barred d.clauses e.clauses bars starts h) (same-barred e.clauses d.clauses bars starts (swapped _ _ bars starts h)))

    pub from-same : (budget answer_room store_size : ℕ) → run_from d bars gs ms budget answer_room store_size ≡ run_from e bars gs ms budget answer_room store_size
    unfolding run_from
    from-same budget answer_room store_size = rw (← rights-same) (then_same (check_rights d bars (unmarked gs ++ ms)) (λ a q.
        ap accepted (evaluate-same d e gs ms (same-clauses d.clauses e.clauses bars starts h (rights-clear d bars (unmarked gs ++ ms) q)) answer_room store_size budget)))

-- A RUN, on two decks that open with the same symbols and have no loose variables; the starting points are the query's literals.
query-same : (d e : Deck) → d.symbols ≡ e.symbols → (ws : List ℕ) → read_query d ws ≡ read_query e ws
unfolding read_query
query-same d e s ws = rw s

pub first-starts : (query : List Literal) → literals_of (unmarked (first_goal query ∷ [])) ≡ query
unfolding first_goal
first-starts query = append-nil query

-- 13 is given to neither, and 14 is about the query alone.
tight-same : (d e : Deck) → tight_clauses d.clauses ≡ true → tight_clauses e.clauses ≡ true → (query : List Literal) → check_tight_query d query ≡ check_tight_query e query
unfolding check_tight_query check_tight
tight-same d e t u query = rw (t, u)

module _ (deck_words other_words query_words bars : List ℕ) (d e : Deck) (opens : open_deck deck_words ≡ accepted d) (other : open_deck other_words ≡ accepted e)
    (tight : tight_clauses d.clauses ≡ true) (other_tight : tight_clauses e.clauses ≡ true) (symbols : d.symbols ≡ e.symbols)
    (h : (query : List Literal) → read_query d query_words ≡ accepted query → SameClauses d.clauses e.clauses bars query) where
  pub run-same : (budget answer_room store_size scratch_size : ℕ)
      → run deck_words query_words bars budget answer_room store_size scratch_size ≡ run other_words query_words bars budget answer_room store_size scratch_size
  unfolding run and_then
  run-same budget answer_room store_size scratch_size =
      rw (opens, other, ← query-same d e symbols query_words) (then_same (read_query d query_words) (λ query q.
      then_same (check_sizes store_size scratch_size) (λ _ _.
      rw (← tight-same d e tight other_tight query) (then_same (check_tight_query d query) (λ _ _.
      from-same d e symbols bars (first_goal query ∷ []) [] (rw (first-starts query) (h query q)) budget answer_room store_size)))))

  -- So whatever a call may return and leave over the one deck it may over the other.
  pub ran-same : (budget : ℕ) (entry exit : Slices) (r : Checked Report) → Ran deck_words query_words bars budget entry r exit → Ran other_words query_words bars budget entry r exit
  unfolding run_on
  ran-same budget entry exit r ran =
      let q = run-same budget (length entry.answers) (length entry.store) (length entry.scratch) in
      record { returns = rw q at ran.returns; leaves = rw q at ran.leaves }

-- A RUN THAT CARRIES ON, from stores of the same length that begin with the same open goals; the starting points are the literals of these.
module _ (deck_words other_words bars : List ℕ) (pending parked terms : ℕ) (store_words other_store : List ℕ) (scratch_size : ℕ) (d e : Deck)
    (opens : open_deck deck_words ≡ accepted d) (other : open_deck other_words ≡ accepted e)
    (tight : tight_clauses d.clauses ≡ true) (other_tight : tight_clauses e.clauses ≡ true) (symbols : d.symbols ≡ e.symbols)
    (long : length other_store ≡ length store_words) (reads : read_open d.symbols pending parked terms other_store ≡ read_open d.symbols pending parked terms store_words)
    (h : (g : OpenGoals) → read_open d.symbols pending parked terms store_words ≡ some g → SameClauses d.clauses e.clauses bars (literals_of (unmarked g.pending ++ g.parked))) where
  -- What goes on alike from the same open goals goes on alike from the store.
  pub carried_same : {A : Type 0} (after : Carried → Checked A)
      → ((g : OpenGoals) → read_open d.symbols pending parked terms store_words ≡ some g → after (record { deck = d; goals = g }) ≡ after (record { deck = e; goals = g }))
      → and_then (carry deck_words pending parked terms store_words scratch_size) after ≡ and_then (carry other_words pending parked terms other_store scratch_size) after
  unfolding carry and_then obtain check_tight require
  carried_same {A} after k =
      let same : read_open e.symbols pending parked terms other_store ≡ read_open d.symbols pending parked terms store_words =
      ap (λ S. read_open S pending parked terms other_store) (sym symbols) ∙ reads in
      rw (opens, other, long, same, tight, other_tight) (go (check_sizes (length store_words) scratch_size) (read_open d.symbols pending parked terms store_words) refl)
    where
      goes_on : Deck → Checked (Unit {0}) → Option OpenGoals → Checked A
      goes_on k c r = and_then (and_then c (λ _. and_then (obtain bad_goals r) (λ g. accepted (record { deck = k; goals = g })))) after

      go : (c : Checked (Unit {0})) (r : Option OpenGoals) → read_open d.symbols pending parked terms store_words ≡ r → goes_on d c r ≡ goes_on e c r
      go (refused n) r q = refl
      go (accepted a) none q = refl
      go (accepted a) (some g) q = k g q

  pub carry_same : (budget answer_room : ℕ)
      → carry_on (carry deck_words pending parked terms store_words scratch_size) bars budget answer_room (length store_words)
      ≡ carry_on (carry other_words pending parked terms other_store scratch_size) bars budget answer_room (length other_store)
  unfolding carry_on
  carry_same budget answer_room = rw long (carried_same _ (λ g r. from-same d e symbols bars g.pending g.parked (h g r) budget answer_room (length store_words)))

-- So whatever a call that carries on may return and leave over the one deck it may over the other.
pub ran-on-same :
    (deck_words other_words bars : List ℕ) (pending parked terms : ℕ) (entry : Slices) (d e : Deck) → open_deck deck_words ≡ accepted d → open_deck other_words ≡ accepted e
    → tight_clauses d.clauses ≡ true → tight_clauses e.clauses ≡ true → d.symbols ≡ e.symbols
    → ((g : OpenGoals) → read_open d.symbols pending parked terms entry.store ≡ some g → SameClauses d.clauses e.clauses bars (literals_of (unmarked g.pending ++ g.parked)))
    → (budget : ℕ) (exit : Slices) (r : Checked Report)
    → RanOn deck_words pending parked terms bars budget entry r exit → RanOn other_words pending parked terms bars budget entry r exit
unfolding carry_from
ran-on-same deck_words other_words bars pending parked terms entry d e opens other tight other_tight symbols h budget exit r ran =
    let q = carry_same deck_words other_words bars pending parked terms entry.store entry.store (length entry.scratch) d e opens other tight other_tight symbols refl refl h budget
    (length entry.answers) in
    record { returns = rw q at ran.returns; leaves = rw q at ran.leaves }

-- RUNS CONTINUED. The goals that an accepted run leaves are accepted for the same member,
module _ (d : Deck) (bars : List ℕ) (gs : List Goal) (ms : List Marked) {a : Unit {0}} (right : check_rights d bars (unmarked gs ++ ms) ≡ accepted a)
    (answer_room store_size budget : ℕ) where
  abbrev after : Outcome
  after = evaluate d answer_room store_size gs ms budget

  pub rights-kept : check_rights d bars (unmarked after.pending ++ after.parked) ≡ accepted tt
  unfolding check_rights and_then require
  rights-kept =
      let fits = (passed (require bad_bars (bars_fit d.symbols bars)) _ right).1 in
      rw (fits, none) refl
    where
      left : List Literal
      left = literals_of (unmarked after.pending ++ after.parked)

      none : any_barred bars (reached d.clauses left) ≡ false
      none = go (any_barred bars (reached d.clauses left)) refl
        where
          go : (b : Bool) → any_barred bars (reached d.clauses left) ≡ b → b ≡ false
          go false q = refl
          go true q =
              let r = (barred-reached d.clauses bars left).0 q in
              let before : ReachesBarred (λ q. Unit {0}) d.clauses bars (literals_of (unmarked gs ++ ms)) = record {
                predicate = r.predicate;
                reaches = left-reaches d gs ms answer_room store_size budget r.predicate r.reaches;
                is_barred = r.is_barred;
              } in
              sym ((barred-reached d.clauses bars (literals_of (unmarked gs ++ ms))).1 before) ∙ rights-clear d bars (unmarked gs ++ ms) right

  -- and another deck that has the same clauses for the goals before has them for the goals left.
  pub same-later : (e : Deck) → SameClauses d.clauses e.clauses bars (literals_of (unmarked gs ++ ms))
      → SameClauses d.clauses e.clauses bars (literals_of (unmarked after.pending ++ after.parked))
  same-later e h p u r s =
      same-clauses d.clauses e.clauses bars (literals_of (unmarked gs ++ ms)) h (rights-clear d bars (unmarked gs ++ ms) right) p
      (left-reaches d gs ms answer_room store_size budget p (reaches-whatever r))

-- So any list of runs, continued one from the other, comes to the same.
pub continued-same :
    (d e : Deck) (bars : List ℕ) (bs : List Lent) (l : Level) {a : Unit {0}} → check_rights d bars (unmarked l.pending ++ l.parked) ≡ accepted a
    → SameClauses d.clauses e.clauses bars (literals_of (unmarked l.pending ++ l.parked)) → continued d bs l ≡ continued e bs l
unfolding continued
continued-same d e bars [] l r h = refl
continued-same d e bars (b ∷ bs) l r h =
    continued-same d e bars bs (next d) (rights-kept d bars l.pending l.parked r b.answer_room b.store_size b.budget)
    (same-later d bars l.pending l.parked r b.answer_room b.store_size b.budget e h)
    ∙ ap (λ o. continued e bs (record { pending = o.pending; parked = o.parked; answers = l.answers ++ o.answers })) (evaluate-same d e l.pending l.parked
    (same-clauses d.clauses e.clauses bars _ h (rights-clear d bars (unmarked l.pending ++ l.parked) r)) b.answer_room b.store_size b.budget)
  where
    next : Deck → Level
    next k =
        let o = evaluate k b.answer_room b.store_size l.pending l.parked b.budget in
        record { pending = o.pending; parked = o.parked; answers = l.answers ++ o.answers }
