-- What a call gives: which terms an accepted one lists, why one is refused, and that the result is the same from any list of just the drill terms in their order.
use Prim.Native.Nat.{ℕ, ◌+◌, ◌≤◌, ◌<◌}
use mathlib.Core.Path.{◌≡◌, refl, ap, sym, ◌∙◌, subst}
use mathlib.Core.Bool.{Bool, true, false}
use mathlib.Core.Option.{Option, none, some}
use mathlib.Core.Logic.{◌⊎◌, inl, inr}
use mathlib.Core.List.{List, [], ◌∷◌, Memᴰ}
use native.Mathlib.Omega.{arith}
use lib.ListN.{length}
use lib.Dec.{leb}
use borrow.Author.Tests.{le-leb, leb-true, leb-false}
use Rattle.rules.specs.Syntax.{Deck}
use Rattle.rules.specs.Refusals.{Refusal, bad_drill, Checked, refused, accepted, and_then, require, obtain}
use Rattle.rules.specs.Decks.{open_deck}
use Rattle.rules.specs.WellFormed.{All}
use Rattle.rules.specs.Drill.{DrillTerm, Before, Sorted, DrillList, drill_terms, after, fitting, drill, joined}
use Rattle.rules.proofs.DeckLaws.{opened-written}
use Rattle.rules.proofs.DrillLaws.{drill-unique, refused-drill, Rest, rest-after, fits, sorted-fitting, all-fitting, fitting-full}

-- An opened deck has few symbols.
few : (ws : List ℕ) (d : Deck) → open_deck ws ≡ accepted d → length d.symbols ≤ 16384
few ws d e = omega (arith, (opened-written ws d e).1.few_symbols)

-- The result by whether N is small and by the terms after the given one.
abbrev result_of : ℕ → Bool → Option (List (List ℕ)) → Checked (List (List ℕ))
result_of room b o = and_then (require bad_drill b) (λ _. and_then (obtain bad_drill o) (λ terms. accepted (fitting room terms)))

pub drill-unopened : (ws : List ℕ) (N : ℕ) (given : List ℕ) (room : ℕ) (n : Refusal) → open_deck ws ≡ refused n → drill ws N given room ≡ refused n
unfolding drill and_then
drill-unopened ws N given room n e = rw e

drill-opened : (ws : List ℕ) (N : ℕ) (given : List ℕ) (room : ℕ) (d : Deck) → open_deck ws ≡ accepted d → drill ws N given room ≡ result_of room (leb N 8) (after given (drill_terms d.symbols N))
unfolding drill and_then
drill-opened ws N given room d e = rw e

-- THE RESULT IS DETERMINED by the members of the list and their order.
pub drill-determined :
    (ws : List ℕ) (N : ℕ) (given : List ℕ) (room : ℕ) (d : Deck) → open_deck ws ≡ accepted d → N ≤ 8 → (list : List (List ℕ)) → DrillList d.symbols N list
    → drill ws N given room ≡ and_then (obtain bad_drill (after given list)) (λ terms. accepted (fitting room terms))
unfolding and_then require
drill-determined ws N given room d e h list l =
    drill-opened ws N given room d e
    ∙ ap (λ b. result_of room b (after given (drill_terms d.symbols N))) (le-leb N 8 h)
    ∙ ap (λ x. result_of room true (after given x)) (sym (drill-unique d.symbols (few ws d e) N list l))

-- AN ACCEPTED CALL lists, in order, drill terms that come after the given one, as many as fit: each drill term after the given one is listed, or it comes after all
-- that are and has no room beside them.
pub record Accepted (ws : List ℕ) (N : ℕ) (given : List ℕ) (terms : List (List ℕ)) (room : ℕ) : Type 0 where
  pub deck : Deck
  pub opens : open_deck ws ≡ accepted deck
  pub small : N ≤ 8
  pub from : (given ≡ []) ⊎ DrillTerm deck.symbols N given
  pub members : All (DrillTerm deck.symbols N) terms
  pub sorted : Sorted Before terms
  pub later : All (Before given) terms
  pub within : length (joined terms) ≤ room
  pub full : (y : List ℕ) → DrillTerm deck.symbols N y → Before given y → Memᴰ y terms ⊎ (All (λ t. Before t y) terms × (room < length (joined terms) + length y))

-- Those of the terms after the given one that fit.
taken : (ws : List ℕ) (N : ℕ) (given : List ℕ) (room : ℕ) (d : Deck) → open_deck ws ≡ accepted d → N ≤ 8 → (rest : List (List ℕ)) → Rest d.symbols N given rest → Accepted ws N given (fitting room rest) room
taken ws N given room d p h rest r = record {
  deck = d;
  opens = p;
  small = h;
  from = r.from;
  members = all-fitting (DrillTerm d.symbols N) room rest r.members;
  sorted = sorted-fitting room rest r.sorted;
  later = all-fitting (Before given) room rest r.later;
  within = (fits room rest).within;
  full = λ y m b. fitting-full room rest r.sorted y (r.all y m b);
}

pub drill-accepted : (ws : List ℕ) (N : ℕ) (given : List ℕ) (room : ℕ) (terms : List (List ℕ)) → drill ws N given room ≡ accepted terms → Accepted ws N given terms room
unfolding and_then require obtain
drill-accepted ws N given room terms e = go (open_deck ws) refl
  where
    last : (d : Deck) → open_deck ws ≡ accepted d → (b : Bool) (o : Option (List (List ℕ))) → leb N 8 ≡ b → after given (drill_terms d.symbols N) ≡ o → result_of room b o ≡ accepted terms → Accepted ws N given terms room
    last d p false o l r z = absurd (let w : ◌≡◌ {A = ℕ} 0 1 = cc in omega arith)
    last d p true none l r z = absurd (let w : ◌≡◌ {A = ℕ} 0 1 = cc in omega arith)
    last d p true (some rest) l r z =
        let f : fitting room rest ≡ terms = cc in
        subst (λ x. Accepted ws N given x room) f (taken ws N given room d p (leb-true N 8 l) rest (rest-after d.symbols (few ws d p) N given rest r))

    go : (o : Checked Deck) → open_deck ws ≡ o → Accepted ws N given terms room
    go (refused n) p = let q : refused n ≡ accepted terms = sym (drill-unopened ws N given room n p) ∙ e in absurd (let w : ◌≡◌ {A = ℕ} 0 1 = cc in omega arith)
    go (accepted d) p = last d p (leb N 8) (after given (drill_terms d.symbols N)) refl refl (sym (drill-opened ws N given room d p) ∙ e)

-- Refusal 19 is due: N is over 8, or cells are given that are no drill term.
pub record IsBad (ws : List ℕ) (N : ℕ) (given : List ℕ) : Type 0 where
  pub deck : Deck
  pub opens : open_deck ws ≡ accepted deck
  pub why : (8 < N) ⊎ ((given ≡ [] → ⊥) × (DrillTerm deck.symbols N given → ⊥))

-- Why no term comes after the given cells.
no-rest : (d : Deck) (N : ℕ) (given : List ℕ) → after given (drill_terms d.symbols N) ≡ none → (given ≡ [] → ⊥) × (DrillTerm d.symbols N given → ⊥)
unfolding after
no-rest d N [] e = absurd (let w : ◌≡◌ {A = ℕ} 0 1 = cc in omega arith)
no-rest d N (c ∷ cs) e = ((λ q. let w : ◌≡◌ {A = ℕ} 0 1 = cc in omega arith), refused-drill d.symbols N (c ∷ cs) e)

-- A REFUSED CALL: the deck is refused, or 19 is due.
pub drill-refused : (ws : List ℕ) (N : ℕ) (given : List ℕ) (room : ℕ) (n : Refusal) → drill ws N given room ≡ refused n → (open_deck ws ≡ refused n) ⊎ ((n ≡ bad_drill) × IsBad ws N given)
unfolding and_then require obtain
drill-refused ws N given room n e = go (open_deck ws) refl
  where
    last : (d : Deck) → open_deck ws ≡ accepted d → (b : Bool) (o : Option (List (List ℕ))) → leb N 8 ≡ b → after given (drill_terms d.symbols N) ≡ o → result_of room b o ≡ refused n → (n ≡ bad_drill) × IsBad ws N given
    last d p false o l r z = (cc, record { deck = d; opens = p; why = inl (leb-false N 8 l) })
    last d p true none l r z = (cc, record { deck = d; opens = p; why = inr (no-rest d N given r) })
    last d p true (some rest) l r z = absurd (let w : ◌≡◌ {A = ℕ} 0 1 = cc in omega arith)

    go : (o : Checked Deck) → open_deck ws ≡ o → (open_deck ws ≡ refused n) ⊎ ((n ≡ bad_drill) × IsBad ws N given)
    go (refused m) p =
        let both : ◌≡◌ {A = Checked (List (List ℕ))} (refused m) (refused n) = sym (drill-unopened ws N given room m p) ∙ e in
        let same_number : m ≡ n = cc in
        inl (p ∙ ap refused same_number)
    go (accepted d) p = inr (last d p (leb N 8) (after given (drill_terms d.symbols N)) refl refl (sym (drill-opened ws N given room d p) ∙ e))
