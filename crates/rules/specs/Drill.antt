-- Drill terms (document 02, U12): what the list is, by its members and its order (`DrillList`), and the list computed. That the two agree, and that there is only one such list, is in proofs/DrillLaws.antt.
use Rattle.std.specs.Prelude.{ℕ, zero, suc, ◌+◌, ◌-◌, ◌≤◌, ◌<◌, ◌≡◌, ◌⊎◌, Bool, true, false, ◌&&◌, length, drop, leb, eqb}
use Rattle.std.proofs.Math.Option.{Option, none, some}
use mathlib.Core.List.{List, [], ◌∷◌, ◌++◌, map, Memᴰ}
use Rattle.rules.specs.Terms.{Term, size, vars_term}
use Rattle.rules.specs.Syntax.{Symbol, functor, predicate}
use Rattle.rules.specs.Cells.{write_term}
use Rattle.rules.specs.Refusals.{bad_drill, Checked, refused, accepted, and_then as ◌>>=◌, require, obtain}
use Rattle.rules.specs.Decks.{open_deck}
use Rattle.rules.specs.WellFormed.{All, WfTerm}

-- "All variable-free terms of at most N cells over the deck's functors", as their cells.
pub record DrillTerm (S : List Symbol) (N : ℕ) (cells : List ℕ) : Type 0 where
  pub term : Term
  pub formed : WfTerm S term
  pub ground : vars_term term [] ≡ []
  pub short : size term ≤ N
  pub written : cells ≡ write_term term []

-- "Shorter first, then by cells compared left to right as numbers."
abbrev pub CellsBefore : List ℕ → List ℕ → Type 0
CellsBefore [] ys = ⊥
CellsBefore (x ∷ xs) [] = ⊥
CellsBefore (x ∷ xs) (y ∷ ys) = (x < y) ⊎ ((x ≡ y) × CellsBefore xs ys)

abbrev pub Before : List ℕ → List ℕ → Type 0
Before xs ys = (length xs < length ys) ⊎ ((length xs ≡ length ys) × CellsBefore xs ys)

-- Each is related to all that follow it.
abbrev pub Sorted : (List ℕ → List ℕ → Type 0) → List (List ℕ) → Type 0
Sorted R [] = Unit {0}
Sorted R (x ∷ xs) = All (R x) xs × Sorted R xs

-- "List all": just the drill terms, in that order. Each term is before all that follow it, so none is there twice.
pub record DrillList (S : List Symbol) (N : ℕ) (list : List (List ℕ)) : Type 0 where
  pub sorted : Sorted Before list
  pub only : (x : List ℕ) → Memᴰ x list → DrillTerm S N x
  pub all : (x : List ℕ) → DrillTerm S N x → Memᴰ x list

-- THE LIST, COMPUTED. Each functor from number f on, in order, before each of the cells that can follow one of its arity.
unfoldable pub with_first : (ℕ → List (List ℕ)) → ℕ → List Symbol → List (List ℕ)
with_first rest f [] = []
with_first rest f (functor a ∷ S) = map (f ∷◌) (rest a) ++ with_first rest (suc f) S
with_first rest f (predicate a ∷ S) = with_first rest (suc f) S

-- The cells of k variable-free terms that take m cells together.
unfoldable pub fillings : List Symbol → ℕ → ℕ → List (List ℕ)
fillings S zero zero = [] ∷ []
fillings S zero (suc k) = []
fillings S (suc m) zero = []
fillings S (suc m) (suc k) = with_first (λ a. fillings S m (a + k)) 0 S

-- The terms of `size` cells, then those of one more, and so on, for `number` sizes.
unfoldable pub terms_from : List Symbol → ℕ → ℕ → List (List ℕ)
terms_from S size zero = []
terms_from S size (suc number) = fillings S size 1 ++ terms_from S (suc size) number

unfoldable pub drill_terms : List Symbol → ℕ → List (List ℕ)
drill_terms S N = terms_from S 1 N

-- Those after a given one of them. An empty one means from the start.
unfoldable pub same : List ℕ → List ℕ → Bool
same [] [] = true
same [] (y ∷ ys) = false
same (x ∷ xs) [] = false
same (x ∷ xs) (y ∷ ys) = eqb x y && same xs ys

unfoldable pub past : List ℕ → List (List ℕ) → Option (List (List ℕ))
past x [] = none
past x (t ∷ ts) = elim (same x t) [ true ↦ some ts | false ↦ past x ts ]

unfoldable pub after : List ℕ → List (List ℕ) → Option (List (List ℕ))
after [] ts = some ts
after (c ∷ cs) ts = past (c ∷ cs) ts

-- As many as fit whole.
unfoldable pub fitting : ℕ → List (List ℕ) → List (List ℕ)
fitting room [] = []
fitting room (t ∷ ts) = elim (leb (length t) room) [ true ↦ t ∷ fitting (room - length t) ts | false ↦ [] ]

-- The deck's words, N, the given term and the lent list's length.
unfoldable pub drill : List ℕ → ℕ → List ℕ → ℕ → Checked (List (List ℕ))
drill deck_words N given room = do
  deck ← open_deck deck_words
  _ ← require bad_drill (leb N 8)
  terms ← obtain bad_drill (after given (drill_terms deck.symbols N))
  accepted (fitting room terms)

-- Their cells one after another.
unfoldable pub joined : List (List ℕ) → List ℕ
joined [] = []
joined (t ∷ ts) = t ++ joined ts

-- What a call leaves of the lent list: the rest is untouched.
unfoldable pub list_after : Checked (List (List ℕ)) → List ℕ → List ℕ
list_after (refused n) list = list
list_after (accepted terms) list = joined terms ++ drop (length (joined terms)) list
