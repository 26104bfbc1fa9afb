-- What is told of decks' rules (document 02, U8), shown about the definitions by computing it.
use Prim.Native.Nat.{ℕ, ◌+◌, ◌≤◌}
use mathlib.Core.Path.{◌≡◌, refl, subst}
use mathlib.Core.Bool.{Bool, true, ◌&&◌, and-eq-true_iff}
use mathlib.Core.Logic.{inl, inr}
use mathlib.Core.List.{List, [], ◌∷◌, map, Memᴰ}
use native.Mathlib.Omega.{arith}
use lib.Dec.{leb}
use borrow.Author.Tests.{leb-true}
use Rattle.rules.specs.Terms.{nil}
use Rattle.rules.specs.Syntax.{Literal, Clause, pos, neg, predicate_of}
use Rattle.rules.specs.WellFormed.{All}
use Rattle.rules.specs.Ranks.{nots, greatest, rests_on, Ranked, Chain, stays, goes, Circular, ranks, circular, TellsLevels, numbers}
use Rattle.rules.specs.All.{rules}
use Rattle.rules.proofs.Table.{deck_l}
use Rattle.rules.proofs.MoreRuns.{deck_p, deck_n}
use Rattle.rules.proofs.DeckCases.{clauses_of}
use Rattle.rules.proofs.RankLaws.{greatest-in, by-clauses, ranked-not-circular}
use Rattle.rules.proofs.RankSearch.{only, only_at, heads, rounds, ranks-or-circle}

-- A bound that holds of each clause: no body has a greater number than the bound of its head's predicate.
abbrev holds : (Literal → ℕ) → (ℕ → ℕ) → List Clause → Bool
holds number bound [] = true
holds number bound (c ∷ cs) = leb (greatest number c.body) (bound c.predicate) && holds number bound cs

holds-all : (number : Literal → ℕ) (bound : ℕ → ℕ) (cs : List Clause) → holds number bound cs ≡ true → All (λ c. greatest number c.body ≤ bound c.predicate) cs
holds-all number bound [] e = tt
holds-all number bound (c ∷ cs) e =
    let t = (and-eq-true_iff (leb (greatest number c.body) (bound c.predicate)) (holds number bound cs)).0 e in
    (leb-true (greatest number c.body) (bound c.predicate) t.0, holds-all number bound cs t.1)

-- Where rounds over the clauses have come to rest, they are what is told.
abbrev found : List ℕ → ℕ → ℕ
found ws = rounds (clauses_of ws) (heads (clauses_of ws))

abbrev ranked : (ℕ → ℕ) → Literal → ℕ
ranked rank l = nots l + rank (predicate_of l)

stable-tells : (ws : List ℕ) → holds (ranked (found ws)) (found ws) (clauses_of ws) ≡ true → TellsLevels (clauses_of ws) (ranks (found ws))
stable-tells ws e =
    let r : Ranked (clauses_of ws) (found ws) = by-clauses (ranked (found ws)) (found ws) (clauses_of ws) (holds-all (ranked (found ws)) (found ws) (clauses_of ws) e) in
    elim (ranks-or-circle (clauses_of ws)) [ inl h ↦ h | inr w ↦ absurd (ranked-not-circular (clauses_of ws) (found ws) r w.0 w.1) ]

-- Where p is in no body, it is on no chain back to itself.
module _ (clauses : List Clause) (p : ℕ) (h : (q : ℕ) → greatest (λ l. only p (predicate_of l)) (rests_on clauses q) ≤ 0) where
  leads : {q r n : ℕ} → Chain clauses q r n → p ≡ r → (p ≡ q) × (n ≡ 0)
  leads stays e = (e, refl)
  leads (goes {p = q} l m c) e =
      absurd (omega (arith, h q, greatest-in (λ k. only p (predicate_of k)) m, only_at p (predicate_of l) (leads c e).0))

unled : (ws : List ℕ) (p : ℕ) → holds (λ l. only p (predicate_of l)) (λ q. 0) (clauses_of ws) ≡ true → Circular (clauses_of ws) p → ⊥
unled ws p e c =
    let none = leads (clauses_of ws) p (by-clauses (λ l. only p (predicate_of l)) (λ q. 0) (clauses_of ws) (holds-all (λ l. only p (predicate_of l)) (λ q. 0) (clauses_of ws) e))
    c.1 refl in
    absurd (omega (arith, none.1))

-- Clauses a if b; b if a; c if a and not d. Symbols: a, b, c, d.
abbrev pub deck_z : List ℕ
deck_z = 1 ∷ 4 ∷ 8 ∷ 3 ∷ 12 ∷ 7 ∷ 15 ∷ 22 ∷ 256 ∷ 256 ∷ 256 ∷ 256 ∷ 0 ∷ 2 ∷ 4 ∷ 0 ∷ 1 ∷ 1 ∷ 0 ∷ 2 ∷ 0 ∷ 16387 ∷ []

-- Clauses a if b; b if a; b if not b. Symbols: a, b.
abbrev pub deck_w : List ℕ
deck_w = 1 ∷ 2 ∷ 8 ∷ 3 ∷ 10 ∷ 6 ∷ 13 ∷ 19 ∷ 256 ∷ 256 ∷ 0 ∷ 2 ∷ 4 ∷ 0 ∷ 1 ∷ 1 ∷ 0 ∷ 1 ∷ 16385 ∷ []

-- Clauses a if b; b if c; c if not b. Symbols: a, b, c.
abbrev pub deck_v : List ℕ
deck_v = 1 ∷ 3 ∷ 8 ∷ 3 ∷ 11 ∷ 6 ∷ 14 ∷ 20 ∷ 256 ∷ 256 ∷ 256 ∷ 0 ∷ 2 ∷ 4 ∷ 0 ∷ 1 ∷ 1 ∷ 2 ∷ 2 ∷ 16385 ∷ []

-- Deck L: x is a lead if x is an end and not drawn. a if not b, b if not c. A chain without a "not" back to itself: its predicates have a level.
pub told-L : TellsLevels (clauses_of deck_l) (ranks (found deck_l))
unfolding rules rounds rests_on
told-L = stable-tells deck_l refl

pub told-N : TellsLevels (clauses_of deck_n) (ranks (found deck_n))
unfolding rules rounds rests_on
told-N = stable-tells deck_n refl

pub told-Z : TellsLevels (clauses_of deck_z) (ranks (found deck_z))
unfolding rules rounds rests_on
told-Z = stable-tells deck_z refl

pub told-numbers :
    map (λ ws. numbers (ranks (found ws)) 6) (deck_l ∷ deck_n ∷ deck_z ∷ [])
    ≡ (0 ∷ 0 ∷ 0 ∷ 0 ∷ 1 ∷ 0 ∷ []) ∷ (2 ∷ 1 ∷ 0 ∷ 0 ∷ 0 ∷ 0 ∷ []) ∷ (0 ∷ 0 ∷ 1 ∷ 0 ∷ 0 ∷ 0 ∷ []) ∷ []
unfolding rules rounds rests_on numbers
told-numbers = refl

-- Where a predicate is named all numbers are 0.
pub told-zeros : numbers (circular 1) 4 ≡ 0 ∷ 0 ∷ 0 ∷ 0 ∷ []
unfolding numbers
told-zeros = refl

-- p if not p. And a, which is on a chain that passes b twice: a, b, not b, a.
pub told-P : TellsLevels (clauses_of deck_p) (circular 0)
unfolding rules rests_on
told-P = ((0, goes (neg 0 nil) (Memᴰ.head refl) stays), λ q l c. omega arith)

pub told-W : TellsLevels (clauses_of deck_w) (circular 0)
unfolding rules rests_on
told-W = (
  (0, goes (pos 1 nil) (Memᴰ.head refl) (goes (neg 1 nil) (Memᴰ.tail (Memᴰ.head refl)) (goes (pos 0 nil) (Memᴰ.head refl) stays))),
  λ q l c. omega arith,
)

-- a leads to a chain from b back to b, through c and a "not"; but none leads back to a. So b is named, and c is behind it.
pub told-V : TellsLevels (clauses_of deck_v) (circular 1)
unfolding rules rests_on only
told-V = (
  (0, goes (pos 2 nil) (Memᴰ.head refl) (goes (neg 1 nil) (Memᴰ.head refl) stays)),
  λ q l c. unled deck_v 0 refl (let e : q ≡ 0 = omega arith in subst (Circular (clauses_of deck_v)) e c),
)
