-- Lists of literals, and of what waits. Assumes nothing.
use Prim.Native.Nat.{ℕ, suc, ◌+◌}
use mathlib.Core.Path.{◌≡◌, refl, sym, subst}
use mathlib.Core.Logic.{◌⊎◌, inl, inr}
use mathlib.Core.List.Memᴰ
use mathlib.Core.List.{List, [], ◌∷◌, ◌++◌, Memᴰ}
use native.Mathlib.Omega.{arith}
use Rattle.rules.specs.Syntax.{Literal, Clause}
use Rattle.rules.specs.WellFormed.{All}
use Rattle.rules.specs.Resolution.{clauses_about}
use Rattle.rules.specs.Ranks.{rests_on}
use Rattle.rules.proofs.RankLaws.{rests-more}
use Rattle.clauses.specs.Clauses.{ClauseAt}

-- ALL OF A LIST
pub all-mem : (P : Literal → Type 0) {l : Literal} {ls : List Literal} → Memᴰ l ls → All P ls → P l
all-mem P (Memᴰ.head e) a = subst P (sym e) a.0
all-mem P (Memᴰ.tail m) a = all-mem P m a.1

pub all_append : (P : Literal → Type 0) (ls ms : List Literal) → All P ls → All P ms → All P (ls ++ ms)
all_append P [] ms a b = b
all_append P (l ∷ ls) ms a b = (a.0, all_append P ls ms a.1 b)

pub all-mono : (P Q : Literal → Type 0) → ((l : Literal) → P l → Q l) → (ls : List Literal) → All P ls → All Q ls
all-mono P Q f [] a = tt
all-mono P Q f (l ∷ ls) a = (f l a.0, all-mono P Q f ls a.1)

pub all-rests : (P : Literal → Type 0) (cs : List Clause) (q : ℕ) → ((i : ℕ) (c : Clause) → ClauseAt cs i c → c.predicate ≡ q → All P c.body) → All P (rests_on cs q)
unfolding rests_on clauses_about
all-rests P [] q h = tt
all-rests P (c ∷ cs) q h =
    let r = all-rests P cs q (λ i d e. let k : suc i + 1 ≡ suc (i + 1) = omega arith in h (suc i) d (rw k e)) in
    rests-more (All P) q c cs (λ e. all_append P c.body (rests_on cs q) (h 0 c refl e) r) (λ n. r)

-- MEMBERS of a list with one more at its end.
pub in-more : {x : ℕ} (q : ℕ) (xs : List ℕ) → Memᴰ x xs → Memᴰ x (xs ++ (q ∷ []))
in-more q (y ∷ xs) (Memᴰ.head e) = Memᴰ.head e
in-more q (y ∷ xs) (Memᴰ.tail m) = Memᴰ.tail (in-more q xs m)
in-more q [] m = absurd (Memᴰ.not-nil m)

pub in-last : (q : ℕ) (xs : List ℕ) → Memᴰ q (xs ++ (q ∷ []))
in-last q [] = Memᴰ.head refl
in-last q (y ∷ xs) = Memᴰ.tail (in-last q xs)

pub of-more : {x : ℕ} (q : ℕ) (xs : List ℕ) → Memᴰ x (xs ++ (q ∷ [])) → (q ≡ x) ⊎ Memᴰ x xs
of-more q [] (Memᴰ.head e) = inl (sym e)
of-more q [] (Memᴰ.tail m) = absurd (Memᴰ.not-nil m)
of-more q (y ∷ xs) (Memᴰ.head e) = inr (Memᴰ.head e)
of-more q (y ∷ xs) (Memᴰ.tail m) = elim (of-more q xs m) [ inl e ↦ inl e | inr k ↦ inr (Memᴰ.tail k) ]

-- MEMBERS of the first part of a list, and of the rest.
pub in-first : (l : Literal) (ls ms : List Literal) → Memᴰ l ls → Memᴰ l (ls ++ ms)
in-first l (k ∷ ls) ms (Memᴰ.head e) = Memᴰ.head e
in-first l (k ∷ ls) ms (Memᴰ.tail m) = Memᴰ.tail (in-first l ls ms m)
in-first l [] ms m = absurd (Memᴰ.not-nil m)

pub in-rest : (l : Literal) (ls ms : List Literal) → Memᴰ l ms → Memᴰ l (ls ++ ms)
in-rest l [] ms m = m
in-rest l (k ∷ ls) ms m = Memᴰ.tail (in-rest l ls ms m)
