-- Every deck's clauses have least ranks, or a predicate on a chain through a "not" back to itself; and which of the two is found in as many
-- rounds as there are symbol numbers up to the last clause's head. A round gives each predicate the highest rank in its bodies.
use Prim.Native.Nat.{ℕ, zero, suc, ◌+◌, ◌≤◌, ◌<◌, max}
use mathlib.Core.Path.{◌≡◌, refl, sym, subst}
use mathlib.Core.Logic.{◌⊎◌, inl, inr, ite}
use mathlib.Core.List.{List, [], ◌∷◌, Memᴰ}
use native.Mathlib.Decide.{ℕ_discrete, dec_lt}
use native.Mathlib.Omega.{arith}
use Rattle.rules.specs.Syntax.{Literal, pos, neg, Clause, predicate_of}
use Rattle.rules.specs.Resolution.{clauses_about}
use Rattle.rules.specs.Ranks.{nots, greatest, highest, rests_on, Ranked, Least, Chain, stays, goes, Circular}
use Rattle.rules.proofs.TermLaws.{ite-yes, ite-no}
use Rattle.rules.proofs.RankLaws.{greatest-in, rests-more, chain_rank}

-- FINITE SEARCH AND SUMS
-- All below a bound have one property, or there is a first that has the other.
abbrev pub First : (ℕ → Type 0) → (ℕ → Type 0) → ℕ → Type 0
First P Q N = (n : ℕ) × (n < N) × Q n × ((m : ℕ) → m < n → P m)

pub below_all : (P Q : ℕ → Type 0) → ((n : ℕ) → P n ⊎ Q n) → (N : ℕ) → ((n : ℕ) → n < N → P n) ⊎ First P Q N
below_all P Q d zero = inl (λ n l. absurd (omega arith))
below_all P Q d (suc N) = go (below_all P Q d N) (d N)
  where
    go : ((n : ℕ) → n < N → P n) ⊎ First P Q N → P N ⊎ Q N → ((n : ℕ) → n < suc N → P n) ⊎ First P Q (suc N)
    go (inr w) e = inr (w.0, omega (arith, w.1), w.2, w.3)
    go (inl h) (inr q) = inr (N, omega arith, q, h)
    go (inl h) (inl p) = inl (λ n l. elim (ℕ_discrete n N) [ yes e ↦ subst P (sym e) p | no k ↦ h n (omega arith) ])

unfoldable pub sum : (ℕ → ℕ) → ℕ → ℕ
sum f zero = 0
sum f (suc n) = f n + sum f n

sum-none : (N : ℕ) → sum (λ s. 0) N ≡ 0
unfolding sum
sum-none zero = refl
sum-none (suc N) = omega (arith, sum-none N)

sum_both : (f g : ℕ → ℕ) (N : ℕ) → sum (λ s. f s + g s) N ≡ sum f N + sum g N
unfolding sum
sum_both f g zero = refl
sum_both f g (suc N) = omega (arith, sum_both f g N)

-- 1 at p, else 0.
unfoldable pub only : ℕ → ℕ → ℕ
only p s = ite (ℕ_discrete p s) 1 0

pub only_at : (p s : ℕ) → p ≡ s → only p s ≡ 1
unfolding only
only_at p s e = ite-yes (ℕ_discrete p s) 1 0 e

pub only-off : (p s : ℕ) → (p ≡ s → ⊥) → only p s ≡ 0
unfolding only
only-off p s n = ite-no (ℕ_discrete p s) 1 0 n

sum-only-none : (p N : ℕ) → N ≤ p → sum (only p) N ≡ 0
unfolding sum
sum-only-none p zero h = refl
sum-only-none p (suc N) h = omega (arith, only-off p N (λ e. omega arith), sum-only-none p N (omega arith))

sum-only : (p N : ℕ) → p < N → sum (only p) N ≡ 1
unfolding sum
sum-only p zero h = absurd (omega arith)
sum-only p (suc N) h = elim (ℕ_discrete p N) [
  | yes e ↦ omega (arith, only_at p N e, sum-only-none p N (omega arith))
  | no n ↦ omega (arith, only-off p N n, sum-only p N (omega arith))
]

-- More than N among the numbers below N: one of them comes twice.
pigeons : (f : ℕ → ℕ) (N : ℕ) → N < sum f N → (s : ℕ) × (2 ≤ f s)
unfolding sum
pigeons f zero h = absurd (omega arith)
pigeons f (suc N) h = elim (dec_lt (f N) 2) [ yes l ↦ pigeons f N (omega arith) | no n ↦ (N, omega arith) ]

-- CHAINS: how long one is, and how many of its steps start at a predicate.
module _ (clauses : List Clause) where
  long : {p q n : ℕ} → Chain clauses p q n → ℕ
  long stays = 0
  long (goes l m c) = suc (long c)

  starts : {p q n : ℕ} → Chain clauses p q n → ℕ → ℕ
  starts stays s = 0
  starts (goes {p} l m c) s = only p s + starts c s

  -- A chain from p is one from s, where these are the same.
  moved : {p q n s : ℕ} (c : Chain clauses p q n) → p ≡ s → (d : Chain clauses s q n) × (long d ≡ long c)
  moved {q = q} {n} c e = subst (λ x. (d : Chain clauses x q n) × (long d ≡ long c)) e (c, refl)

  recount : {p q n k : ℕ} (c : Chain clauses p q n) → n ≡ k → (d : Chain clauses p q k) × (long d ≡ long c)
  recount {p} {q} c e = subst (λ x. (d : Chain clauses p q x) × (long d ≡ long c)) e (c, refl)

  -- A chain with a step that starts at s, in two parts there.
  split : {p q n : ℕ} (s : ℕ) (c : Chain clauses p q n) → 0 < starts c s
      → (i j : ℕ) × Chain clauses p s i × (d : Chain clauses s q j) × (i + j ≡ n) × (long d ≤ long c)
  unfolding starts long
  split s stays h = absurd (omega arith)
  split {q = q} s (goes {p} {n = n} l m c) h = elim (ℕ_discrete p s) [
    | yes e ↦ (let d = moved (goes l m c) e in (0, nots l + n, subst (λ x. Chain clauses p x 0) e stays, d.0, omega arith, omega (arith, d.1)))
    | no k ↦ (
        let r = split s c (omega (arith, only-off p s k)) in
        (nots l + r.0, r.1, goes l m r.2, r.3, omega (arith, r.4), omega (arith, r.5)))
  ]

  -- Two steps that start at s: the chain between them goes through a "not", or can be left out.
  cut : {p q n : ℕ} (s : ℕ) (c : Chain clauses p q n) → 2 ≤ starts c s → Circular clauses s ⊎ ((d : Chain clauses p q n) × (long d < long c))
  unfolding starts long
  cut s stays h = absurd (omega arith)
  cut {q = q} s (goes {p} {n = n} l m c) h = elim (ℕ_discrete p s) [
    | yes e ↦ (
        let r = split s c (omega (arith, only_at p s e)) in
        loop (nots l + r.0) (subst (λ x. Chain clauses x s (nots l + r.0)) e (goes l m r.2)) e r.3 (omega (arith, r.4)) r.5)
    | no k ↦ elim (cut s c (omega (arith, only-off p s k))) [
      | inl o ↦ inl o
      | inr d ↦ inr (goes l m d.0, omega (arith, d.1))
    ]
  ]
    where
      loop : (i : ℕ) → Chain clauses s s i → p ≡ s → {j : ℕ} (d : Chain clauses s q j) → i + j ≡ nots l + n → long d ≤ long c
          → Circular clauses s ⊎ ((b : Chain clauses p q (nots l + n)) × (long b < suc (long c)))
      loop zero b e d f h = inr (let a = moved d (sym e) in let z = recount {k = nots l + n} a.0 (omega arith) in (z.0, omega (arith, a.1, z.1)))
      loop (suc i) b e d f h = inl (i, b)

-- The least number above the predicates that clauses are about. No other predicate rests on anything.
abbrev pub heads : List Clause → ℕ
heads [] = 0
heads (c ∷ cs) = max (suc c.predicate) (heads cs)

pub rests-none : (cs : List Clause) (p : ℕ) → heads cs ≤ p → rests_on cs p ≡ []
unfolding rests_on clauses_about
rests-none [] p h = refl
rests-none (c ∷ cs) p h = rests-more (λ ls. ls ≡ []) p c cs (λ e. absurd (omega arith)) (λ n. rests-none cs p (omega arith))

rests-head : (clauses : List Clause) (p : ℕ) (l : Literal) → Memᴰ l (rests_on clauses p) → p < heads clauses
rests-head clauses p l m = elim (dec_lt p (heads clauses)) [
  | yes h ↦ h
  | no k ↦ (let z : Memᴰ l [] = rw (rests-none clauses p (omega arith)) at m in absurd (mathlib.Core.List.Memᴰ.not-nil z))
]

-- What a greatest number is the number of.
pub greatest-from : (number : Literal → ℕ) (ls : List Literal) → (greatest number ls ≡ 0) ⊎ ((l : Literal) × Memᴰ l ls × (greatest number ls ≡ number l))
greatest-from number [] = inl refl
greatest-from number (l ∷ ls) = go (greatest-from number ls) (dec_lt (number l) (greatest number ls))
  where
    go : (greatest number ls ≡ 0) ⊎ ((k : Literal) × Memᴰ k ls × (greatest number ls ≡ number k)) → Dec (number l < greatest number ls)
        → (greatest number (l ∷ ls) ≡ 0) ⊎ ((k : Literal) × Memᴰ k (l ∷ ls) × (greatest number (l ∷ ls) ≡ number k))
    go r (no n) = inr (l, mathlib.Core.List.Memᴰ.head refl, omega arith)
    go (inl z) (yes h) = absurd (omega arith)
    go (inr r) (yes h) = inr (r.0, mathlib.Core.List.Memᴰ.tail r.1, omega (arith, r.2))

greatest-le : (f g : Literal → ℕ) → ((l : Literal) → f l ≤ g l) → (ls : List Literal) → greatest f ls ≤ greatest g ls
greatest-le f g h [] = omega arith
greatest-le f g h (l ∷ ls) = omega (arith, h l, greatest-le f g h ls)

once : (l : Literal) → nots l ≤ 1
once (pos p ts) = omega arith
once (neg p ts) = omega arith

module _ (clauses : List Clause) where
  abbrev N : ℕ
  N = heads clauses

  starts-long : {p q n : ℕ} (c : Chain clauses p q n) → sum (starts clauses c) N ≡ long clauses c
  unfolding starts long
  starts-long stays = sum-none N
  starts-long (goes {p} l m c) = omega (arith, sum_both (only p) (starts clauses c) N, sum-only p N (rests-head clauses p l m), starts-long c)

  -- A longer chain than there are such numbers passes a predicate twice. So a chain can be cut down to that length, or there is one through a
  -- "not" back to its start.
  shorten : {p q n : ℕ} (k : ℕ) (c : Chain clauses p q n) → long clauses c ≤ k
      → ((s : ℕ) × Circular clauses s) ⊎ ((d : Chain clauses p q n) × (long clauses d ≤ N))
  shorten zero c h = inr (c, omega arith)
  shorten (suc k) c h = elim (dec_lt N (long clauses c)) [
    | no n ↦ inr (c, omega arith)
    | yes l ↦ (
        let s = pigeons (starts clauses c) N (omega (arith, starts-long c)) in
        elim (cut clauses s.0 c s.1) [ inl o ↦ inl (s.0, o) | inr d ↦ shorten k d.0 (omega (arith, d.1)) ])
  ]

  -- ROUNDS
  unfoldable pub rounds : ℕ → ℕ → ℕ
  rounds zero p = 0
  rounds (suc k) p = highest (rounds k) (rests_on clauses p)

  -- A rank after k rounds is the number of "nots" of a chain of at most k steps,
  rounds-chain : (k p : ℕ) → (q n : ℕ) × (c : Chain clauses p q n) × (n ≡ rounds k p) × (long clauses c ≤ k)
  unfolding rounds long
  rounds-chain zero p = (p, 0, stays, refl, omega arith)
  rounds-chain (suc k) p = go (greatest-from (λ l. nots l + rounds k (predicate_of l)) (rests_on clauses p)) (rounds-chain k)
    where
      go : (highest (rounds k) (rests_on clauses p) ≡ 0)
          ⊎ ((l : Literal) × Memᴰ l (rests_on clauses p) × (highest (rounds k) (rests_on clauses p) ≡ nots l + rounds k (predicate_of l)))
          → ((r : ℕ) → (q n : ℕ) × (c : Chain clauses r q n) × (n ≡ rounds k r) × (long clauses c ≤ k))
          → (q n : ℕ) × (c : Chain clauses p q n) × (n ≡ highest (rounds k) (rests_on clauses p)) × (long clauses c ≤ suc k)
      go (inl z) f = (p, 0, stays, omega arith, omega arith)
      go (inr r) f =
          let c = f (predicate_of r.0) in
          (c.0, nots r.0 + c.1, goes r.0 r.1 c.2, omega (arith, r.2, c.3), omega (arith, c.4))

  -- and no such chain goes through more.
  chain-rounds : {p q n : ℕ} (c : Chain clauses p q n) (k : ℕ) → long clauses c ≤ k → n ≤ rounds k p
  unfolding rounds long
  chain-rounds stays k h = omega arith
  chain-rounds (goes l m c) zero h = absurd (omega arith)
  chain-rounds (goes l m c) (suc k) h = omega (arith, greatest-in (λ l. nots l + rounds k (predicate_of l)) m, chain-rounds c k (omega arith))

  chain-fewer : {p q n : ℕ} (c : Chain clauses p q n) → n ≤ long clauses c
  unfolding long
  chain-fewer stays = omega arith
  chain-fewer (goes l m c) = omega (arith, chain-fewer c, once l)

  pub rounds-bound : (k p : ℕ) → rounds k p ≤ k
  rounds-bound k p = let c = rounds-chain k p in omega (arith, c.3, c.4, chain-fewer c.2)

  -- Where a further round changes nothing the ranks are the least.
  settled : ((p : ℕ) → p < N → rounds (suc N) p ≤ rounds N p) → Least clauses (rounds N)
  unfolding rounds
  settled h = record {
    ranked = λ p. elim (dec_lt p N) [ yes l ↦ h p l | no n ↦ rw (rests-none clauses p (omega arith)) (omega arith) ];
    least = λ other ranked p. let c = rounds-chain N p in omega (arith, c.3, chain_rank clauses other ranked c.2);
  }

  changed : (p : ℕ) → rounds N p < rounds (suc N) p → (s : ℕ) × Circular clauses s
  changed p h =
      let c = rounds-chain (suc N) p in
      elim (shorten (suc N) c.2 c.4) [ inl o ↦ o | inr d ↦ absurd (omega (arith, c.3, chain-rounds d.0 N d.1)) ]

  -- LEAST RANKS, OR A CHAIN THROUGH A "NOT" BACK TO ITSELF.
  pub ranks-or-circle : Least clauses (rounds N) ⊎ ((s : ℕ) × Circular clauses s)
  ranks-or-circle =
      elim (below_all (λ p. rounds (suc N) p ≤ rounds N p) (λ p. rounds N p < rounds (suc N) p)
      (λ p. elim (dec_lt (rounds N p) (rounds (suc N) p)) [ yes l ↦ inr l | no n ↦ inl (omega arith) ]) N) [
        | inl h ↦ inl (settled h)
        | inr w ↦ inr (changed w.0 w.2)
      ]

  -- FOR A PROGRAM that raises numbers from 0, one at a time, in rounds over the clauses. Each number is borne out by a chain:
  abbrev pub Borne : (ℕ → ℕ) → Type 0
  Borne rank = (p : ℕ) → (q : ℕ) × Chain clauses p q (rank p)

  pub borne-zero : Borne (λ p. 0)
  borne-zero p = (p, stays)

  pub borne-raise : (rank next : ℕ → ℕ) (p : ℕ) (l : Literal) → Borne rank → Memᴰ l (rests_on clauses p)
      → next p ≡ nots l + rank (predicate_of l) → ((x : ℕ) → (p ≡ x → ⊥) → next x ≡ rank x) → Borne next
  borne-raise rank next p l b m e same x = elim (ℕ_discrete p x) [
    | yes w ↦ (let c = b (predicate_of l) in (c.0, subst (λ y. Chain clauses y c.0 (next y)) w (rw e (goes l m c.1))))
    | no n ↦ ((b x).0, rw (same x n) (b x).1)
  ]

  pub borne-least : (rank : ℕ → ℕ) → Borne rank → Ranked clauses rank → Least clauses rank
  borne-least rank b r = record { ranked = r; least = λ other o p. omega (arith, chain_rank clauses other o (b p).1) }

  -- after k rounds it is at least what the k-th round comes to,
  pub rounds-next : (k : ℕ) (rank next : ℕ → ℕ) → ((p : ℕ) → rounds k p ≤ rank p) → ((p : ℕ) → highest rank (rests_on clauses p) ≤ next p)
      → (p : ℕ) → rounds (suc k) p ≤ next p
  unfolding rounds
  rounds-next k rank next h r p =
      omega (
        arith,
        r p,
        greatest-le (λ l. nots l + rounds k (predicate_of l)) (λ l. nots l + rank (predicate_of l))
            (λ l. omega (arith, h (predicate_of l))) (rests_on clauses p),
      )

  -- and one that is still to be raised after N rounds or more shows that there are no ranks. So does one above N, at any time.
  pub late-raise : (k : ℕ) → N ≤ k → (rank : ℕ → ℕ) → Borne rank → ((p : ℕ) → rounds k p ≤ rank p) → (p : ℕ) (l : Literal) → Memᴰ l (rests_on clauses p)
      → rank p < nots l + rank (predicate_of l) → (s : ℕ) × Circular clauses s
  late-raise k z rank b h p l m up = elim ranks-or-circle [
    | inr w ↦ w
    | inl r ↦ (
        let c = rounds-chain N p in
        absurd (omega (
          arith,
          h p,
          chain-rounds c.2 k (omega (arith, c.4)),
          c.3,
          r.ranked p,
          greatest-in (λ l. nots l + rounds N (predicate_of l)) m,
          chain_rank clauses (rounds N) r.ranked (b (predicate_of l)).1,
        )))
  ]

  pub high-rank : (rank : ℕ → ℕ) → Borne rank → (p : ℕ) → N < rank p → (s : ℕ) × Circular clauses s
  high-rank rank b p h =
      elim (shorten (long clauses (b p).1) (b p).1 (omega arith)) [ inl o ↦ o | inr d ↦ absurd (omega (arith, d.1, chain-fewer d.0)) ]
