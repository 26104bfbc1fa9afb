-- Laws of unification: its bounds are never spent, so that it goes by the written steps; and unifying one list and then another.
use mathlib.Core.Path.{◌≡◌, refl, sym, ◌∙◌, ap, ap₂}
use mathlib.Core.Logic.{◌≢◌}
use Prim.Native.Nat.{ℕ, zero, suc, ◌+◌, min, max, ◌≤◌, ◌<◌}
use native.Mathlib.Decide.{ℕ_discrete, dec_lt}
use native.Mathlib.Omega.{arith}
use Rattle.rules.specs.Terms.{Term, Terms, var, app, nil, cons, subs, occ, occs, size, sizes, tops, ◌+++◌, count}
use Rattle.rules.specs.Unification.{Substitution, done, bind, applys, Unification, fails, spent, solved, equations, tick, bound, eliminate, unify_front, unify_step, unify_round, unify_within, unify}
use Rattle.rules.proofs.TermLaws.{dite-yes, dite-no, dite-both, dite-related, occ-same, occ-other, gones, kepts, above-tops, occs-join, sizes-join, subs-join, subs-count, join-assoc, count-join, join}

-- 1. The bounds are never spent.

abbrev pub Found : Unification → Type 0
Found (fails k) = Unit {0}
Found spent = ⊥
Found (solved k es) = Unit {0}

found-tick : (o : Unification) → Found o → Found (tick o)
found-tick (fails k) h = tt
found-tick spent h = h
found-tick (solved k es) h = tt

found-bound : (x : ℕ) (s : Term) (o : Unification) → Found o → Found (bound x s o)
found-bound x s (fails k) h = tt
found-bound x s spent h = h
found-bound x s (solved k es) h = tt

-- The variables that occur, counted below a bound: f says how often each does.
tally : (ℕ → ℕ) → ℕ → ℕ
tally f zero = 0
tally f (suc n) = min 1 (f n) + tally f n

sign_le : (a b : ℕ) → (a ≡ 0 → b ≡ 0) → min 1 b ≤ min 1 a
sign_le zero b h = omega (arith, h refl)
sign_le (suc a) b h = omega arith

tally-le : (f g : ℕ → ℕ) → ((v : ℕ) → f v ≡ 0 → g v ≡ 0) → (n : ℕ) → tally g n ≤ tally f n
unfolding tally
tally-le f g h zero = omega arith
tally-le f g h (suc n) = omega (arith, sign_le (f n) (g n) (h n), tally-le f g h n)

tally-lt : (f g : ℕ → ℕ) → ((v : ℕ) → f v ≡ 0 → g v ≡ 0) → (x : ℕ) → 0 < f x → g x ≡ 0 → (n : ℕ) → x < n → tally g n < tally f n
unfolding tally
tally-lt f g h x p z zero l = omega arith
tally-lt f g h x p z (suc n) l = elim (ℕ_discrete x n) [
  | yes e ↦ (let p' : 0 < f n = rw e at p in let z' : g n ≡ 0 = rw e at z in omega (arith, tally-le f g h n))
  | no q ↦ (let l' : x < n = omega arith in omega (arith, sign_le (f n) (g n) (h n), tally-lt f g h x p z n l'))
]

tally-all : (f : ℕ → ℕ) (n : ℕ) → tally f n ≤ n
unfolding tally
tally-all f zero = omega arith
tally-all f (suc n) = omega (arith, tally-all f n)

-- No variable from N on occurs, and at most n do.
record Small (N n : ℕ) (f : ℕ → ℕ) : Type 0 where
  under : (v : ℕ) → N ≤ v → f v ≡ 0
  few : tally f N ≤ n

fewer : {N n : ℕ} {f g : ℕ → ℕ} → ((v : ℕ) → f v ≡ 0 → g v ≡ 0) → Small N n f → Small N n g
fewer {N} {n} {f} {g} h w = record { under = λ v l. h v (w.under v l); few = omega (arith, w.few, tally-le f g h N) }

abbrev both : Terms → Terms → ℕ → ℕ
both l r v = occs v l + occs v r

module _ (N n : ℕ) (next : Terms → Terms → Unification) (next-found : (m : ℕ) → m < n → (l r : Terms) → Small N m (both l r) → Found (next l r)) where
  -- The lists after an elimination are small enough for `next`.
  found-elim : (x : ℕ) (s : Term) (l r : Terms) → occ x s ≡ 0 → Small N n (both (cons (var x) l) (cons s r)) → Found (eliminate next next x s l r)
  found-elim x s l r free w =
      found-bound x s (next (subs x s l) (subs x s r))
      (next-found (tally after N) less (subs x s l) (subs x s r) (record { under = λ v h. stays v (w.under v h); few = omega arith }))
    where
      before : ℕ → ℕ
      before = both (cons (var x) l) (cons s r)

      after : ℕ → ℕ
      after = both (subs x s l) (subs x s r)

      stays : (v : ℕ) → before v ≡ 0 → after v ≡ 0
      stays v e = omega (arith, kepts v x s (omega arith) l (omega arith), kepts v x s (omega arith) r (omega arith))

      there : 0 < before x
      there = omega (arith, occ-same x)

      x-under : Dec (x < N) → x < N
      x-under (yes h) = h
      x-under (no q) = omega (arith, w.under x (omega arith), there)

      less : tally after N < n
      less = omega (arith, w.few, tally-lt before after stays x there (omega (arith, gones x s free l, gones x s free r)) N (x-under (dec_lt x N)))

  module _ (shorter : Terms → Terms → Unification) (k : ℕ) (shorter-found : (l r : Terms) → sizes l < k → Small N n (both l r) → Found (shorter l r)) where
    found_front : (a b : Term) (l r : Terms) → size a + sizes l < suc k → Small N n (both (cons a l) (cons b r)) → Found (unify_front next shorter a b l r)
    unfolding unify_front
    found_front (var x) (var y) l r z w =
        dite-both Found (ℕ_discrete x y) _ _
        (λ e. found-tick (shorter l r) (shorter-found l r (omega arith) (fewer (λ v q. omega arith) w)))
        (λ q. found-elim x (var y) l r (occ-other x y q) w)
    found_front (var x) (app g vs) l r z w = dite-both Found (ℕ_discrete (occs x vs) 0) _ _ (λ e. found-elim x (app g vs) l r e w) (λ q. tt)
    found_front (app f us) (var y) l r z w =
        dite-both Found (ℕ_discrete (occs y us) 0) _ _ (λ e. found-elim y (app f us) l r e (fewer (λ v q. omega arith) w)) (λ q. tt)
    found_front (app f us) (app g vs) l r z w =
        dite-both Found (ℕ_discrete f g) _ _
        (λ e. dite-both Found (ℕ_discrete (count us) (count vs)) _ _
        (λ c. found-tick (shorter (us +++ l) (vs +++ r))
        (shorter-found (us +++ l) (vs +++ r) (omega (arith, sizes-join us l)) (fewer (λ v q. omega (arith, occs-join v us l, occs-join v vs r)) w)))
        (λ q. tt))
        (λ q. tt)

    found-step : (l r : Terms) → sizes l < suc k → Small N n (both l r) → Found (unify_step next shorter l r)
    unfolding unify_step
    found-step nil nil z w = tt
    found-step nil (cons b r) z w = tt
    found-step (cons a l) nil z w = tt
    found-step (cons a l) (cons b r) z w = found_front a b l r z w

  found-round : (k : ℕ) (l r : Terms) → sizes l < k → Small N n (both l r) → Found (unify_round next k l r)
  unfolding unify_round
  found-round zero l r z w = omega arith
  found-round (suc k) l r z w = found-step (unify_round next k) k (found-round k) l r z w

found_within : (N n : ℕ) (l r : Terms) → Small N n (both l r) → Found (unify_within n l r)
unfolding unify_within
found_within N zero l r w = found-round N zero (λ l' r'. spent) (λ m h. omega arith) (suc (sizes l)) l r (omega arith) w
found_within N (suc n) l r w =
    found-round N (suc n) (unify_within n)
    (λ m h l' r' u. found_within N n l' r' (record { under = u.under; few = omega (arith, u.few) })) (suc (sizes l)) l r (omega arith) w

-- UNIFICATION SPENDS NONE OF ITS BOUNDS.
pub unify-found : (l r : Terms) → Found (unify l r)
unfolding unify
unify-found l r =
    let N : ℕ = max (tops l) (tops r) in
    found_within N N l r (record {
      under = λ v h. omega (arith, above-tops l v (omega arith), above-tops r v (omega arith));
      few = tally-all (both l r) N;
    })

pub unify-unspent : (l r : Terms) → unify l r ≢ spent
unify-unspent l r e = rw e at (unify-found l r)

-- 2. Larger bounds change nothing that was found.

-- o' is o, wherever o was found.
infix 50 ◌⊑◌
abbrev ◌⊑◌ : Unification → Unification → Type 0
◌⊑◌ o o' = Found o → o ≡ o'

infix 50 ◌⊑⊑◌
abbrev ◌⊑⊑◌ : (Terms → Terms → Unification) → (Terms → Terms → Unification) → Type 0
◌⊑⊑◌ f g = (l r : Terms) → f l r ⊑ g l r

tick-mono : (o o' : Unification) → o ⊑ o' → tick o ⊑ tick o'
tick-mono (fails k) o' h f = ap tick (h tt)
tick-mono spent o' h f = absurd f
tick-mono (solved k es) o' h f = ap tick (h tt)

bound-mono : (x : ℕ) (s : Term) (o o' : Unification) → o ⊑ o' → bound x s o ⊑ bound x s o'
bound-mono x s (fails k) o' h f = ap (bound x s) (h tt)
bound-mono x s spent o' h f = absurd f
bound-mono x s (solved k es) o' h f = ap (bound x s) (h tt)

module _ (next next' shorter shorter' : Terms → Terms → Unification) (hn : next ⊑⊑ next') (hs : shorter ⊑⊑ shorter') where
  elim-mono : (x : ℕ) (s : Term) (l r : Terms) → eliminate next shorter x s l r ⊑ eliminate next' shorter' x s l r
  elim-mono x s l r = bound-mono x s (next (subs x s l) (subs x s r)) (next' (subs x s l) (subs x s r)) (hn _ _)

  front-mono : (a b : Term) (l r : Terms) → unify_front next shorter a b l r ⊑ unify_front next' shorter' a b l r
  unfolding unify_front
  front-mono (var x) (var y) l r =
      dite-related ◌⊑◌ (ℕ_discrete x y) _ _ _ _ (λ _. tick-mono (shorter l r) (shorter' l r) (hs l r)) (λ _. elim-mono x (var y) l r)
  front-mono (var x) (app g vs) l r = dite-related ◌⊑◌ (ℕ_discrete (occs x vs) 0) _ _ _ _ (λ _. elim-mono x (app g vs) l r) (λ _ _. refl)
  front-mono (app f us) (var y) l r = dite-related ◌⊑◌ (ℕ_discrete (occs y us) 0) _ _ _ _ (λ _. elim-mono y (app f us) l r) (λ _ _. refl)
  front-mono (app f us) (app g vs) l r =
      dite-related ◌⊑◌ (ℕ_discrete f g) _ _ _ _
      (λ _. dite-related ◌⊑◌ (ℕ_discrete (count us) (count vs)) _ _ _ _
      (λ _. tick-mono (shorter (us +++ l) (vs +++ r)) (shorter' (us +++ l) (vs +++ r)) (hs _ _)) (λ _ _. refl))
      (λ _ _. refl)

  step-mono : unify_step next shorter ⊑⊑ unify_step next' shorter'
  unfolding unify_step
  step-mono nil nil = λ _. refl
  step-mono nil (cons b r) = λ _. refl
  step-mono (cons a l) nil = λ _. refl
  step-mono (cons a l) (cons b r) = front-mono a b l r

round_mono : (next next' : Terms → Terms → Unification) → next ⊑⊑ next' → (k k' : ℕ) → k ≤ k' → unify_round next k ⊑⊑ unify_round next' k'
unfolding unify_round
round_mono next next' h zero k' le l r f = absurd f
round_mono next next' h (suc k) zero le l r f = absurd (omega arith)
round_mono next next' h (suc k) (suc k') le l r f =
    step-mono next next' (unify_round next k) (unify_round next' k') h (round_mono next next' h k k' (omega arith)) l r f

-- What follows an elimination, where n bounds them.
nexts : ℕ → Terms → Terms → Unification
nexts zero l r = spent
nexts (suc n) l r = unify_within n l r

within-round : (n : ℕ) (l r : Terms) → unify_within n l r ≡ unify_round (nexts n) (suc (sizes l)) l r
unfolding unify_within nexts
within-round zero l r = refl
within-round (suc n) l r = refl

nexts-mono : (n n' : ℕ) → n ≤ n' → nexts n ⊑⊑ nexts n'
unfolding nexts
nexts-mono zero n' le l r f = absurd f
nexts-mono (suc n) zero le l r f = absurd (omega arith)
nexts-mono (suc n) (suc n') le l r f =
    let g : Found (unify_round (nexts n) (suc (sizes l)) l r) = rw within-round at f in
    within-round n l r
    ∙ round_mono (nexts n) (nexts n') (nexts-mono n n' (omega arith)) (suc (sizes l)) (suc (sizes l)) (omega arith) l r g
    ∙ sym (within-round n' l r)

unify-round : (l r : Terms) → unify l r ≡ unify_round (nexts (max (tops l) (tops r))) (suc (sizes l)) l r
unfolding unify
unify-round l r = within-round (max (tops l) (tops r)) l r

round-suc : (next : Terms → Terms → Unification) (k : ℕ) (l r : Terms) → unify_round next (suc k) l r ≡ unify_step next (unify_round next k) l r
unfolding unify_round
round-suc next k l r = refl

-- A round at any bounds finds nothing else than `unify`.
round-unify : (n k : ℕ) → unify_round (nexts n) k ⊑⊑ unify
round-unify n k l r f = up ∙ sym down
  where
    N : ℕ
    N = max (tops l) (tops r)

    M : ℕ
    M = max n N

    K : ℕ
    K = max k (suc (sizes l))

    up : unify_round (nexts n) k l r ≡ unify_round (nexts M) K l r
    up = round_mono (nexts n) (nexts M) (nexts-mono n M (omega arith)) k K (omega arith) l r f

    g : Found (unify_round (nexts N) (suc (sizes l)) l r)
    g = rw unify-round at (unify-found l r)

    down : unify l r ≡ unify_round (nexts M) K l r
    down = unify-round l r ∙ round_mono (nexts N) (nexts M) (nexts-mono N M (omega arith)) (suc (sizes l)) K (omega arith) l r g

nexts-unify : (n : ℕ) → nexts n ⊑⊑ unify
unfolding nexts
nexts-unify zero l r f = absurd f
nexts-unify (suc n) l r f =
    let g : Found (unify_round (nexts n) (suc (sizes l)) l r) = rw within-round at f in
    within-round n l r ∙ round-unify n (suc (sizes l)) l r g

-- UNIFICATION GOES BY THE WRITTEN STEPS.
pub unify-step : (l r : Terms) → unify l r ≡ unify_step unify unify l r
unify-step l r = e ∙ step-mono (nexts N) unify (unify_round (nexts N) (sizes l)) unify (nexts-unify N) (round-unify N (sizes l)) l r g
  where
    N : ℕ
    N = max (tops l) (tops r)

    e : unify l r ≡ unify_step (nexts N) (unify_round (nexts N) (sizes l)) l r
    e = unify-round l r ∙ round-suc (nexts N) (sizes l) l r

    g : Found (unify_step (nexts N) (unify_round (nexts N) (sizes l)) l r)
    g = rw e at (unify-found l r)

-- 3. The written steps, one by one.

pub unify-none : unify nil nil ≡ solved 0 done
unfolding unify_step
unify-none = unify-step nil nil

pub unify-cons : (a b : Term) (l r : Terms) → unify (cons a l) (cons b r) ≡ unify_front unify unify a b l r
unfolding unify_step
unify-cons a b l r = unify-step (cons a l) (cons b r)

-- With l and r after the first equation.
module _ (l r : Terms) where
  pub unify-same : (x y : ℕ) → x ≡ y → unify (cons (var x) l) (cons (var y) r) ≡ tick (unify l r)
  unfolding unify_front
  unify-same x y e = unify-cons (var x) (var y) l r ∙ dite-yes (ℕ_discrete x y) _ _ e

  pub unify-var : (x y : ℕ) → x ≢ y → unify (cons (var x) l) (cons (var y) r) ≡ bound x (var y) (unify (subs x (var y) l) (subs x (var y) r))
  unfolding unify_front
  unify-var x y h = unify-cons (var x) (var y) l r ∙ dite-no (ℕ_discrete x y) _ _ h

  pub unify-left : (x g : ℕ) (vs : Terms) → occs x vs ≡ 0
      → unify (cons (var x) l) (cons (app g vs) r) ≡ bound x (app g vs) (unify (subs x (app g vs) l) (subs x (app g vs) r))
  unfolding unify_front
  unify-left x g vs h = unify-cons (var x) (app g vs) l r ∙ dite-yes (ℕ_discrete (occs x vs) 0) _ _ h

  pub unify-left-fails : (x g : ℕ) (vs : Terms) → occs x vs ≢ 0 → unify (cons (var x) l) (cons (app g vs) r) ≡ fails 1
  unfolding unify_front
  unify-left-fails x g vs h = unify-cons (var x) (app g vs) l r ∙ dite-no (ℕ_discrete (occs x vs) 0) _ _ h

  pub unify-right : (f y : ℕ) (us : Terms) → occs y us ≡ 0
      → unify (cons (app f us) l) (cons (var y) r) ≡ bound y (app f us) (unify (subs y (app f us) l) (subs y (app f us) r))
  unfolding unify_front
  unify-right f y us h = unify-cons (app f us) (var y) l r ∙ dite-yes (ℕ_discrete (occs y us) 0) _ _ h

  pub unify-right-fails : (f y : ℕ) (us : Terms) → occs y us ≢ 0 → unify (cons (app f us) l) (cons (var y) r) ≡ fails 1
  unfolding unify_front
  unify-right-fails f y us h = unify-cons (app f us) (var y) l r ∙ dite-no (ℕ_discrete (occs y us) 0) _ _ h

  pub unify-args : (f g : ℕ) (us vs : Terms) → f ≡ g → count us ≡ count vs
      → unify (cons (app f us) l) (cons (app g vs) r) ≡ tick (unify (us +++ l) (vs +++ r))
  unfolding unify_front
  unify-args f g us vs e h =
      unify-cons (app f us) (app g vs) l r ∙ dite-yes (ℕ_discrete f g) _ _ e ∙ dite-yes (ℕ_discrete (count us) (count vs)) _ _ h

  pub unify-differ : (f g : ℕ) (us vs : Terms) → f ≢ g → unify (cons (app f us) l) (cons (app g vs) r) ≡ fails 1
  unfolding unify_front
  unify-differ f g us vs h = unify-cons (app f us) (app g vs) l r ∙ dite-no (ℕ_discrete f g) _ _ h

-- 4. The number of equations taken.

pub taken-tick : (o : Unification) → Found o → equations (tick o) ≡ suc (equations o)
taken-tick (fails k) f = refl
taken-tick spent f = absurd f
taken-tick (solved k es) f = refl

pub taken-bound : (x : ℕ) (s : Term) (o : Unification) → Found o → equations (bound x s o) ≡ suc (equations o)
taken-bound x s (fails k) f = refl
taken-bound x s spent f = absurd f
taken-bound x s (solved k es) f = refl

tick-pos : (l r : Terms) → 0 < equations (tick (unify l r))
tick-pos l r = omega (arith, taken-tick (unify l r) (unify-found l r))

bound-pos : (x : ℕ) (s : Term) (l r : Terms) → 0 < equations (bound x s (unify l r))
bound-pos x s l r = omega (arith, taken-bound x s (unify l r) (unify-found l r))

abbrev Takes : Unification → Type 0
Takes o = 0 < equations o

front-pos : (a b : Term) (l r : Terms) → Takes (unify_front unify unify a b l r)
unfolding unify_front
front-pos (var x) (var y) l r = dite-both Takes (ℕ_discrete x y) _ _ (λ _. tick-pos l r) (λ _. bound-pos x (var y) _ _)
front-pos (var x) (app g vs) l r = dite-both Takes (ℕ_discrete (occs x vs) 0) _ _ (λ _. bound-pos x (app g vs) _ _) (λ _. omega arith)
front-pos (app f us) (var y) l r = dite-both Takes (ℕ_discrete (occs y us) 0) _ _ (λ _. bound-pos y (app f us) _ _) (λ _. omega arith)
front-pos (app f us) (app g vs) l r =
    dite-both Takes (ℕ_discrete f g) _ _
    (λ _. dite-both Takes (ℕ_discrete (count us) (count vs)) _ _ (λ _. tick-pos _ _) (λ _. omega arith))
    (λ _. omega arith)

-- The first equation is taken.
pub taken-cons : (a b : Term) (l r : Terms) → 0 < equations (unify (cons a l) (cons b r))
taken-cons a b l r = rw (unify-cons a b l r) (front-pos a b l r)

-- 5. One list and then another.

-- k equations were taken and made the substitution es; then o.
abbrev pub after : ℕ → Substitution → Unification → Unification
after k es (fails j) = fails (k + j)
after k es spent = spent
after k es (solved j fs) = solved (k + j) (join es fs)

-- The unification of l and r after one that came to the first.
abbrev pub then : Unification → Terms → Terms → Unification
then (fails k) l r = fails k
then spent l r = spent
then (solved k es) l r = after k es (unify (applys es l) (applys es r))

after_none : (o : Unification) → after 0 done o ≡ o
after_none (fails j) = ap fails (omega arith)
after_none spent = refl
after_none (solved j fs) = ap (λ k. solved k fs) (omega arith)

tick-after : (k : ℕ) (es : Substitution) (o : Unification) → tick (after k es o) ≡ after (suc k) es o
tick-after k es (fails j) = ap fails (omega arith)
tick-after k es spent = refl
tick-after k es (solved j fs) = ap (λ i. solved i (join es fs)) (omega arith)

bound-after : (x : ℕ) (s : Term) (k : ℕ) (es : Substitution) (o : Unification) → bound x s (after k es o) ≡ after (suc k) (bind x s es) o
bound-after x s k es (fails j) = ap fails (omega arith)
bound-after x s k es spent = refl
bound-after x s k es (solved j fs) = ap (λ i. solved i (bind x s (join es fs))) (omega arith)

then-tick : (o : Unification) (l r : Terms) → tick (then o l r) ≡ then (tick o) l r
then-tick (fails k) l r = refl
then-tick spent l r = refl
then-tick (solved k es) l r = tick-after k es (unify (applys es l) (applys es r))

then-bound : (x : ℕ) (s : Term) (o : Unification) (l r : Terms) → bound x s (then o (subs x s l) (subs x s r)) ≡ then (bound x s o) l r
then-bound x s (fails k) l r = refl
then-bound x s spent l r = refl
then-bound x s (solved k es) l r = bound-after x s k es (unify (applys es (subs x s l)) (applys es (subs x s r)))

abbrev Joins : Terms → Terms → Terms → Terms → Type 0
Joins l r l' r' = unify (l +++ l') (r +++ r') ≡ then (unify l r) l' r'

-- o' is o and then l' and r', if o takes at most m equations.
abbrev Splits : ℕ → Terms → Terms → Unification → Unification → Type 0
Splits m l' r' o o' = equations o ≤ m → o' ≡ then o l' r'

-- The first equation, given the law for what takes fewer.
module _ (m : ℕ) (law : (l r l' r' : Terms) → equations (unify l r) < m → count l ≡ count r → Joins l r l' r') (l' r' : Terms) where
  join-tick : (l r : Terms) → count l ≡ count r → Splits m l' r' (tick (unify l r)) (tick (unify (l +++ l') (r +++ r')))
  join-tick l r c h = ap tick (law l r l' r' (omega (arith, taken-tick (unify l r) (unify-found l r))) c) ∙ then-tick (unify l r) l' r'

  join-bound : (x : ℕ) (s : Term) (l r : Terms) → count l ≡ count r → Splits m l' r' (eliminate unify unify x s l r) (eliminate unify unify x s (l +++ l') (r +++ r'))
  join-bound x s l r c h =
      let o : Unification = unify (subs x s l) (subs x s r) in
      let fewer : equations o < m = omega (arith, taken-bound x s o (unify-found (subs x s l) (subs x s r))) in
      ap (bound x s) (ap₂ unify (subs-join x s l l') (subs-join x s r r')
      ∙ law (subs x s l) (subs x s r) (subs x s l') (subs x s r') fewer (omega (arith, subs-count x s l, subs-count x s r)))
      ∙ then-bound x s o l' r'

  join_front : (a b : Term) (l r : Terms) → count l ≡ count r → Splits m l' r' (unify_front unify unify a b l r) (unify_front unify unify a b (l +++ l') (r +++ r'))
  unfolding unify_front
  join_front (var x) (var y) l r c =
      dite-related (Splits m l' r') (ℕ_discrete x y) _ _ _ _ (λ _. join-tick l r c) (λ _. join-bound x (var y) l r c)
  join_front (var x) (app g vs) l r c =
      dite-related (Splits m l' r') (ℕ_discrete (occs x vs) 0) _ _ _ _ (λ _. join-bound x (app g vs) l r c) (λ _ _. refl)
  join_front (app f us) (var y) l r c =
      dite-related (Splits m l' r') (ℕ_discrete (occs y us) 0) _ _ _ _ (λ _. join-bound y (app f us) l r c) (λ _ _. refl)
  join_front (app f us) (app g vs) l r c =
      dite-related (Splits m l' r') (ℕ_discrete f g) _ _ _ _
      (λ _. dite-related (Splits m l' r') (ℕ_discrete (count us) (count vs)) _ _ _ _
      (λ e. rw (← join-assoc us l l', ← join-assoc vs r r') (join-tick (us +++ l) (vs +++ r) (omega (arith, count-join us l, count-join vs r))))
      (λ _ _. refl))
      (λ _ _. refl)

join-below : (m : ℕ) (l r l' r' : Terms) → equations (unify l r) < m → count l ≡ count r → Joins l r l' r'
join-below zero l r l' r' h c = absurd (omega arith)
join-below (suc m) nil nil l' r' h c = sym (after_none (unify l' r')) ∙ ap (λ o. then o l' r') (sym unify-none)
join-below (suc m) nil (cons b r) l' r' h c = absurd (omega arith)
join-below (suc m) (cons a l) nil l' r' h c = absurd (omega arith)
join-below (suc m) (cons a l) (cons b r) l' r' h c =
    unify-cons a b (l +++ l') (r +++ r')
    ∙ join_front m (join-below m) l' r' a b l r (omega arith) (omega (arith, ap equations (unify-cons a b l r)))
    ∙ ap (λ o. then o l' r') (sym (unify-cons a b l r))

-- l and r, and then the others.
pub unify-join : (l r l' r' : Terms) → count l ≡ count r → unify (l +++ l') (r +++ r') ≡ then (unify l r) l' r'
unify-join l r l' r' c = join-below (suc (equations (unify l r))) l r l' r' (omega arith) c
