-- Fillings: where there are none, the first functor that begins one, and how those after a given one go on.
use Prim.Native.Nat.{ℕ, zero, suc, ◌+◌, ◌-◌, ◌≤◌, ◌<◌}
use mathlib.Core.Path.{◌≡◌, refl, ap, ap₂, sym, ◌∙◌}
use mathlib.Core.Bool.{true, false, true≢false}
use mathlib.Core.Option.{Option, none, some, none-ne-some}
use mathlib.Core.List.{List, [], ◌∷◌, ◌++◌, map}
use native.Mathlib.Omega.{arith}
use lib.ListN.{length, drop, get_elem?, drop_of_length-le}
use lib.Dec.{eqb, eqb-suc-zero}
use Rattle.std.specs.Prelude as answer
use Rattle.std.specs.Prelude.{is_some, MatchOption}
use Rattle.rules.specs.Syntax.{Symbol, functor, predicate}
use Rattle.rules.specs.Drill.{with_first, fillings}
use Rattle.drill.specs.Successors.{symbol_arity, arity_at, fills_from, fills, later, followers, Heads, nonempty, starts_with, Found, Sought}

-- More places than cells.
with_first-none : (rest : ℕ → List (List ℕ)) → ((a : ℕ) → rest a ≡ []) → (f : ℕ) (S : List Symbol) → with_first rest f S ≡ []
unfolding with_first
with_first-none rest h f [] = refl
with_first-none rest h f (functor a ∷ S) = ap₂ ◌++◌ (ap (map (f ∷◌)) (h a)) (with_first-none rest h (suc f) S)
with_first-none rest h f (predicate a ∷ S) = with_first-none rest h (suc f) S

pub fillings-none : (S : List Symbol) (m k : ℕ) → m < k → fillings S m k ≡ []
unfolding fillings
fillings-none S zero zero h = absurd (omega arith)
fillings-none S zero (suc k) h = refl
fillings-none S (suc m) zero h = absurd (omega arith)
fillings-none S (suc m) (suc k) h = with_first-none (λ a. fillings S m (a + k)) (λ a. fillings-none S m (a + k) (omega arith)) 0 S

-- Where there is a filling.
pub nonempty-few : (S : List Symbol) (m k : ℕ) → nonempty (fillings S m k) ≡ true → k ≤ m
unfolding nonempty
nonempty-few S m k e = omega (arith, few)
  where
    few : (m < k) → ⊥
    few h = true≢false (sym e ∙ ap nonempty (fillings-none S m k h))

pub empty : (l : List (List ℕ)) → nonempty l ≡ false → l ≡ []
unfolding nonempty
empty [] e = refl
empty (x ∷ l) e = absurd (true≢false e)

nonempty-block : (f : ℕ) (l r : List (List ℕ)) → nonempty l ≡ true → nonempty (map (f ∷◌) l ++ r) ≡ true
unfolding nonempty
nonempty-block f [] r e = absurd (true≢false (sym e))
nonempty-block f (x ∷ l) r e = refl

-- No places take no cells.
pub nonempty-places-none : (S : List Symbol) (m : ℕ) → nonempty (fillings S m 0) ≡ eqb m 0
unfolding nonempty fillings
nonempty-places-none S zero = refl
nonempty-places-none S (suc m) = sym (eqb-suc-zero m)

pub nonempty-over : (S : List Symbol) (m k : ℕ) → m < k → nonempty (fillings S m k) ≡ false
unfolding nonempty
nonempty-over S m k h = ap nonempty (fillings-none S m k h)

-- The first functor that begins one: the symbols before it are passed.
elem_there : (S : List Symbol) (i : ℕ) → i < length S → (s : Symbol) × (get_elem? S i ≡ some s)
elem_there [] i h = absurd (omega arith)
elem_there (t ∷ S) zero h = (t, refl)
elem_there (t ∷ S) (suc i) h = elem_there S i (omega arith)

drop-elem : (S : List Symbol) (i : ℕ) (s : Symbol) → get_elem? S i ≡ some s → drop i S ≡ s ∷ drop (suc i) S
drop-elem [] i s e = absurd (none-ne-some s e)
drop-elem (t ∷ S) zero s e = let q : t ≡ s = cc in ap {B = List Symbol} (◌∷ S) q
drop-elem (t ∷ S) (suc i) s e = drop-elem S i s e

module _ (S : List Symbol) (m k i : ℕ) where
  pub later-skip : (s : Symbol) → get_elem? S i ≡ some s → starts_with S m k (some s) ≡ false → later S m k i ≡ later S m k (suc i)
  unfolding later starts_with with_first
  later-skip (functor a) e h =
      ap (with_first (λ b. fillings S m (b + k)) i) (drop-elem S i (functor a) e) ∙ ap (λ l. map (i ∷◌) l ++ later S m k (suc i)) (empty (fillings S m (a + k)) h)
  later-skip (predicate a) e h = ap (with_first (λ b. fillings S m (b + k)) i) (drop-elem S i (predicate a) e)

  later-here : (a : ℕ) → get_elem? S i ≡ some (functor a) → later S m k i ≡ map (i ∷◌) (fillings S m (a + k)) ++ later S m k (suc i)
  unfolding later with_first
  later-here a e = ap (with_first (λ b. fillings S m (b + k)) i) (drop-elem S i (functor a) e)

  pub later-end : length S ≤ i → later S m k i ≡ []
  unfolding later with_first
  later-end h = ap (with_first (λ b. fillings S m (b + k)) i) (drop_of_length-le S h)

  pub found_here : (from : ℕ) (s : Symbol) → later S m k i ≡ later S m k from → get_elem? S i ≡ some s → starts_with S m k (some s) ≡ true → Found S m k from i
  unfolding starts_with arity_at
  found_here from (functor a) p e h =
      let q : arity_at S i ≡ a = ap symbol_arity e in
      record {
        symbol = e ∙ ap (λ n. some (functor n)) (sym q);
        fillable = ap (λ n. nonempty (fillings S m (n + k))) q ∙ h;
        list = sym p ∙ later-here a e ∙ ap (λ n. map (i ∷◌) (fillings S m (n + k)) ++ later S m k (suc i)) (sym q);
      }
  found_here from (predicate a) p e h = absurd (true≢false (sym h))

-- The symbols from one up to another are passed where none of them can be the first.
module _ (S : List Symbol) (m k from : ℕ) where
  abbrev passes : ℕ → Type 0
  passes i = starts_with S m k (get_elem? S i) ≡ false

  later-passed : (n : ℕ) → from + n ≤ length S → ((i : ℕ) → from ≤ i → i < from + n → passes i) → later S m k from ≡ later S m k (from + n)
  later-passed zero l h = let z : from + 0 ≡ from = omega arith in ap (later S m k) (sym z)
  later-passed (suc n) l h =
      let t = elem_there S (from + n) (omega arith) in
      let skipped : later S m k (from + n) ≡ later S m k (suc (from + n)) = later-skip S m k (from + n) t.0 t.1 (ap (starts_with S m k) (sym t.1) ∙ h (from + n) (omega arith) (omega arith)) in
      let z : from + suc n ≡ suc (from + n) = omega arith in
      later-passed n (omega arith) (λ i a b. h i a (omega arith)) ∙ skipped ∙ ap (later S m k) (sym z)

  sought-none : from ≤ length S → ((i : ℕ) → from ≤ i → i < length S → passes i) → later S m k from ≡ []
  sought-none l h =
      later-passed (length S - from) (omega arith) (λ i a b. h i a (omega arith)) ∙ later-end S m k (from + (length S - from)) (omega arith)

  sought-some : (f : ℕ) → from ≤ f → f < length S → starts_with S m k (get_elem? S f) ≡ true → ((i : ℕ) → from ≤ i → i < f → passes i) → Found S m k from f
  sought-some f a l e h =
      let n : from + (f - from) ≡ f = omega arith in
      let t = elem_there S f l in
      found_here S m k f from t.0 (sym (later-passed (f - from) (omega arith) (λ i a b. h i a (omega arith)) ∙ ap (later S m k) n)) t.1 (ap (starts_with S m k) (sym t.1) ∙ e)

  pub sought-range :
      (n : ℕ) (r : answer.Option ℕ) → n ≡ length S → from ≤ n
      → MatchOption r ((i : ℕ) → from ≤ i → i < n → passes i) (λ i. (from ≤ i) × (i < n) × (starts_with S m k (get_elem? S i) ≡ true) × ((j : ℕ) → from ≤ j → j < i → passes j))
      → Sought S m k from r
  sought-range n answer.None e l w = sought-none (omega arith) (λ i a b. w i a (omega arith))
  sought-range n (answer.Some f) e l w = sought-some f w.0 (omega (arith, w.1)) w.2 w.3

-- All fillings are those from functor 0 on.
fillings-later : (S : List Symbol) (m k : ℕ) → fillings S (suc m) (suc k) ≡ later S m k 0
unfolding fillings later
fillings-later S m k = refl

nonempty-found : (S : List Symbol) (m k f : ℕ) → Found S m k 0 f → nonempty (fillings S (suc m) (suc k)) ≡ true
nonempty-found S m k f w = ap nonempty (fillings-later S m k ∙ w.list) ∙ nonempty-block f (fillings S m (arity_at S f + k)) (later S m k (suc f)) w.fillable

nonempty-missing : (S : List Symbol) (m k : ℕ) → later S m k 0 ≡ [] → nonempty (fillings S (suc m) (suc k)) ≡ false
unfolding nonempty
nonempty-missing S m k e = ap nonempty (fillings-later S m k ∙ e)

-- There is a filling just where the search for its first functor finds one.
pub sought-nonempty : (S : List Symbol) (m k : ℕ) (r : answer.Option ℕ) → Sought S m k 0 r → is_some r ≡ nonempty (fillings S (suc m) (suc k))
sought-nonempty S m k answer.None w = sym (nonempty-missing S m k w)
sought-nonempty S m k (answer.Some f) w = sym (nonempty-found S m k f w)

-- Of some cells, a filling has at least one place.
pub nonempty-places : (S : List Symbol) (m k : ℕ) → nonempty (fillings S m k) ≡ true → 1 ≤ m → 1 ≤ k
unfolding nonempty fillings
nonempty-places S zero k e h = absurd (omega arith)
nonempty-places S (suc m) zero e h = absurd (true≢false (sym e))
nonempty-places S (suc m) (suc k) e h = omega arith

-- The least filling, and the next one.
pub heads-block :
    (S : List Symbol) (m k from f : ℕ) (ys : List ℕ) → Found S m k from f → length ys ≡ m → Heads S (arity_at S f + k) (fillings S m (arity_at S f + k)) ys
    → Heads S (suc k) (later S m k from) (f ∷ ys)
unfolding followers fills fills_from
heads-block S m k from f ys w n h =
    record {
      begins = w.list ∙ ap (λ l. map (f ∷◌) l ++ later S m k (suc f)) h.begins ∙ ap (λ n. (f ∷ ys) ∷ (map (f ∷◌) (followers S (arity_at S f + k) ys) ++ later S n k (suc f))) (sym n);
      valid = ap (λ o. fills_from o (λ a. fills S (a + k) ys)) w.symbol ∙ h.valid;
    }

pub heads-none : (S : List Symbol) (k : ℕ) → nonempty (fillings S 0 k) ≡ true → Heads S k (fillings S 0 k) []
unfolding nonempty fillings followers fills
heads-none S zero e = record { begins = refl; valid = refl }
heads-none S (suc k) e = absurd (true≢false (sym e))

pub heads-least :
    (S : List Symbol) (m k f : ℕ) (ys : List ℕ) → Found S m k 0 f → length ys ≡ m → Heads S (arity_at S f + k) (fillings S m (arity_at S f + k)) ys
    → Heads S (suc k) (fillings S (suc m) (suc k)) (f ∷ ys)
heads-least S m k f ys w n h = rw fillings-later (heads-block S m k 0 f ys w n h)

-- Cells that are k + 1 terms: a functor, and those of its terms and the k others.
pub fills_first : (S : List Symbol) (k f : ℕ) (xs : List ℕ) → fills S (suc k) (f ∷ xs) ≡ true → (get_elem? S f ≡ some (functor (arity_at S f))) × (fills S (arity_at S f + k) xs ≡ true)
unfolding fills fills_from arity_at
fills_first S k f xs e = go (get_elem? S f) refl e
  where
    go : (o : Option Symbol) → get_elem? S f ≡ o → fills_from o (λ a. fills S (a + k) xs) ≡ true → (get_elem? S f ≡ some (functor (arity_at S f))) × (fills S (arity_at S f + k) xs ≡ true)
    go none q h = absurd (true≢false (sym h))
    go (some (functor a)) q h = let p : arity_at S f ≡ a = ap symbol_arity q in (q ∙ ap (λ n. some (functor n)) (sym p), ap (λ n. fills S (n + k) xs) p ∙ h)
    go (some (predicate a)) q h = absurd (true≢false (sym h))

pub fills-few : (S : List Symbol) (xs : List ℕ) (k : ℕ) → fills S k xs ≡ true → k ≤ length xs
unfolding fills
fills-few S [] zero e = omega arith
fills-few S [] (suc k) e = absurd (true≢false (sym e))
fills-few S (f ∷ xs) zero e = omega arith
fills-few S (f ∷ xs) (suc k) e = omega (arith, fills-few S xs (arity_at S f + k) (fills_first S k f xs e).1)

pub advanced-inside :
    (S : List Symbol) (k f : ℕ) (xs ys : List ℕ) → get_elem? S f ≡ some (functor (arity_at S f)) → length ys ≡ length xs
    → Heads S (arity_at S f + k) (followers S (arity_at S f + k) xs) ys → Heads S (suc k) (followers S (suc k) (f ∷ xs)) (f ∷ ys)
unfolding followers fills fills_from
advanced-inside S k f xs ys e n h =
    record {
      begins =
          ap (λ l. map (f ∷◌) l ++ later S (length xs) k (suc f)) h.begins
          ∙ ap (λ n. (f ∷ ys) ∷ (map (f ∷◌) (followers S (arity_at S f + k) ys) ++ later S n k (suc f))) (sym n);
      valid = ap (λ o. fills_from o (λ a. fills S (a + k) ys)) e ∙ h.valid;
    }

pub advanced-first :
    (S : List Symbol) (k f : ℕ) (xs : List ℕ) → followers S (arity_at S f + k) xs ≡ [] → followers S (suc k) (f ∷ xs) ≡ later S (length xs) k (suc f)
unfolding followers
advanced-first S k f xs e = ap (λ l. map (f ∷◌) l ++ later S (length xs) k (suc f)) e
