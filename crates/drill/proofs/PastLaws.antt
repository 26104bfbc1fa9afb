-- The terms after a given one in the rules' list: what they are, and when it is not of the list.
use Prim.Native.Nat.{ℕ, zero, suc, ◌+◌, ◌-◌, ◌≤◌, ◌<◌}
use mathlib.Core.Path.{◌≡◌, refl, ap, ap₂, sym, ◌∙◌, subst}
use mathlib.Core.Bool.{Bool, true, false, ◌&&◌}
use mathlib.Core.Option.{Option, none, some}
use mathlib.Core.List.{List, [], ◌∷◌, ◌++◌, map}
use native.Mathlib.Omega.{arith}
use native.Mathlib.Decide.{ℕ_discrete}
use lib.ListN.{length, drop, get_elem?}
use borrow.Author.Tests.{eq-eqb, ne_eqb}
use Rattle.rules.specs.Syntax.{Symbol, functor, predicate}
use Rattle.rules.specs.Drill.{with_first, fillings, terms_from, drill_terms, same, past, after}
use Rattle.drill.specs.Successors.{symbol_arity, arity_at, fills_from, fills, later, followers, rest_after, Given}

hit : (x t : List ℕ) (L : List (List ℕ)) → same x t ≡ true → past x (t ∷ L) ≡ some L
unfolding past
hit x t L e = rw (e, past)

miss : (x t : List ℕ) (L : List (List ℕ)) → same x t ≡ false → past x (t ∷ L) ≡ past x L
unfolding past
miss x t L e = rw (e, past)

-- What is past x in one list and then another.
or_else : Option (List (List ℕ)) → List (List ℕ) → Option (List (List ℕ)) → Option (List (List ℕ))
or_else none R r = r
or_else (some P) R r = some (P ++ R)

past-append : (x : List ℕ) (L R : List (List ℕ)) → past x (L ++ R) ≡ or_else (past x L) R (past x R)
unfolding past or_else
past-append x [] R = refl
past-append x (t ∷ L) R = go (same x t) refl (past-append x L R)
  where
    go : (b : Bool) → same x t ≡ b → past x (L ++ R) ≡ or_else (past x L) R (past x R) → past x (t ∷ (L ++ R)) ≡ or_else (past x (t ∷ L)) R (past x R)
    go true e h = hit x t (L ++ R) e ∙ sym (ap (λ o. or_else o R (past x R)) (hit x t L e))
    go false e h = miss x t (L ++ R) e ∙ h ∙ sym (ap (λ o. or_else o R (past x R)) (miss x t L e))

-- Lists with one first cell.
lift : ℕ → Option (List (List ℕ)) → Option (List (List ℕ))
lift f none = none
lift f (some P) = some (map (f ∷◌) P)

same_first : (f : ℕ) (xs ys : List ℕ) → same (f ∷ xs) (f ∷ ys) ≡ same xs ys
unfolding same
same_first f xs ys = ap (λ b. b && same xs ys) (eq-eqb f f refl)

other-first : (f g : ℕ) (xs ys : List ℕ) → (f ≡ g → ⊥) → same (f ∷ xs) (g ∷ ys) ≡ false
unfolding same
other-first f g xs ys h = ap (λ b. b && same xs ys) (ne_eqb f g h)

past-map : (f : ℕ) (xs : List ℕ) (L : List (List ℕ)) → past (f ∷ xs) (map (f ∷◌) L) ≡ lift f (past xs L)
unfolding past lift
past-map f xs [] = refl
past-map f xs (t ∷ L) = go (same xs t) refl (past-map f xs L)
  where
    go : (b : Bool) → same xs t ≡ b → past (f ∷ xs) (map (f ∷◌) L) ≡ lift f (past xs L) → past (f ∷ xs) ((f ∷ t) ∷ map (f ∷◌) L) ≡ lift f (past xs (t ∷ L))
    go true e h = hit (f ∷ xs) (f ∷ t) (map (f ∷◌) L) (same_first f xs t ∙ e) ∙ sym (ap (lift f) (hit xs t L e))
    go false e h = miss (f ∷ xs) (f ∷ t) (map (f ∷◌) L) (same_first f xs t ∙ e) ∙ h ∙ sym (ap (lift f) (miss xs t L e))

past-other : (f g : ℕ) (xs : List ℕ) (L : List (List ℕ)) → (f ≡ g → ⊥) → past (f ∷ xs) (map (g ∷◌) L) ≡ none
unfolding past
past-other f g xs [] h = refl
past-other f g xs (t ∷ L) h = miss (f ∷ xs) (g ∷ t) (map (g ∷◌) L) (other-first f g xs t h) ∙ past-other f g xs L h

past-empty : (g : ℕ) (L : List (List ℕ)) → past [] (map (g ∷◌) L) ≡ none
unfolding past same
past-empty g [] = refl
past-empty g (t ∷ L) = miss [] (g ∷ t) (map (g ∷◌) L) refl ∙ past-empty g L

-- Nothing in the first of two lists.
skip : (x : List ℕ) (L R : List (List ℕ)) → past x L ≡ none → past x (L ++ R) ≡ past x R
unfolding or_else
skip x L R e = past-append x L R ∙ ap (λ o. or_else o R (past x R)) e

module _ (rest : ℕ → List (List ℕ)) (xs : List ℕ) where
  past-larger : (f i : ℕ) (T : List Symbol) → f < i → past (f ∷ xs) (with_first rest i T) ≡ none
  unfolding past with_first
  past-larger f i [] h = refl
  past-larger f i (functor a ∷ T) h =
      skip (f ∷ xs) (map (i ∷◌) (rest a)) (with_first rest (suc i) T) (past-other f i xs (rest a) (λ e. omega arith)) ∙ past-larger f (suc i) T (omega arith)
  past-larger f i (predicate a ∷ T) h = past-larger f (suc i) T (omega arith)

  -- Of the functors from number i on, f is the j-th.
  block : ℕ → List (List ℕ) → Option Symbol → Option (List (List ℕ))
  block f R none = none
  block f R (some (functor a)) = or_else (lift f (past xs (rest a))) R none
  block f R (some (predicate a)) = none

  past_first : (f i : ℕ) (T : List Symbol) (j : ℕ) → i + j ≡ f → past (f ∷ xs) (with_first rest i T) ≡ block f (with_first rest (suc f) (drop (suc j) T)) (get_elem? T j)
  unfolding past with_first block
  past_first f i [] j e = refl
  past_first f i (functor a ∷ T) zero e =
      let q : i ≡ f = omega arith in
      ap (λ g. past (f ∷ xs) (map (g ∷◌) (rest a) ++ with_first rest (suc g) T)) q
      ∙ past-append (f ∷ xs) (map (f ∷◌) (rest a)) (with_first rest (suc f) T)
      ∙ ap₂ (λ o r. or_else o (with_first rest (suc f) T) r) (past-map f xs (rest a)) (past-larger f (suc f) T (omega arith))
  past_first f i (predicate a ∷ T) zero e = past-larger f (suc i) T (omega arith)
  past_first f i (functor a ∷ T) (suc j) e =
      skip (f ∷ xs) (map (i ∷◌) (rest a)) (with_first rest (suc i) T) (past-other f i xs (rest a) (λ q. omega arith)) ∙ past_first f (suc i) T j (omega arith)
  past_first f i (predicate a ∷ T) (suc j) e = past_first f (suc i) T j (omega arith)

past-empty-first : (rest : ℕ → List (List ℕ)) (i : ℕ) (T : List Symbol) → past [] (with_first rest i T) ≡ none
unfolding past with_first
past-empty-first rest i [] = refl
past-empty-first rest i (functor a ∷ T) = skip [] (map (i ∷◌) (rest a)) (with_first rest (suc i) T) (past-empty i (rest a)) ∙ past-empty-first rest (suc i) T
past-empty-first rest i (predicate a ∷ T) = past-empty-first rest (suc i) T

-- In the fillings of k places by as many cells.
when : Bool → List (List ℕ) → Option (List (List ℕ))
when true P = some P
when false P = none

when-first : (b : Bool) (f : ℕ) (P R : List (List ℕ)) → or_else (lift f (when b P)) R none ≡ when b (map (f ∷◌) P ++ R)
unfolding or_else lift when
when-first true f P R = refl
when-first false f P R = refl

block-fills :
    (S : List Symbol) (f k : ℕ) (xs : List ℕ) (R : List (List ℕ)) (o : Option Symbol)
    → ((a : ℕ) → past xs (fillings S (length xs) (a + k)) ≡ when (fills S (a + k) xs) (followers S (a + k) xs))
    → block (λ a. fillings S (length xs) (a + k)) xs f R o ≡ when (fills_from o (λ a. fills S (a + k) xs)) (map (f ∷◌) (followers S (symbol_arity o + k) xs) ++ R)
unfolding block fills_from when
block-fills S f k xs R none h = refl
block-fills S f k xs R (some (predicate a)) h = refl
block-fills S f k xs R (some (functor a)) h = ap (λ o. or_else (lift f o) R none) (h a) ∙ when-first (fills S (a + k) xs) f (followers S (a + k) xs) R

past-fillings : (S : List Symbol) (x : List ℕ) (k : ℕ) → past x (fillings S (length x) k) ≡ when (fills S k x) (followers S k x)
unfolding past same fillings fills followers later arity_at when
past-fillings S [] zero = refl
past-fillings S [] (suc k) = refl
past-fillings S (f ∷ xs) zero = refl
past-fillings S (f ∷ xs) (suc k) =
    past_first (λ a. fillings S (length xs) (a + k)) xs f 0 S f (omega arith) ∙ block-fills S f k xs (later S (length xs) k (suc f)) (get_elem? S f) (λ a. past-fillings S xs (a + k))

-- In the fillings by another number of cells.
block_none : (rest : ℕ → List (List ℕ)) (xs : List ℕ) (f : ℕ) (R : List (List ℕ)) (o : Option Symbol) → ((a : ℕ) → past xs (rest a) ≡ none) → block rest xs f R o ≡ none
unfolding block or_else lift
block_none rest xs f R none h = refl
block_none rest xs f R (some (predicate a)) h = refl
block_none rest xs f R (some (functor a)) h = ap (λ o. or_else (lift f o) R none) (h a)

past-unequal : (S : List Symbol) (m k : ℕ) (x : List ℕ) → (length x ≡ m → ⊥) → past x (fillings S m k) ≡ none
unfolding past same fillings
past-unequal S zero zero [] h = absurd (h refl)
past-unequal S zero zero (c ∷ cs) h = refl
past-unequal S zero (suc k) x h = refl
past-unequal S (suc m) zero x h = refl
past-unequal S (suc m) (suc k) [] h = past-empty-first (λ a. fillings S m (a + k)) 0 S
past-unequal S (suc m) (suc k) (f ∷ xs) h =
    past_first (λ a. fillings S m (a + k)) xs f 0 S f (omega arith)
    ∙ block_none (λ a. fillings S m (a + k)) xs f (with_first (λ a. fillings S m (a + k)) (suc f) (drop (suc f) S)) (get_elem? S f)
    (λ a. past-unequal S m (a + k) xs (λ e. h (ap suc e)))

-- In the terms of several sizes.
module _ (S : List Symbol) (x : List ℕ) where
  terms-none : (size number : ℕ) → (size ≤ length x → length x < size + number → fills S 1 x ≡ false) → past x (terms_from S size number) ≡ none
  unfolding past terms_from when
  terms-none size zero h = refl
  terms-none size (suc number) h = skip x (fillings S size 1) (terms_from S (suc size) number) (go (ℕ_discrete (length x) size)) ∙ terms-none (suc size) number (λ l m. h (omega arith) (omega arith))
    where
      go : Dec (length x ≡ size) → past x (fillings S size 1) ≡ none
      go (yes e) = subst (λ n. past x (fillings S n 1) ≡ none) e (past-fillings S x 1 ∙ ap (λ b. when b (followers S 1 x)) (h (omega arith) (omega arith)))
      go (no e) = past-unequal S size 1 x e

  terms-some :
      (size number : ℕ) → fills S 1 x ≡ true → size ≤ length x → length x < size + number
      → past x (terms_from S size number) ≡ some (followers S 1 x ++ terms_from S (suc (length x)) (size + number - suc (length x)))
  unfolding past terms_from when or_else
  terms-some size zero v l m = absurd (omega arith)
  terms-some size (suc number) v l m = go (ℕ_discrete (length x) size) (λ k. terms-some (suc size) number v k (omega arith))
    where
      go :
          Dec (length x ≡ size)
          → (suc size ≤ length x → past x (terms_from S (suc size) number) ≡ some (followers S 1 x ++ terms_from S (suc (length x)) (suc size + number - suc (length x))))
          → past x (fillings S size 1 ++ terms_from S (suc size) number) ≡ some (followers S 1 x ++ terms_from S (suc (length x)) (size + suc number - suc (length x)))
      go (yes e) h =
          let T = terms_from S (suc size) number in
          let here : past x (fillings S size 1) ≡ some (followers S 1 x) = subst (λ n. past x (fillings S n 1) ≡ some (followers S 1 x)) e (past-fillings S x 1 ∙ ap (λ b. when b (followers S 1 x)) v) in
          let n : number ≡ size + suc number - suc (length x) = omega arith in
          past-append x (fillings S size 1) T
          ∙ ap (λ o. or_else o T (past x T)) here
          ∙ ap₂ (λ m j. some (followers S 1 x ++ terms_from S (suc m) j)) (sym e) n
      go (no e) h =
          let n : suc size + number - suc (length x) ≡ size + suc number - suc (length x) = omega arith in
          skip x (fillings S size 1) (terms_from S (suc size) number) (past-unequal S size 1 x e)
          ∙ h (omega arith)
          ∙ ap (λ j. some (followers S 1 x ++ terms_from S (suc (length x)) j)) n

-- The terms after a given one.
pub after-given : (S : List Symbol) (n : ℕ) (given : List ℕ) → Given S n given → after given (drill_terms S n) ≡ some (rest_after S n given)
unfolding after drill_terms rest_after followers
after-given S n [] g = let z : n ≡ n - 0 = omega arith in ap (λ j. some (terms_from S 1 j)) z
after-given S n (c ∷ cs) g =
    let x = c ∷ cs in
    let j : 1 + n - suc (length x) ≡ n - length x = omega arith in
    terms-some S x 1 n (g.valid (omega arith)) (omega arith) (omega (arith, g.inside)) ∙ ap (λ m. some (followers S 1 x ++ terms_from S (suc (length x)) m)) j

-- A given term that is not of the list.
pub after-long : (S : List Symbol) (n : ℕ) (given : List ℕ) → n < length given → after given (drill_terms S n) ≡ none
unfolding after drill_terms
after-long S n [] h = absurd (omega arith)
after-long S n (c ∷ cs) h = terms-none S (c ∷ cs) 1 n (λ l m. absurd (omega arith))

pub after-invalid : (S : List Symbol) (n : ℕ) (given : List ℕ) → 1 ≤ length given → fills S 1 given ≡ false → after given (drill_terms S n) ≡ none
unfolding after drill_terms
after-invalid S n [] h v = absurd (omega arith)
after-invalid S n (c ∷ cs) h v = terms-none S (c ∷ cs) 1 n (λ l m. v)
