-- What the table of names finds is the number of the rules, as long as no name is declared twice.
use Rattle.std.proofs.Common.{ℕ, zero, suc, ◌+◌, ◌≤◌, ◌<◌, ◌≡◌, Bool, true, false, List, [], ◌∷◌, length, refl, ap, sym, ◌∙◌, arith}
use Rattle.std.proofs.Math.Option.{Option, none, some}
use native.Mathlib.Decide.{dec_lt, ℕ_discrete}
use borrow.Author.Tests.{eq-eqb, ne_eqb}
use Rattle.text_rules.specs.TextGrammar.{same_bytes}
use Rattle.text_rules.specs.TextWords.{Declaration, number_of, is_number}
use Rattle.text.specs.Hash.{last_with, is_name}
use Rattle.text.proofs.NameLaws.{bytes_same, bytes-equal, last-below, last-passes}

-- The declarations' names, from number `at` on.
abbrev pub Names : ℕ → List Declaration → (ℕ → List ℕ) → Type 0
Names at [] name = Unit {0}
Names at (d ∷ ds) name = (d.name ≡ name at) × Names (suc at) ds name

pub number-passes : (n : List ℕ) (at : ℕ) (d : Declaration) (ds : List Declaration) → same_bytes n d.name ≡ false → number_of n at (d ∷ ds) ≡ number_of n (suc at) ds
unfolding number_of
number-passes n at d ds e = rw (e, number_of)

pub number-found : (n : List ℕ) (at : ℕ) (d : Declaration) (ds : List Declaration) → same_bytes n d.name ≡ true → number_of n at (d ∷ ds) ≡ some at
unfolding number_of
number-found n at d ds e = rw (e, number_of)

module _ (n : List ℕ) (name : ℕ → List ℕ) where
  no_number : (at : ℕ) (ds : List Declaration) → Names at ds name → ((j : ℕ) → at ≤ j → j < at + length ds → same_bytes n (name j) ≡ false) → number_of n at ds ≡ none
  unfolding number_of
  no_number at [] w f = refl
  no_number at (d ∷ ds) w f =
      number-passes n at d ds (ap (same_bytes n) w.0 ∙ f at (omega arith) (omega arith)) ∙ no_number (suc at) ds w.1 (λ j l m. f j (omega arith) (omega arith))

  first-number :
      (at k : ℕ) (ds : List Declaration) → Names at ds name → at ≤ k → k < at + length ds → same_bytes n (name k) ≡ true
      → ((j : ℕ) → j < k → same_bytes n (name j) ≡ false) → number_of n at ds ≡ some k
  first-number at k [] w l m e f = absurd (omega arith)
  first-number at k (d ∷ ds) w l m e f = go (ℕ_discrete at k) (first-number (suc at) k ds w.1)
    where
      go :
          Dec (at ≡ k)
          → (suc at ≤ k → k < suc at + length ds → same_bytes n (name k) ≡ true → ((j : ℕ) → j < k → same_bytes n (name j) ≡ false) → number_of n (suc at) ds ≡ some k)
          → number_of n at (d ∷ ds) ≡ some k
      go (yes q) r = number-found n at d ds (ap (same_bytes n) (w.0 ∙ ap name q) ∙ e) ∙ ap some q
      go (no q) r =
          let less : at < k = omega arith in
          number-passes n at d ds (ap (same_bytes n) w.0 ∙ f at less) ∙ r (omega arith) (omega arith) e f

-- No two of the first n names are the same.
abbrev pub Distinct : (ℕ → List ℕ) → ℕ → Type 0
Distinct name n = (i j : ℕ) → i < j → j < n → name i ≡ name j → ⊥

false-by : (xs ys : List ℕ) → (xs ≡ ys → ⊥) → same_bytes xs ys ≡ false
false-by xs ys f = go (same_bytes xs ys) refl
  where
    go : (b : Bool) → same_bytes xs ys ≡ b → same_bytes xs ys ≡ false
    go true e = absurd (f (bytes_same xs ys e))
    go false e = e

pub last_none : (n : List ℕ) (name : ℕ → List ℕ) (m j : ℕ) → last_with (is_name n) name m ≡ 0 → j < m → n ≡ name j → ⊥
last_none n name zero j e l q = omega arith
last_none n name (suc m) j e l q = go (is_name n (name m)) refl (last_none n name m j)
  where
    go : (b : Bool) → is_name n (name m) ≡ b → (last_with (is_name n) name m ≡ 0 → j < m → n ≡ name j → ⊥) → ⊥
    go true t r = let z : suc m ≡ 0 = rw (t, last_with) at e in omega arith
    go false t r = end (ℕ_discrete j m)
      where
        end : Dec (j ≡ m) → ⊥
        end (yes s) =
            let u : is_name n (name m) ≡ true = bytes-equal (name m) n (ap name (sym s) ∙ sym q) in
            let z : ◌≡◌ {A = ℕ} 0 1 = cc in omega arith
        end (no s) = r (rw (t, last_with) at e) (omega arith) q

abbrev pub number_from : ℕ → Option ℕ
number_from zero = none
number_from (suc k) = some k

module _ (ds : List Declaration) (name : ℕ → List ℕ) (w : Names 0 ds name) where
  -- A name that is looked for among the first m.
  some_number : (n : List ℕ) (m k : ℕ) → m ≤ length ds → Distinct name m → last_with (is_name n) name m ≡ suc k → number_of n 0 ds ≡ some k
  some_number n m k l d e =
      let t : is_name n (name k) ≡ true = last-passes (is_name n) name m k e in
      let s : name k ≡ n = bytes_same (name k) n t in
      let b : k < m = omega (arith, last-below (is_name n) name m) in
      first-number n name 0 k ds w (omega arith) (omega arith) (bytes-equal n (name k) (sym s)) (λ j p. false-by n (name j) (λ q. d j k p b (sym q ∙ sym s)))

  -- A use.
  pub found_number_lem : (n : List ℕ) → Distinct name (length ds) → number_of n 0 ds ≡ number_from (last_with (is_name n) name (length ds))
  found_number_lem n d = go (last_with (is_name n) name (length ds)) refl
    where
      go : (k : ℕ) → last_with (is_name n) name (length ds) ≡ k → number_of n 0 ds ≡ number_from (last_with (is_name n) name (length ds))
      go zero e =
          no_number n name 0 ds w (λ j l m. false-by n (name j) (last_none n name (length ds) j e (omega arith)))
          ∙ sym (ap number_from e)
      go (suc k) e = some_number n (length ds) k (omega arith) d e ∙ sym (ap number_from e)

  -- A declaration, after the first i.
  module _ (i : ℕ) (l : i < length ds) (d : Distinct name i) where
    pub declared-once : last_with (is_name (name i)) name i ≡ 0 → is_number (number_of (name i) 0 ds) i ≡ true
    unfolding is_number
    declared-once e =
        let q : number_of (name i) 0 ds ≡ some i =
        first-number (name i) name 0 i ds w (omega arith) (omega arith) (bytes-equal (name i) (name i) refl)
        (λ j p. false-by (name i) (name j) (last_none (name i) name i j e p)) in
        ap (λ o. is_number o i) q ∙ eq-eqb i i refl

    pub still-distinct : last_with (is_name (name i)) name i ≡ 0 → Distinct name (suc i)
    still-distinct e a b p q s = go (dec_lt b i)
      where
        go : Dec (b < i) → ⊥
        go (yes h) = d a b p h s
        go (no h) = let z : b ≡ i = omega arith in last_none (name i) name i a e (omega arith) (ap name (sym z) ∙ sym s)

    pub declared-again : (last_with (is_name (name i)) name i ≡ 0 → ⊥) → is_number (number_of (name i) 0 ds) i ≡ false
    unfolding is_number
    declared-again f = go (last_with (is_name (name i)) name i) refl
      where
        go : (k : ℕ) → last_with (is_name (name i)) name i ≡ k → is_number (number_of (name i) 0 ds) i ≡ false
        go zero e = absurd (f e)
        go (suc k) e =
            let b : k < i = omega (arith, last-below (is_name (name i)) name i) in
            ap (λ o. is_number o i) (some_number (name i) i k (omega arith) d e) ∙ ne_eqb k i (λ q. omega arith)
