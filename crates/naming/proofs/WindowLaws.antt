-- Names declared twice, window by window.
use Rattle.std.proofs.Common.{◌≡◌, ℕ, zero, suc, ◌+◌, ◌-◌, ◌≤◌, ◌<◌, true, false, List, [], ◌∷◌, length, refl, ap, ap₂, sym, ◌∙◌, subst, arith, length-append}
use Rattle.std.specs.Prelude.{Option as Code, Some, None}
use Rattle.std.proofs.Math.Option.{none, some, none-ne-some, some-injective}
use Rattle.std.proofs.Math.ListN.{get_elem?}
use Rattle.std.specs.List.{slice_range}
use native.Mathlib.Decide.{dec_lt}
use Rattle.text_rules.specs.TextWords.{number_of, is_number, declared_twice}
use Rattle.text_rules.specs.TextWords as rules
use Rattle.text_rules.specs.Text.{text_declarations, place_of}
use Rattle.text.specs.declared.names.Entry.{Entry}
use Rattle.text.specs.Hash.{last_with, found_at, is_name}
use Rattle.text.specs.Names.{Table, name_at, entered}
use Rattle.text.specs.Steps.{option_of}
use Rattle.text.proofs.NameLaws.{bytes_same, last-below, last-passes, found_none, found_some, old-name_at, new-name_at}
use Rattle.text.proofs.NumberLaws.{Names, Distinct, last_none, declared-once, declared-again}
use Rattle.naming.specs.declared.declarations.Declaration.{Declaration}
use Rattle.naming.specs.declared.windows.First.{First}
use Rattle.naming.specs.Walks.{declaration_of, Declares, Ends, Passed}
use Rattle.naming.specs.Windows.{name_in, name_of, Again, WindowEnds, Known, Kept}
use Rattle.naming.proofs.WalkLaws.{twice-later, twice-here, passed-this, passed-one, passed-all}
use Rattle.naming.proofs.FindLaws.{is_below, names_of}

-- The first name declared for the second time, by the numbers of the declarations.
module _ (all : List rules.Declaration) where
  none-twice :
      (at : ℕ) (xs : List rules.Declaration)
      → ((j : ℕ) (d : rules.Declaration) → get_elem? xs j ≡ some d → is_number (number_of d.name 0 all) (at + j) ≡ true) → declared_twice all at xs ≡ none
  unfolding declared_twice
  none-twice at [] h = refl
  none-twice at (x ∷ xs) h =
      let z : at ≡ at + 0 = omega arith in
      twice-later all at x xs (ap (is_number (number_of x.name 0 all)) z ∙ h 0 x refl)
      ∙ none-twice (suc at) xs (λ j d q. let s : suc at + j ≡ at + suc j = omega arith in ap (is_number (number_of d.name 0 all)) s ∙ h (suc j) d q)

  first-twice :
      (at c : ℕ) (xs : List rules.Declaration) (d : rules.Declaration) → get_elem? xs c ≡ some d → is_number (number_of d.name 0 all) (at + c) ≡ false
      → ((j : ℕ) (x : rules.Declaration) → j < c → get_elem? xs j ≡ some x → is_number (number_of x.name 0 all) (at + j) ≡ true)
      → declared_twice all at xs ≡ some d.left
  first-twice at c [] d q e h = absurd (none-ne-some d q)
  first-twice at zero (x ∷ xs) d q e h =
      let z : at ≡ at + 0 = omega arith in
      let s : x ≡ d = some-injective x d q in
      twice-here all at x xs (ap₂ (λ y k. is_number (number_of y.name 0 all) k) s z ∙ e) ∙ ap (λ y. some y.left) s
  first-twice at (suc c) (x ∷ xs) d q e h =
      let z : at ≡ at + 0 = omega arith in
      let s : suc at + c ≡ at + suc c = omega arith in
      twice-later all at x xs (ap (is_number (number_of x.name 0 all)) z ∙ h 0 x (omega arith) refl)
      ∙ first-twice (suc at) c xs d q (ap (is_number (number_of d.name 0 all)) s ∙ e)
      (λ j y l p. let t : suc at + j ≡ at + suc j = omega arith in ap (is_number (number_of y.name 0 all)) t ∙ h (suc j) y (omega arith) p)

-- Where the first c names differ.
module _ (ds : List rules.Declaration) (c : ℕ) (below : c ≤ length ds) (D : Distinct (name_of ds) c) where
  all-names : Names 0 ds (name_of ds)
  all-names = names_of ds (name_of ds) (λ j d q. ap name_in q)

  not-before : (j : ℕ) → j < c → last_with (is_name (name_of ds j)) (name_of ds) j ≡ 0
  not-before j p = go (last_with (is_name (name_of ds j)) (name_of ds) j) refl
    where
      go : (k : ℕ) → last_with (is_name (name_of ds j)) (name_of ds) j ≡ k → last_with (is_name (name_of ds j)) (name_of ds) j ≡ 0
      go zero e = e
      go (suc k) e =
          let b : k < j = omega (arith, last-below (is_name (name_of ds j)) (name_of ds) j) in
          absurd (D k j b p (bytes_same (name_of ds k) (name_of ds j) (last-passes (is_name (name_of ds j)) (name_of ds) j k e)))

  own-number : (j : ℕ) (d : rules.Declaration) → j < c → get_elem? ds j ≡ some d → is_number (number_of d.name 0 ds) j ≡ true
  own-number j d p q =
      ap (λ o. is_number (number_of (name_in o) 0 ds) j) (sym q)
      ∙ declared-once ds (name_of ds) all-names j (omega arith) (λ a b m n. D a b m (omega arith)) (not-before j p)

  none-again : length ds ≡ c → declared_twice ds 0 ds ≡ none
  none-again e =
      none-twice ds 0 ds
      (λ j d q. let s : 0 + j ≡ j = omega arith in ap (is_number (number_of d.name 0 ds)) s ∙ own-number j d (omega (arith, is_below ds j d q)) q)

  first-again : (i : ℕ) (d : rules.Declaration) → i < c → name_of ds i ≡ name_of ds c → get_elem? ds c ≡ some d → declared_twice ds 0 ds ≡ some d.left
  first-again i d p e q =
      let s : 0 + c ≡ c = omega arith in
      first-twice ds 0 c ds d q
      (ap (is_number (number_of d.name 0 ds)) s
      ∙ ap (λ o. is_number (number_of (name_in o) 0 ds) c) (sym q)
      ∙ declared-again ds (name_of ds) all-names c (is_below ds c d q) D (λ z. last_none (name_of ds c) (name_of ds) c i z p (sym e)))
      (λ j x m r. let t : 0 + j ≡ j = omega arith in ap (is_number (number_of x.name 0 ds)) t ∙ own-number j x m r)

-- What is known.
ended-below : (text : List ℕ) (c : ℕ) (p : Code ℕ) → WindowEnds text c p → c ≤ length (text_declarations text)
ended-below text c (Some at) a = omega (arith, is_below (text_declarations text) c a.this a.there)
ended-below text c None e = omega arith

module _ (text : List ℕ) (n : ℕ) (f : First) (K : Known text n f) where
  pub known-below : f.number ≤ length (text_declarations text)
  known-below = ended-below text f.number f.place K.ended

  pub known-fewer : (m : ℕ) → m ≤ n → Known text m f
  known-fewer m l = record { distinct = λ i j p. K.distinct i j (omega arith); ended = K.ended }

  -- Of all declarations.
  pub known-all : f.number ≤ n → place_of text (declared_twice (text_declarations text) 0 (text_declarations text)) ≡ option_of f.place
  unfolding place_of
  known-all l = go f.place K.ended
    where
      differ : Distinct (name_of (text_declarations text)) f.number
      differ i j p q = K.distinct i j (omega arith) p q

      go : (p : Code ℕ) → WindowEnds text f.number p → place_of text (declared_twice (text_declarations text) 0 (text_declarations text)) ≡ option_of p
      go (Some at) a =
          ap (place_of text) (first-again (text_declarations text) f.number known-below differ a.earlier a.this a.less a.same a.there)
          ∙ a.place
      go None e = ap (place_of text) (none-again (text_declarations text) f.number known-below differ e)

pub none-known : (text : List ℕ) (f : First) → WindowEnds text f.number f.place → Known text 0 f
none-known text f e = record { distinct = λ i j p. absurd (omega arith); ended = e }

-- The pass over the declarations from number `number` on: those up to n are passed, the first 4,096 of them in the table.
pub record Passing {V : Type 0} (t : Table V) (number last at n : ℕ) : Type 0 where
  pub passed : Passed t.text at n
  pub before : n ≤ last
  pub most : length t.entries ≤ 4096
  pub many : number + length t.entries ≤ n
  pub full : length t.entries < 4096 → number + length t.entries ≡ n
  pub names : (j : ℕ) → j < length t.entries → name_at t j ≡ name_of (text_declarations t.text) (number + j)
  pub distinct :
      (i j : ℕ) → number ≤ i → i < number + length t.entries → i < j → j < n
      → name_of (text_declarations t.text) i ≡ name_of (text_declarations t.text) j → ⊥

pub passing-none : {V : Type 0} (t : Table V) (number last at : ℕ) → t.entries ≡ [] → Passed t.text at number → number ≤ last → Passing t number last at number
passing-none t number last at z p l =
    let e : length t.entries ≡ 0 = ap length z in
    record {
      passed = p;
      before = l;
      most = omega arith;
      many = omega arith;
      full = λ f. omega arith;
      names = λ j l. absurd (omega arith);
      distinct = λ i j p q. absurd (omega arith);
    }

module _ {V : Type 0} (t : Table V) (number last at n : ℕ) (P : Passing t number last at n) where
  abbrev ds : List rules.Declaration
  ds = text_declarations t.text

  abbrev k : ℕ
  k = length t.entries

  in_window : (i : ℕ) → i < number + 4096 → i < n → i < number + k
  in_window i p q = go (dec_lt k 4096)
    where
      go : Dec (k < 4096) → i < number + k
      go (yes f) = omega (arith, P.full f)
      go (no f) = omega (arith, P.most)

  -- Up to a declaration that is passed.
  pub passing-known :
      (f g : First) → Known t.text number f → g.number ≤ f.number → g.number ≤ n → WindowEnds t.text g.number g.place → Known t.text (number + 4096) g
  passing-known f g K a b e = record { distinct = λ i j p q r. go i j p q r (dec_lt i number); ended = e }
    where
      go : (i j : ℕ) → i < number + 4096 → i < j → j < g.number → Dec (i < number) → name_of ds i ≡ name_of ds j → ⊥
      go i j p q r (yes s) = K.distinct i j s q (omega arith)
      go i j p q r (no s) = P.distinct i j (omega arith) (in_window i p (omega arith)) q (omega arith)

  pub passing-ended : (f : First) → Known t.text number f → Ends t.text at → Known t.text (number + 4096) f
  passing-ended f K h =
      passing-known f f K (omega arith) (omega (arith, known-below t.text number f K, passed-all t.text at n P.passed h)) K.ended

  -- The next declaration.
  module _ (d : Declaration) (h : Declares t.text at d) where
    abbrev this : List ℕ
    this = slice_range t.text d.from d.to

    there : get_elem? ds n ≡ some (declaration_of t.text d)
    there = passed-this t.text at n P.passed d h

    back : place_of t.text (some (length t.text - d.from)) ≡ some d.from
    unfolding place_of
    back = let e : length t.text - (length t.text - d.from) ≡ d.from = omega (arith, h.forward, h.before, h.inside) in ap some e

    module _ (r : Code ℕ) (e : r ≡ found_at (last_with (is_name this) (name_at t) k)) where
      abbrev found : ℕ
      found = last_with (is_name this) (name_at t) k

      pub passing-again : (j : ℕ) → r ≡ Some j → Again t.text n d.from
      passing-again j z =
          let q : found ≡ suc j = found_some found j (sym z ∙ e) in
          let b : j < k = omega (arith, q, last-below (is_name this) (name_at t) k) in
          record {
            earlier = number + j;
            less = omega (arith, b, P.many);
            same = sym (P.names j b) ∙ bytes_same (name_at t j) this (last-passes (is_name this) (name_at t) k j q) ∙ sym (ap name_in there);
            this = declaration_of t.text d;
            there = there;
            place = back;
          }

      -- Its name is not in the table.
      module _ (z : r ≡ None) where
        fresh : (i : ℕ) → number ≤ i → i < number + k → name_of ds i ≡ name_of ds n → ⊥
        fresh i p q s =
            let u : number + (i - number) ≡ i = omega arith in
            last_none this (name_at t) k (i - number) (found_none found (sym z ∙ e)) (omega arith)
            (sym (ap name_in there) ∙ sym s ∙ ap (name_of ds) (sym u) ∙ sym (P.names (i - number) (omega arith)))

        differ : (i j : ℕ) → number ≤ i → i < number + k → i < j → j < n + 1 → name_of ds i ≡ name_of ds j → ⊥
        differ i j p q a b s = go (dec_lt j n)
          where
            go : Dec (j < n) → ⊥
            go (yes l) = P.distinct i j p q a l s
            go (no l) = let u : j ≡ n = omega arith in fresh i p q (s ∙ ap (name_of ds) u)

        module _ (left : n < last) (x : Entry V) (same_from : x.from ≡ d.from) (same_to : x.to ≡ d.to) where
          unchanged : (k < 4096 → ⊥) → Passing t number last d.end (n + 1)
          unchanged f =
              record {
                passed = passed-one t.text at n P.passed d h;
                before = omega arith;
                most = P.most;
                many = omega (arith, P.many);
                full = λ l. absurd (f l);
                names = P.names;
                distinct = λ i j p q. differ i j p q;
              }

          size : length (entered t x).entries ≡ k + 1
          size = length-append t.entries (x ∷ [])

          new-name : k < 4096 → (j : ℕ) → j < k + 1 → Dec (j < k) → name_at (entered t x) j ≡ name_of ds (number + j)
          new-name f j l (yes p) = old-name_at t x j p ∙ P.names j p
          new-name f j l (no p) =
              let s : j ≡ k = omega arith in
              let u : n ≡ number + j = omega (arith, P.full f) in
              ap (name_at (entered t x)) s
              ∙ new-name_at t x
              ∙ ap₂ (slice_range t.text) same_from same_to
              ∙ sym (ap name_in there)
              ∙ ap (name_of ds) u

          one-more : k < 4096 → Passing (entered t x) number last d.end (n + 1)
          one-more f =
              record {
                passed = passed-one t.text at n P.passed d h;
                before = omega arith;
                most = omega (arith, size);
                many = omega (arith, size, P.full f);
                full = λ l. omega (arith, size, P.full f);
                names = λ j l. new-name f j (omega (arith, size)) (dec_lt j k);
                distinct = λ i j p q a b s. new-distinct i j p (omega (arith, size)) a b s (dec_lt i n);
              }
            where
              new-distinct : (i j : ℕ) → number ≤ i → i < number + (k + 1) → i < j → j < n + 1 → name_of ds i ≡ name_of ds j → Dec (i < n) → ⊥
              new-distinct i j p q a b s (yes l) = differ i j p (omega (arith, P.full f)) a b s
              new-distinct i j p q a b s (no l) = absurd (omega arith)

          pub passing-one : (t' : Table V) → Kept t x t' → Passing t' number last d.end (n + 1)
          passing-one t' K = go (dec_lt k 4096)
            where
              go : Dec (k < 4096) → Passing t' number last d.end (n + 1)
              go (yes f) = subst (λ u. Passing u number last d.end (n + 1)) (sym (K.more f)) (one-more f)
              go (no f) = subst (λ u. Passing u number last d.end (n + 1)) (sym (K.full (omega (arith, P.most)))) (unchanged f)

          pub kept-text : (t' : Table V) → Kept t x t' → t'.text ≡ t.text
          kept-text t' K = go (dec_lt k 4096)
            where
              go : Dec (k < 4096) → t'.text ≡ t.text
              go (yes f) = ap (λ (u : Table V). u.text) (K.more f)
              go (no f) = ap (λ (u : Table V). u.text) (K.full (omega (arith, P.most)))
