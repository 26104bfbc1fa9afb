-- The arities of names, by a walk over the declarations.
use Prim.Native.Nat.{ℕ, zero, suc, ◌-◌, ◌≤◌, ◌<◌}
use mathlib.Core.Path.{◌≡◌, refl, ap, sym, ◌∙◌}
use mathlib.Core.Bool.{Bool, true, false}
use mathlib.Core.Option.{none, some}
use mathlib.Core.List.{List, [], ◌∷◌}
use native.Mathlib.Omega.{arith}
use native.Mathlib.Decide.{dec_lt, ℕ_discrete}
use lib.ListN.{length, get_or, get_elem?, take, drop, replicate}
use Rattle.std.specs.Prelude.{Option, Some, None, MatchOption, IfSome}
use Rattle.text_rules.specs.TextTokens.{tokens}
use Rattle.text_rules.specs.TextGrammar.{same_bytes}
use Rattle.text_rules.specs.TextWords.{declarations, number_of, arity, has_arity, declared_at}
use Rattle.text_rules.specs.TextWords as rules
use Rattle.text_rules.specs.Text.{text_declarations, text_unread}
use Rattle.text.specs.Hash.{last_with, found_at, is_name}
use Rattle.text.specs.Names.{Table, name_at}
use Rattle.text.proofs.NameLaws.{bytes_same, found_none, found_some, last-below, last-passes}
use Rattle.text.proofs.NumberLaws.{last_none}
use Rattle.naming.specs.declared.declarations.Declaration.{Declaration}
use Rattle.naming.specs.Walks.{symbol_of, declaration_of, Readable, Declares}
use Rattle.naming.proofs.WalkLaws.{passed_none}
use Rattle.text.specs.declared.start.Start.{Start}
use Rattle.text.specs.Starts.{Starts}
use Rattle.uses.specs.Uses.{takes}
use Rattle.uses.specs.Batches.{Distinct, arity_in, is_arity, ArityGiven, agrees_at, FirstOther}

-- By the arity of a name's first declaration.
element-at : (all : List rules.Declaration) (at : ℕ) (d : rules.Declaration) (ds : List rules.Declaration) → drop at all ≡ d ∷ ds → (get_elem? all at ≡ some d) × (drop (suc at) all ≡ ds)
element-at [] zero d ds e = absurd (let z : ◌≡◌ {A = ℕ} 0 1 = cc in omega arith)
element-at [] (suc at) d ds e = absurd (let z : ◌≡◌ {A = ℕ} 0 1 = cc in omega arith)
element-at (x ∷ all) zero d ds e = (ap (λ (l : List rules.Declaration). get_elem? l 0) e, ap (λ (l : List rules.Declaration). drop 1 l) e)
element-at (x ∷ all) (suc at) d ds e = element-at all at d ds e

takes-from : (all : List rules.Declaration) (wanted : List ℕ) (k at : ℕ) (ds : List rules.Declaration) → drop at all ≡ ds → has_arity (declared_at all (number_of wanted at ds)) k ≡ is_arity (arity_in ds wanted) k
unfolding has_arity declared_at number_of
takes-from all wanted k at [] e = refl
takes-from all wanted k at (d ∷ ds) e = go (same_bytes wanted d.name) refl (takes-from all wanted k (suc at) ds (element-at all at d ds e).1)
  where
    go :
        (b : Bool) → same_bytes wanted d.name ≡ b → has_arity (declared_at all (number_of wanted (suc at) ds)) k ≡ is_arity (arity_in ds wanted) k
        → has_arity (declared_at all (number_of wanted at (d ∷ ds))) k ≡ is_arity (arity_in (d ∷ ds) wanted) k
    go true q r = rw (q, number_of, arity_in) (ap (λ o. has_arity o k) (element-at all at d ds e).0)
    go false q r = rw (q, number_of, arity_in) r

pub takes-arity : (ds : List rules.Declaration) (wanted : List ℕ) (k : ℕ) → takes ds wanted k ≡ is_arity (arity_in ds wanted) k
takes-arity ds wanted k = takes-from ds wanted k 0 ds refl

-- A name that is found has a place.
pub found_fits : (n : ℕ) (r : Option ℕ) → IfSome r (λ j. (j < n) × (j < 4096)) → IfSome r (λ j. j < 4096)
found_fits n None h = tt
found_fits n (Some j) h = h.1

-- The first name that does not agree.
pub first-from :
    (found : List (Option ℕ)) (t : Table ℕ) (n : ℕ) (r : Option ℕ) → n ≡ length t.entries
    → MatchOption r ((i : ℕ) → 0 ≤ i → i < n → agrees_at found t i ≡ true)
    (λ i. (0 ≤ i) × (i < n) × (agrees_at found t i ≡ false) × ((j : ℕ) → 0 ≤ j → j < i → agrees_at found t j ≡ true))
    → FirstOther found t r
first-from found t n None e w = λ i l. w i (omega arith) (omega arith)
first-from found t n (Some r) e w = (omega (arith, w.1), w.2, λ i l. w.3 i (omega arith) l)

-- What is found so far, or else in the declarations that are left.
abbrev or_later : Option ℕ → Option ℕ → Option ℕ
or_later None later = later
or_later (Some a) later = Some a

other_name : (xs ys : List ℕ) → (xs ≡ ys → ⊥) → same_bytes xs ys ≡ false
other_name xs ys f = go (same_bytes xs ys) refl
  where
    go : (b : Bool) → same_bytes xs ys ≡ b → same_bytes xs ys ≡ false
    go true e = absurd (f (bytes_same xs ys e))
    go false e = e

-- The declarations before `at` are looked up.
pub record WalkedTo (t : Table ℕ) (found : List (Option ℕ)) (at : ℕ) : Type 0 where
  pub inside : at ≤ length t.text
  pub readable : Readable t.text at
  pub room : length found ≡ 4096
  pub same : (j : ℕ) → j < length t.entries → arity_in (text_declarations t.text) (name_at t j) ≡ or_later (get_or found j None) (arity_in (declarations 0 (tokens 0 (drop at t.text))) (name_at t j))

nothing : (n j : ℕ) → get_or (replicate {A = Option ℕ} n None) j None ≡ None
nothing zero j = refl
nothing (suc n) zero = refl
nothing (suc n) (suc j) = nothing n j

pub walk_start : (t : Table ℕ) (r : Start) → Starts t.text r → text_unread t.text ≡ none → WalkedTo t (replicate 4096 None) r.at
walk_start t r h e =
    let p = passed_none t.text r h e in
    record {
      inside = p.inside;
      readable = p.readable;
      room = refl;
      same =
          λ j l. ap (λ ds. arity_in ds (name_at t j)) p.rest ∙ ap (λ a. or_later a (arity_in (declarations 0 (tokens 0 (drop r.at t.text))) (name_at t j))) (sym (nothing 4096 j));
    }

module _ (t : Table ℕ) (found : List (Option ℕ)) (at : ℕ) (W : WalkedTo t found at) where
  module _ (differ : Distinct t) (d : Declaration) (h : Declares t.text at d) (r : Option ℕ)
      (e : r ≡ found_at (last_with (is_name (take (d.to - d.from) (drop d.from t.text))) (name_at t) (length t.entries))) where
    abbrev this : List ℕ
    this = take (d.to - d.from) (drop d.from t.text)

    abbrev last : ℕ
    last = last_with (is_name this) (name_at t) (length t.entries)

    pub found_below : (j : ℕ) → r ≡ Some j → j < length t.entries
    found_below j q = omega (arith, found_some last j (sym q ∙ e), last-below (is_name this) (name_at t) (length t.entries))

    -- The name that is found, and no other one, is the declaration's.
    is-this : (j : ℕ) → r ≡ Some j → same_bytes (name_at t j) this ≡ true
    is-this j q = last-passes (is_name this) (name_at t) (length t.entries) j (found_some last j (sym q ∙ e))

    is-other : (j : ℕ) → j < length t.entries → (r ≡ Some j → ⊥) → same_bytes (name_at t j) this ≡ false
    is-other j l f = other_name (name_at t j) this (λ s. go r refl s)
      where
        go : (k : Option ℕ) → r ≡ k → name_at t j ≡ this → ⊥
        go None q s = last_none this (name_at t) (length t.entries) j (found_none last (sym q ∙ e)) l (sym s)
        go (Some i) q s = order (dec_lt i j) (dec_lt j i)
          where
            both : name_at t i ≡ name_at t j
            both = bytes_same (name_at t i) this (is-this i q) ∙ sym s

            order : Dec (i < j) → Dec (j < i) → ⊥
            order (yes p) y = differ i j p l both
            order (no p) (yes y) = differ j i y (found_below i q) (sym both)
            order (no p) (no y) = let z : i ≡ j = omega arith in f (q ∙ ap Some z)

    module _ (found' : List (Option ℕ)) (size : length found' ≡ 4096) (P : ArityGiven found r (arity (symbol_of d.symbol)) found') where
      abbrev rest : List rules.Declaration
      rest = declarations 0 (tokens 0 (drop d.end t.text))

      abbrev first : rules.Declaration
      first = declaration_of t.text d

      named : first.name ≡ this
      named = refl

      step : (j : ℕ) → j < length t.entries → or_later (get_or found j None) (arity_in (first ∷ rest) (name_at t j)) ≡ or_later (get_or found' j None) (arity_in rest (name_at t j))
      step j l = go (is? r)
        where
          here : r ≡ Some j → arity_in (first ∷ rest) (name_at t j) ≡ Some (arity (symbol_of d.symbol))
          here q = let s : same_bytes (name_at t j) first.name ≡ true = ap (same_bytes (name_at t j)) named ∙ is-this j q in rw (s, arity_in) refl

          kept : r ≡ Some j → (a : Option ℕ) → get_or found j None ≡ a → or_later (get_or found j None) (Some (arity (symbol_of d.symbol))) ≡ or_later (get_or found' j None) (arity_in rest (name_at t j))
          kept q None z = ap (λ a. or_later a (Some (arity (symbol_of d.symbol)))) z ∙ sym (ap (λ a. or_later a (arity_in rest (name_at t j))) (P.here j q z))
          kept q (Some a) z = ap (λ a. or_later a (Some (arity (symbol_of d.symbol)))) z ∙ sym (ap (λ a. or_later a (arity_in rest (name_at t j))) (P.old j a q z))

          is? : (o : Option ℕ) → Dec (o ≡ Some j)
          is? None = no (λ q. cc)
          is? (Some i) = elim (ℕ_discrete i j) [ yes q ↦ yes (ap Some q) | no f ↦ no (λ q. f (cc)) ]

          go : Dec (r ≡ Some j) → or_later (get_or found j None) (arity_in (first ∷ rest) (name_at t j)) ≡ or_later (get_or found' j None) (arity_in rest (name_at t j))
          go (yes q) = ap (or_later (get_or found j None)) (here q) ∙ kept q (get_or found j None) refl
          go (no f) =
              let s : same_bytes (name_at t j) first.name ≡ false = ap (same_bytes (name_at t j)) named ∙ is-other j l f in
              let passed : arity_in (first ∷ rest) (name_at t j) ≡ arity_in rest (name_at t j) = rw (s, arity_in) refl in
              ap (or_later (get_or found j None)) passed ∙ sym (ap (λ a. or_later a (arity_in rest (name_at t j))) (P.other j f))

      pub walk-on : WalkedTo t found' d.end
      walk-on =
          record {
            inside = h.inside;
            readable = h.readable;
            room = size;
            same = λ j l. W.same j l ∙ ap (λ ds. or_later (get_or found j None) (arity_in ds (name_at t j))) h.first ∙ step j l;
          }
