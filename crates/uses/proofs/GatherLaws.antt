-- Gathering the names that are used.
use Prim.Native.Nat.{ℕ, suc, ◌+◌, ◌-◌, ◌<◌}
use mathlib.Core.Path.{◌≡◌, ap, ap₂, sym, ◌∙◌}
use mathlib.Core.Bool.{true, false}
use mathlib.Core.Option.{some}
use mathlib.Core.List.{List, [], ◌∷◌}
use mathlib.Core.Logic.{◌⊎◌, inl, inr}
use native.Mathlib.Omega.{arith}
use native.Mathlib.Decide.{dec_lt}
use lib.ListN.{length, length-append, get_or, take, drop}
use Rattle.std.specs.Prelude.{Option, Some, None}
use Rattle.text_rules.specs.TextWords.{Declaration}
use Rattle.text_rules.specs.Text.{place_of, text_declarations}
use Rattle.text.specs.declared.names.Entry.{Entry}
use Rattle.text.specs.Hash.{last_with, found_at, is_name}
use Rattle.text.specs.Names.{Table, no_entry, entry_at, name_at, entered}
use Rattle.text.proofs.NameLaws.{bytes_same, found_none, found_some, last-below, last-passes, entered-old, entered-new, old-name_at, new-name_at}
use Rattle.text.proofs.NumberLaws.{last_none}
use Rattle.uses.specs.declared.walk.Use.{Use}
use Rattle.uses.specs.Uses.{takes, misuse_from, UseFrom}
use Rattle.uses.specs.Batches.{arity_in, is_arity, takes_at, Gathered, Gathers, agrees_at, FirstOther}
use Rattle.uses.proofs.ArityLaws.{takes-arity}

pub gathered-any : (t : Table ℕ) (start : ℕ) (r : Option ℕ) → Gathers t start r → (at : ℕ) × Gathered t start at
gathered-any t start None g = (g.0, g.1)
gathered-any t start (Some at) g = (at, g.0)

-- A name that is found is in the table.
pub found_inside : (t : Table ℕ) (bytes : List ℕ) (j : ℕ) → Some j ≡ found_at (last_with (is_name bytes) (name_at t) (length t.entries)) → j < length t.entries
found_inside t bytes j q = omega (arith, found_some (last_with (is_name bytes) (name_at t) (length t.entries)) j q, last-below (is_name bytes) (name_at t) (length t.entries))

module _ (t : Table ℕ) (start at : ℕ) (G : Gathered t start at) where
  abbrev ds : List Declaration
  ds = text_declarations t.text

  module _ (u : Use) (N : UseFrom t.text at u) where
    abbrev this : List ℕ
    this = take (u.to - u.from) (drop u.from t.text)

    -- The names in the table tell of this use too.
    noted-known : (((j : ℕ) → j < length t.entries → takes_at t j ≡ true) → takes ds this u.arguments ≡ true) → Gathered t start u.to
    noted-known h =
        record {
          few = G.few;
          distinct = G.distinct;
          later = omega (arith, G.later, N.later, N.forward);
          inside = N.inside;
          all = λ a. G.all a ∙ N.well (h a);
          first = G.first;
        }

    -- A name that is there.
    pub noted-again : (j : ℕ) → Some j ≡ found_at (last_with (is_name this) (name_at t) (length t.entries)) → (entry_at t j).value ≡ u.arguments → Gathered t start u.to
    noted-again j q s =
        let p : last_with (is_name this) (name_at t) (length t.entries) ≡ suc j = found_some (last_with (is_name this) (name_at t) (length t.entries)) j q in
        let same : name_at t j ≡ this = bytes_same (name_at t j) this (last-passes (is_name this) (name_at t) (length t.entries) j p) in
        noted-known (λ a. ap₂ (takes ds) (sym same) (sym s) ∙ a j (omega (arith, p, last-below (is_name this) (name_at t) (length t.entries))))

    -- A name more.
    module _ (fresh : None ≡ found_at (last_with (is_name this) (name_at t) (length t.entries))) (less : length t.entries < 4096) where
      abbrev entry : Entry ℕ
      entry = record { from = u.from; to = u.to; value = u.arguments }

      abbrev t' : Table ℕ
      t' = entered t entry

      unfound : last_with (is_name this) (name_at t) (length t.entries) ≡ 0
      unfound = found_none (last_with (is_name this) (name_at t) (length t.entries)) fresh

      size : length t'.entries ≡ length t.entries + 1
      size = length-append t.entries (entry ∷ [])

      at_last : (j : ℕ) → j < length t'.entries → Dec (j < length t.entries) → (j < length t.entries) ⊎ (j ≡ length t.entries)
      at_last j l (yes p) = inl p
      at_last j l (no p) = inr (omega (arith, size))

      old : (j : ℕ) → j < length t.entries → entry_at t' j ≡ entry_at t j
      old j l = entered-old t entry no_entry j l

      last : entry_at t' (length t.entries) ≡ entry
      last = entered-new t entry no_entry

      old-name : (j : ℕ) → j < length t.entries → name_at t' j ≡ name_at t j
      old-name j l = old-name_at t entry j l

      new-name : name_at t' (length t.entries) ≡ this
      new-name = new-name_at t entry

      old-takes : (j : ℕ) → j < length t.entries → takes_at t' j ≡ takes_at t j
      old-takes j l = ap₂ (takes ds) (old-name j l) (ap (λ (x : Entry ℕ). x.value) (old j l))

      new-takes : takes_at t' (length t.entries) ≡ takes ds this u.arguments
      new-takes = ap₂ (takes ds) new-name (ap (λ (x : Entry ℕ). x.value) last)

      before : ((j : ℕ) → j < length t.entries → takes_at t' j ≡ true) → misuse_from t.text start ≡ misuse_from t.text at
      before a = G.all (λ j l. sym (old-takes j l) ∙ a j l)

      differ : (i j : ℕ) → i < j → (j < length t.entries) ⊎ (j ≡ length t.entries) → name_at t' i ≡ name_at t' j → ⊥
      differ i j p (inl l) s = G.distinct i j p l (sym (old-name i (omega arith)) ∙ s ∙ old-name j l)
      differ i j p (inr q) s =
          last_none this (name_at t) (length t.entries) i unfound (omega arith) (sym new-name ∙ ap (name_at t') (sym q) ∙ sym s ∙ old-name i (omega arith))

      misused-at :
          (j : ℕ) → (j < length t.entries) ⊎ (j ≡ length t.entries) → ((i : ℕ) → i < j → takes_at t' i ≡ true) → takes_at t' j ≡ false
          → place_of t.text (misuse_from t.text start) ≡ some (entry_at t' j).from
      misused-at j (inl l) a q =
          G.first j l (λ i p. sym (old-takes i (omega arith)) ∙ a i p) (sym (old-takes j l) ∙ q) ∙ ap (λ (x : Entry ℕ). some x.from) (sym (old j l))
      misused-at j (inr s) a q =
          ap (place_of t.text) (before (λ i p. a i (omega arith)))
          ∙ N.badly (sym new-takes ∙ ap (takes_at t') (sym s) ∙ q)
          ∙ ap (λ (x : Entry ℕ). some x.from) (sym last ∙ ap (entry_at t') (sym s))

      pub noted-new : Gathered t' start u.to
      noted-new =
          record {
            few = omega (arith, size);
            distinct = λ i j p l. differ i j p (at_last j l (dec_lt j (length t.entries)));
            later = omega (arith, G.later, N.later, N.forward, size);
            inside = N.inside;
            all = λ a. before (λ j l. a j (omega (arith, size))) ∙ N.well (sym new-takes ∙ a (length t.entries) (omega (arith, size)));
            first = λ j l. misused-at j (at_last j l (dec_lt j (length t.entries)));
          }

  -- What is found of the declarations.
  module _ (found : List (Option ℕ)) (arities : (j : ℕ) → j < length t.entries → get_or found j None ≡ arity_in ds (name_at t j)) where
    takes-found : (j : ℕ) → j < length t.entries → takes_at t j ≡ agrees_at found t j
    takes-found j l = takes-arity ds (name_at t j) (entry_at t j).value ∙ ap (λ a. is_arity a (entry_at t j).value) (sym (arities j l))

    pub gather-misused : (r : ℕ) → FirstOther found t (Some r) → place_of t.text (misuse_from t.text start) ≡ some (entry_at t r).from
    gather-misused r F = G.first r F.0 (λ i p. takes-found i (omega (arith, F.0)) ∙ F.2 i p) (takes-found r F.0 ∙ F.1)

    pub gather-fine : FirstOther found t None → misuse_from t.text start ≡ misuse_from t.text at
    gather-fine F = G.all (λ j l. takes-found j l ∙ F j l)
