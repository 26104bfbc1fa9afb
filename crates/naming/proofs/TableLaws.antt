-- Filling the table, one declaration after another.
use Rattle.std.proofs.Common.{◌≡◌, ℕ, ◌+◌, ◌<◌, ◌⊎◌, inl, inr, List, [], ◌∷◌, length, get_or, drop, ap, ap₂, sym, ◌∙◌, subst, arith, add-one, length-append}
use Rattle.std.specs.Prelude.{Option as Code, Some, None}
use Rattle.std.proofs.Math.Option.{none, some, some-injective}
use Rattle.std.proofs.Math.ListN.{get_elem?}
use Rattle.std.specs.List.{slice_range}
use native.Mathlib.Decide.{dec_lt}
use Rattle.text_rules.specs.TextWords.{number_of, is_number, declared_twice}
use Rattle.text_rules.specs.TextWords as rules
use Rattle.text_rules.specs.Text.{text_declarations, text_unread, place_of}
use Rattle.text.specs.declared.names.Entry.{Entry}
use Rattle.text.specs.Hash.{last_with, found_at, is_name}
use Rattle.text.specs.Names.{Table, name_at, entered}
use Rattle.text.proofs.NameLaws.{last-ext, found_none, found_some, entered-old, entered-new, old-name_at, new-name_at}
use Rattle.text.proofs.NumberLaws.{Names, Distinct, declared-once, declared-again, still-distinct}
use Rattle.naming.specs.declared.declarations.Declaration.{Declaration}
use Rattle.naming.specs.Table.{no_symbol, symbol_at, Declared}
use Rattle.naming.specs.declared.declarations.Symbol.{Symbol}
use Rattle.text.specs.declared.start.Start.{Start}
use Rattle.text.specs.Starts.{Starts}
use Rattle.naming.specs.Walks.{symbol_of, value_of, declaration_of, Declares, Ends, Passed}
use Rattle.naming.specs.Windows.{name_in, name_of}
use Rattle.naming.proofs.WalkLaws.{passed_none, passed-below, passed-this, passed-one, once-here, again-here, passed-all, once-nowhere}
use Rattle.naming.proofs.FindLaws.{is_below, is-there, names_of}

-- The declarations up to a place are in the table; their names differ.
pub record Filled (t : Table Symbol) (at : ℕ) : Type 0 where
  pub passed : Passed t.text at (length t.entries)
  pub names : (j : ℕ) (d : rules.Declaration) → j < length t.entries → get_elem? (text_declarations t.text) j ≡ some d → name_at t j ≡ d.name
  pub symbol : (j : ℕ) (d : rules.Declaration) → j < length t.entries → get_elem? (text_declarations t.text) j ≡ some d → symbol_of (symbol_at t j) ≡ d.symbol
  pub value : (j : ℕ) (d : rules.Declaration) → j < length t.entries → get_elem? (text_declarations t.text) j ≡ some d → value_of (symbol_at t j) ≡ d.value
  pub distinct : Distinct (name_of (text_declarations t.text)) (length t.entries)
  pub once :
      declared_twice (text_declarations t.text) 0 (text_declarations t.text)
      ≡ declared_twice (text_declarations t.text) (length t.entries) (drop (length t.entries) (text_declarations t.text))

pub none_filled : (t : Table Symbol) (r : Start) → Starts t.text r → t.entries ≡ [] → text_unread t.text ≡ none → Filled t r.at
none_filled t r h z e =
    let n : length t.entries ≡ 0 = ap length z in
    record {
      passed = subst (Passed t.text r.at) (sym n) (passed_none t.text r h e);
      names = λ j d l q. absurd (omega arith);
      symbol = λ j d l q. absurd (omega arith);
      value = λ j d l q. absurd (omega arith);
      distinct = λ i j l m q. omega arith;
      once = ap (λ k. declared_twice (text_declarations t.text) k (drop k (text_declarations t.text))) (sym n);
    }

module _ (t : Table Symbol) (at : ℕ) (f : Filled t at) where
  abbrev ds : List rules.Declaration
  ds = text_declarations t.text

  abbrev n : ℕ
  n = length t.entries

  -- All of them.
  pub all-declared : Ends t.text at → Declared t
  all-declared h =
      let size = passed-all t.text at n f.passed h in
      record {
        count = size;
        names = λ j d q. f.names j d (omega (arith, size, is_below ds j d q)) q;
        symbol = λ j d q. f.symbol j d (omega (arith, size, is_below ds j d q)) q;
        value = λ j d q. f.value j d (omega (arith, size, is_below ds j d q)) q;
        distinct = once-nowhere t.text at n f.passed h f.once;
      }

  module _ (d : Declaration) (h : Declares t.text at d) where
    abbrev this : List ℕ
    this = slice_range t.text d.from d.to

    below : n < length ds
    below = passed-below t.text at n f.passed d h

    there : get_elem? ds n ≡ some (declaration_of t.text d)
    there = passed-this t.text at n f.passed d h

    table-name : (j : ℕ) → j < n → name_at t j ≡ name_of ds j
    table-name j l = let x = is-there ds j (omega (arith, below)) in f.names j x.0 l x.1 ∙ sym (ap name_in x.1)

    all-names : Names 0 ds (name_of ds)
    all-names = names_of ds (name_of ds) (λ j d q. ap name_in q)

    -- What is found of its name.
    module _ (r : Code ℕ) (e : r ≡ found_at (last_with (is_name this) (name_at t) n)) where
      same-last : last_with (is_name (name_of ds n)) (name_of ds) n ≡ last_with (is_name this) (name_at t) n
      same-last =
          ap (λ w. last_with (is_name w) (name_of ds) n) (ap name_in there)
          ∙ sym (last-ext (is_name this) (name_at t) (name_of ds) n table-name)

      pub filled-twice : (j : ℕ) → r ≡ Some j → place_of t.text (declared_twice ds 0 ds) ≡ some d.from
      filled-twice j q =
          let m = found_some (last_with (is_name this) (name_at t) n) j (sym q ∙ e) in
          again-here t.text at n f.passed d h f.once
          (ap (λ w. is_number (number_of w 0 ds) n) (sym (ap name_in there))
          ∙ declared-again ds (name_of ds) all-names n below f.distinct (λ z. omega (arith, same-last)))

      -- The declaration entered.
      module _ (z : r ≡ None) (x : Entry Symbol) (same_from : x.from ≡ d.from) (same_to : x.to ≡ d.to) (is_symbol : x.value ≡ d.symbol) where
        not-found : last_with (is_name (name_of ds n)) (name_of ds) n ≡ 0
        not-found = same-last ∙ found_none (last_with (is_name this) (name_at t) n) (sym z ∙ e)

        size : length (entered t x).entries ≡ n + 1
        size = length-append t.entries (x ∷ [])

        at_last : (j : ℕ) → j < n + 1 → Dec (j < n) → (j < n) ⊎ (j ≡ n)
        at_last j l (yes p) = inl p
        at_last j l (no p) = inr (omega arith)

        last-is : (j : ℕ) (y : rules.Declaration) → j ≡ n → get_elem? ds j ≡ some y → declaration_of t.text d ≡ y
        last-is j y e q = some-injective (declaration_of t.text d) y (sym there ∙ ap (get_elem? ds) (sym e) ∙ q)

        new-name : (j : ℕ) (y : rules.Declaration) → (j < n) ⊎ (j ≡ n) → get_elem? ds j ≡ some y → name_at (entered t x) j ≡ y.name
        new-name j y (inl l) q = old-name_at t x j l ∙ f.names j y l q
        new-name j y (inr e) q =
            ap (name_at (entered t x)) e
            ∙ new-name_at t x
            ∙ ap₂ (slice_range t.text) same_from same_to
            ∙ ap (λ (u : rules.Declaration). u.name) (last-is j y e q)

        old-symbol : (j : ℕ) → j < n → symbol_at (entered t x) j ≡ symbol_at t j
        old-symbol j l = ap (λ (u : Entry Symbol). u.value) (entered-old t x no_symbol j l)

        last-symbol : (j : ℕ) → j ≡ n → symbol_at (entered t x) j ≡ d.symbol
        last-symbol j e = ap (λ (u : Entry Symbol). u.value) (ap (λ i. get_or (entered t x).entries i no_symbol) e ∙ entered-new t x no_symbol) ∙ is_symbol

        new-symbol : (j : ℕ) (y : rules.Declaration) → (j < n) ⊎ (j ≡ n) → get_elem? ds j ≡ some y → symbol_of (symbol_at (entered t x) j) ≡ y.symbol
        new-symbol j y (inl l) q = ap symbol_of (old-symbol j l) ∙ f.symbol j y l q
        new-symbol j y (inr e) q = ap symbol_of (last-symbol j e) ∙ ap (λ (u : rules.Declaration). u.symbol) (last-is j y e q)

        new-value : (j : ℕ) (y : rules.Declaration) → (j < n) ⊎ (j ≡ n) → get_elem? ds j ≡ some y → value_of (symbol_at (entered t x) j) ≡ y.value
        new-value j y (inl l) q = ap value_of (old-symbol j l) ∙ f.value j y l q
        new-value j y (inr e) q = ap value_of (last-symbol j e) ∙ ap (λ (u : rules.Declaration). u.value) (last-is j y e q)

        pub filled-one : Filled (entered t x) d.end
        filled-one =
            record {
              passed = subst (Passed t.text d.end) (sym size) (passed-one t.text at n f.passed d h);
              names = λ j y l q. new-name j y (at_last j (omega (arith, size)) (dec_lt j n)) q;
              symbol = λ j y l q. new-symbol j y (at_last j (omega (arith, size)) (dec_lt j n)) q;
              value = λ j y l q. new-value j y (at_last j (omega (arith, size)) (dec_lt j n)) q;
              distinct = subst (Distinct (name_of ds)) (sym (size ∙ add-one n)) (still-distinct ds (name_of ds) all-names n below f.distinct not-found);
              once =
                  once-here t.text at n f.passed d h f.once
                  (ap (λ w. is_number (number_of w 0 ds) n) (sym (ap name_in there))
                  ∙ declared-once ds (name_of ds) all-names n below f.distinct not-found)
                  ∙ ap (λ k. declared_twice ds k (drop k ds)) (sym size);
            }
