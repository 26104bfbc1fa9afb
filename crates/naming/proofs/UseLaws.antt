-- For callers: the words of a table's symbols, and whether a name is well used by what is found of it.
use Rattle.std.proofs.Common.{◌≡◌, ℕ, suc, ◌≤◌, ◌<◌, false, List, [], ◌∷◌, map, length, eqb, get_or, refl, ap, ap₂, sym, ◌∙◌, arith}
use Rattle.std.specs.Prelude.{Option as Code, Some, None}
use Rattle.std.proofs.Math.Option.{none, some}
use Rattle.std.proofs.Math.ListN.{get_elem?}
use Rattle.text_rules.specs.TextWords.{Declaration, arity, has_arity, declared_at, Use, well_used}
use Rattle.text_rules.specs.Text.{text_declarations, text_unread}
use Rattle.text.specs.declared.names.Entry.{Entry}
use Rattle.text.specs.Hash.{last_with, found_at, is_name}
use Rattle.text.specs.Names.{Table, name_at}
use Rattle.naming.specs.Table.{no_symbol, symbol_at, Declared}
use Rattle.naming.specs.declared.declarations.Symbol.{Symbol}
use Rattle.naming.specs.Walks.{symbol_of, value_of}
use Rattle.naming.proofs.ArityLaws.{arity-small}
use Rattle.naming.proofs.FindLaws.{is-there, find_none, find-some, find-below}

-- The symbols and the values.
taken :
    {A : Type 0} (give : Declaration → A) (read : Symbol → A) (xs : List Declaration) (es : List (Entry Symbol)) → length xs ≡ length es
    → ((j : ℕ) (d : Declaration) → get_elem? xs j ≡ some d → read (get_or es j no_symbol).value ≡ give d) → map give xs ≡ map (λ e. read e.value) es
taken give read [] [] l h = refl
taken give read [] (e ∷ es) l h = absurd (omega arith)
taken give read (x ∷ xs) [] l h = absurd (omega arith)
taken give read (x ∷ xs) (e ∷ es) l h = ap₂ ◌∷◌ (sym (h 0 x refl)) (taken give read xs es (omega arith) (λ j d q. h (suc j) d q))

pub symbols-taken : (t : Table Symbol) → Declared t → map (λ (d : Declaration). d.symbol) (text_declarations t.text) ≡ map (λ (e : Entry Symbol). symbol_of e.value) t.entries
symbols-taken t D = taken (λ d. d.symbol) symbol_of (text_declarations t.text) t.entries D.count D.symbol

pub values-taken : (t : Table Symbol) → Declared t → map (λ (d : Declaration). d.value) (text_declarations t.text) ≡ map (λ (e : Entry Symbol). value_of e.value) t.entries
values-taken t D = taken (λ d. d.value) value_of (text_declarations t.text) t.entries D.count D.value

pub small-taken : (t : Table Symbol) → Declared t → text_unread t.text ≡ none → (j : ℕ) → j < length t.entries → arity (symbol_of (symbol_at t j)) ≤ 15
small-taken t D e j l =
    let x = is-there (text_declarations t.text) j (omega (arith, D.count)) in
    omega (arith, ap arity (D.symbol j x.0 x.1), arity-small t.text e j x.0 x.1)

-- Uses, by what is found in the table.
module _ (t : Table Symbol) (D : Declared t) (u : Use) (r : Code ℕ) (found : r ≡ found_at (last_with (is_name u.name) (name_at t) (length t.entries))) where
  pub found_none : r ≡ None → well_used (text_declarations t.text) u ≡ false
  unfolding well_used declared_at has_arity
  found_none e = ap (λ o. has_arity (declared_at (text_declarations t.text) o) u.arguments) (find_none t D u.name r found e)

  pub found_some : (j : ℕ) → r ≡ Some j → well_used (text_declarations t.text) u ≡ eqb (arity (symbol_of (symbol_at t j))) u.arguments
  unfolding well_used declared_at has_arity
  found_some j f =
      let ds = text_declarations t.text in
      let x = is-there ds j (omega (arith, D.count, find-below t D u.name r found j f)) in
      ap (λ o. has_arity (declared_at ds o) u.arguments) (find-some t D u.name r found j f)
      ∙ ap (λ o. has_arity o u.arguments) x.1
      ∙ ap (λ s. eqb (arity s) u.arguments) (sym (D.symbol j x.0 x.1))
