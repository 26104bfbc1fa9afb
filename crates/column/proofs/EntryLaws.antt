-- The entry of a column: the first cell of the term of a place, and the value of its symbol.
use Prim.Native.Nat.{ℕ, zero, suc, ◌-◌, ◌≤◌, ◌<◌}
use mathlib.Core.Path.{◌≡◌, refl, sym, ◌∙◌, ap, subst}
use mathlib.Core.Option.{none}
use mathlib.Core.List.{List, [], ◌∷◌, ◌++◌}
use native.Mathlib.Omega.{arith}
use lib.ListN.{length, get_or}
use Rattle.rules.specs.Terms.{Terms, nil, cons, ◌+++◌, count}
use Rattle.rules.specs.Cells.{write_terms}
use Rattle.rules.specs.Syntax.{Format}
use Rattle.rules.specs.Column.{number_word, term_word, entry_word}
use Rattle.rules.proofs.CellLaws.{terms-length}
use Rattle.matching.specs.Taking.{drop_t, head_t}
use Rattle.matching.specs.Written.{writes}
use Rattle.matching.specs.Cells.{made, reads, from, Formed}
use Rattle.matching.proofs.CellLaws.{made-functor, made-var, from_cell}
use Rattle.matching.proofs.WrittenLaws.{whole-writes, whole-formed, writes-terms, reads-terms}
use Rattle.resolvents.proofs.CellTrees.{terms-fit}
use Rattle.column.specs.Entries.{EntryAt}

-- The word of a cell's term.
pub variable-word : (F : Format) (c : ℕ) (us : Terms) → 32768 ≤ c → term_word F (made c us) ≡ none
unfolding term_word
variable-word F c us h = ap (term_word F) (made-var c us h)

pub symbol-word : (F : Format) (c : ℕ) (us : Terms) → c < 32768 → term_word F (made c us) ≡ number_word F c
unfolding term_word
symbol-word F c us h = ap (term_word F) (made-functor c us h)

-- Terms after some.
pub drop_count : (n : ℕ) (ts : Terms) → count (drop_t n ts) ≡ count ts - n
drop_count zero ts = omega arith
drop_count (suc n) nil = omega arith
drop_count (suc n) (cons t ts) = omega (arith, drop_count n ts)

pub drop_next : (n : ℕ) (ts : Terms) → drop_t 1 (drop_t n ts) ≡ drop_t (suc n) ts
drop_next zero nil = refl
drop_next zero (cons t ts) = refl
drop_next (suc n) nil = refl
drop_next (suc n) (cons t ts) = drop_next n ts

entry-head : (F : Format) (place : ℕ) (ts : Terms) → place < count ts → entry_word F place ts ≡ term_word F (head_t (drop_t place ts))
unfolding entry_word
entry-head F place nil h = absurd (omega (arith, h))
entry-head F zero (cons t ts) h = refl
entry-head F (suc place) (cons t ts) h = entry-head F place ts (omega (arith, h))

-- The cells are in order, and are read as the terms.
module _ {ar cells : List ℕ} {ts : Terms} {place : ℕ} (e : EntryAt ar cells ts place) where
  none_left : cells ≡ write_terms ts []
  none_left = go e.terms.rest refl
    where
      go : (rest : List ℕ) → e.terms.rest ≡ rest → cells ≡ write_terms ts []
      go [] q = e.terms.written ∙ ap (write_terms ts) q
      go (c ∷ cs) q = absurd (omega (arith, ap length (e.terms.written ∙ ap (write_terms ts) q), terms-length ts (c ∷ cs), e.many))

  pub entry-formed : Formed ar cells
  entry-formed =
      let fits = terms-fit ar e.terms.symbols e.terms.read ts e.terms.formed in
      let same : writes-cells ≡ cells = append-nil-writes ∙ sym none_left in
      subst (Formed ar) same (whole-formed (whole-writes ar ts fits [] tt) (omega (arith, ap length same, e.short)))
    where
      writes-cells : List ℕ
      writes-cells = writes ts ++ []

      append-nil-writes : writes-cells ≡ write_terms ts []
      append-nil-writes = writes-terms ts []

  pub entry-reads : from ar cells 0 ≡ ts
  unfolding reads
  entry-reads =
      let fits = terms-fit ar e.terms.symbols e.terms.read ts e.terms.formed in
      ap (reads ar) none_left ∙ reads-terms ar ts fits [] ∙ join-nil ts
    where
      join-nil : (us : Terms) → us +++ nil ≡ us
      join-nil nil = refl
      join-nil (cons u us) = ap (cons u) (join-nil us)

  -- The term of the place, by its first cell.
  pub entry-word : (F : Format) (at : ℕ) → at < length cells → from ar cells at ≡ drop_t place ts
      → (us : Terms) × (entry_word F place ts ≡ term_word F (made (get_or cells at 0) us))
  entry-word F at h q = (_, entry-head F place ts e.inside ∙ ap (λ vs. term_word F (head_t vs)) (sym q ∙ from_cell ar cells at h))
