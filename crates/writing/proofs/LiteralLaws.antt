-- Literals whose cells a row holds: the first of them, by its first cell, and the others.
use Prim.Native.Nat.{ℕ, ◌+◌, ◌-◌, ◌≤◌, ◌<◌}
use mathlib.Core.Path.{◌≡◌, refl, ap, sym, ◌∙◌}
use mathlib.Core.Option.{Option, none, some}
use mathlib.Core.List.{List, [], ◌∷◌, ◌++◌}
use native.Mathlib.Omega.{arith}
use lib.ListN.{length, get_elem?, drop}
use Rattle.rules.specs.Terms.{app, Terms, count, sizes, vars_terms}
use Rattle.rules.specs.Syntax.{Symbol, functor, predicate, Literal, pos, neg, vars_literals}
use Rattle.rules.specs.Cells.{write_terms, write_literals, positive, negative, symbol_cell, negated_cell, read_cell}
use Rattle.rules.specs.Decks.{read_symbol, read_all}
use Rattle.rules.specs.WellFormed.{All, WfTerms}
use Rattle.text_rules.specs.TextWriter.{literal_text}
use Rattle.rules.proofs.CellLaws.{Small, after-terms, other-terms, cell-symbol, cell-negated, written_as, drop-terms}
use Rattle.signature.proofs.SymbolLaws.{Word, symbol-known}
use Rattle.listing.specs.Standing.{TermsAt, show_term}
use Rattle.listing.proofs.StandLaws.{SymbolAt}
use Rattle.writing.specs.Literals.{LiteralsAt}
use Rattle.writing.proofs.TextParts.{positive-text, negative-text}

-- A predicate's number and arity by its cell.
positive-symbol : (p k : ℕ) (o : Option Symbol) → symbol_cell p o ≡ positive p k → o ≡ some (predicate k)
unfolding symbol_cell
positive-symbol p k none e = absurd (let z : ◌≡◌ {A = ℕ} 0 1 = cc in omega arith)
positive-symbol p k (some (functor m)) e = absurd (let z : ◌≡◌ {A = ℕ} 0 1 = cc in omega arith)
positive-symbol p k (some (predicate m)) e = cc

negative-symbol : (n p k : ℕ) (o : Option Symbol) → negated_cell n o ≡ negative p k → o ≡ some (predicate k)
unfolding negated_cell
negative-symbol n p k none e = absurd (let z : ◌≡◌ {A = ℕ} 0 1 = cc in omega arith)
negative-symbol n p k (some (functor m)) e = absurd (let z : ◌≡◌ {A = ℕ} 0 1 = cc in omega arith)
negative-symbol n p k (some (predicate m)) e = cc

positive-arity : (ws : List ℕ) (S : List Symbol) (p k : ℕ) → read_all read_symbol ws ≡ some S → read_cell S p ≡ positive p k → (p < 16384) × Word ws p k
positive-arity ws S p k e h =
    let l : p < 16384 = (written_as S p (positive p k) h).1 in
    (l, symbol-known ws S e p (predicate k) (positive-symbol p k (get_elem? S p) (sym (cell-symbol S p l) ∙ h)))

negative-arity : (ws : List ℕ) (S : List Symbol) (p k : ℕ) → read_all read_symbol ws ≡ some S → read_cell S (16384 + p) ≡ negative p k → (p < 16384) × Word ws p k
negative-arity ws S p k e h =
    let l : 16384 + p < 32768 = (written_as S (16384 + p) (negative p k) h).1 in
    let n : 16384 + p - 16384 ≡ p = omega arith in
    let at : negated_cell (16384 + p - 16384) (get_elem? S (16384 + p - 16384)) ≡ negative p k = sym (cell-negated S (16384 + p) (omega arith) l) ∙ h in
    (omega arith, symbol-known ws S e p (predicate k) (rw n at (negative-symbol (16384 + p - 16384) p k (get_elem? S (16384 + p - 16384)) at)))

-- The literal in front: its predicate's number, what stands before it, its arguments and the literals after it.
pub record Here (words others : List ℕ) (predicate : ℕ) (mark : List ℕ) (l : Literal) (ls : List Literal) : Type 0 where
  pub terms : Terms
  pub atom : SymbolAt words others predicate terms
  pub text : literal_text l [] ≡ mark ++ show_term 95 (app predicate terms) []
  pub after : LiteralsAt words (drop (sizes terms) others) ls

-- The arguments after the first cell.
arguments-at :
    (words cells others : List ℕ) (ls : List Literal) (a : LiteralsAt words cells ls) (ts : Terms) (ms : List Literal)
    → others ≡ write_terms ts (write_literals ms) → WfTerms a.symbols ts → All Small (vars_terms ts (vars_literals ms)) → TermsAt words others ts
arguments-at words cells others ls a ts ms e w s = record {
  symbols = a.symbols;
  rest = write_literals ms;
  read = a.read;
  written = e;
  formed = w;
  small = other-terms Small ts (vars_literals ms) [] s tt;
}

module _ (words : List ℕ) {cells : List ℕ} (cell : ℕ) (others : List ℕ) (e : cells ≡ cell ∷ others) where
  pub positive-here : (l : Literal) (ls : List Literal) → LiteralsAt words cells (l ∷ ls) → cell < 16384 → Here words others cell [] l ls
  positive-here (pos p ts) ls a h =
      let w : cell ∷ others ≡ p ∷ write_terms ts (write_literals ls) = sym e ∙ a.written in
      let same : cell ≡ p = cc in
      let rest : others ≡ write_terms ts (write_literals ls) = cc in
      let k = positive-arity words a.symbols p (count ts) a.read a.formed.0.0 in
      record {
        terms = ts;
        atom = record {
          known = rw same k.1.0;
          arity = rw same k.1.1;
          arguments = arguments-at words cells others (pos p ts ∷ ls) a ts ls rest a.formed.0.1 a.small;
        };
        text = rw same (positive-text p ts []);
        after = record {
          symbols = a.symbols;
          read = a.read;
          written = ap (drop (sizes ts)) rest ∙ drop-terms ts (write_literals ls);
          formed = a.formed.1;
          small = after-terms Small ts (vars_literals ls) a.small;
        };
      }
  positive-here (neg p ts) ls a h =
      let w : cell ∷ others ≡ (16384 + p) ∷ write_terms ts (write_literals ls) = sym e ∙ a.written in
      let same : cell ≡ 16384 + p = cc in
      absurd (omega (arith, same))

  pub negative-here : (l : Literal) (ls : List Literal) → LiteralsAt words cells (l ∷ ls) → 16384 ≤ cell → Here words others (cell - 16384) (126 ∷ []) l ls
  negative-here (pos p ts) ls a h =
      let w : cell ∷ others ≡ p ∷ write_terms ts (write_literals ls) = sym e ∙ a.written in
      let same : cell ≡ p = cc in
      let k = positive-arity words a.symbols p (count ts) a.read a.formed.0.0 in
      absurd (omega (arith, k.0, same))
  negative-here (neg p ts) ls a h =
      let w : cell ∷ others ≡ (16384 + p) ∷ write_terms ts (write_literals ls) = sym e ∙ a.written in
      let first : cell ≡ 16384 + p = cc in
      let rest : others ≡ write_terms ts (write_literals ls) = cc in
      let same : cell - 16384 ≡ p = omega (arith, first) in
      let k = negative-arity words a.symbols p (count ts) a.read a.formed.0.0 in
      record {
        terms = ts;
        atom = record {
          known = rw same k.1.0;
          arity = rw same k.1.1;
          arguments = arguments-at words cells others (neg p ts ∷ ls) a ts ls rest a.formed.0.1 a.small;
        };
        text = rw same (negative-text p ts []);
        after = record {
          symbols = a.symbols;
          read = a.read;
          written = ap (drop (sizes ts)) rest ∙ drop-terms ts (write_literals ls);
          formed = a.formed.1;
          small = after-terms Small ts (vars_literals ls) a.small;
        };
      }

module _ (words cells : List ℕ) where
  pub literal-inside : (l : Literal) (ls : List Literal) → LiteralsAt words cells (l ∷ ls) → 0 < length cells
  literal-inside (pos p ts) ls a = rw a.written (omega arith)
  literal-inside (neg p ts) ls a = rw a.written (omega arith)

  -- Where cells are left there is a literal, and where there are none, none.
  pub record Split (ls : List Literal) : Type 0 where
    pub first : Literal
    pub others : List Literal
    pub same : ls ≡ first ∷ others
    pub here : LiteralsAt words cells (first ∷ others)

  pub split : (ls : List Literal) → LiteralsAt words cells ls → (length cells ≡ 0 → ⊥) → Split ls
  split [] a left = absurd (left (ap length a.written))
  split (l ∷ ls) a left = record { first = l; others = ls; same = refl; here = a }

  pub no_more : (ls : List Literal) → LiteralsAt words cells ls → length cells ≡ 0 → ls ≡ []
  no_more [] a z = refl
  no_more (l ∷ ls) a z = absurd (omega (arith, literal-inside l ls a))
