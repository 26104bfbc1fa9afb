-- Terms whose cells a slice of words begins with, and what the walks that print them promise.
use Rattle.std.specs.Prelude.{ℕ, ◌≤◌, ◌≡◌, List, [], ◌∷◌, drop}
use Rattle.std.proofs.Math.Option.{some}
use Rattle.rules.specs.Terms.{Term, var, app, Terms, nil, cons, count, size, sizes, vars_terms}
use Rattle.rules.specs.Syntax.{Symbol}
use Rattle.rules.specs.Cells.{write_terms}
use Rattle.rules.specs.Decks.{read_symbol, read_all}
use Rattle.rules.specs.WellFormed.{All, WfTerms}
use Rattle.rules.specs.Listing.{decimal}
use Rattle.listing.specs.declared.output.Output.{Output}
use Rattle.listing.specs.declared.terms.Printer.{Printer}
use Rattle.listing.specs.Put.{Fits, Adds}

-- The cells begin with those of well-formed terms. The symbols are those that the symbol words are read as.
pub record TermsAt (symbol_words cells : List ℕ) (ts : Terms) : Type 0 where
  pub symbols : List Symbol
  pub rest : List ℕ
  pub read : read_all read_symbol symbol_words ≡ some symbols
  pub written : cells ≡ write_terms ts rest
  pub formed : WfTerms symbols ts
  pub small : All (λ v. v ≤ 1023) (vars_terms ts [])

abbrev pub TermAt : List ℕ → List ℕ → Term → Type 0
TermAt symbol_words cells t = TermsAt symbol_words cells (cons t nil)

-- Terms as text: a variable as `sign` and its number, a symbol as `s` and its number, arguments in round brackets with commas. The listing's sign is `v`.
abbrev mutual
  pub show_term : ℕ → Term → List ℕ → List ℕ
  show_term sign (var v) rest = sign ∷ decimal v rest
  show_term sign (app f ts) rest = 115 ∷ decimal f (show_arguments sign ts rest)

  pub show_arguments : ℕ → Terms → List ℕ → List ℕ
  show_arguments sign nil rest = rest
  show_arguments sign (cons t ts) rest = 40 ∷ show_term sign t (show_more sign ts (41 ∷ rest))

  pub show_more : ℕ → Terms → List ℕ → List ℕ
  show_more sign nil rest = rest
  show_more sign (cons t ts) rest = 44 ∷ show_term sign t (show_more sign ts rest)

-- The walk printed `text` and passed so many cells.
pub record Walked (out : Output) (cells : List ℕ) (text : List ℕ) (count : ℕ) (after : Output) (others : List ℕ) : Type 0 where
  pub adds : Adds out text after
  pub passed : others ≡ drop count cells

-- A symbol's arguments, as many as its arity.
pub record ArgumentsAt (symbol_words cells : List ℕ) (arity : ℕ) (ts : Terms) : Type 0 where
  pub many : count ts ≡ arity
  pub arguments : TermsAt symbol_words cells ts

-- Room for the text of what the cells begin with, and that this text is what is printed, whatever they begin with.
module _ (p : Printer) (cells : List ℕ) where
  abbrev pub TermFits : Output → Type 0
  TermFits out = (t : Term) × TermAt p.symbols.now cells t × Fits out (show_term p.sign t [])

  abbrev pub TermPrinted : Output → Output → List ℕ → Type 0
  TermPrinted out after others =
      (t : Term) → TermAt p.symbols.now cells t → Walked out cells (show_term p.sign t []) (size t) after others

  abbrev pub AppliedFits : ℕ → ℕ → Output → Type 0
  AppliedFits symbol arity out = (ts : Terms) × ArgumentsAt p.symbols.now cells arity ts × Fits out (show_term p.sign (app symbol ts) [])

  abbrev pub AppliedPrinted : ℕ → ℕ → Output → Output → List ℕ → Type 0
  AppliedPrinted symbol arity out after others =
      (ts : Terms) → ArgumentsAt p.symbols.now cells arity ts → Walked out cells (show_term p.sign (app symbol ts) []) (sizes ts) after others
