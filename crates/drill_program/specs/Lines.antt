-- Terms whose cells a list begins with, and what is printed of them.
use Rattle.std.specs.Prelude.{ℕ, ◌≡◌, List}
use Rattle.rules.specs.Terms.{Terms, count}
use Rattle.rules.specs.DrillProgram.{print_lines}
use Rattle.listing.specs.declared.output.Output.{Output}
use Rattle.listing.specs.Put.{Fits, Adds}
use Rattle.listing.specs.Standing.{TermsAt}

-- Room for the lines of so many terms, and that these lines are what is printed, whatever terms the cells begin with.
module _ (symbol_words cells : List ℕ) (number : ℕ) where
  abbrev pub LinesFit : Output → Type 0
  LinesFit out = (ts : Terms) × TermsAt symbol_words cells ts × (count ts ≡ number) × Fits out (print_lines ts)

  abbrev pub LinesPrinted : Output → Output → Type 0
  LinesPrinted out after = (ts : Terms) → TermsAt symbol_words cells ts → count ts ≡ number → Adds out (print_lines ts) after
