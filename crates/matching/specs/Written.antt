-- Terms written as cells in prefix notation. Assumes nothing.
use Rattle.std.specs.Prelude.{ℕ, ◌+◌, ◌%◌, ◌<◌, ◌≡◌, List, [], ◌∷◌, ◌++◌}
use Rattle.rules.specs.Terms.{Term, Terms, var, app, nil, cons, count}
use Rattle.signature.specs.Symbols.{symbol_count, arity_at}

-- a functor's number and then its arguments; 32,768 plus a variable's number
abbrev mutual
  pub write : Term → List ℕ
  write (var v) = (32768 + v) ∷ []
  write (app f ts) = f ∷ writes ts

  pub writes : Terms → List ℕ
  writes nil = []
  writes (cons t ts) = write t ++ writes ts

-- each functor is in `ar` and has as many arguments as it says there
abbrev mutual
  pub Fit : List ℕ → Term → Type 0
  Fit ar (var v) = Unit {0}
  Fit ar (app f ts) = (f < 32768) × (f % 16384 < symbol_count ar) × (arity_at ar (f % 16384) ≡ count ts) × Fits ar ts

  pub Fits : List ℕ → Terms → Type 0
  Fits ar nil = Unit {0}
  Fits ar (cons t ts) = Fit ar t × Fits ar ts
