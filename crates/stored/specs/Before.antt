-- Goals read, and then others.
use Rattle.std.specs.Prelude.{List, ◌++◌}
use Rattle.std.proofs.Math.Option.{Option, none, some}
use Rattle.rules.specs.Goals.{Marked}

unfoldable pub before : List Marked → Option (List Marked) → Option (List Marked)
before ms none = none
before ms (some ns) = some (ms ++ ns)
