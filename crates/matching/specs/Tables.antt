-- The table of a matching.
use Rattle.std.specs.Prelude.{◌≡◌}
use Rattle.matching.specs.declared.bindings.Table.{Table}

-- At most the stamps have changed.
pub record Same (table table' : Table) : Type 0 where
  pub bind : table'.bind ≡ table.bind
  pub trail : table'.trail ≡ table.trail
  pub bound : table'.bound ≡ table.bound
