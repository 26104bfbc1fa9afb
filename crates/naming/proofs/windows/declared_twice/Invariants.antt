-- The invariant: what is known of the declarations that are passed.
use Rattle.std.proofs.Common.{◌≡◌, ◌-◌, length}
use Rattle.text_rules.specs.Text.{text_declarations}
use Rattle.naming.specs.Windows.{Known}
use Rattle.naming.proofs.windows.declared_twice.Given as goal

abbrev pub invariant-loop-passed : goal.invariant-loop-passed
invariant-loop-passed l = record { same : l.passed.text ≡ l.text; known : Known l.text.text.now l.passed.count l.known }

abbrev pub decreases-loop-passed : goal.decreases-loop-passed
decreases-loop-passed l = length (text_declarations l.text.text.now) - l.passed.count
