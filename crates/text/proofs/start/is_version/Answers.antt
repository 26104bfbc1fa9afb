-- A name of two bytes.
use Rattle.std.proofs.Common.{sym, ap, ◌∙◌}
use lib.Dec.{eqb}
use lib.Pointwise.{pointwise}
use Rattle.text.specs.Kinds.{kind_of}
use Rattle.text.proofs.StartLaws.{version-tested, no-version}
use Rattle.text.proofs.start.is_version.Goals as goal

pub returns-in_default : goal.returns-in_default
returns-in_default c = record { tested = λ u k b. no-version c.args.t.kind u c.in_default.not-Name k; name = λ e. cc }

pub returns : goal.returns
returns c =
    record {
      tested = λ u k b. version-tested u _ (k ∙ ap kind_of c.in-Name.is) b ∙ ap (pointwise eqb _) (sym c.as_slice.ensures) ∙ sym c.eq.ensures;
      name = λ e. c.in-Name.is;
    }
