-- The fold of the rules, up to 65,535.
use Rattle.std.proofs.Common.{◌≡◌, ◌+◌, ◌*◌, ◌-◌, min, rules, ◌∙◌}
use Rattle.std.specs.List.{fold}
use Rattle.std.proofs.iter.runs.Made.{chains}
use Rattle.text.proofs.ScanLaws.{decimal-value}
use Rattle.text.proofs.tokens.decimal.Goals as goal

pub returns : goal.returns
returns c =
    let e : c.fold.result ≡ fold (λ n b. min 65535 (min 65535 (n * 10) + (b - 48))) 0 c.args.digits.now = search (rules, chains) in
    e ∙ decimal-value 0 c.args.digits.now
