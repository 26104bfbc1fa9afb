-- By the token after the name.
use mathlib.Core.Path.{ap}
use Rattle.text.proofs.CountLaws.{no_arguments}
use Rattle.uses.specs.Pairs.{told}
use Rattle.uses.proofs.CheckLaws.{some-arguments}
use Rattle.uses.proofs.walk.Uses.arguments.Goals as goal

pub returns-in-Opening : goal.returns-in-Opening
returns-in-Opening c =
    let u = c.args.self.now in
    let n = c.next_token in
    some-arguments u.text.text.now u.at n.result n.ensures u.given u.i u.some u.known c.in-Opening.is

pub returns-in_default : goal.returns-in_default
returns-in_default c = let u = c.args.self.now in let n = c.next_token in ap told (no_arguments u.text.text.now u.at n.result n.ensures c.in_default.not-Opening)
