-- The invariant: the arguments are counted as far as the walk has come.
use Rattle.std.proofs.Common.{◌∙◌, ap, subst}
use Rattle.text.specs.Tokens.{TextEnds}
use Rattle.text.proofs.CountLaws.{no_arguments, first-argument, count-ended}
use Rattle.text.proofs.arguments.arguments.Goals as goal

pub returns-in_default : goal.returns-in_default
returns-in_default c = no_arguments c.args.text.now c.args.at c.next_token-first.result c.next_token-first.ensures c.in_default.not-Opening

pub loop-t-init : goal.loop-t-init
loop-t-init c =
    let i = c.into_iter-t-iterator.ensures.into_iter_gives in
    record {
      same = ap (λ w. w.text.now) i ∙ c.new-t-items.ensures.0;
      counted = rw (ap (λ w. w.at) i ∙ c.new-t-items.ensures.1) (first-argument c.args.text.now c.args.at c.next_token-first.result c.next_token-first.ensures c.in-Opening.is);
    }

pub returns : goal.returns
returns c =
    let l = c.loop-t in
    let z = subst (λ x. TextEnds x l.t-iterator.at) l.invariant.same c.in-None.ensures.steps.found in
    count-ended c.args.text.now c.args.at l.t-iterator.at l.count z.token z.next l.invariant.counted z.kind
