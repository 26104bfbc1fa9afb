-- The invariant: what is known of the declarations that are passed.
use Rattle.std.proofs.Common.{◌<◌, ◌∙◌, sym, ap, length, arith}
use Rattle.text_rules.specs.Text.{text_declarations}
use Rattle.text.specs.declared.readable.Readable.{Readable}
use Rattle.naming.proofs.WindowLaws.{none-known, known-below, known-all}
use Rattle.naming.proofs.windows.declared_twice.Goals as goal

pub loop-passed-init : goal.loop-passed-init
loop-passed-init c =
    let counted = ap (λ (r : Readable). length (text_declarations r.text.now)) (sym c.count.ensures) ∙ c.count.result.counted.count in
    record { same = c.new-passed.ensures.0; known = rw (c.new-passed.ensures.1) (none-known c.args.text.text.now _ counted) }

pub loop-passed-smaller : goal.loop-passed-smaller
loop-passed-smaller c =
    let l = c.loop-passed in
    let text = c.args.text.text.now in
    let b : l.passed.count < length (text_declarations text) = omega (arith, c.loop-passed-test.true, known-below text l.passed.count l.known l.invariant.known) in
    let same = ap (λ (r : Readable). length (text_declarations r.text.now)) l.invariant.same in
    omega (arith, b, same, c.skip-passed.ensures.more (omega (arith, b, same)))

pub returns : goal.returns
returns c =
    let l = c.loop-passed in
    known-all c.args.text.text.now l.passed.count l.known l.invariant.known c.loop-passed-test.false
