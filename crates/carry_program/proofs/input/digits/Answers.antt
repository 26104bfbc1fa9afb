-- Each digit goes into the budget; the first other byte ends it.
use Rattle.std.proofs.Common.{◌+◌, ℕ, drop, ap, sym, ◌∙◌}
use Rattle.rules.specs.CarryProgram.{budget_after}
use Rattle.carry_program.proofs.InputLaws.{budget_after-digit, budget_after-other, budget_after-end}
use Rattle.carry_program.proofs.input.digits.Goals as goal

pub returns-then-not-is_ascii_digit : goal.returns-then-not-is_ascii_digit
returns-then-not-is_ascii_digit c =
    let l = c.loop-byte in
    sym (budget_after-other l.n c.args.text.now l.byte-index c.loop-byte-test.true (sym c.is_ascii_digit.ensures.value ∙ c.if-not-is_ascii_digit.true)) ∙ l.invariant

pub loop-byte-preserved : goal.loop-byte-preserved
loop-byte-preserved c =
    let l = c.loop-byte in
    let text = c.args.text.now in
    ap (λ (m : ℕ). budget_after m (drop (l.byte-index + 1) text)) c.with_digit-n.ensures
    ∙ sym (budget_after-digit l.n text l.byte-index c.loop-byte-test.true (sym c.is_ascii_digit.ensures.value ∙ c.if-not-is_ascii_digit.false)) ∙ l.invariant

pub returns : goal.returns
returns c =
    let l = c.loop-byte in
    sym (budget_after-end l.n c.args.text.now l.byte-index c.loop-byte-test.false) ∙ l.invariant
