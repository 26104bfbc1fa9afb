-- The verdict by stop and parked goals.
use Rattle.std.proofs.Common.{refl, sym, ◌∙◌, arith}
use Rattle.rules.specs.Listing.{all_text, open_text}
use Rattle.listing.proofs.LineLaws.{verdict-parked, verdict-all, verdict-cut}
use Rattle.mean_program.proofs.line.verdict.Goals as goal

pub returns-in-Finished : goal.returns-in-Finished
unfolding open_text
returns-in-Finished c = λ ms gs p a. rw (c.in-Finished.is, verdict-parked ms gs (λ z. c.if-parked-ne0.true (sym p ∙ z))) refl

pub returns-in-Finished-2 : goal.returns-in-Finished-2
unfolding all_text
returns-in-Finished-2 c = λ ms gs p a. rw (c.in-Finished.is, verdict-all ms gs (p ∙ c.if-parked-ne0.false) (λ z. omega (arith, a, z))) refl

pub returns-in_default : goal.returns-in_default
unfolding open_text
returns-in_default c = λ ms gs p a. rw (verdict-cut ms gs c.args.stop c.in_default.not-Finished) refl
