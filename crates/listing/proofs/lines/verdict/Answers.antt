-- The verdict by stop, parked goals and answers.
use mathlib.Core.Path.{refl, sym, ◌∙◌}
use Rattle.rules.specs.Listing.{no_text, all_text, open_text}
use Rattle.listing.proofs.LineLaws.{verdict-parked, verdict-no, verdict-all, verdict-cut}
use Rattle.listing.proofs.lines.verdict.Goals as goal

pub returns-in-Finished : goal.returns-in-Finished
unfolding open_text
returns-in-Finished c = λ ms gs p a. rw (c.in-Finished.is, verdict-parked ms gs (λ z. c.if-parked-ne0.true (sym p ∙ z))) refl

pub returns-in-Finished-2 : goal.returns-in-Finished-2
unfolding no_text
returns-in-Finished-2 c = λ ms gs p a. rw (c.in-Finished.is, verdict-no ms gs (p ∙ c.if-parked-ne0.false) (a ∙ c.if-answers-eq0.true)) refl

pub returns-in-Finished-3 : goal.returns-in-Finished-3
unfolding all_text
returns-in-Finished-3 c = λ ms gs p a. rw (c.in-Finished.is, verdict-all ms gs (p ∙ c.if-parked-ne0.false) (λ z. c.if-answers-eq0.false (sym a ∙ z))) refl

pub returns-in_default : goal.returns-in_default
unfolding open_text
returns-in_default c = λ ms gs p a. rw (verdict-cut ms gs c.args.stop c.in_default.not-Finished) refl
