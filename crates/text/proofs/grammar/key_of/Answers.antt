-- A name of two bytes.
use Rattle.std.proofs.Common.{sym, ap, ◌∙◌}
use lib.Dec.{eqb}
use lib.Pointwise.{pointwise}
use Rattle.text.specs.Kinds.{kind_of}
use Rattle.text.proofs.GrammarLaws.{first-key, second-key, third-key, other-name, no-key}
use Rattle.text.proofs.grammar.key_of.Goals as goal

pub returns-in_default : goal.returns-in_default
returns-in_default c = λ u k b. no-key c.args.t.kind u c.in_default.not-Name k

pub returns-then-eq : goal.returns-then-eq
returns-then-eq c = λ u k b. first-key u _ (k ∙ ap kind_of c.in-Name.is) b (ap (pointwise eqb _) (sym c.as_slice.ensures) ∙ sym c.eq.ensures ∙ c.if-eq.true)

pub returns-then-eq-2 : goal.returns-then-eq-2
returns-then-eq-2 c = λ u k b.
    second-key u _ (k ∙ ap kind_of c.in-Name.is) b (ap (pointwise eqb _) (sym c.as_slice.ensures) ∙ sym c.eq.ensures ∙ c.if-eq.false)
    (ap (pointwise eqb _) (sym c.as_slice-2.ensures) ∙ sym c.eq-2.ensures ∙ c.if-eq-2.true)

pub returns-then-eq-3 : goal.returns-then-eq-3
returns-then-eq-3 c = λ u k b.
    third-key u _ (k ∙ ap kind_of c.in-Name.is) b (ap (pointwise eqb _) (sym c.as_slice.ensures) ∙ sym c.eq.ensures ∙ c.if-eq.false)
    (ap (pointwise eqb _) (sym c.as_slice-2.ensures) ∙ sym c.eq-2.ensures ∙ c.if-eq-2.false)
    (ap (pointwise eqb _) (sym c.as_slice-3.ensures) ∙ sym c.eq-3.ensures ∙ c.if-eq-3.true)

pub returns : goal.returns
returns c = λ u k b.
    other-name u _ (k ∙ ap kind_of c.in-Name.is) b (ap (pointwise eqb _) (sym c.as_slice.ensures) ∙ sym c.eq.ensures ∙ c.if-eq.false)
    (ap (pointwise eqb _) (sym c.as_slice-2.ensures) ∙ sym c.eq-2.ensures ∙ c.if-eq-2.false)
    (ap (pointwise eqb _) (sym c.as_slice-3.ensures) ∙ sym c.eq-3.ensures ∙ c.if-eq-3.false)
