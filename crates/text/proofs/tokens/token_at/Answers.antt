-- By the class of the first byte.
use Rattle.std.proofs.Common.{inl, inr, sym, ap, ◌∙◌}
use Rattle.text.specs.Kinds.{rule_class}
use Rattle.text.proofs.TokenLaws.{mark-scanned, invalid-scanned}
use Rattle.text.proofs.tokens.token_at.Goals as goal

pub number_token-requires : goal.number_token-requires
number_token-requires c = (c.requires, elim c.in-Zero.is [ inl e ↦ inl (sym c.class_of.ensures ∙ ap rule_class e) | inr e ↦ inr (sym c.class_of.ensures ∙ ap rule_class e) ])

pub returns-in-Mark : goal.returns-in-Mark
returns-in-Mark c = rw c.one_byte.ensures (mark-scanned c.args.text.now c.args.from c.requires c.in-Mark.kind (sym (ap rule_class c.in-Mark.is) ∙ c.class_of.ensures))

pub returns-in-Unknown : goal.returns-in-Unknown
returns-in-Unknown c = rw c.one_byte-in-Unknown.ensures (invalid-scanned c.args.text.now c.args.from c.requires c.class_of.result c.in-Unknown.is c.class_of.ensures)
