-- The name becomes the last of its bucket.
use Rattle.std.proofs.Common.{◌≡◌, ◌<◌, length, ap, ◌∙◌, arith}
use Rattle.text.specs.Names.{the_table, entered}
use Rattle.text.proofs.NameLaws.{one-entered, chained-more, size-of}
use Rattle.text.proofs.names.Names.enter.Goals as goal

pub invariant_of-self : goal.invariant_of-self
invariant_of-self g c =
    let i = c.self.inside in
    let V : the_table i.text.now i.slots.row i.count ≡ c.args.self.now = c.self.view_is in
    let r : i.count < g.row.N = omega (arith, c.requires.room, ap (λ t. length t.entries) V, size-of i.slots.row i.count (omega (arith, c.self.invariant.few, c.self.invariant.room))) in
    rw c.put_slot.ensures (chained-more g.row.N i.text.now i.slots.row i.heads i.count c.self.invariant c.args.entry c.hash-h.result r c.requires.forward
    (omega (arith, c.requires.inside, ap (λ t. length t.text) V)) c.hash-h.ensures.equal c.hash-h.ensures.small)

pub returns : goal.returns
returns g c =
    let i = c.self.inside in
    let V : the_table i.text.now i.slots.row i.count ≡ c.args.self.now = c.self.view_is in
    let r : i.count < length i.slots.row = omega (arith, c.requires.room, ap (λ t. length t.entries) V, size-of i.slots.row i.count (omega (arith, c.self.invariant.few, c.self.invariant.room)), c.self.invariant.room) in
    rw c.put_slot.ensures (one-entered i.text.now i.slots.row i.count _ r ∙ ap (λ t. entered t c.args.entry) V)
