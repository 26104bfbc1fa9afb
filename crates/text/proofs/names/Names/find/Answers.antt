-- The invariant: the name is looked for along the chain of its bucket.
use Rattle.std.proofs.Common.{◌≡◌, ◌<◌, None, length, get_or, subst, ap, sym, ◌∙◌, arith, rules}
use lib.Dec.{eqb}
use lib.Pointwise.{pointwise}
use Rattle.text.specs.Hash.{in_bucket, last_with, found_at, is_name}
use Rattle.text.specs.Names.{the_table, slot_name, name_at}
use Rattle.text.proofs.GrammarLaws.{same_pointwise}
use Rattle.text.proofs.NameLaws.{Chain, one_more, Here, chain-start, one-taken, here, chain-found, chain-falls, chain-next, chain-end, size-of, seen}
use Rattle.text.proofs.names.Names.find.Goals as goal
use Rattle.text.proofs.names.Names.find.Goals.{After-from-j, After-slot_at-slot}

taken : (g : _) (k : After-from-j g) → k.from-j.result < k.self.inside.count
taken g k =
    let i = k.self.inside in
    one-taken g.row.N i.text.now i.slots.row i.heads i.count k.self.invariant k.args.bytes.now k.loop-next.next k.in-Some.k k.from-j.result k.in-Some.is k.from-j.ensures k.loop-next.invariant

pub loop-next-init : goal.loop-next-init
loop-next-init g c =
    let i = c.self.inside in
    chain-start (slot_name i.text.now i.slots.row) c.args.bytes.now i.count (get_or i.heads c.hash.result None)
    (c.self.invariant.head c.hash.result c.hash.ensures.small ∙ ap (λ h. found_at (last_with (in_bucket h) (slot_name i.text.now i.slots.row) i.count)) c.hash.ensures.equal)

pub slot_at-slot-requires : goal.slot_at-slot-requires
slot_at-slot-requires g c = let l = taken g (goal.at.slot_at-slot-requires g c).After-from-j in omega (arith, l, c.self.invariant.few)

-- What is known of the slot.
there : (g : _) (k : After-slot_at-slot g) → Here k.self.inside.text.now k.self.inside.slots.row k.args.bytes.now k.self.inside.count k.from-j.result k.loop-next.next k.slot_at-slot.result.now
there g k =
    let i = k.self.inside in
    here g.row.N i.text.now i.slots.row i.heads i.count k.self.invariant k.args.bytes.now k.loop-next.next k.in-Some.k k.from-j.result k.in-Some.is k.from-j.ensures k.loop-next.invariant k.slot_at-slot.result.now k.slot_at-slot.ensures

pub slice_bounds-eq-count : goal.slice_bounds-eq-count
slice_bounds-eq-count g c = (there g (goal.at.slice_bounds-eq-count g c).After-slot_at-slot).forward

pub slice_bounds-eq-start : goal.slice_bounds-eq-start
slice_bounds-eq-start g c = let h = there g (goal.at.slice_bounds-eq-start g c).After-slot_at-slot in search rules

pub slice_bounds-eq-end : goal.slice_bounds-eq-end
slice_bounds-eq-end g c = let h = there g (goal.at.slice_bounds-eq-end g c).After-slot_at-slot in search rules

pub returns-then-eq-clause-last : goal.returns-then-eq-clause-last
returns-then-eq-clause-last g c =
    let i = c.self.inside in
    let name = slot_name i.text.now i.slots.row in
    let h = there g (goal.at.returns-then-eq-clause-last g c).After-slot_at-slot in
    let V : the_table i.text.now i.slots.row i.count ≡ c.args.self.now = c.self.view_is in
    let m = chain-found name c.args.bytes.now i.count c.from-j.result h.chain
    (same_pointwise (name c.from-j.result) c.args.bytes.now ∙ ap (λ x. pointwise eqb x c.args.bytes.now) h.bytes ∙ sym c.eq.ensures ∙ c.if-eq.true) in
    ap found_at (sym m ∙ seen i.text.now i.slots.row i.count c.args.bytes.now (omega (arith, c.self.invariant.few, c.self.invariant.room)))
    ∙ ap (λ t. found_at (last_with (is_name c.args.bytes.now) (name_at t) (length t.entries))) V

pub loop-next-smaller : goal.loop-next-smaller
loop-next-smaller g c =
    let i = c.self.inside in
    let h = there g (goal.at.loop-next-smaller g c).After-slot_at-slot in
    omega (arith, h.size, chain-falls (slot_name i.text.now i.slots.row) c.args.bytes.now i.count c.from-j.result h.chain c.slot_at-slot.result.now.before h.before)

pub loop-next-preserved : goal.loop-next-preserved
loop-next-preserved g c =
    let i = c.self.inside in
    let name = slot_name i.text.now i.slots.row in
    let h = there g (goal.at.loop-next-preserved g c).After-slot_at-slot in
    chain-next name c.args.bytes.now i.count c.from-j.result h.chain c.slot_at-slot.result.now.before h.before
    (same_pointwise (name c.from-j.result) c.args.bytes.now ∙ ap (λ x. pointwise eqb x c.args.bytes.now) h.bytes ∙ sym c.eq.ensures ∙ c.if-eq.false)

pub returns-clause-last : goal.returns-clause-last
returns-clause-last g c =
    let i = c.self.inside in
    let name = slot_name i.text.now i.slots.row in
    let V : the_table i.text.now i.slots.row i.count ≡ c.args.self.now = c.self.view_is in
    let m = chain-end name c.args.bytes.now i.count (subst (λ o. Chain name c.args.bytes.now i.count (one_more o)) c.in_default.is c.loop-next.invariant) in
    ap found_at (sym m ∙ seen i.text.now i.slots.row i.count c.args.bytes.now (omega (arith, c.self.invariant.few, c.self.invariant.room)))
    ∙ ap (λ t. found_at (last_with (is_name c.args.bytes.now) (name_at t) (length t.entries))) V

pub returns-then-eq-clause-inside : goal.returns-then-eq-clause-inside
returns-then-eq-clause-inside g c =
    let i = c.self.inside in
    let l = taken g (goal.at.returns-then-eq-clause-inside g c).After-from-j in
    let size = ap (λ t. length t.entries) c.self.view_is in
    (omega (arith, l, size, size-of i.slots.row i.count (omega (arith, c.self.invariant.few, c.self.invariant.room))), omega (arith, l, c.self.invariant.few))
