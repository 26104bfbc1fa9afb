-- The invariant: the entries so far are counted.
use native.Mathlib.Omega.{arith}
use Rattle.text_rules.specs.Text.{text_entries}
use Rattle.encoding.proofs.WalkLaws.{walk-on, walk-end}
use Rattle.encoding.proofs.sizes.sizes_of.Goals as goal

pub with-s-requires : goal.with-s-requires
with-s-requires c = let w = c.loop-entry.invariant.2 in (w.fewer, let o = c.in-Some.ensures.steps.next in omega (arith, w.few, o.1, o.2))

pub loop-entry-preserved : goal.loop-entry-preserved
loop-entry-preserved c =
    let l = c.loop-entry in
    (tt, tt, walk-on (text_entries c.args.all.text.text.now) l.entry-iterator c.next.new.self l.s l.invariant.2 c.in-Some.entry c.in-Some.ensures.steps.next c.with-s.result c.with-s.ensures)

pub returns : goal.returns
returns c = let l = c.loop-entry in walk-end (text_entries c.args.all.text.text.now) l.entry-iterator c.next.new.self l.s l.invariant.2 c.in-None.ensures.steps.next
