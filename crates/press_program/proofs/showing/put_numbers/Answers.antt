-- The numbers one after another; each takes eight bytes of the room.
use Rattle.std.proofs.Common.{arith}
use Rattle.carry_program.proofs.OutputLaws.{number-length}
use Rattle.evaluation.specs.Displays.{display_of}
use Rattle.press_program.proofs.ShowLaws.{room-after, numbers-add}
use Rattle.press_program.proofs.showing.put_numbers.Goals as goal

pub put_number-requires-2 : goal.put_number-requires-2
put_number-requires-2 c = omega (arith, room-after 8 40 c.put_number.ensures (number-length 8 c.args.display.steps) c.requires)

pub put_number-requires-3 : goal.put_number-requires-3
put_number-requires-3 c =
    let a = room-after 8 40 c.put_number.ensures (number-length 8 c.args.display.steps) c.requires in
    omega (arith, room-after 8 32 c.put_number-2.ensures (number-length 8 c.args.display.cost) a)

pub put_number-requires-4 : goal.put_number-requires-4
put_number-requires-4 c =
    let a = room-after 8 40 c.put_number.ensures (number-length 8 c.args.display.steps) c.requires in
    let b = room-after 8 32 c.put_number-2.ensures (number-length 8 c.args.display.cost) a in
    omega (arith, room-after 8 24 c.put_number-3.ensures (number-length 8 c.args.display.answers) b)

pub put_number-requires-5 : goal.put_number-requires-5
put_number-requires-5 c =
    let a = room-after 8 40 c.put_number.ensures (number-length 8 c.args.display.steps) c.requires in
    let b = room-after 8 32 c.put_number-2.ensures (number-length 8 c.args.display.cost) a in
    let e = room-after 8 24 c.put_number-3.ensures (number-length 8 c.args.display.answers) b in
    omega (arith, room-after 8 16 c.put_number-4.ensures (number-length 8 c.args.display.pending) e)

pub put_number-requires-6 : goal.put_number-requires-6
put_number-requires-6 c =
    let a = room-after 8 40 c.put_number.ensures (number-length 8 c.args.display.steps) c.requires in
    let b = room-after 8 32 c.put_number-2.ensures (number-length 8 c.args.display.cost) a in
    let e = room-after 8 24 c.put_number-3.ensures (number-length 8 c.args.display.answers) b in
    let f = room-after 8 16 c.put_number-4.ensures (number-length 8 c.args.display.pending) e in
    omega (arith, room-after 8 8 c.put_number-5.ensures (number-length 8 c.args.display.parked) f)

pub returns : goal.returns
returns c =
    numbers-add (display_of c.args.display) c.args.terms c.put_number.ensures c.put_number-2.ensures c.put_number-3.ensures c.put_number-4.ensures c.put_number-5.ensures
    c.put_number-6.ensures
