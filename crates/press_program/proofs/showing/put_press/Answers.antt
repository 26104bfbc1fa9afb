-- The store's goals end where they are found to end; the line, the numbers and the words are put one after another.
use Rattle.std.proofs.Common.{◌≤◌, ◌++◌, ◌∷◌, [], refl, ap, length, take, length-take-le, arith}
use lib.ListN.{length-append}
use Rattle.rules.specs.Press.{left_by}
use Rattle.rules.specs.Program.{bytes_from}
use Rattle.rules.specs.Run.{store_start}
use Rattle.report.specs.Reports.{advance_of}
use Rattle.evaluation.specs.Displays.{display_of}
use Rattle.listing.specs.Put.{Adds}
use Rattle.listing.proofs.ByteLaws.{bytes-length}
use Rattle.listing.proofs.PrintedLaws.{put-printed}
use Rattle.listing.proofs.PutLaws.{put_at_start, adds_then, adds-length}
use Rattle.carry_program.specs.Finished.{Counted}
use Rattle.carry_program.proofs.OutputLaws.{some-goals, goals-end}
use Rattle.press_program.specs.PressProgram.{advance_text, numbers_bytes, press_text}
use Rattle.press_program.proofs.ShowLaws.{line-short, numbers-length}
use Rattle.press_program.proofs.showing.put_press.Goals as goal

pub put-requires : goal.put-requires
put-requires c =
    let o = c.new-out.ensures in
    omega (arith, o.start, ap length o.bytes, c.told-bytes, ap length c.line.ensures, line-short (advance_of c.args.advance))

pub put_numbers-requires : goal.put_numbers-requires
put_numbers-requires c =
    let o = c.new-out.ensures in
    let a = c.put.ensures in
    omega (arith, o.start, ap length o.bytes, c.told-bytes, a.put.place, adds-length a, ap length c.line.ensures, line-short (advance_of c.args.advance))

pub put_words-requires : goal.put_words-requires
put_words-requires c =
    let k = c.requires.1 in
    let counted : Counted (left_by k.pressed) c.args.display.pending c.args.display.parked c.args.deck.now.words.now c.args.terms c.args.store.now = (k.pending, k.parked, k.left) in
    let g = goals-end counted _ _ (c.in-Some.ensures k.left.deck k.left.opens) in
    let o = c.new-out.ensures in
    let a = c.put.ensures in
    let b = c.put_numbers.ensures in
    omega (
      arith,
      o.start,
      ap length o.bytes,
      c.told-bytes,
      a.put.place,
      adds-length a,
      ap length c.line.ensures,
      line-short (advance_of c.args.advance),
      b.put.place,
      adds-length b,
      numbers-length (display_of c.args.display) c.args.terms,
      bytes-length (take c.in-Some.end c.args.store.now),
      length-take-le c.in-Some.end c.args.store.now g.0,
      g.0,
      c.told-store,
    )

pub returns : goal.returns
unfolding press_text
returns c = λ k f.
    let counted : Counted (left_by f.pressed) c.args.display.pending c.args.display.parked c.args.deck.now.words.now c.args.terms c.args.store.now = (f.pending, f.parked, f.left) in
    let g = goals-end counted _ _ (c.in-Some.ensures f.left.deck f.left.opens) in
    let o = c.new-out.ensures in
    let line = advance_text (advance_of c.args.advance) ++ (10 ∷ []) in
    let numbers = numbers_bytes (display_of c.args.display) c.args.terms in
    let first : Adds c.new-out.result line c.put.new.self = rw c.line.ensures at c.put.ensures in
    let a = adds_then (adds_then first c.put_numbers.ensures) (rw g.1 at c.put_words.ensures.adds) in
    let few : length (store_start (left_by f.pressed)) ≤ 16384 = omega (arith, ap length g.1, length-take-le c.in-Some.end c.args.store.now g.0, g.0, c.told-store) in
    rw (f.comes, f.advances)
    (put-printed (put_at_start o.bytes o.start a refl)
    (omega (
      arith,
      c.told-bytes,
      length-append (line ++ numbers) (bytes_from (store_start (left_by f.pressed))),
      length-append line numbers,
      line-short (advance_of c.args.advance),
      numbers-length (display_of c.args.display) c.args.terms,
      bytes-length (store_start (left_by f.pressed)),
      few,
    )))

pub returns-in_default : goal.returns-in_default
returns-in_default c = λ k f.
    let counted : Counted (left_by f.pressed) c.args.display.pending c.args.display.parked c.args.deck.now.words.now c.args.terms c.args.store.now = (f.pending, f.parked, f.left) in
    absurd (some-goals counted (c.in_default.ensures f.left.deck f.left.opens))
