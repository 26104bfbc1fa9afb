-- What reading the text comes to is printed.
use Rattle.std.proofs.Common.{rules, ◌≡◌, ◌≤◌, length, take, refl, sym, arith, length-take-le}
use Rattle.rules.specs.Program.{bytes_from}
use Rattle.text_rules.specs.TextProgram.{place_line, read_program}
use Rattle.listing.proofs.PrintedLaws.{put-printed}
use Rattle.listing.proofs.ByteLaws.{bytes-length}
use Rattle.text_program.proofs.OutputLaws.{line-length}
use Rattle.text_program.proofs.ReadLaws.{read_program-long, read_program-place, place-small, read_program-refusal, words-stand}
use Rattle.text_program.proofs.read_printed.Goals as goal
use Rattle.text_program.proofs.read_printed.Goals.{In-Ok, In-Err-Unreadable}

-- The words were read, and there are so many.
stands : (c : In-Ok) → (c.in-Ok.n ≤ length c.read_text.new.deck) × (read_program c.args.text.now ≡ bytes_from (take c.in-Ok.n c.read_text.new.deck))
stands c = words-stand c.args.text.now _ c.read_text.new.deck refl c.if-text-gt262144.false c.in-Ok.n c.in-Ok.ensures

few : (c : In-Ok) → length (take c.in-Ok.n c.read_text.new.deck) ≤ 16384
few c =
    let size : length c.read_text.new.deck ≡ 16384 = c.in-Ok.ensures.size in
    omega (arith, size, (stands c).0, length-take-le c.in-Ok.n c.read_text.new.deck (stands c).0)

-- The text is refused with 10.
placed : (c : In-Err-Unreadable) → (read_program c.args.text.now ≡ place_line c.in-Err-Unreadable.place) × (c.in-Err-Unreadable.place ≤ 262144)
placed c =
    let text = c.args.text.now in
    let after = c.read_text.new.deck in
    let short = c.if-text-gt262144.false in
    let read = rw c.in-Err-Unreadable.field-0-is at c.in-Err-Unreadable.ensures in
    (read_program-place text _ after refl short c.in-Err-Unreadable.place read, place-small text _ after refl short c.in-Err-Unreadable.place read)

pub returns-then-text-gt262144 : goal.returns-then-text-gt262144
returns-then-text-gt262144 c =
    rw (read_program-long c.args.text.now c.if-text-gt262144.true) c.put_line.ensures

pub slice_bounds-words-end : goal.slice_bounds-words-end
slice_bounds-words-end c = (stands (goal.at.slice_bounds-words-end c).In-Ok).0

pub slice_bounds-put_deck-end-in-Ok : goal.slice_bounds-put_deck-end-in-Ok
slice_bounds-put_deck-end-in-Ok c = sym (length-take-le _ _ (stands (goal.at.slice_bounds-put_deck-end-in-Ok c).In-Ok).0)

pub put_place-requires : goal.put_place-requires
put_place-requires c = (search rules, omega (arith, (placed (goal.at.put_place-requires c).In-Err-Unreadable).1))

pub returns-in-Ok : goal.returns-in-Ok
returns-in-Ok c =
    let z = (goal.at.returns-in-Ok c).In-Ok in
    rw (stands z).1 (put-printed c.put_deck.ensures (omega (arith, bytes-length (take c.in-Ok.n c.read_text.new.deck), few z, c.told-out)))

pub returns-in-Err-Unreadable : goal.returns-in-Err-Unreadable
returns-in-Err-Unreadable c =
    let p = placed (goal.at.returns-in-Err-Unreadable c).In-Err-Unreadable in
    rw p.0 (put-printed (rw c.in-Err-Unreadable.place-is at c.put_place.ensures) (omega (arith, line-length c.in-Err-Unreadable.place (omega (arith, p.1)), c.told-out)))

pub returns-in-Err-Refused : goal.returns-in-Err-Refused
returns-in-Err-Refused c =
    rw (read_program-refusal c.args.text.now _ c.read_text.new.deck refl c.if-text-gt262144.false c.in-Err-Refused.why (rw c.in-Err-Refused.field-0-is at c.in-Err-Refused.ensures))
    (rw c.in-Err-Refused.why-is at c.put_line-in-Err-Refused.ensures)
