-- The first two lines, and then the answers: at most 69 bytes, and 8 for each word of the answer list.
use Prim.Native.Nat.{◌*◌, ◌≤◌}
use native.Mathlib.Omega.{arith}
use lib.ListN.{length}
use Rattle.rules.specs.Evaluation.{Outcome}
use Rattle.rules.specs.Listing.{print_answers}
use Rattle.listing.specs.Shown.{Shown}
use Rattle.listing.proofs.PutLaws.{adds_then, adds-length}
use Rattle.listing.proofs.PrintLaws.{answers-short}
use Rattle.listing.proofs.AnswerLaws.{answers-inside}
use Rattle.listing.proofs.LineLaws.{same-answers, listing-parts}
use Rattle.listing.proofs.output.Output.put_listing.Goals as goal
use Rattle.listing.proofs.output.Output.put_listing.Goals.{Start}

-- The answers' text has at most 8 bytes for each word of the answer list, and an answer takes two words at least.
bounds : (c : goal.Start) (o : Outcome) → Shown o c.args.report c.args.answers.now c.args.symbols.now
    → (length (print_answers o.answers) ≤ 8 * length c.args.answers.now) × (2 * length o.answers ≤ length c.args.answers.now)
bounds c o s =
    let w = answers-short s.answers.symbols o.answers s.answers.formed s.answers.bare in
    let i = answers-inside c.args.symbols.now c.args.answers.now o.answers s.answers in
    (omega (arith, w.0, i), omega (arith, w.1, i))

pub put_head-requires-clause-some_outcome : goal.put_head-requires-clause-some_outcome
put_head-requires-clause-some_outcome c =
    let s = c.requires.shown in
    let b = bounds (goal.at.put_head-requires-clause-some_outcome c).Start s.0 s.1 in
    (s.0, s.1.reported, omega (arith, c.requires.room.0, b.1, same-answers c.args.report s.0 s.1.reported))

pub put_answers-requires : goal.put_answers-requires
put_answers-requires c =
    let s = c.requires.shown in
    let b = bounds (goal.at.put_answers-requires c).Start s.0 s.1 in (
      s.0.answers,
      s.1.answers,
      same-answers c.args.report s.0 s.1.reported,
      omega (arith, c.put_head.ensures.short, b.0, c.requires.room.1, adds-length (c.put_head.ensures.adds s.0 s.1.reported)),
    )

pub returns-clause-adds : goal.returns-clause-adds
returns-clause-adds c = λ o s.
    rw (listing-parts o)
    (adds_then (c.put_head.ensures.adds o s.reported) (c.put_answers.ensures o.answers s.answers (same-answers c.args.report o s.reported)))

pub returns-clause-short : goal.returns-clause-short
returns-clause-short c =
    let s = c.requires.shown in
    let b = bounds (goal.at.returns-clause-short c).Start s.0 s.1 in
    omega (arith, c.put_head.ensures.short, (c.put_answers.ensures s.0.answers s.1.answers (same-answers c.args.report s.0 s.1.reported)).put.place, b.0)
