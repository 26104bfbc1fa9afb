-- The verdict's line, the stop and the five numbers are the first two lines of the listing, at most 69 bytes.
use Prim.Native.Nat.{◌≤◌}
use mathlib.Core.Path.{◌≡◌, ap}
use mathlib.Core.List.{[], ◌∷◌, ◌++◌}
use native.Mathlib.Omega.{arith}
use lib.ListN.{length, length-append}
use Rattle.rules.specs.Listing.{verdict_text}
use Rattle.rules.specs.Evaluation.{Outcome}
use Rattle.rules.specs.Run as run
use Rattle.report.specs.Reports.{stop_of, report_of}
use Rattle.listing.specs.Shown.{counts_text}
use Rattle.listing.proofs.PutLaws.{all_left, put_some, put_last, adds-length}
use Rattle.listing.proofs.LineLaws.{verdict-length, stop-length, counts-length, same-answers, same-parked, head-parts}
use Rattle.listing.proofs.lines.put_head.Goals as goal
use Rattle.listing.proofs.lines.put_head.Goals.{After-verdict, After-stop_word, After-put-2, After-put_numbers}

-- The verdict's line, for any outcome that has this report.
verdict_is :
    (c : After-verdict) (o : Outcome) → report_of c.args.report ≡ run.report o
    → c.verdict.result.now ≡ verdict_text (stop_of c.args.report.stop) o.parked o.answers ++ (10 ∷ [])
verdict_is c o e = let r = c.args.report in c.verdict.ensures o.parked o.answers (same-parked r o e) (same-answers r o e)

-- How long the parts are.
verdict-short : (c : After-verdict) → length c.verdict.result.now ≤ 5
verdict-short c =
    let o = c.requires.some_outcome.0 in
    let s = stop_of c.args.report.stop in
    omega (arith, ap length (verdict_is c o c.requires.some_outcome.1), verdict-length s o.parked o.answers, length-append (verdict_text s o.parked o.answers) (10 ∷ []))

stop-short : (c : After-stop_word) → length c.stop_word.result.now ≤ 8
stop-short c = omega (arith, ap length c.stop_word.ensures, stop-length (stop_of c.args.report.stop))

pub put-requires : goal.put-requires
put-requires c = omega (arith, verdict-short c, c.requires.room)

pub put-requires-2 : goal.put-requires-2
put-requires-2 c =
    omega (arith, verdict-short (goal.at.put-requires-2 c).After-verdict, stop-short c, c.put.ensures.put.place, adds-length c.put.ensures, c.requires.room)

numbers-short : (c : After-put-2) → let r = c.args.report in length (counts_text r.steps r.answers r.pending r.parked r.cost) ≤ 56
numbers-short c =
    let r = c.args.report in
    counts-length r.steps r.answers r.pending r.parked r.cost (omega arith) c.requires.some_outcome.2 (omega arith) (omega arith) (omega arith)

pub put_numbers-requires : goal.put_numbers-requires
put_numbers-requires c =
    let v = (goal.at.put_numbers-requires c).After-verdict in
    let w = (goal.at.put_numbers-requires c).After-stop_word in
    let n = numbers-short (goal.at.put_numbers-requires c).After-put-2 in
    omega (arith, verdict-short v, stop-short w, n, c.put.ensures.put.place, adds-length c.put.ensures, c.put-2.ensures.put.place, adds-length c.put-2.ensures, c.requires.room)

pub returns-clause-adds : goal.returns-clause-adds
returns-clause-adds c = λ o e.
    put_last
    (put_some (put_some (all_left c.args.out.now (head-parts c.args.report o e)) (rw (verdict_is (goal.at.returns-clause-adds c).After-verdict o e) at c.put.ensures)) (rw c.stop_word.ensures at c.put-2.ensures))
    c.put_numbers.ensures

pub returns-clause-short : goal.returns-clause-short
returns-clause-short c =
    let v = (goal.at.returns-clause-short c).After-verdict in
    let w = (goal.at.returns-clause-short c).After-stop_word in
    let n = numbers-short (goal.at.returns-clause-short c).After-put-2 in
    omega (arith, verdict-short v, stop-short w, n, c.put.ensures.put.place, c.put-2.ensures.put.place, c.put_numbers.ensures.put.place)
