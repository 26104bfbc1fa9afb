-- The parts of the line, one after another.
use Prim.Native.Nat.{◌<◌}
use mathlib.Core.Path.{◌≡◌, sym, ap, subst}
use native.Mathlib.Omega.{arith}
use mathlib.Core.List.{[], ◌∷◌, ◌++◌}
use lib.ListN.{length}
use lib.IntN.{ℤ}
use mir.Syntax.{w64}
use mir.Val.{to_z, of_z}
use Rattle.std.proofs.Common.{rules}
use Rattle.std.specs.Int.RustNames.{unsigned_abs}
use Rattle.std.proofs.lemmas.Int.{to_z-of_z, fits_signed_from_abs}
use Rattle.rules.specs.Refusals.{accepted}
use Rattle.rules.specs.Listing.{decimal}
use Rattle.means.specs.Means.{as_mean}
use Rattle.listing.specs.Put.{Fits, Adds}
use Rattle.listing.proofs.LineLaws.{same-parked}
use Rattle.listing.proofs.PutLaws.{Left, all_left, left-room, rest-room, put_some, put_last, put_at_start}
use Rattle.listing.proofs.PrintedLaws.{put-printed}
use Rattle.mean_program.specs.MeanProgram.{MeanRun, signed, mean_prints}
use Rattle.mean_program.specs.Told.{ToldOf}
use Rattle.mean_program.proofs.LineLaws.{line_parts, word, answers-some, line-is, line-fits}
use Rattle.mean_program.proofs.line.put_line.Goals as goal
use Rattle.mean_program.proofs.line.put_line.Goals.{After-verdict, After-put, After-put_signed, After-put_prefixed, After-put_signed-2, After-put_prefixed-2}

-- A number of 32 bits and a sign in one of 64.
same : (z : ℤ) → unsigned_abs z < 4294967296 → to_z w64 (of_z w64 z) ≡ z
same z h = to_z-of_z w64 z (fits_signed_from_abs w64 z (omega (arith, h)))

-- What is still to be written after each part, for any run that the code has.
shown : (c : After-verdict) (r : MeanRun) (h : ToldOf r c.args.told) → c.verdict.result.now ≡ word r c.args.told h
shown c r h = c.verdict.ensures r.outcome.parked r.outcome.answers (same-parked c.args.told.report r.outcome h.reported) (answers-some r c.args.told h)

room : (c : After-verdict) (r : MeanRun) → ToldOf r c.args.told → Fits c.new-out.result (mean_prints (accepted r))
room c r h = let o = c.new-out.ensures in omega (arith, o.start, ap length o.bytes, line-fits r c.args.told h, c.requires.0)

all : (c : After-verdict) (r : MeanRun) (h : ToldOf r c.args.told) → Left c.new-out.result (mean_prints (accepted r)) c.new-out.result (line_parts (word r c.args.told h) c.args.told.report.answers (as_mean c.args.told.mean))
all c r h = all_left c.new-out.result (line-is r c.args.told h)

numbers : (c : After-put) (r : MeanRun) → ToldOf r c.args.told → let m = c.args.told.mean in
    Left c.new-out.result (mean_prints (accepted r)) c.put.new.self ((32 ∷ signed m.sum []) ++ ((32 ∷ decimal c.args.told.report.answers []) ++ ((32 ∷ signed m.whole []) ++ ((32 ∷ decimal m.remainder []) ++ (10 ∷ [])))))
numbers c r h = let v = (goal.at.After-put c).After-verdict in put_some (all v r h) (rw (shown v r h) at c.put.ensures)

mean : (c : After-put_signed) (r : MeanRun) → ToldOf r c.args.told → let m = c.args.told.mean in
    Left c.new-out.result (mean_prints (accepted r)) c.put_signed.new.out ((32 ∷ decimal c.args.told.report.answers []) ++ ((32 ∷ signed m.whole []) ++ ((32 ∷ decimal m.remainder []) ++ (10 ∷ []))))
mean c r h =
    put_some (numbers (goal.at.After-put_signed c).After-put r h)
    (subst (λ z. Adds c.put.new.self (32 ∷ signed z []) c.put_signed.new.out) (same c.args.told.mean.sum h.sum) c.put_signed.ensures)

whole : (c : After-put_prefixed) (r : MeanRun) → ToldOf r c.args.told → let m = c.args.told.mean in
    Left c.new-out.result (mean_prints (accepted r)) c.put_prefixed.new.self ((32 ∷ signed m.whole []) ++ ((32 ∷ decimal m.remainder []) ++ (10 ∷ [])))
whole c r h = put_some (mean (goal.at.After-put_prefixed c).After-put_signed r h) c.put_prefixed.ensures

remainder : (c : After-put_signed-2) (r : MeanRun) → ToldOf r c.args.told → let m = c.args.told.mean in
    Left c.new-out.result (mean_prints (accepted r)) c.put_signed-2.new.out ((32 ∷ decimal m.remainder []) ++ (10 ∷ []))
remainder c r h =
    put_some (whole (goal.at.After-put_signed-2 c).After-put_prefixed r h)
    (subst (λ z. Adds c.put_prefixed.new.self (32 ∷ signed z []) c.put_signed-2.new.out) (same c.args.told.mean.whole h.whole) c.put_signed-2.ensures)

ending : (c : After-put_prefixed-2) (r : MeanRun) → ToldOf r c.args.told → Left c.new-out.result (mean_prints (accepted r)) c.put_prefixed-2.new.self (10 ∷ [])
ending c r h = put_some (remainder (goal.at.After-put_prefixed-2 c).After-put_signed-2 r h) c.put_prefixed-2.ensures

pub put-requires : goal.put-requires
put-requires c =
    let r = c.requires.1.0 in
    let h = c.requires.1.1 in
    let v = (goal.at.put-requires c).After-verdict in
    rw (shown v r h) (left-room (word r c.args.told h) _ (all v r h) (room v r h))

pub put_signed-requires-clause-room : goal.put_signed-requires-clause-room
put_signed-requires-clause-room c =
    let r = c.requires.1.0 in
    let h = c.requires.1.1 in
    let at = goal.at.put_signed-requires-clause-room c in
    subst (λ z. Fits c.put.new.self (32 ∷ signed z [])) (sym (same c.args.told.mean.sum h.sum)) (left-room (32 ∷ signed c.args.told.mean.sum []) _ (numbers at.After-put r h) (room at.After-verdict r h))

pub put_prefixed-requires : goal.put_prefixed-requires
put_prefixed-requires c =
    let r = c.requires.1.0 in
    let h = c.requires.1.1 in
    let at = goal.at.put_prefixed-requires c in
    left-room (32 ∷ decimal c.args.told.report.answers []) _ (mean at.After-put_signed r h) (room at.After-verdict r h)

pub put_signed-requires-2-clause-room : goal.put_signed-requires-2-clause-room
put_signed-requires-2-clause-room c =
    let r = c.requires.1.0 in
    let h = c.requires.1.1 in
    let at = goal.at.put_signed-requires-2-clause-room c in
    subst (λ z. Fits c.put_prefixed.new.self (32 ∷ signed z [])) (sym (same c.args.told.mean.whole h.whole))
    (left-room (32 ∷ signed c.args.told.mean.whole []) _ (whole at.After-put_prefixed r h) (room at.After-verdict r h))

pub put_prefixed-requires-2 : goal.put_prefixed-requires-2
put_prefixed-requires-2 c =
    let r = c.requires.1.0 in
    let h = c.requires.1.1 in
    let at = goal.at.put_prefixed-requires-2 c in
    left-room (32 ∷ decimal c.args.told.mean.remainder []) _ (remainder at.After-put_signed-2 r h) (room at.After-verdict r h)

pub put-requires-2 : goal.put-requires-2
put-requires-2 c =
    let r = c.requires.1.0 in
    let h = c.requires.1.1 in
    let at = goal.at.put-requires-2 c in
    rest-room (ending at.After-put_prefixed-2 r h) (room at.After-verdict r h)

pub returns : goal.returns
returns c = λ r h.
    let at = goal.at.returns c in
    let o = c.new-out.ensures in
    let a = put_last (ending at.After-put_prefixed-2 r h) c.put-2.ensures in
    put-printed (put_at_start o.bytes o.start a (search (rules, o.same_reference, a.same_reference))) (omega (arith, line-fits r c.args.told h, c.requires.0))
