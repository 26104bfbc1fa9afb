-- The line in parts, and how long it is.
use Prim.Native.Nat.{ℕ, suc, ◌≤◌, ◌<◌}
use mathlib.Core.Path.{◌≡◌, refl, sym, ◌∙◌, ap}
use mathlib.Core.Bool.{true, false}
use mathlib.Core.List.{List, [], ◌∷◌, ◌++◌}
use native.Mathlib.Omega.{arith}
use lib.ListN.{length, length-append}
use lib.IntN.{ℤ, pos, negsuc}
use lib.Signed.{le_z}
use borrow.Author.Tests.{le-leb}
use Rattle.std.specs.Int.RustNames.{unsigned_abs}
use Rattle.rules.specs.Listing.{decimal, verdict_text}
use Rattle.rules.specs.Column.{Mean}
use Rattle.listing.proofs.DigitLaws.{decimal-append, decimal-length}
use Rattle.rules.specs.Refusals.{accepted}
use Rattle.rules.specs.Run as run
use Rattle.rules.specs.Run.{report}
use Rattle.report.specs.Reports.{stop_of}
use Rattle.means.specs.Means.{as_mean}
use Rattle.listing.proofs.LineLaws.{verdict-length, same-answers}
use Rattle.mean_program.specs.declared.Told.{Told}
use Rattle.mean_program.specs.Told.{ToldOf}
use Rattle.mean_program.specs.MeanProgram.{MeanRun, signed, mean_line, mean_prints}

-- A number with its sign.
pub signed-over : (z : ℤ) (size : ℕ) (rest : List ℕ) → size ≡ unsigned_abs z → le_z (pos 0) z ≡ true → signed z rest ≡ decimal size rest
unfolding signed
signed-over (pos n) size rest e t = ap (λ k. decimal k rest) (sym e)
signed-over (negsuc n) size rest e t = absurd (let k : ◌≡◌ {A = ℕ} 0 1 = cc in omega arith)

pub signed-under : (z : ℤ) (size : ℕ) (rest : List ℕ) → size ≡ unsigned_abs z → le_z (pos 0) z ≡ false → signed z rest ≡ 45 ∷ decimal size rest
unfolding signed
signed-under (pos n) size rest e t = let z : true ≡ false = sym (le-leb 0 n (omega arith)) ∙ t in absurd (let k : ◌≡◌ {A = ℕ} 0 1 = cc in omega arith)
signed-under (negsuc n) size rest e t = ap (λ k. 45 ∷ decimal k rest) (sym e)

signed-append : (z : ℤ) (rest : List ℕ) → signed z rest ≡ signed z [] ++ rest
unfolding signed
signed-append (pos n) rest = decimal-append n [] rest
signed-append (negsuc n) rest = ap {B = List ℕ} (λ x. 45 ∷ x) (decimal-append (suc n) [] rest)

signed-length : (z : ℤ) → unsigned_abs z < 4294967296 → length (signed z []) ≤ 11
unfolding signed
signed-length (pos n) h = omega (arith, decimal-length 9 n (omega arith))
signed-length (negsuc n) h = omega (arith, decimal-length 9 (suc n) (omega arith))

number-before : (n : ℕ) (rest ys : List ℕ) → ys ≡ rest → 32 ∷ decimal n ys ≡ (32 ∷ decimal n []) ++ rest
number-before n rest ys e = ap {B = List ℕ} (λ x. 32 ∷ x) (ap (decimal n) e ∙ decimal-append n [] rest)

signed-before : (z : ℤ) (rest ys : List ℕ) → ys ≡ rest → 32 ∷ signed z ys ≡ (32 ∷ signed z []) ++ rest
signed-before z rest ys e = ap {B = List ℕ} (λ x. 32 ∷ x) (ap (signed z) e ∙ signed-append z rest)

abbrev pub line_parts : List ℕ → ℕ → Mean → List ℕ
line_parts v n m = v ++ ((32 ∷ signed m.sum []) ++ ((32 ∷ decimal n []) ++ ((32 ∷ signed m.whole []) ++ ((32 ∷ decimal m.remainder []) ++ (10 ∷ [])))))

pub line-parts : (v : List ℕ) (n : ℕ) (m : Mean) → mean_line v n m ≡ line_parts v n m
unfolding mean_line
line-parts v n m = ap (λ x. v ++ x) (signed-before m.sum _ _ (number-before n _ _ (signed-before m.whole _ _ (number-before m.remainder _ _ refl))))

pub line-short : (v : List ℕ) (n : ℕ) (m : Mean) → length v ≤ 4 → n < 65536 → unsigned_abs m.sum < 4294967296 → unsigned_abs m.whole < 4294967296 → m.remainder < 65536
    → length (mean_line v n m) ≤ 64
line-short v n m h k s w r =
    let a = signed-length m.sum s in
    let b = signed-length m.whole w in
    let c = decimal-length 9 n (omega arith) in
    let d = decimal-length 9 m.remainder (omega arith) in
    let t4 = decimal m.remainder [] ++ (10 ∷ []) in
    let t3 = signed m.whole [] ++ (32 ∷ t4) in
    let t2 = decimal n [] ++ (32 ∷ t3) in
    let t1 = signed m.sum [] ++ (32 ∷ t2) in
    omega
    (arith, ap length (line-parts v n m), length-append v (32 ∷ t1), length-append (signed m.sum []) (32 ∷ t2), length-append (decimal n []) (32 ∷ t3), length-append (signed m.whole []) (32 ∷ t4), length-append (decimal m.remainder []) (10 ∷ []))

-- The line of what the code has.
module _ (r : MeanRun) (t : Told) (h : ToldOf r t) where
  abbrev pub word : List ℕ
  word = verdict_text (stop_of t.report.stop) r.outcome.parked r.outcome.answers

  pub answers-some : 1 ≤ length r.outcome.answers
  answers-some = omega (arith, same-answers t.report r.outcome h.reported, h.some)

  pub line-is : mean_prints (accepted r) ≡ line_parts word t.report.answers (as_mean t.mean)
  unfolding mean_prints report
  line-is =
      line-parts (verdict_text r.outcome.stop r.outcome.parked r.outcome.answers) (length r.outcome.answers) r.mean
      ∙ ap (λ s. line_parts (verdict_text s r.outcome.parked r.outcome.answers) (length r.outcome.answers) r.mean) (sym (ap (λ (x : run.Report). x.stop) h.reported))
      ∙ ap (λ n. line_parts word n r.mean) (same-answers t.report r.outcome h.reported)
      ∙ ap (line_parts word t.report.answers) (sym h.mean)

  pub line-fits : length (mean_prints (accepted r)) ≤ 64
  line-fits =
      omega
      (arith, ap length line-is, ap length (line-parts word t.report.answers (as_mean t.mean)), line-short word t.report.answers (as_mean t.mean) (verdict-length (stop_of t.report.stop) r.outcome.parked r.outcome.answers) h.few h.sum h.whole h.remainder)
