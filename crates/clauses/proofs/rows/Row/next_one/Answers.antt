-- `next_one` meets its contract. Assumes nothing.
use Rattle.std.proofs.Common.{◌≡◌, ℕ, ◌+◌, ◌-◌, ◌*◌, ◌/◌, ◌%◌, ◌^◌, ◌≤◌, ◌<◌, Bool, true, false, ltb, List, get_or, refl, arith, rules}
use borrow.Author.Tests.{ltb-true, ltb-false}
use Rattle.std.specs.Int.{trailing_zeros, w64}
use Rattle.clauses.specs.Rows.{row_bit}
use Rattle.clauses.proofs.rows.Row.next_one.Invariants.{Passing}
use Rattle.clauses.proofs.RowLaws.{word, rest, word_none, word-passed, word-one}
use Rattle.clauses.proofs.rows.Row.next_one.Goals as goal

-- The bits before the place that is found, and those of a word without any.
go : (words : List ℕ) (r n k at : ℕ) (small : word words r at < 2 ^ 64) (some : 0 < rest words r at) → Passing words r n k at → (m : ℕ) → k ≤ m
    → m < at + trailing_zeros w64 (rest words r at) → m < n → (b : Bool) → ltb m at ≡ b → row_bit words r m ≡ 0
go words r n k at small some x m h l q true e = x.passed m h (ltb-true m at e) q
go words r n k at small some x m h l q false e = word-passed words r at small some m (ltb-false m at e) l

over : (words : List ℕ) (r n k at : ℕ) → rest words r at ≡ 0 → Passing words r n k at → (m : ℕ) → k ≤ m → m < at + (64 - at % 64) → m < n → (b : Bool) → ltb m at ≡ b
    → row_bit words r m ≡ 0
over words r n k at none x m h l q true e = x.passed m h (ltb-true m at e) q
over words r n k at none x m h l q false e = word_none words r at none m (ltb-false m at e) l

pub returns-then-rest-ne0 : goal.returns-then-rest-ne0
returns-then-rest-ne0 c =
    let s = c.args.self.now in
    let at = c.loop-at.at in
    let x = c.loop-at.invariant in
    let small : get_or s.words.now (16 * (at / 64) + s.number) 0 < 2 ^ 64 = search rules in
    let some : 0 < get_or s.words.now (16 * (at / 64) + s.number) 0 / 2 ^ (at % 64) = omega arith in
    record {
      later = omega (arith, x.later);
      passed = λ m h l n. go s.words.now s.number c.args.n c.args.k at small some x m h l n (ltb m at) refl;
      one = λ h. word-one s.words.now s.number at small some;
    }

pub loop-at-preserved : goal.loop-at-preserved
loop-at-preserved c =
    let s = c.args.self.now in
    let at = c.loop-at.at in
    let x = c.loop-at.invariant in
    let none : get_or s.words.now (16 * (at / 64) + s.number) 0 / 2 ^ (at % 64) ≡ 0 = omega arith in
    record {
      later = omega (arith, x.later);
      near = omega arith;
      passed = λ m h l n. over s.words.now s.number c.args.n c.args.k at none x m h l n (ltb m at) refl;
    }
