-- `ones` meets its contract. Assumes nothing.
use Rattle.std.proofs.Common.{◌≡◌, ℕ, ◌+◌, ◌*◌, ◌/◌, ◌^◌, ◌<◌, suc, List, length, get_or, ap, sym, ◌∙◌, arith, rules}
use native.Mathlib.Decide.{ℕ_discrete}
use Rattle.clauses.proofs.CountLaws.{ones_of, ones_none, ones-more, ones-row, ones-few}
use Rattle.clauses.proofs.rows.Row.ones.Goals as goal

pub loop-w-init : goal.loop-w-init
loop-w-init c = let s = c.args.self.now in record { counted = sym (ones_none s.words.now s.number); few = omega arith; small = λ v h. absurd (omega arith) }

-- One word more.
small-more : (words : List ℕ) (r w : ℕ) → ((v : ℕ) → v < w → get_or words (16 * v + r) 0 < 2 ^ 64) → get_or words (16 * w + r) 0 < 2 ^ 64 → (v : ℕ) → v < w + 1 → Dec (v ≡ w)
    → get_or words (16 * v + r) 0 < 2 ^ 64
small-more words r w h here v l (yes z) = rw z here
small-more words r w h here v l (no z) = h v (omega arith)

pub loop-w-preserved : goal.loop-w-preserved
loop-w-preserved c =
    let s = c.args.self.now in
    let l = c.loop-w in
    let x = l.invariant in
    let here : get_or s.words.now (16 * l.w + s.number) 0 < 2 ^ 64 = search rules in
    let up : l.w + 1 ≡ suc l.w = omega arith in
    record {
      counted = rw up (omega (arith, x.counted, ones-more s.words.now s.number l.w));
      few = omega (arith, x.few, ones-few 64 (get_or s.words.now (16 * l.w + s.number) 0) here);
      small = λ v h. small-more s.words.now s.number l.w x.small here v h (ℕ_discrete v l.w);
    }

pub returns : goal.returns
returns c cs rows =
    let s = c.args.self.now in
    let l = c.loop-w in
    let all : l.w ≡ length s.words.now / 16 = omega arith in
    let small : (v : ℕ) → v < length s.words.now / 16 → get_or s.words.now (16 * v + s.number) 0 < 2 ^ 64 = λ (v : ℕ) (h : v < length s.words.now / 16). l.invariant.small v (omega arith) in
    l.invariant.counted ∙ ap (ones_of s.words.now s.number) all ∙ ones-row s.words.now s.number cs s.number_in small rows
