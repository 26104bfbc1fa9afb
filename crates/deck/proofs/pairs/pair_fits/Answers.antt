-- `pair_fits`: a symbol that is no number, a number whose value was seen, and another number.
use Prim.Native.Nat.{ℕ, ◌*◌, ◌/◌, ◌%◌, ◌^◌, ◌<◌}
use mathlib.Core.Path.{◌≡◌, sym, ◌∙◌, ap}
use mathlib.Core.Bool.{true}
use native.Mathlib.Omega.{arith}
use lib.ListN.{get_or, set}
use Rattle.std.specs.Int.{bit_at}
use Rattle.std.specs.Int.Bits.{bit_or}
use Rattle.deck.specs.Pairs.{Turned}
use Rattle.deck.proofs.BitLaws.{shifted-one}
use Rattle.deck.proofs.PairLaws.{turned-plain, turned_again, turned_first}
use Rattle.deck.proofs.pairs.pair_fits.Goals as goal

pub returns-then-first-ne512 : goal.returns-then-first-ne512
returns-then-first-ne512 c = turned-plain c.args.seen.now c.args.first c.args.second c.if-first-ne512.true

pub returns-then-seen-word-eq1 : goal.returns-then-seen-word-eq1
returns-then-seen-word-eq1 c =
    let seen = c.args.seen.now in
    let v = c.args.second in
    turned_again seen c.args.first v c.if-first-ne512.false (ap (λ k. bit_at (get_or seen k 0) (v % 64)) (sym c.from-word.ensures) ∙ c.if-seen-word-eq1.true) seen

pub returns : goal.returns
returns c =
    let seen = c.args.seen.now in
    let v = c.args.second in
    let clear : bit_at (get_or seen c.from-word.result 0) (v % 64) ≡ 0 = omega (arith, c.if-seen-word-eq1.false) in
    let inside : v < 65536 = c.ranges.second.fits in
    let bits : (w b : ℕ) → w ≡ v / 64 → b ≡ 2 ^ (v % 64) → bit_at (get_or seen w 0) (v % 64) ≡ 0 → Turned seen c.args.first v true (set seen w (bit_or (get_or seen w 0) b)) =
    λ w b e q z. rw (e, q) (turned_first seen c.args.first v c.if-first-ne512.false (rw e at z) (omega (arith, c.told-seen))) in
    bits c.from-word.result (1 * 2 ^ (v % 64) % 18446744073709551616) c.from-word.ensures (shifted-one (v % 64) (omega arith)) clear
