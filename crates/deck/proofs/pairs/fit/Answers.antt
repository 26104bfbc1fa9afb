-- `fit`: the words from each place on, two at a time.
use mathlib.Core.Path.{sym, ◌∙◌, ap}
use mathlib.Core.Bool.{Bool, ◌&&◌}
use Prim.Native.Nat.{ℕ, ◌-◌}
use native.Mathlib.Omega.{arith}
use lib.ListN.{length, drop, length-drop}
use lib.Seq.{take_all}
use Rattle.deck.specs.Pairs.{marked, values_fit}
use Rattle.deck.proofs.PairLaws.{fit-marked, two_more, none_more}
use Rattle.deck.proofs.pairs.fit.Goals as goal

pub loop-rest-init : goal.loop-rest-init
loop-rest-init c = fit-marked 1024 c.args.pairs.now

pub returns-then-not-pair_fits : goal.returns-then-not-pair_fits
returns-then-not-pair_fits c =
    let rest = c.loop-rest.rest.now in
    let go : (ℕ → Bool) → Bool = λ s. values_fit s (drop 2 rest) in
    sym (c.loop-rest.invariant ∙ two_more (marked c.loop-rest.seen) rest c.in-len2-up.len_at_least ∙ c.pair_fits.ensures go ∙ ap (λ b. b && go (marked c.pair_fits.new.seen)) c.if-not-pair_fits.true)

pub loop-rest-preserved : goal.loop-rest-preserved
loop-rest-preserved c =
    let rest = c.loop-rest.rest.now in
    let go : (ℕ → Bool) → Bool = λ s. values_fit s (drop 2 rest) in
    c.loop-rest.invariant ∙ two_more (marked c.loop-rest.seen) rest c.in-len2-up.len_at_least ∙ c.pair_fits.ensures go ∙ ap (λ b. b && go (marked c.pair_fits.new.seen)) c.if-not-pair_fits.false
    ∙ ap (values_fit (marked c.pair_fits.new.seen)) (sym (take_all (length rest - 2) (drop 2 rest) (omega (arith, length-drop 2 rest))))

pub returns : goal.returns
returns c = c.is_empty.ensures ∙ sym (c.loop-rest.invariant ∙ none_more (marked c.loop-rest.seen) c.loop-rest.rest.now c.in_default.len_below)
