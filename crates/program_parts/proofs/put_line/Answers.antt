-- The refusal's line has at most 19 bytes.
use Rattle.std.proofs.Common.{length, ap, arith, rules}
use Rattle.deck.specs.Answers.{refusal_for}
use Rattle.deck.proofs.RefusalLaws.{number_small}
use Rattle.listing.proofs.PutLaws.{put_at_start}
use Rattle.listing.proofs.PrintedLaws.{line-printed}
use Rattle.program_parts.proofs.put_line.Goals as goal

pub put_refusal-requires : goal.put_refusal-requires
put_refusal-requires c = let o = c.new-out.ensures in omega (arith, o.start, ap length o.bytes, c.requires)

pub returns : goal.returns
returns c =
    let n = refusal_for c.args.why in
    let o = c.new-out.ensures in
    let a = c.put_refusal.ensures n (λ number e. e) in
    line-printed n (omega (arith, number_small n)) (put_at_start o.bytes o.start a (search (rules, o.same_reference, a.same_reference))) c.requires
