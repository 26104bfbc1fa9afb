-- The store's goals end where they are found to end; the numbers and the words are put one after another.
use Rattle.std.proofs.Common.{rules, refl, ◌≡◌, ◌∙◌, sym, ap, length, take, length-take-le, arith}
use Rattle.rules.specs.CarryProgram.{number_bytes}
use Rattle.listing.proofs.PutLaws.{put_at_start, adds-length}
use Rattle.listing.proofs.ByteLaws.{bytes-length}
use Rattle.listing.proofs.PrintedLaws.{put-printed}
use Rattle.carry_program.specs.Finished.{Counted}
use Rattle.carry_program.proofs.EndLaws.{counts_of}
use Rattle.carry_program.proofs.OutputLaws.{to_le_bytes-number_bytes, some-goals, goals-end, goals-room, file-adds}
use Rattle.carry_program.proofs.ending.Ending.put_goals.Goals as goal

pub put_words-requires : goal.put_words-requires
put_words-requires c =
    let k = c.requires.1 in
    let n = counts_of k.outcome _ _ _ k.shown in
    let counted : Counted k.outcome c.from-pending.result c.from-parked.result c.args.self.now.deck.words.now c.args.self.now.terms c.args.self.now.lists.now.store = (n.0 ∙ sym c.from-pending.ensures, n.1 ∙ sym c.from-parked.ensures, k.left) in
    let g = goals-end counted _ _ (c.in_ok-end.ensures k.left.deck k.left.opens) in
    let store = c.args.self.now.lists.now.store in
    let o = c.new-out.ensures in
    let first = c.put.ensures in
    let second = c.put-2.ensures in
    let third = c.put-3.ensures in
    omega (
      arith,
      o.start,
      ap length o.bytes,
      first.put.place,
      adds-length first,
      ap length c.to_le_bytes.ensures,
      second.put.place,
      adds-length second,
      ap length c.to_le_bytes-2.ensures,
      third.put.place,
      adds-length third,
      ap length c.to_le_bytes-3.ensures,
      bytes-length (take c.in_ok-end.end store),
      length-take-le c.in_ok-end.end store g.0,
      g.0,
      c.args.self.now.small.1,
      c.told-left,
    )

pub returns : goal.returns
returns c = λ k f.
    let n = counts_of f.outcome _ _ _ f.shown in
    let counted : Counted f.outcome c.from-pending.result c.from-parked.result c.args.self.now.deck.words.now c.args.self.now.terms c.args.self.now.lists.now.store = (n.0 ∙ sym c.from-pending.ensures, n.1 ∙ sym c.from-parked.ensures, f.left) in
    let g = goals-end counted _ _ (c.in_ok-end.ensures f.left.deck f.left.opens) in
    let o = c.new-out.ensures in
    let first : c.to_le_bytes.result ≡ number_bytes 8 c.from-pending.result = c.to_le_bytes.ensures ∙ to_le_bytes-number_bytes _ in
    let second : c.to_le_bytes-2.result ≡ number_bytes 8 c.from-parked.result = c.to_le_bytes-2.ensures ∙ to_le_bytes-number_bytes _ in
    let third : c.to_le_bytes-3.result ≡ number_bytes 8 c.args.self.now.terms = c.to_le_bytes-3.ensures ∙ to_le_bytes-number_bytes _ in
    let a = file-adds f.outcome _ _ _ (take c.in_ok-end.end c.args.self.now.lists.now.store) counted.0 counted.1 g.1 (rw first at c.put.ensures) (rw second at c.put-2.ensures)
    (rw third at c.put-3.ensures) c.put_words.ensures.adds in
    rw f.comes ((_, refl), put-printed (put_at_start o.bytes o.start a (search rules)) (omega (arith, goals-room counted c.args.self.now.small.1, c.told-left)))

pub returns-in_err-end : goal.returns-in_err-end
returns-in_err-end c = λ k f.
    let n = counts_of f.outcome _ _ _ f.shown in
    let counted : Counted f.outcome c.from-pending.result c.from-parked.result c.args.self.now.deck.words.now c.args.self.now.terms c.args.self.now.lists.now.store = (n.0 ∙ sym c.from-pending.ensures, n.1 ∙ sym c.from-parked.ensures, f.left) in
    absurd (some-goals counted (c.in_err-end.ensures f.left.deck f.left.opens))
