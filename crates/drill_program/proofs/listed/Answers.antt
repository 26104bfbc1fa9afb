-- What the call has written is printed.
use Rattle.std.proofs.Common.{rules, ◌-◌, length, take, drop, refl, ap, ◌∙◌, arith}
use Rattle.std.proofs.lemmas.Result.{err_from_is_err_and}
use Rattle.std.specs.Prelude.{Ok, Err}
use Rattle.listing.proofs.PutLaws.{put_at_start}
use Rattle.drill_program.proofs.PartLaws.{words_run-split, words_run-refused}
use Rattle.drill_program.proofs.LineLaws.{Listed, list_done, list-refused, lines-printed}
use Rattle.drill_program.proofs.listed.Goals as goal
use Rattle.drill_program.proofs.listed.Goals.{In_ok-count, After-symbols-symbols}

-- The call was done, and can be printed.
shown :
    (c : In_ok-count) → let a = c.args in
    Listed a.deck.now c.from-n.result (take (length a.input.now - 1) (drop 1 a.input.now)) c.drill.new.out c.in_ok-count.count
shown c = list_done _ _ _ _ refl _ _ (Ok c.in_ok-count.count) c.in_ok-count.count c.in_ok-count.ensures.answers c.in_ok-count.ensures.out_after refl

pub returns-in_err-count : goal.returns-in_err-count
returns-in_err-count c =
    let a = c.args in
    let p = err_from_is_err_and c.from_residual.result c.from_residual.ensures.1 in
    rw (p.1, p.2) (
      words_run-split a.deck.now a.input.now _ c.from-n.ensures c.requires
          ∙ words_run-refused _ _ _ _ (list-refused _ _ _ _ refl (Err c.in_err-count.field-0.0) c.in_err-count.field-0.0 c.in_err-count.ensures.answers refl),
      search rules,
    )

pub symbols-symbols-requires : goal.symbols-symbols-requires
symbols-symbols-requires c = (shown (goal.at.symbols-symbols-requires c).In_ok-count).fits

pub put_lines-requires : goal.put_lines-requires
put_lines-requires c =
    let l = shown (goal.at.put_lines-requires c).In_ok-count in
    let o = c.new-out.ensures in
    (l.trees, rw c.symbols-symbols.ensures l.standing, l.many, omega (arith, l.short, o.start, ap length o.bytes, c.told-bytes))

pub shape_of-bytes : goal.shape_of-bytes
shape_of-bytes c =
    let l = shown (goal.at.shape_of-bytes c).In_ok-count in
    let a = c.put_lines.ensures l.trees (rw c.symbols-symbols.ensures l.standing) l.many in
    search (rules, c.new-out.ensures.same_reference, a.same_reference)

pub returns : goal.returns
returns c =
    let l = shown (goal.at.returns c).In_ok-count in
    let o = c.new-out.ensures in
    let a = c.put_lines.ensures l.trees (rw c.symbols-symbols.ensures l.standing) l.many in
    rw (words_run-split c.args.deck.now c.args.input.now _ c.from-n.ensures c.requires)
    (lines-printed l (put_at_start o.bytes o.start a (search rules)) c.told-bytes)
