-- The invariant: the declarations so far are looked up.
use mathlib.Core.Path.{◌≡◌, ap, sym, ◌∙◌, subst}
use native.Mathlib.Omega.{arith}
use lib.ListN.{length}
use Rattle.text.specs.Starts.{Starts}
use Rattle.text.specs.declared.readable.Readable.{Readable}
use Rattle.naming.specs.declared.walks.Walk.{Walk}
use Rattle.uses.proofs.ArityLaws.{walk_start, found_fits, walk-on}
use Rattle.uses.proofs.arities.declared.Goals as goal

pub loop-d-init : goal.loop-d-init
loop-d-init c =
    let t = c.args.names.now in
    let same : c.into_iter-d-iterator.result ≡ c.new-d-items.result = c.into_iter-d-iterator.ensures.into_iter_gives in
    let text = ap (λ (w : Walk). w.text.text.now) same ∙ ap (λ (r : Readable). r.text.now) c.new-d-items.ensures.0 ∙ sym c.requires.same in
    let at = ap (λ (w : Walk). w.at) same ∙ c.new-d-items.ensures.2 in
    let readable = rw (sym c.requires.same) at c.args.text.in_grammar in
    let starts = subst (λ x. Starts x c.args.text.start) (sym c.requires.same) c.args.text.starts in
    (tt, tt, text, rw at (walk_start t c.args.text.start starts readable))

pub put-requires : goal.put-requires
put-requires c = found_fits (length c.args.names.now.entries) c.find-j.result c.find-j.ensures.inside

pub loop-d-preserved : goal.loop-d-preserved
loop-d-preserved c =
    let t = c.args.names.now in
    let l = c.loop-d in
    let inv = l.invariant in
    let d = c.in-Some.d in
    let s = c.in-Some.ensures.steps in
    let h = rw inv.2 at s.found in
    let f = rw (sym c.requires.same) at c.find-j.ensures.last in
    let text = ap (λ (r : Readable). r.text.now) s.text ∙ inv.2 in
    (tt, tt, text, rw s.onward.1 (walk-on t l.found l.d-iterator.at inv.3 c.requires.distinct d h c.find-j.result f c.put.new.found (omega (arith, c.put.array_long)) (rw c.arity.ensures at c.put.ensures)))
