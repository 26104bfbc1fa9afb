-- Terms line by line.
use Rattle.std.proofs.Common.{◌≡◌, ◌∙◌, refl, ap, [], ◌∷◌, ◌++◌, arith}
use Rattle.rules.specs.Terms.{Terms, count}
use Rattle.rules.specs.DrillProgram.{print_lines}
use Rattle.listing.specs.Standing.{TermsAt, show_term}
use Rattle.listing.proofs.PutLaws.{Left, all_left, left-room, put_some, none_left}
use Rattle.listing.proofs.StandLaws.{Split, split}
use Rattle.drill_program.proofs.LineLaws.{lines-parts, no_lines}
use Rattle.drill_program.proofs.lines.put_lines.Goals as goal
use Rattle.drill_program.proofs.lines.put_lines.Goals.{In-loop-i}

-- So many terms that the cells begin with; the next of those that are left, and its line in front of the others'.
module _ (c : In-loop-i) (ts : Terms) (a : TermsAt c.args.symbols.now c.args.cells.now ts) (e : count ts ≡ c.args.number) where
  here : Split c.args.symbols.now c.loop-i.rest.now (c.loop-i.invariant ts a e).others
  here = let l = c.loop-i.invariant ts a e in split _ _ l.others l.standing (λ z. omega (arith, l.many, ap count z, c.loop-i-test.true))

  line : Left c.args.out.now (print_lines ts) c.loop-i.out (show_term 118 here.first [] ++ (10 ∷ print_lines here.others))
  line = rw (ap print_lines here.same ∙ lines-parts here.first here.others) at (c.loop-i.invariant ts a e).left

pub loop-i-init : goal.loop-i-init
loop-i-init c = λ ts a e. record { others = ts; standing = a; many = omega (arith, e); left = all_left c.args.out.now refl }

pub put_term-requires : goal.put_term-requires
put_term-requires c =
    let i = (goal.at.put_term-requires c).In-loop-i in
    let h = here i c.requires.0 c.requires.1 c.requires.2 in
    (h.first, h.here, left-room (show_term 118 h.first []) _ (line i c.requires.0 c.requires.1 c.requires.2) c.requires.3)

pub put-requires : goal.put-requires
put-requires c =
    let i = (goal.at.put-requires c).In-loop-i in
    let h = here i c.requires.0 c.requires.1 c.requires.2 in
    left-room (10 ∷ []) (print_lines h.others) (put_some (line i c.requires.0 c.requires.1 c.requires.2) (c.put_term.ensures h.first h.here).adds) c.requires.3

pub loop-i-preserved : goal.loop-i-preserved
loop-i-preserved c = λ ts a e.
    let i = (goal.at.loop-i-preserved c).In-loop-i in
    let h = here i ts a e in
    let w = c.put_term.ensures h.first h.here in
    record {
      others = h.others;
      standing = rw w.passed h.after;
      many = omega (arith, (c.loop-i.invariant ts a e).many, ap count h.same);
      left = put_some {xs = 10 ∷ []} (put_some (line i ts a e) w.adds) c.put.ensures;
    }

pub returns : goal.returns
returns c = λ ts a e.
    let l = c.loop-i.invariant ts a e in
    none_left (rw (no_lines l.others (omega (arith, l.many, c.loop-i-test.false))) at l.left)
