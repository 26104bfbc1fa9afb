-- Answers line by line.
use mathlib.Core.Path.{◌≡◌, ap, ◌∙◌}
use mathlib.Core.List.{List, [], ◌∷◌, ◌++◌}
use native.Mathlib.Omega.{arith}
use lib.ListN.{length}
use Rattle.rules.specs.Syntax.{Goal}
use Rattle.rules.specs.Listing.{print_answer, print_answers}
use Rattle.listing.specs.Shown.{AnswersAt}
use Rattle.listing.proofs.PutLaws.{Left, left-room, put_some, none_left}
use Rattle.listing.proofs.PrintLaws.{answers-parts}
use Rattle.listing.proofs.AnswerLaws.{AnswerHere, answer-here, row-here, no-answers}
use Rattle.listing.proofs.answers.put_answers.Goals as goal
use Rattle.listing.proofs.answers.put_answers.Goals.{In-loop-i}

-- So many answers that the list begins with; the next of those that are left, and its line in front of the others'.
module _ (c : In-loop-i) (gs : List Goal) (a : AnswersAt c.args.symbols.now c.args.answers.now gs) (e : length gs ≡ c.args.number) where
  here : AnswerHere c.args.symbols.now c.loop-i.list.now (c.loop-i.invariant gs a e).others
  here = let l = c.loop-i.invariant gs a e in answer-here _ _ l.others l.standing (λ z. omega (arith, l.many))

  line :
      Left c.args.out.now (print_answers gs) c.loop-i.out
      (print_answer here.goal.answer_terms (10 ∷ []) ++ print_answers here.others)
  line = rw (ap print_answers here.same ∙ answers-parts here.goal here.others) at (c.loop-i.invariant gs a e).left

pub bounds-list-0 : goal.bounds-list-0
bounds-list-0 c = let h = here (goal.at.bounds-list-0 c).In-loop-i c.requires.0 c.requires.1 c.requires.2 in omega (arith, h.fits)

pub split_at-requires : goal.split_at-requires
split_at-requires c = let h = here (goal.at.split_at-requires c).In-loop-i c.requires.0 c.requires.1 c.requires.2 in omega (arith, h.fits, h.word, c.from.ensures)

pub slice_bounds-put_answer-count : goal.slice_bounds-put_answer-count
slice_bounds-put_answer-count c =
    let h = here (goal.at.slice_bounds-put_answer-count c).In-loop-i c.requires.0 c.requires.1 c.requires.2 in
    (row-here h (rw c.from.ensures at c.split_at.ensures.front)).0

pub slice_bounds-put_answer-start : goal.slice_bounds-put_answer-start
slice_bounds-put_answer-start c =
    let h = here (goal.at.slice_bounds-put_answer-start c).In-loop-i c.requires.0 c.requires.1 c.requires.2 in
    (row-here h (rw c.from.ensures at c.split_at.ensures.front)).0

pub put_answer-requires : goal.put_answer-requires
put_answer-requires c =
    let i = (goal.at.put_answer-requires c).In-loop-i in
    let h = here i c.requires.0 c.requires.1 c.requires.2 in
    let r = row-here h (rw c.from.ensures at c.split_at.ensures.front) in
    (h.goal.answer_terms, r.1, r.2, left-room (print_answer h.goal.answer_terms (10 ∷ [])) _ (line i c.requires.0 c.requires.1 c.requires.2) c.requires.3)

pub loop-i-preserved : goal.loop-i-preserved
loop-i-preserved c = λ gs a e.
    let i = (goal.at.loop-i-preserved c).In-loop-i in
    let h = here i gs a e in
    let r = row-here h (rw c.from.ensures at c.split_at.ensures.front) in
    record {
      others = h.others;
      standing = rw (c.split_at.ensures.back, c.from.ensures) h.after;
      many = omega (arith, (c.loop-i.invariant gs a e).many, ap length h.same);
      left = put_some (line i gs a e) (c.put_answer.ensures h.goal.answer_terms r.1 r.2);
    }

pub returns : goal.returns
returns c = λ gs a e.
    let l = c.loop-i.invariant gs a e in
    none_left (rw (no-answers l.others (omega (arith, l.many))) at l.left)
