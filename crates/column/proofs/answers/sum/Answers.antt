-- `sum`: the first of the answers that are left, its entry, and the others.
use Prim.Native.Nat.{◌+◌}
use mathlib.Core.Path.{◌≡◌, refl, sym, ◌∙◌, ap, subst}
use mathlib.Core.List.{List}
use native.Mathlib.Omega.{arith}
use lib.ListN.{length}
use lib.IntN.{◌+ℤ◌}
use mir.Syntax.{w64}
use mir.Val.{to_z, of_z}
use Rattle.std.specs.Int.RustNames.{FitsSigned}
use Rattle.std.proofs.lemmas.Int.{to_z-of_z, ints}
use Rattle.rules.specs.Syntax.{Deck, Goal}
use Rattle.rules.specs.Refusals.{accepted}
use Rattle.rules.specs.Decks.{symbol_words, open_deck}
use Rattle.rules.specs.Column.{entry_word, column_words, value_of}
use Rattle.listing.proofs.AnswerLaws.{AnswerHere, answer-here}
use Rattle.column.specs.Entries.{ColumnAt}
use Rattle.column.proofs.SumLaws.{add_to, sum-next, sum-none, sum-over, summed-none, summed-some, Within, within-more, within-fits, known-some, known-none}
use Rattle.column.proofs.WalkLaws.{column-after, entry-here}
use Rattle.column.proofs.answers.sum.Goals as goal
use Rattle.column.proofs.answers.sum.Goals.{In-loop-i, After-value}

pub loop-i-init : goal.loop-i-init
loop-i-init c = (record { above = omega (arith, ints); below = omega (arith, ints) }, λ d gs opens a e. record { others = gs; standing = a; many = omega (arith, e); left = refl })

module _ (c : In-loop-i) (d : Deck) (gs : List Goal) (opens : open_deck c.args.deck.now.words.now ≡ accepted d)
    (a : ColumnAt (symbol_words c.args.deck.now.words.now) c.args.list.now gs c.args.place) (e : length gs ≡ c.args.count) where
  here : AnswerHere (symbol_words c.args.deck.now.words.now) c.loop-i.rest.now (c.loop-i.invariant.1 d gs opens a e).others
  here = let l = c.loop-i.invariant.1 d gs opens a e in answer-here _ _ l.others l.standing.answers (λ z. omega (arith, l.many))

  standing : ColumnAt (symbol_words c.args.deck.now.words.now) c.loop-i.rest.now (c.loop-i.invariant.1 d gs opens a e).others c.args.place
  standing = (c.loop-i.invariant.1 d gs opens a e).standing

pub bounds-rest-0 : goal.bounds-rest-0
bounds-rest-0 c = let r = c.requires in let h = here (goal.at.bounds-rest-0 c).In-loop-i r.0 r.1 r.2 r.3 r.4 in omega (arith, h.fits)

pub split_at-requires : goal.split_at-requires
split_at-requires c = let r = c.requires in let h = here (goal.at.split_at-requires c).In-loop-i r.0 r.1 r.2 r.3 r.4 in omega (arith, h.fits, h.word, c.from.ensures)

pub slice_bounds-entry-count : goal.slice_bounds-entry-count
slice_bounds-entry-count c =
    let r = c.requires in
    let i = (goal.at.slice_bounds-entry-count c).In-loop-i in
    (entry-here (here i r.0 r.1 r.2 r.3 r.4) (standing i r.0 r.1 r.2 r.3 r.4) (rw c.from.ensures at c.split_at.ensures.front)).0

pub slice_bounds-entry-start : goal.slice_bounds-entry-start
slice_bounds-entry-start c =
    let r = c.requires in
    let i = (goal.at.slice_bounds-entry-start c).In-loop-i in
    (entry-here (here i r.0 r.1 r.2 r.3 r.4) (standing i r.0 r.1 r.2 r.3 r.4) (rw c.from.ensures at c.split_at.ensures.front)).0

pub entry-requires : goal.entry-requires
entry-requires c =
    let r = c.requires in
    let i = (goal.at.entry-requires c).In-loop-i in
    let h = here i r.0 r.1 r.2 r.3 r.4 in
    (r.0, h.goal.answer_terms, r.2, (entry-here h (standing i r.0 r.1 r.2 r.3 r.4) (rw c.from.ensures at c.split_at.ensures.front)).1)

pub returns-in_err-entry : goal.returns-in_err-entry
returns-in_err-entry c = λ d gs opens a e.
    let i = (goal.at.returns-in_err-entry c).In-loop-i in
    let h = here i d gs opens a e in
    let l = c.loop-i.invariant.1 d gs opens a e in
    let x = (entry-here h (standing i d gs opens a e) (rw c.from.ensures at c.split_at.ensures.front)).1 in
    let word = known-none (entry_word d.format c.args.place h.goal.answer_terms) (c.in_err-entry.ensures d h.goal.answer_terms opens x) in
    let z = to_z w64 c.loop-i.sum-bits in
    rw c.from_residual.ensures (summed-none _ (l.left ∙ ap (λ xs. add_to z (column_words d.format c.args.place xs)) h.same ∙ sum-none d.format c.args.place h.goal h.others word z))

-- The sum with the next value.
value : (c : After-value) → to_z w64 (of_z w64 c.value.result) ≡ value_of c.in_ok-entry.field-0
value c = to_z-of_z w64 _ (record { sfits = c.value.type_inv }) ∙ c.value.ensures

within : (c : After-value) → Within (to_z w64 c.loop-i.sum-bits +ℤ value_of c.in_ok-entry.field-0) (c.loop-i._i + 1)
within c = within-more (to_z w64 c.loop-i.sum-bits) c.loop-i._i c.in_ok-entry.field-0 (omega arith) c.loop-i.invariant.0

fits : (c : After-value) → FitsSigned w64 (to_z w64 c.loop-i.sum-bits +ℤ to_z w64 (of_z w64 c.value.result))
fits c = rw (value c) (within-fits _ (c.loop-i._i + 1) (omega arith) (within c))

added : (c : After-value) → to_z w64 (of_z w64 (to_z w64 c.loop-i.sum-bits +ℤ to_z w64 (of_z w64 c.value.result))) ≡ to_z w64 c.loop-i.sum-bits +ℤ value_of c.in_ok-entry.field-0
added c = to_z-of_z w64 _ (fits c) ∙ ap (λ v. to_z w64 c.loop-i.sum-bits +ℤ v) (value c)

pub overflow_add-sum : goal.overflow_add-sum
overflow_add-sum c = fits (goal.at.overflow_add-sum c).After-value

pub loop-i-preserved : goal.loop-i-preserved
loop-i-preserved c =
    let k = (goal.at.loop-i-preserved c).After-value in
    let i = (goal.at.loop-i-preserved c).In-loop-i in
    let z = to_z w64 c.loop-i.sum-bits in (
      subst (λ y. Within y (c.loop-i._i + 1)) (sym (added k)) (within k),
      λ d gs opens a e.
          let h = here i d gs opens a e in
          let l = c.loop-i.invariant.1 d gs opens a e in
          let s = standing i d gs opens a e in
          let x = (entry-here h s (rw c.from.ensures at c.split_at.ensures.front)).1 in
          let word = known-some (entry_word d.format c.args.place h.goal.answer_terms) c.in_ok-entry.field-0 (c.in_ok-entry.ensures d h.goal.answer_terms opens x) in
          record {
            others = h.others;
            standing = rw (c.split_at.ensures.back, c.from.ensures) (column-after h s);
            many = omega (arith, l.many, ap length h.same);
            left =
                l.left
                ∙ ap (λ xs. add_to z (column_words d.format c.args.place xs)) h.same
                ∙ sum-next d.format c.args.place z h.goal h.others c.in_ok-entry.field-0 word
                ∙ ap (λ y. add_to y (column_words d.format c.args.place h.others)) (sym (added k));
          },
    )

pub returns : goal.returns
returns c = λ d gs opens a e.
    let l = c.loop-i.invariant.1 d gs opens a e in
    summed-some _ _ (l.left ∙ sum-over d.format c.args.place l.others (omega (arith, l.many, c.loop-i-test.false)) (to_z w64 c.loop-i.sum-bits))
