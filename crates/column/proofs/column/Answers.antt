-- `column` meets its contract: the deck's refusals, 17, 18, and the mean.
use mathlib.Core.Path.{◌≡◌, sym, ◌∙◌, ap, ap₂, subst}
use mathlib.Core.Bool.{true}
use mathlib.Core.Option.{some}
use mathlib.Core.List.{List}
use native.Mathlib.Omega.{arith}
use lib.ListN.{length}
use Rattle.std.specs.Prelude.{Some, None, Err}
use Rattle.std.specs.Option.{ok_or}
use mir.Syntax.{w64}
use Rattle.std.proofs.lemmas.Int.{to_z-of_z}
use Rattle.std.proofs.lemmas.Result.{err_from_is_err_and}
use Rattle.rules.specs.Syntax.{Deck, Goal}
use Rattle.rules.specs.Refusals.{checked_number, accepted}
use Rattle.rules.specs.Decks.{symbol_words, open_deck}
use Rattle.rules.specs.Column.{read_answers, column_words, mean, column}
use Rattle.rules.proofs.ColumnLaws.{answers-read}
use Rattle.deck.proofs.OpenLaws.{accepted-deck}
use Rattle.deck.proofs.RefusalLaws.{number-refuses}
use Rattle.deck.specs.declared.Refusal.TheVariants as code
use Rattle.column.specs.Entries.{ColumnAt, Summed}
use Rattle.column.specs.Results.{Answers}
use Rattle.column.proofs.ListLaws.{column-at}
use Rattle.column.proofs.CallLaws.{refused-deck, refused-counts, refused-list, refused-entry, has-mean, is-found}
use Rattle.column.proofs.column.Goals as goal
use Rattle.column.proofs.column.Goals.{In_ok-opened, After-list_fits}

-- The deck that opened.
deck : (c : In_ok-opened) → (d : Deck) × (open_deck c.args.deck.now ≡ accepted d) × (open_deck c.in_ok-opened.opened.words.now ≡ accepted d)
deck c =
    let o : checked_number (open_deck c.args.deck.now) ≡ 0 = rw c.in_ok-opened.ensures.words at c.in_ok-opened.opened.opens in
    let d = accepted-deck c.args.deck.now o in
    (d.0, d.1, ap open_deck c.in_ok-opened.ensures.words ∙ d.1)

pub returns-in_err-opened : goal.returns-in_err-opened
returns-in_err-opened c =
    let a = c.args in
    let p = err_from_is_err_and c.from_residual.result c.from_residual.ensures.1 in
    rw (p.1, p.2) (refused-deck a.deck.now a.list.now a.count a.terms a.place c.in_err-opened.field-0.0 (number-refuses _ _ c.in_err-opened.ensures.number))

pub returns-in_default : goal.returns-in_default
returns-in_default c =
    let a = c.args in
    let d = deck (goal.at.returns-in_default c).In_ok-opened in
    refused-counts a.deck.now a.list.now a.count a.terms a.place d.0 d.1 (λ least most inside. c.in_default.ensures (omega (arith, most)))

pub returns-then-number-eq0 : goal.returns-then-number-eq0
returns-then-number-eq0 c =
    let a = c.args in
    let d = deck (goal.at.returns-then-number-eq0 c).In_ok-opened in
    refused-counts a.deck.now a.list.now a.count a.terms a.place d.0 d.1 (λ least most inside. omega (arith, c.in-Ok.ensures))

pub returns-then-terms-place : goal.returns-then-terms-place
returns-then-terms-place c =
    let a = c.args in
    let d = deck (goal.at.returns-then-terms-place c).In_ok-opened in
    refused-counts a.deck.now a.list.now a.count a.terms a.place d.0 d.1 (λ least most inside. omega (arith, c.if-terms-place.true))

pub returns-then-not-list_fits : goal.returns-then-not-list_fits
returns-then-not-list_fits c =
    let a = c.args in
    let d = deck (goal.at.returns-then-not-list_fits c).In_ok-opened in
    refused-list a.deck.now a.list.now a.count a.terms a.place d.0 d.1 (omega (arith, c.in-Ok.ensures)) (omega (arith, c.in-Ok.ensures)) (omega arith)
    (sym (c.list_fits.ensures d.0 d.2) ∙ c.if-not-list_fits.true)

-- The answers that the list begins with.
module _ (c : After-list_fits) (d : Deck) (o : open_deck c.in_ok-opened.opened.words.now ≡ accepted d) (e : c.list_fits.result ≡ true) where
  answers : (gs : List Goal) × (read_answers d.symbols c.args.count c.args.terms c.args.list.now ≡ some gs)
  answers = is-found _ (sym (c.list_fits.ensures d o) ∙ e)

  stand : ColumnAt (symbol_words c.in_ok-opened.opened.words.now) c.args.list.now answers.0 c.args.place × (length answers.0 ≡ c.in-Ok.number)
  stand =
      let r = answers-read d.symbols c.args.count c.args.terms c.args.list.now answers.0 answers.1 in
      (column-at c.in_ok-opened.opened.words.now c.args.list.now d c.args.count c.args.terms c.args.place answers.0 o r c.if-terms-place.false, r.many ∙ sym c.in-Ok.ensures.1)

pub sum-requires : goal.sum-requires
sum-requires c =
    let d = deck (goal.at.sum-requires c).In_ok-opened in
    let k = (goal.at.sum-requires c).After-list_fits in
    let s = stand k d.0 d.2 c.if-not-list_fits.false in
    (d.0, (answers k d.0 d.2 c.if-not-list_fits.false).0, d.2, s.0, s.1)

pub returns-in_err-sum : goal.returns-in_err-sum
returns-in_err-sum c =
    let a = c.args in
    let d = deck (goal.at.returns-in_err-sum c).In_ok-opened in
    let k = (goal.at.returns-in_err-sum c).After-list_fits in
    let gs = answers k d.0 d.2 c.if-not-list_fits.false in
    let s = stand k d.0 d.2 c.if-not-list_fits.false in
    let p = err_from_is_err_and c.from_residual-in_err-sum.result c.from_residual-in_err-sum.ensures.1 in
    let q : c.sum.result ≡ None = c.in_err-sum.ensures.ok_part in
    let w = refused-entry a.deck.now a.list.now a.count a.terms a.place d.0 d.1 (omega (arith, c.in-Ok.ensures)) (omega (arith, c.in-Ok.ensures)) (omega arith) gs.0 gs.1
    (subst (Summed (column_words d.0.format a.place gs.0)) q (c.sum.ensures d.0 gs.0 d.2 s.0 s.1)) in
    let same : c.in_err-sum.field-0.0 ≡ code.NotNumber = let z = c.in_err-sum.ensures.value ∙ ap (λ x. ok_or x code.NotNumber) q in cc in
    rw (p.1, p.2) (subst (λ e. Answers (column a.deck.now a.list.now a.count a.terms a.place) (Err e)) (sym same) w)

pub returns : goal.returns
returns c =
    let a = c.args in
    let d = deck (goal.at.returns c).In_ok-opened in
    let k = (goal.at.returns c).After-list_fits in
    let gs = answers k d.0 d.2 c.if-not-list_fits.false in
    let s = stand k d.0 d.2 c.if-not-list_fits.false in
    let q : c.sum.result ≡ Some c.in_ok-sum.sum = c.in_ok-sum.ensures.ok_part in
    has-mean a.deck.now a.list.now a.count a.terms a.place d.0 d.1 (omega (arith, c.in-Ok.ensures)) (omega (arith, c.in-Ok.ensures)) (omega arith) gs.0 gs.1 c.in_ok-sum.sum c.new-2.result
    (subst (Summed (column_words d.0.format a.place gs.0)) q (c.sum.ensures d.0 gs.0 d.2 s.0 s.1)) (c.new-2.ensures ∙ ap₂ mean c.in-Ok.ensures.1 (to_z-of_z w64 c.in_ok-sum.sum (let f = rw q at c.sum.type_inv in record { sfits = omega arith })))
