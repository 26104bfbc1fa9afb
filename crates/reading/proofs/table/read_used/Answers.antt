-- By the sizes, then by what opening the words says.
use mathlib.Core.Path.{◌≡◌, ap, sym, ◌∙◌, subst}
use mathlib.Core.Bool.{true}
use native.Mathlib.Omega.{arith}
use lib.ListN.{length, drop}
use Rattle.std.specs.Prelude.{Ok}
use Rattle.std.proofs.lemmas.Result.{err_from_is_err_and}
use Rattle.rules.specs.Refusals.{checked_number}
use Rattle.rules.specs.Decks.{open_deck}
use Rattle.text_rules.specs.Text.{text_words}
use Rattle.deck.specs.Answers.{number_of}
use Rattle.reading.specs.Reads.{DidRead}
use Rattle.reading.proofs.ResultLaws.{fitting, fits-fitting, did-full, did-refuse, did_read, total-room, total-most, size-total, front-words}
use Rattle.reading.proofs.table.read_used.Goals as goal
use Rattle.reading.proofs.table.read_used.Goals.{After-fits, After-open}

fits : (c : goal.After-fits) → let t = c.args.names.all.text.text.now in fitting t (length c.args.deck.now) ≡ c.fits.result
fits c = let a = c.args in let all = a.names.all in fits-fitting all.text.text.now c.sizes_of-s.result c.sizes_of-s.ensures (length a.deck.now) c.fits.result c.fits.ensures

-- The words fit.
fitted : (c : goal.After-fits) → c.fits.result ≡ true → fitting c.args.names.all.text.text.now (length c.args.deck.now) ≡ true
fitted c e = fits c ∙ e

-- What is opened is the words.
opened : (c : goal.After-open) → let t = c.args.names.all.text.text.now in number_of c.«open».result ≡ checked_number (open_deck (text_words t))
opened c =
    let a = c.args in
    let all = a.names.all in
    let W = text_words all.text.text.now in
    c.«open».ensures
    ∙ ap (λ ws. checked_number (open_deck ws))
    (front-words W (drop (length W) a.deck.now) _ _ c.encode.ensures (omega (arith, c.second_words.ensures, size-total all.text.text.now c.sizes_of-s.result c.sizes_of-s.ensures)))

pub returns-then-not-fits : goal.returns-then-not-fits
returns-then-not-fits c = let a = c.args in did-full a.names.all.text.text.now a.deck.now c.requires (fits (goal.at.returns-then-not-fits c).After-fits ∙ c.if-not-fits.true)

pub encode-requires : goal.encode-requires
encode-requires c =
    let a = c.args in
    let d = a.names in
    let t = d.all.text.text.now in
    let p = (goal.at.encode-requires c).After-fits in
    let f = fitted p c.if-not-fits.false in
    record {
      sized = c.sizes_of-s.ensures;
      fits = total-room t c.sizes_of-s.result c.sizes_of-s.ensures (length a.deck.now) f;
      most = total-most t c.sizes_of-s.result c.sizes_of-s.ensures (length a.deck.now) f;
    }

pub returns-in_err-open : goal.returns-in_err-open
returns-in_err-open c =
    let a = c.args in
    let p = err_from_is_err_and c.from_residual.result c.from_residual.ensures.1 in
    rw (p.1, p.2)
    (did-refuse a.names.all.text.text.now a.deck.now c.requires (fitted (goal.at.returns-in_err-open c).After-fits c.if-not-fits.false) _ c.in_err-open.field-0.0 (sym (ap number_of c.in_err-open.was) ∙ opened (goal.at.returns-in_err-open c).After-open) c.encode.auto.deck)

pub returns : goal.returns
returns c =
    let a = c.args in
    let all = a.names.all in
    subst (λ k. DidRead all.text.text.now a.deck.now (Ok k) c.encode.new.deck) (let e : length (text_words all.text.text.now) ≡ _ = omega (arith, c.second_words.ensures, size-total all.text.text.now c.sizes_of-s.result c.sizes_of-s.ensures) in e)
    (did_read all.text.text.now a.deck.now c.requires (fitted (goal.at.returns c).After-fits c.if-not-fits.false) _ (sym (ap number_of c.in_ok-open.was) ∙ opened (goal.at.returns c).After-open) c.encode.ensures)
