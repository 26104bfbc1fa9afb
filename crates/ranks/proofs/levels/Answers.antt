-- `levels` meets its contract: the deck's refusal, or what is told of the deck. Assumes nothing.
use Rattle.std.proofs.Common.{◌≡◌, refl, ap, ◌∙◌, subst}
use Rattle.std.proofs.lemmas.Result.{err_from_is_err_and}
use Rattle.rules.specs.Syntax.{Deck}
use Rattle.rules.specs.Refusals.{checked_number, accepted}
use Rattle.rules.specs.Decks.{open_deck}
use Rattle.deck.proofs.OpenLaws.{accepted-deck}
use Rattle.deck.proofs.RefusalLaws.{number-refuses}
use Rattle.ranks.specs.Raising.{RankSays}
use Rattle.ranks.proofs.AnswerLaws.{zero-words, refused-call, ranked, unranked}
use Rattle.ranks.proofs.levels.Goals as goal
use Rattle.ranks.proofs.levels.Goals.{In_ok-opened}

-- The deck that opened.
deck : (c : goal.In_ok-opened) → (d : Deck) × (open_deck c.args.deck.now ≡ accepted d) × (open_deck c.in_ok-opened.opened.words.now ≡ accepted d)
deck c =
    let o : checked_number (open_deck c.args.deck.now) ≡ 0 = rw c.in_ok-opened.ensures.words at c.in_ok-opened.opened.opens in
    let d = accepted-deck c.args.deck.now o in
    (d.0, d.1, ap open_deck c.in_ok-opened.ensures.words ∙ d.1)

pub returns-in_err-opened : goal.returns-in_err-opened
returns-in_err-opened c =
    let p = err_from_is_err_and c.from_residual.result c.from_residual.ensures.1 in
    let w = refused-call c.args.deck.now c.args.list.now c.in_err-opened.field-0.0 (number-refuses _ _ c.in_err-opened.ensures.number) in
    rw (p.1, p.2) w

pub rank-requires : goal.rank-requires
rank-requires c = zero-words 4096 refl

pub returns-then-rank : goal.returns-then-rank
returns-then-rank c =
    let d = deck (goal.at.returns-then-rank c).In_ok-opened in
    ranked c.args.deck.now d.0 d.1 c.args.list.now _ _ c.rank.ensures.length (subst (RankSays d.0.clauses _) c.if-rank.true (c.rank.ensures.ranks d.0 d.2)) c.hand.ensures

pub returns : goal.returns
returns c =
    let d = deck (goal.at.returns c).In_ok-opened in
    unranked c.args.deck.now d.0 d.1 c.args.list.now _ c.named.result (c.named.ensures d.0 d.2) (subst (RankSays d.0.clauses _) c.if-rank.false (c.rank.ensures.ranks d.0 d.2)) c.hand-2.ensures
