-- `tried` meets its contract. Assumes nothing.
use Rattle.std.proofs.Common.{rules}
use Rattle.deck.proofs.OpenLaws.{accepted-deck}
use Rattle.clauses.proofs.TriedLaws.{found-places, found-numbers, found-few, found-rows, found-tried}
use Rattle.clauses.proofs.Clauses.tried.Goals as goal

pub about-requires : goal.about-requires
about-requires c =
    let s = c.args.self.now in
    let d = accepted-deck s.deck.words.now s.deck.opens in
    found-places s.deck.words.now d.0 d.1 s.index.now (s.indexed d.0 d.1) c.args.p c.requires.p_in

pub row-requires : goal.row-requires
row-requires c =
    let s = c.args.self.now in
    let d = accepted-deck s.deck.words.now s.deck.opens in
    found-places s.deck.words.now d.0 d.1 s.index.now (s.indexed d.0 d.1) c.args.p c.requires.p_in

pub invariant_of-result : goal.invariant_of-result
invariant_of-result c =
    let s = c.args.self.now in
    record {
      next_in = search rules;
      numbers_about = λ d e. found-numbers s.deck.words.now d e s.index.now (s.indexed d e) c.args.p c.requires.p_in c.about.result.now c.about.ensures;
      rows_about = λ d e. found-rows s.deck.words.now d e s.index.now (s.indexed d e) c.args.p c.requires.p_in c.args.first c.row.result c.requires.argued c.row.ensures;
    }

pub returns-clause-few : goal.returns-clause-few
returns-clause-few c =
    let s = c.args.self.now in
    let d = accepted-deck s.deck.words.now s.deck.opens in
    found-few s.deck.words.now d.0 d.1 s.index.now (s.indexed d.0 d.1) c.args.p c.requires.p_in c.about.result.now c.about.ensures

pub returns-clause-tried : goal.returns-clause-tried
returns-clause-tried c d ts e q =
    let s = c.args.self.now in
    found-tried s.deck.words.now d e s.index.now (s.indexed d e) c.args.p c.requires.p_in c.args.first c.row.result ts q c.row.ensures
