-- `fill_rows` meets its contract. Assumes nothing.
use Rattle.std.proofs.Common.{◌≡◌, ◌+◌, ◌-◌, ◌/◌, ◌≤◌, length, drop, ap, ◌∙◌, arith, rules, length-take, length-drop}
use Rattle.rules.specs.Syntax.{Deck}
use Rattle.rules.specs.Refusals.{accepted}
use Rattle.rules.specs.Decks.{symbol_words, open_deck}
use Rattle.rules.specs.Resolution.{clauses_about}
use Rattle.deck.proofs.OpenLaws.{accepted-deck}
use Rattle.clauses.specs.Groups.{before, Numbers}
use Rattle.clauses.specs.Rows.{row_words}
use Rattle.clauses.proofs.GroupLaws.{few, few-symbols}
use Rattle.clauses.proofs.ArityLaws.{all-argued}
use Rattle.clauses.proofs.IndexLaws.{rows-inside, group-begin, group-end, group-room, group-numbers, fills-past, fills-more, unset-part}
use Rattle.clauses.proofs.by_predicate.Index.fill_rows.Goals as goal
use Rattle.clauses.proofs.by_predicate.Index.fill_rows.Goals.{After-about-numbers, After-words}

-- The numbers of the clauses about p.
numbers : (k : goal.After-about-numbers) (d : Deck) → open_deck k.args.deck.now.words.now ≡ accepted d → Numbers k.args.p d.clauses k.about-numbers.result.now
numbers k d e =
    let ws = k.args.deck.now.words.now in
    let s = k.args.self.now.groups in
    group-numbers (length (symbol_words ws)) d.clauses s.begins s.numbers (k.requires.below d e).groups (few ws d e) k.args.p k.requires.p_in _ k.about-numbers.ensures

pub about-numbers-requires : goal.about-numbers-requires
about-numbers-requires c =
    let ws = c.args.deck.now.words.now in
    let s = c.args.self.now.groups in
    let d = accepted-deck ws c.args.deck.now.opens in
    let r = (c.requires.below d.0 d.1).groups in
    let n = few ws d.0 d.1 in
    let begin = group-begin (length (symbol_words ws)) d.0.clauses s.begins s.numbers r n c.args.p c.requires.p_in in
    let end = group-end (length (symbol_words ws)) d.0.clauses s.begins s.numbers r n c.args.p c.requires.p_in in
    let room = group-room (length (symbol_words ws)) d.0.clauses s.begins s.numbers r n c.args.p c.requires.p_in in
    record { p_in = omega (arith, few-symbols ws d.0 d.1); in_order = omega (arith, begin, end); within = omega (arith, end, room) }

pub returns-then-numbers-le64 : goal.returns-then-numbers-le64
returns-then-numbers-le64 c d e =
    let r = numbers (goal.at.returns-then-numbers-le64 c).After-about-numbers d e in
    fills-past (symbol_words c.args.deck.now.words.now) d.clauses c.args.p c.args.self.now (c.requires.below d e) (λ a h. omega (arith, r.many))

-- Where its rows begin, and how many words they are.
module _ (k : goal.After-words) (numbered : (d : Deck) → open_deck k.args.deck.now.words.now ≡ accepted d → Numbers k.args.p d.clauses k.about-numbers.result.now) (d : Deck)
    (e : open_deck k.args.deck.now.words.now ≡ accepted d) where
  begins : k.begin-from.result ≡ before k.args.p d.clauses
  begins =
      let ws = k.args.deck.now.words.now in
      let s = k.args.self.now.groups in
      k.begin-from.ensures ∙ group-begin (length (symbol_words ws)) d.clauses s.begins s.numbers (k.requires.below d e).groups (few ws d e) k.args.p k.requires.p_in

  room : before k.args.p d.clauses + length (clauses_about k.args.p d.clauses) ≤ 8192
  room =
      let ws = k.args.deck.now.words.now in
      let s = k.args.self.now.groups in
      group-room (length (symbol_words ws)) d.clauses s.begins s.numbers (k.requires.below d e).groups (few ws d e) k.args.p k.requires.p_in

  words : k.begin-from.result / 2 + k.words.result - k.begin-from.result / 2 ≡ row_words (length (clauses_about k.args.p d.clauses))
  words =
      let m : k.words.result ≡ row_words (length (clauses_about k.args.p d.clauses)) = k.words.ensures ∙ ap row_words (numbered d e).many in
      omega (arith, m)

pub fill-requires : goal.fill-requires
fill-requires c =
    let ws = c.args.deck.now.words.now in
    let k = (goal.at.fill-requires c).After-words in
    let numbered = numbers (goal.at.fill-requires c).After-about-numbers in
    let d = accepted-deck ws c.args.deck.now.opens in
    let long : length c.args.self.now.rows ≡ 4096 = search rules in
    record {
      numbers = numbered;
      argued = λ d e. all-argued ws d e c.args.p c.requires.argued;
      room =
          let many = (numbered d.0 d.1).many in
          rw (words k numbered d.0 d.1, begins k numbered d.0 d.1, many)
          (omega (
            arith,
            length-take (row_words (length (clauses_about c.args.p d.0.clauses))) (drop (before c.args.p d.0.clauses / 2) c.args.self.now.rows),
            length-drop (before c.args.p d.0.clauses / 2) c.args.self.now.rows,
            long,
            rows-inside (before c.args.p d.0.clauses) (length (clauses_about c.args.p d.0.clauses)) (omega (arith, many)),
            room k numbered d.0 d.1,
          ));
      unset =
          rw (words k numbered d.0 d.1, begins k numbered d.0 d.1)
          (unset-part (symbol_words ws) d.0.clauses c.args.p c.args.self.now (c.requires.below d.0 d.1) (omega (arith, (numbered d.0 d.1).many)) (room k numbered d.0 d.1) long);
    }

pub returns : goal.returns
returns c d e =
    let k = (goal.at.returns c).After-words in
    let numbered = numbers (goal.at.returns c).After-about-numbers in
    let s = c.args.self.now in
    rw (words k numbered d e, begins k numbered d e)
    (fills-more (symbol_words c.args.deck.now.words.now) d.clauses c.args.p s (c.requires.below d e) (omega (arith, (numbered d e).many)) (room k numbered d e) (search rules)
    c.fill.new.rows (c.fill.ensures d e))
