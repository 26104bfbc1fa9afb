-- `header::fit`: the facts of a header that fits.
use mathlib.Core.Path.{◌≡◌, sym, ap₂, ◌∙◌}
use native.Mathlib.Omega.{arith}
use Rattle.rules.specs.Decks.{header, symbol_room}
use Rattle.rules.proofs.DeckLaws.{facts-fit}
use Rattle.deck.proofs.header.fit.Goals as goal

pub returns : goal.returns
returns c =
    let ws = c.args.deck.now in
    let format : c.from.result ≡ header ws 0 = c.from.ensures in
    let symbols : c.from-2.result ≡ header ws 1 = c.from-2.ensures in
    let room : c.room-first_start.result ≡ symbol_room (header ws 0) (header ws 1) = c.room-first_start.ensures.words ∙ ap₂ symbol_room format symbols in
    sym (facts-fit _ (record {
      long = omega arith;
      format_least = omega arith;
      format_most = omega arith;
      some_symbol = omega arith;
      few_symbols = omega arith;
      symbol_offset = omega arith;
      clause_offset = omega arith;
      term_offset = omega arith;
      end = omega arith;
      whole = omega arith;
      total = omega arith;
    }))
