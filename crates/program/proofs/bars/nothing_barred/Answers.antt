-- `nothing_barred` meets its contract.
use Rattle.std.proofs.Common.{◌≡◌, ◌≤◌, ℕ, List, length, ap, ◌∙◌, arith}
use lib.ListN.{length-map, length-replicate}
use Rattle.rules.specs.Syntax.{Deck}
use Rattle.rules.specs.Refusals.{accepted}
use Rattle.rules.specs.Decks.{write_symbol, symbol_words, open_deck}
use Rattle.rules.proofs.DeckLaws.{symbols-part, opened-written}
use Rattle.deck.proofs.OpenLaws.{accepted-deck}
use Rattle.program.proofs.PartLaws.{zeros-part}
use Rattle.program.proofs.bars.nothing_barred.Goals as goal

-- There are as many symbol words as symbols, and at most 4,096.
counted : (ws : List ℕ) (d : Deck) → open_deck ws ≡ accepted d → (length (symbol_words ws) ≡ length d.symbols) × (length d.symbols ≤ 4096)
counted ws d e =
    let o = opened-written ws d e in
    (ap (λ (l : List ℕ). length (symbol_words l)) o.0 ∙ ap length (symbols-part d o.1) ∙ length-map d.symbols write_symbol, o.1.few_symbols)

pub shared_ref_as_front-result : goal.shared_ref_as_front-result
shared_ref_as_front-result c =
    let ws = c.args.deck.now.words.now in
    let d = accepted-deck ws c.args.deck.now.opens in
    let n = counted ws d.0 d.1 in
    omega (arith, ap length c.symbols.ensures, n, ap length c.requires, length-replicate {A = ℕ} 4096 0)

pub returns : goal.returns
returns c d e =
    let n = counted c.args.deck.now.words.now d e in
    rw (c.requires, ap length c.symbols.ensures ∙ n.0) (zeros-part (length d.symbols) 4096 n.1)
