-- The numbers and the goals' words are read, and the contract of the press gives what is printed.
use Rattle.std.proofs.Common.{rules, ◌≡◌, ◌∙◌, ◌-◌, length, drop, ap, sym, arith}
use Rattle.std.proofs.lemmas.List.{take_all, length-drop}
use Rattle.std.proofs.lemmas.Result.{err_from_is_err_and}
use Rattle.rules.specs.Syntax.{Deck}
use Rattle.rules.specs.Refusals.{accepted}
use Rattle.rules.specs.Decks.{open_deck}
use Rattle.rules.specs.Program.{words_from}
use Rattle.rules.specs.CarryProgram.{bars_from, store_from}
use Rattle.deck.proofs.OpenLaws.{accepted-deck}
use Rattle.deck.proofs.RefusalLaws.{number-refuses}
use Rattle.listing.specs.Printed.{file_of}
use Rattle.listing.proofs.PutLaws.{put-length}
use Rattle.program.proofs.PartLaws.{Buffers, zeros-buffers}
use Rattle.carry_program.proofs.RunLaws.{goals-stored}
use Rattle.press_program.proofs.PressLaws.{press-deck, press-refused, press-done}
use Rattle.press_program.proofs.press_bytes.Goals as goal
use Rattle.press_program.proofs.press_bytes.Goals.{In_ok-opened, After-read_words, After-bars_of-bars}

-- The deck that opened, and the list.
deck : (k : In_ok-opened) → (d : Deck) × (open_deck k.args.deck.now ≡ accepted d)
deck k = let d = accepted-deck k.in_ok-opened.opened.words.now k.in_ok-opened.opened.opens in (d.0, ap open_deck (sym k.in_ok-opened.ensures.words) ∙ d.1)

listed : (k : After-bars_of-bars) (d : Deck) → open_deck k.args.deck.now ≡ accepted d → k.bars_of-bars.result.now ≡ bars_from (length d.symbols) (file_of k.args.bars)
listed k d e = k.bars_of-bars.ensures d (ap open_deck k.in_ok-opened.ensures.words ∙ e)

pub returns-in_err-opened : goal.returns-in_err-opened
returns-in_err-opened c =
    let a = c.args in
    let p = err_from_is_err_and c.from_residual.result c.from_residual.ensures.1 in
    rw (p.1, p.2) (press-deck a.deck.now a.bytes.now (file_of a.bars) a.budget _ (number-refuses _ (open_deck a.deck.now) c.in_err-opened.ensures.number), search rules)

-- The store after the goals' words are read.
filled : (c : After-read_words) → c.read_words.new.words ≡ store_from (words_from (drop 48 c.args.bytes.now))
filled c =
    let a = c.args in
    let rest = drop 48 a.bytes.now in
    goals-stored 48 a.bytes.now _ (take_all (length a.bytes.now - 48) rest (omega (arith, length-drop 48 a.bytes.now))) c.requires.1 (rw c.new-lists.ensures.store at c.read_words.ensures)

-- The lists have their sizes.
sized : (c : After-read_words) → Buffers (record { answers = c.new-lists.result.answers; store = c.read_words.new.words; scratch = c.new-lists.result.scratch })
sized c =
    let l = c.new-lists.ensures in
    let z : Buffers (record { answers = c.new-lists.result.answers; store = c.new-lists.result.store; scratch = c.new-lists.result.scratch }) = zeros-buffers l.answers l.store l.scratch in
    record { answers = z.answers; store = put-length c.read_words.ensures ∙ z.store; scratch = z.scratch }

pub returns-in_err-advance : goal.returns-in_err-advance
returns-in_err-advance c =
    let a = c.args in
    let at = goal.at.returns-in_err-advance c in
    let w = at.After-read_words in
    let d = deck at.In_ok-opened in
    let p = err_from_is_err_and c.from_residual-in_err-advance.result c.from_residual-in_err-advance.ensures.1 in
    rw (p.1, p.2) (press-refused a.deck.now a.bytes.now _ d.0 d.1 (file_of a.bars) (listed at.After-bars_of-bars d.0 d.1) a.budget _ _ _ c.display-display.ensures c.number-terms.ensures _ _ (sized w) (filled w) _ c.in_err-advance.ensures, search rules)

pub put_press-requires : goal.put_press-requires
put_press-requires c =
    let a = c.args in
    let at = goal.at.put_press-requires c in
    let w = at.After-read_words in
    let d = deck at.In_ok-opened in
    rw c.in_ok-opened.ensures.words (_, press-done a.deck.now a.bytes.now _ d.0 d.1 (file_of a.bars) (listed at.After-bars_of-bars d.0 d.1) a.budget _ _ _ c.display-display.ensures c.number-terms.ensures _ _ (sized w) (filled w) _ c.in_ok-advance.ensures)

pub returns : goal.returns
returns c =
    let a = c.args in
    let at = goal.at.returns c in
    let w = at.After-read_words in
    let d = deck at.In_ok-opened in
    c.put_press.ensures _
    (rw c.in_ok-opened.ensures.words (press-done a.deck.now a.bytes.now _ d.0 d.1 (file_of a.bars) (listed at.After-bars_of-bars d.0 d.1) a.budget _ _ _ c.display-display.ensures c.number-terms.ensures _ _ (sized w) (filled w) _ c.in_ok-advance.ensures))
