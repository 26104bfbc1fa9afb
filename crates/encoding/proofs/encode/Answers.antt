-- One part after the other.
use Prim.Native.Nat.{◌+◌, ◌≤◌}
use mathlib.Core.Path.{◌≡◌, ap, ap₂, sym, ◌∙◌}
use mathlib.Core.List.{map}
use native.Mathlib.Omega.{arith}
use lib.ListN.{length, length-map, drop}
use Rattle.rules.specs.Decks.{format_number, symbol_room}
use Rattle.text_rules.specs.TextWords.{entry_cell}
use Rattle.text_rules.specs.Text.{text_declarations, text_entries, text_format}
use Rattle.encoding.specs.Encoding.{room_of}
use Rattle.encoding.proofs.EncodeLaws.{count-same, encoded-all}
use Rattle.encoding.proofs.encode.Goals as goal

pub split_at_mut-symbols-requires : goal.split_at_mut-symbols-requires
split_at_mut-symbols-requires c = omega (arith, c.second_words.ensures, c.requires.fits, c.split_at_mut-header.ensures.back_len)

pub split_at_mut-starts-requires : goal.split_at_mut-starts-requires
split_at_mut-starts-requires c =
    omega (arith, c.second_words.ensures, c.requires.fits, c.split_at_mut-header.ensures.back_len, c.split_at_mut-symbols.ensures.back_len)

pub put_header-requires-clause-room : goal.put_header-requires-clause-room
put_header-requires-clause-room c =
    c.second_words.ensures ∙ ap₂ symbol_room (sym c.format.ensures) c.args.names.all.counted.count

pub put_symbols-requires : goal.put_symbols-requires
put_symbols-requires c =
    c.split_at_mut-symbols.ensures.front_len ∙ c.second_words.ensures
    ∙ ap (symbol_room (format_number (text_format c.args.names.all.text.text.now))) (count-same c.args.names)

pub returns : goal.returns
returns c =
    let a = c.args in
    let text = a.names.all.text.text.now in
    let header = c.split_at_mut-header.ensures in
    let symbols = c.split_at_mut-symbols.ensures in
    let starts = c.split_at_mut-starts.ensures in
    let r : a.names.all.count + c.second_words.result ≡ room_of text = c.second_words.ensures in
    let rest = rw r at (starts.back ∙ ap (drop a.s.clauses) (symbols.back ∙ ap (drop (a.names.all.count + c.second_words.result)) header.back)) in
    let room : length (map (entry_cell (text_declarations text)) (text_entries text)) ≤ length c.split_at_mut-starts.result.1.now =
    omega (arith, length-map (text_entries text) (entry_cell (text_declarations text)), c.requires.sized.cells, c.requires.fits, header.back_len, symbols.back_len, starts.back_len, r) in
    let all = encoded-all a.names a.s (length a.deck.now) c.requires a.deck.now c.split_at_mut-starts.result.0.now c.split_at_mut-starts.result.1.now starts.front_len rest room in
    rw (c.put_header.ensures, c.format.ensures, sym a.names.all.counted.count, c.put_symbols.ensures, c.put_clauses.ensures.starts, c.put_clauses.ensures.cells) all
