-- One word more.
use Prim.Native.Nat.{◌≤◌}
use mathlib.Core.Path.{ap, sym, subst, ◌∙◌}
use native.Mathlib.Omega.{arith}
use lib.ListN.{set}
use Rattle.rules.specs.Decks.{write_symbol}
use Rattle.text_rules.specs.TextWords.{arity}
use Rattle.text.specs.declared.names.Entry.{Entry}
use Rattle.naming.specs.declared.declarations.Symbol.{Symbol}
use Rattle.naming.specs.Walks.{symbol_of}
use Rattle.naming.specs.Table.{no_symbol}
use Rattle.encoding.proofs.EncodeLaws.{word-more, arity-fits}
use Rattle.encoding.proofs.symbols.put_words.Goals as goal

pub word-requires : goal.word-requires
word-requires c =
    subst (λ (e : Entry Symbol). arity (symbol_of e.value) ≤ 15) (sym (c.get.ensures.equal no_symbol))
    (arity-fits c.args.names c.loop-j.j (omega (arith, c.loop-j-test.true, c.len-j-end.ensures.equal)))

pub loop-j-preserved : goal.loop-j-preserved
loop-j-preserved c =
    let l = c.loop-j in
    ap (λ w. set w l.j c.word.result) l.invariant ∙ ap (set _ l.j) (c.word.ensures ∙ ap (λ (e : Entry Symbol). write_symbol (symbol_of e.value)) (c.get.ensures.equal no_symbol))
    ∙ word-more c.args.names.names.now.entries c.args.words.now l.j (omega (arith, c.loop-j-test.true, c.len-j-end.ensures.equal)) c.requires
