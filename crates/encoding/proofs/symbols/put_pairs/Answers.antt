-- Two words more.
use Prim.Native.Nat.{◌≤◌}
use mathlib.Core.Path.{ap, sym, subst, ◌∙◌}
use native.Mathlib.Omega.{arith}
use Rattle.text_rules.specs.TextWords.{arity}
use Rattle.text.specs.declared.names.Entry.{Entry}
use Rattle.naming.specs.declared.declarations.Symbol.{Symbol}
use Rattle.naming.specs.Walks.{symbol_of}
use Rattle.naming.specs.Table.{no_symbol}
use Rattle.encoding.specs.Symbols.{first_word, second_word}
use Rattle.encoding.proofs.EncodeLaws.{pair-put, pairs-all, second-of, arity-fits}
use Rattle.encoding.proofs.symbols.put_pairs.Goals as goal

pub first-requires : goal.first-requires
first-requires c =
    subst (λ (e : Entry Symbol). arity (symbol_of e.value) ≤ 15) (sym (c.get-symbol.ensures.equal no_symbol))
    (arity-fits c.args.names c.loop-j.j (omega (arith, c.loop-j-test.true, c.len-j-end.ensures.equal)))

pub loop-j-preserved : goal.loop-j-preserved
loop-j-preserved c =
    let l = c.loop-j in
    let e = c.get-symbol.ensures.equal no_symbol in
    let first = c.first.ensures ∙ ap (λ (e : Entry Symbol). first_word e.value) e in
    let second = second-of c.get-symbol.result.value c.value.result c.unwrap_or.result c.value.ensures c.unwrap_or.ensures ∙ ap (λ (e : Entry Symbol). second_word e.value) e in
    pair-put c.args.names.names.now.entries c.args.words.now l.j (omega (arith, c.loop-j-test.true, c.len-j-end.ensures.equal)) c.requires l.words l.invariant
    c.first.result c.unwrap_or.result first second

pub returns : goal.returns
returns c =
    let l = c.loop-j in
    l.invariant ∙ pairs-all c.args.names.names.now.entries c.args.words.now l.j (omega (arith, c.loop-j-test.false, c.len-j-end.ensures.equal)) c.requires
