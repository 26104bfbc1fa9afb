-- `fill` meets its contract. Assumes nothing.
use Rattle.std.proofs.Common.{◌≡◌, ◌+◌, length, ap, sym, ◌∙◌, subst, arith}
use Rattle.rules.specs.Decks.{symbol_words}
use Rattle.signature.specs.Symbols.{arity_at}
use Rattle.clauses.specs.Index.{Fills}
use Rattle.clauses.proofs.IndexLaws.{fills-past, fills-all}
use Rattle.clauses.proofs.by_predicate.Index.fill.Goals as goal
use Rattle.clauses.proofs.by_predicate.Index.fill.Goals.{then-arity-gt0, else-arity-gt0}

pub loop-p-init : goal.loop-p-init
loop-p-init c d e = record { groups = c.fill.ensures d e; rows = λ q h. absurd (omega arith); unset = λ w h. c.requires.unset w }

pub loop-p-preserved : goal.loop-p-preserved
loop-p-preserved c d e =
    let symbols = symbol_words c.args.deck.now.words.now in
    let p = c.loop-p.p in
    let none : arity_at symbols p ≡ c.arity.result = ap (λ ws. arity_at ws p) (sym c.symbols-symbols.ensures) ∙ sym c.arity.ensures in
    elim c.if-arity-gt0.branch [
      | then-arity-gt0 w ↦ subst (Fills symbols d.clauses (p + 1)) (sym w.self-is) (w.fill_rows.ensures d e)
      | else-arity-gt0 w ↦ subst (Fills symbols d.clauses (p + 1)) (sym w.self-is) (fills-past symbols d.clauses p c.loop-p.self (c.loop-p.invariant d e) (λ a h. omega (arith, none)))
    ]

pub returns : goal.returns
returns c d e =
    fills-all (symbol_words c.args.deck.now.words.now) d.clauses c.loop-p.p c.loop-p.self (omega (arith, ap length c.symbols-symbols.ensures)) (c.loop-p.invariant d e)
