-- `check_query` meets its contract.
use Rattle.std.proofs.Common.{length, ap, ◌∙◌, subst, arith}
use Rattle.rules.specs.Goals.{appearing}
use Rattle.deck.specs.Kinds.{symbols_of}
use Rattle.deck.proofs.OpenLaws.{accepted-deck}
use Rattle.clauses.proofs.GroupLaws.{few-symbols}
use Rattle.rights.specs.Named.{named}
use Rattle.rights.specs.Reached.{Within}
use Rattle.rights.proofs.RightsLaws.{query-starts, named-within}
use Rattle.rights.proofs.check_query.Goals as goal

pub add_named-requires : goal.add_named-requires
add_named-requires c =
    let ws = c.args.clauses.now.deck.words.now in
    let d = accepted-deck ws c.args.clauses.now.deck.opens in
    omega (arith, ap length c.symbols.ensures, few-symbols ws d.0 d.1)

pub check-requires : goal.check-requires
check-requires c =
    subst (λ n. Within n c.add_named.new.self.list.items) (ap length c.symbols.ensures)
    (named-within c.symbols.result.now c.args.query.now _ (c.add_named.ensures ∙ ap (λ x. appearing x (named (symbols_of c.symbols.result.now) c.args.query.now)) c.new-starts.ensures))

pub returns : goal.returns
returns c d q e r =
    c.check.ensures d _ e (query-starts c.args.clauses.now.deck.words.now d e c.symbols.result.now c.symbols.ensures c.args.query.now q r _
    (c.add_named.ensures ∙ ap (λ x. appearing x (named (symbols_of c.symbols.result.now) c.args.query.now)) c.new-starts.ensures))
