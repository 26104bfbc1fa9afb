-- `check_goals` meets its contract.
use Rattle.std.proofs.Common.{length, ap, sym, ◌∙◌, subst, arith}
use Rattle.rules.specs.Goals.{appearing}
use Rattle.rules.specs.Rights.{predicates, literals_of}
use Rattle.deck.specs.Kinds.{symbols_of}
use Rattle.deck.proofs.OpenLaws.{accepted-deck}
use Rattle.clauses.proofs.GroupLaws.{few-symbols}
use Rattle.rights.specs.Reached.{Within, AreGoals, SomeGoals}
use Rattle.rights.proofs.RightsLaws.{symbols-are, goals-within}
use Rattle.rights.proofs.check_goals.Goals as goal
use Rattle.rights.proofs.check_goals.Goals.{After-symbols}

pub add_goals-requires-clause-few : goal.add_goals-requires-clause-few
add_goals-requires-clause-few c =
    let ws = c.args.clauses.now.deck.words.now in
    let d = accepted-deck ws c.args.clauses.now.deck.opens in
    omega (arith, ap length c.symbols.ensures, few-symbols ws d.0 d.1)

-- The goals that the words are known to be, by the code's symbols.
some : (k : goal.After-symbols) → SomeGoals (symbols_of k.symbols.result.now) k.args.goals.now
some k =
    let ws = k.args.clauses.now.deck.words.now in
    let d = accepted-deck ws k.args.clauses.now.deck.opens in
    subst (λ S. SomeGoals S k.args.goals.now) (sym (symbols-are ws d.0 d.1 k.symbols.result.now k.symbols.ensures)) (k.requires d.0 d.1)

pub add_goals-requires-clause-goals : goal.add_goals-requires-clause-goals
add_goals-requires-clause-goals c = some (goal.at.add_goals-requires-clause-goals c).After-symbols

pub check-requires : goal.check-requires
check-requires c =
    let g = some (goal.at.check-requires c).After-symbols in
    subst (λ n. Within n c.add_goals.new.self.list.items) (ap length c.symbols.ensures)
    (goals-within c.symbols.result.now c.args.goals.now _ g.goals g.are
    (c.add_goals.ensures g.goals g.are ∙ ap (λ x. appearing x (predicates (literals_of g.goals))) c.new-starts.ensures))

pub returns : goal.returns
returns c d ms e a =
    let b = subst (λ S. AreGoals S c.args.goals.now ms) (sym (symbols-are c.args.clauses.now.deck.words.now d e c.symbols.result.now c.symbols.ensures)) a in
    c.check.ensures d ms e (c.add_goals.ensures ms b ∙ ap (λ x. appearing x (predicates (literals_of ms))) c.new-starts.ensures)
