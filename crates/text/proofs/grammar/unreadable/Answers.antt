-- The invariant: the text is read as far as the walk has come.
use Rattle.std.proofs.Common.{◌≡◌, refl, ap, ◌∙◌, subst}
use Rattle.std.proofs.Math.Option.{some}
use Rattle.text_rules.specs.TextGrammar.{follows, next}
use Rattle.text.specs.declared.tokens.Kind.TheVariants.{Ending}
use Rattle.text.specs.declared.tokens.Token.{Token}
use Rattle.text.specs.Kinds.{kind_of}
use Rattle.text.specs.Scan.{NextToken}
use Rattle.text.specs.Tokens.{TextEnds}
use Rattle.text.specs.Steps.{state_of, step_of}
use Rattle.text.proofs.GrammarLaws.{no-key}
use Rattle.text.proofs.ReadLaws.{token_of, read_none, read-on, read_all, read-stops}
use Rattle.text.proofs.grammar.unreadable.Goals as goal
use Rattle.text.proofs.grammar.unreadable.Goals.{In-Some, In-None, After-follow, After-follow-2}

-- A token of the text, and the step of the grammar over it.
scanned : (k : In-Some) → NextToken k.args.text.now k.loop-t.t-iterator.at k.in-Some.t
scanned k = subst (λ x. NextToken x k.loop-t.t-iterator.at k.in-Some.t) k.loop-t.invariant.same k.in-Some.ensures.steps.found.next

step : (k : After-follow) → next (follows (state_of k.loop-t.s)) (token_of k.args.text.now k.in-Some.t) ≡ step_of k.follow.result
step k =
    let u = token_of k.args.text.now k.in-Some.t in
    k.follow.ensures u refl (k.key_of-key.ensures u refl refl)

-- The end of the text, and the step over it.
ended : (k : In-None) → TextEnds k.args.text.now k.loop-t.t-iterator.at
ended k = subst (λ x. TextEnds x k.loop-t.t-iterator.at) k.loop-t.invariant.same k.in-None.ensures.steps.found

last-step : (k : After-follow-2) (r : Token) → r.kind ≡ Ending → next (follows (state_of k.loop-t.s)) (token_of k.args.text.now r) ≡ step_of k.follow-2.result
last-step k r e = let u = token_of k.args.text.now r in k.follow-2.ensures u (ap kind_of e) (no-key r.kind u (λ q. cc) refl)

pub loop-t-init : goal.loop-t-init
loop-t-init c =
    let i = c.into_iter-t-iterator.ensures.into_iter_gives in
    record {
      same = ap (λ w. w.text.now) i ∙ c.new-t-items.ensures.0;
      read = rw (ap (λ w. w.at) i ∙ c.new-t-items.ensures.1) (read_none c.args.text.now c.args.start c.requires);
    }

pub returns-in_default : goal.returns-in_default
returns-in_default c =
    let l = c.loop-t in
    let e = step (goal.at.returns-in_default c).After-follow ∙ ap step_of c.in_default.is in
    read-stops c.args.text.now (state_of l.s) l.t-iterator.at c.in-Some.t (scanned (goal.at.returns-in_default c).In-Some) l.invariant.read e

pub loop-t-preserved : goal.loop-t-preserved
loop-t-preserved c =
    let l = c.loop-t in
    let s = c.in-Some.ensures.steps in
    let e = step (goal.at.loop-t-preserved c).After-follow ∙ ap step_of c.in-Some-follow.is in
    record {
      same = ap (λ x. x.now) s.text ∙ l.invariant.same;
      read = rw s.onward (read-on c.args.text.now (state_of l.s) l.t-iterator.at c.in-Some.t (scanned (goal.at.loop-t-preserved c).In-Some) l.invariant.read (state_of c.in-Some-follow.next) e s.found.in_text);
    }

pub returns-in-Some-follow-2 : goal.returns-in-Some-follow-2
returns-in-Some-follow-2 c =
    let l = c.loop-t in
    let z = ended (goal.at.returns-in-Some-follow-2 c).In-None in
    let e = last-step (goal.at.returns-in-Some-follow-2 c).After-follow-2 z.token z.kind ∙ ap step_of c.in-Some-follow-2.is in
    read_all c.args.text.now (state_of l.s) l.t-iterator.at z.token z.next l.invariant.read (state_of c.in-Some-follow-2.field-0) e z.kind

pub returns-in-None-follow : goal.returns-in-None-follow
returns-in-None-follow c =
    let l = c.loop-t in
    let z = ended (goal.at.returns-in-None-follow c).In-None in
    let e = last-step (goal.at.returns-in-None-follow c).After-follow-2 z.token z.kind ∙ ap step_of c.in-None-follow.is in
    read-stops c.args.text.now (state_of l.s) l.t-iterator.at z.token z.next l.invariant.read e ∙ ap some (z.next.last z.kind)
