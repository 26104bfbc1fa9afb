-- `add` meets its contract.
use Rattle.std.proofs.Common.{true, false, [], ◌∷◌, ◌++◌, get_or, sym, ap, ◌∙◌, arith}
use Rattle.rights.proofs.MarkLaws.{appearing-again, appearing-first, appearing-none, marked-member, marks-room, marks-more}
use Rattle.rights.proofs.reached.Reached.add.Goals as goal
use Rattle.rights.proofs.reached.Reached.add.Goals.{After-from}

-- There is a mark for each predicate.
pub returns-then-self-from : goal.returns-then-self-from
returns-then-self-from c =
    let s = c.args.self.now in
    let e = ap (λ i. get_or s.marks i false) (sym c.from.ensures) ∙ c.if-self-from.true in
    sym (appearing-again c.args.p [] s.list.items (marked-member s.marks s.list.items s.marked c.args.p c.requires true e) ∙ appearing-none s.list.items)

pub push-requires : goal.push-requires
push-requires c =
    let s = c.args.self.now in
    let e = ap (λ i. get_or s.marks i false) (sym c.from.ensures) ∙ c.if-self-from.false in
    (omega arith, marks-room s.marks s.list.items s.marked c.args.p c.requires e)

pub invariant_of-self : goal.invariant_of-self
invariant_of-self c =
    let s = c.args.self.now in
    let e = ap (λ i. get_or s.marks i false) (sym c.from.ensures) ∙ c.if-self-from.false in
    record { marked = rw (c.from-2.ensures, c.push.ensures.items) (marks-more s.marks s.list.items s.marked c.args.p c.requires e) }

pub returns : goal.returns
returns c =
    let s = c.args.self.now in
    let e = ap (λ i. get_or s.marks i false) (sym c.from.ensures) ∙ c.if-self-from.false in
    let m = marked-member s.marks s.list.items s.marked c.args.p c.requires false e in
    c.push.ensures.items ∙ sym (appearing-first c.args.p [] s.list.items m ∙ appearing-none (s.list.items ++ (c.args.p ∷ [])))
