-- The invariant: the declarations up to a place are passed, the first 4,096 of them in the table.
use Rattle.std.proofs.Common.{◌≡◌, ◌+◌, inl, inr, Some, refl, sym, ap, ◌∙◌, subst, length, arith}
use Rattle.std.specs.List.{slice_range}
use Rattle.text.specs.Hash.{last_with, found_at, is_name}
use Rattle.text.specs.Names.{name_at}
use Rattle.text.specs.declared.readable.Readable.{Readable}
use Rattle.naming.specs.declared.windows.First.{First}
use Rattle.naming.specs.Walks.{Declares, Ends}
use Rattle.naming.specs.Windows.{Known}
use Rattle.naming.proofs.WalkLaws.{looked_up, some_there, nothing_there}
use Rattle.naming.proofs.WindowLaws.{passing-known, passing-ended, passing-again, passing-one, kept-text}
use Rattle.naming.proofs.windows.window.Goals as goal
use Rattle.naming.proofs.windows.window.Goals.{After-next, In-Some, After-find}

-- What is known, of the table's text.
known : (k : goal.After-next) → Known k.loop-number.names.text k.args.passed.count k.args.known
known k = subst (λ x. Known x k.args.passed.count k.args.known) (sym k.loop-number.invariant.same_names) k.requires.known

same : (k : goal.After-next) → k.loop-number.number-iterator.b.text.text.now ≡ k.loop-number.names.text
same k = ap (λ (r : Readable). r.text.now) k.loop-number.invariant.same_walk ∙ sym k.loop-number.invariant.same_names

declares : (k : goal.In-Some) → k.loop-number.number-iterator.b.text.text.now ≡ k.loop-number.names.text → Declares k.loop-number.names.text k.loop-number.number-iterator.b.at k.in-Some.d
declares k m = subst (λ x. Declares x k.loop-number.number-iterator.b.at k.in-Some.d) m k.in-Some.ensures.steps.1.found

found : (k : goal.After-find)
    → let t = k.loop-number.names in
    k.find.result ≡ found_at (last_with (is_name (slice_range t.text k.in-Some.d.from k.in-Some.d.to)) (name_at t) (length t.entries))
found k = looked_up k.loop-number.names k.args.passed.text.text.now (sym k.loop-number.invariant.same_names) k.in-Some.d.from k.in-Some.d.to k.find.result k.find.ensures.last

pub returns-then-is_some : goal.returns-then-is_some
returns-then-is_some c =
    let l = c.loop-number in
    let i = l.invariant in
    let a = c.args in
    let d = c.in-Some.d in
    let n = c.in-Some.ensures.steps.0.1 in
    let m = same (goal.at.returns-then-is_some c).After-next in
    let h = declares (goal.at.returns-then-is_some c).In-Some m in
    let j = some_there c.find.result (sym c.is_some.ensures ∙ c.if-is_some.true) in
    let g = passing-again l.names a.passed.count a.known.number l.number-iterator.b.at l.number-iterator.a.start i.passing d h c.find.result (found (goal.at.returns-then-is_some c).After-find) j.0 j.1 in
    let f : First = record { number = l.number-iterator.a.start; place = Some d.from } in
    rw (n.1) (subst (λ x. Known x (a.passed.count + 4096) f) i.same_names
    (passing-known l.names a.passed.count a.known.number l.number-iterator.b.at l.number-iterator.a.start i.passing a.known f (known (goal.at.returns-then-is_some c).After-next) i.passing.before (omega arith) g))

pub loop-number-preserved : goal.loop-number-preserved
loop-number-preserved c =
    let l = c.loop-number in
    let i = l.invariant in
    let a = c.args in
    let d = c.in-Some.d in
    let s = c.in-Some.ensures.steps in
    let m = same (goal.at.loop-number-preserved c).After-next in
    let h = declares (goal.at.loop-number-preserved c).In-Some m in
    let e = found (goal.at.loop-number-preserved c).After-find in
    let z = nothing_there c.find.result (sym c.is_some.ensures ∙ c.if-is_some.false) in
    let start = l.number-iterator.a.start in
    record {
      passing = rw (s.0.1.2, s.1.onward.1) (passing-one l.names a.passed.count a.known.number l.number-iterator.b.at start i.passing d h c.find.result e z (omega (arith, s.0.1.0, i.end)) _ refl refl c.keep.new.names c.keep.ensures);
      same_names = kept-text l.names a.passed.count a.known.number l.number-iterator.b.at start i.passing d h c.find.result e z (omega (arith, s.0.1.0, i.end)) _ refl refl c.keep.new.names c.keep.ensures ∙ i.same_names;
      same_walk = s.1.text ∙ i.same_walk;
      end = s.0.0 ∙ i.end;
    }

pub returns : goal.returns
returns c =
    let l = c.loop-number in
    let i = l.invariant in
    let a = c.args in
    let t = l.names in
    let K = known (goal.at.returns c).After-next in
    let at = l.number-iterator.b.at in
    let m = same (goal.at.returns c).After-next in
    let start = l.number-iterator.a.start in
    subst (λ x. Known x (a.passed.count + 4096) a.known) i.same_names
    (elim c.in-None.ensures.steps [
      | inl r ↦ passing-known t a.passed.count a.known.number at start i.passing a.known a.known K (omega arith) (omega (arith, r.1.1.0, i.end)) K.ended
      | inr r ↦ passing-ended t a.passed.count a.known.number at start i.passing a.known K (subst (λ x. Ends x at) m r.1.found)
    ])
