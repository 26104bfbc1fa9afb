-- The invariant: the declarations up to a place are in the table.
use Rattle.std.proofs.Common.{◌≡◌, refl, sym, ap, ◌∙◌, subst, length}
use Rattle.std.specs.List.{slice_range}
use Rattle.text_rules.specs.TextWords.{declared_twice}
use Rattle.text_rules.specs.Text.{text_declarations, place_of}
use Rattle.std.proofs.Math.Option.{some}
use Rattle.text.specs.Hash.{last_with, found_at, is_name}
use Rattle.text.specs.Names.{Table, name_at}
use Rattle.text.specs.declared.readable.Readable.{Readable}
use Rattle.naming.specs.declared.declarations.Symbol.{Symbol}
use Rattle.naming.specs.Walks.{Declares, Ends}
use Rattle.naming.proofs.WalkLaws.{looked_up, passed_counted, some_there, nothing_there}
use Rattle.naming.proofs.TableLaws.{all-declared, filled-twice, filled-one}
use Rattle.naming.proofs.table.DeclaredNames.new.Goals as goal
use Rattle.naming.proofs.table.DeclaredNames.new.Goals.{After-next, In-Some, In-None, After-find}

same : (k : goal.After-next) → k.loop-d.d-iterator.text.text.now ≡ k.loop-d.names.text
same k = ap (λ (r : Readable). r.text.now) k.loop-d.invariant.same_walk ∙ sym k.loop-d.invariant.same_names

declares : (k : goal.In-Some) → k.loop-d.d-iterator.text.text.now ≡ k.loop-d.names.text → Declares k.loop-d.names.text k.loop-d.d-iterator.at k.in-Some.d
declares k m = subst (λ x. Declares x k.loop-d.d-iterator.at k.in-Some.d) m k.in-Some.ensures.steps.found

ends : (k : goal.In-None) → k.loop-d.d-iterator.text.text.now ≡ k.loop-d.names.text → Ends k.loop-d.names.text k.loop-d.d-iterator.at
ends k m = subst (λ x. Ends x k.loop-d.d-iterator.at) m k.in-None.ensures.steps.found

found : (k : goal.After-find)
    → let t = k.loop-d.names in
    k.find.result ≡ found_at (last_with (is_name (slice_range t.text k.in-Some.d.from k.in-Some.d.to)) (name_at t) (length t.entries))
found k = looked_up k.loop-d.names k.args.text.text.now (sym k.loop-d.invariant.same_names) k.in-Some.d.from k.in-Some.d.to k.find.result k.find.ensures.last

pub returns-then-is_some : goal.returns-then-is_some
returns-then-is_some c =
    let l = c.loop-d in
    let t = l.names in
    let d = c.in-Some.d in
    let h = declares (goal.at.returns-then-is_some c).In-Some (same (goal.at.returns-then-is_some c).After-next) in
    let j = some_there c.find.result (sym c.is_some.ensures ∙ c.if-is_some.true) in
    subst (λ x. place_of x (declared_twice (text_declarations x) 0 (text_declarations x)) ≡ some d.from) l.invariant.same_names
    (filled-twice t l.d-iterator.at l.invariant.filled d h c.find.result (found (goal.at.returns-then-is_some c).After-find) j.0 j.1)

pub loop-d-preserved : goal.loop-d-preserved
loop-d-preserved c =
    let l = c.loop-d in
    let t = l.names in
    let d = c.in-Some.d in
    let h = declares (goal.at.loop-d-preserved c).In-Some (same (goal.at.loop-d-preserved c).After-next) in
    let s = c.in-Some.ensures.steps in
    let z = nothing_there c.find.result (sym c.is_some.ensures ∙ c.if-is_some.false) in
    let more = filled-one t l.d-iterator.at l.invariant.filled d h c.find.result (found (goal.at.loop-d-preserved c).After-find) z _ refl refl refl in
    record {
      filled = rw (c.enter.ensures, s.onward.1) more;
      same_walk = s.text ∙ l.invariant.same_walk;
      same_names = ap (λ (t : Table Symbol). t.text) c.enter.ensures ∙ l.invariant.same_names;
      same_end = sym s.onward.1;
    }

pub invariant_of-all : goal.invariant_of-all
invariant_of-all c =
    let l = c.loop-d in
    let h = ends (goal.at.invariant_of-all c).In-None (same (goal.at.invariant_of-all c).After-next) in
    record { counted = rw (sym l.invariant.same_names, c.len-count.ensures.equal, l.invariant.same_end) (passed_counted l.names.text l.d-iterator.at (length l.names.entries) l.invariant.filled.passed h) }

pub invariant_of-result : goal.invariant_of-result
invariant_of-result c =
    let l = c.loop-d in
    let h = ends (goal.at.invariant_of-result c).In-None (same (goal.at.invariant_of-result c).After-next) in
    record { same = l.invariant.same_names; declared = all-declared l.names l.d-iterator.at l.invariant.filled h }
