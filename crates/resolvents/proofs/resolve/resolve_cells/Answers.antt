-- `resolve_cells` meets its contract.
use Rattle.std.proofs.Common.{rules}
use Rattle.resolvents.proofs.ChildLaws.{rest-left, derived-solved, rows-ready, head-ends}
use Rattle.resolvents.proofs.resolve.resolve_cells.Goals as goal
use Rattle.resolvents.proofs.resolve.resolve_cells.Goals.{in-Unified, in-Failed, in-Broken}

pub invariant_of-terms : goal.invariant_of-terms
invariant_of-terms c = record { formed = c.requires.together.formed }

pub unify_terms-requires-clause-ready : goal.unify_terms-requires-clause-ready
unify_terms-requires-clause-ready c =
    let sized = c.args.table.now.sized in
    rows-ready c.requires.together sized.0 sized.1 sized.2

pub invariant_of-bound : goal.invariant_of-bound
invariant_of-bound c = record { triangular = c.in-Unified.ensures.triangular }

pub returns-clause-attempted_by : goal.returns-clause-attempted_by
returns-clause-attempted_by c =
    let b = c.unify_terms.new.table in
    elim c.match-unify_terms.branch [
      | in-Unified w ↦
          let is = w.in-Unified.ensures.is in
          rw (w.tried-is, w.draft-is) (
            rest-left _ is.1 is.2,
            derived-solved c.args.symbols.now c.args.cells.now b.bind b.trail b.bound c.args.call w.skip-body.result
                (head-ends w.skip-body.result c.requires.together w.skip-body.ensures.0 w.skip-body.ensures.1) _ _ _ is.1 w.write_child-written.ensures.child,
          )
      | in-Failed w ↦ rw w.tried-is (search rules)
      | in-Broken w ↦ rw w.tried-is (search rules)
    ]
