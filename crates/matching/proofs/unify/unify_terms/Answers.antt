-- `unify_terms` meets its contract. Assumes nothing.
use Rattle.matching.proofs.BindLaws.{ready-state}
use Rattle.matching.proofs.OutcomeLaws.{unifies-ended}
use Rattle.matching.proofs.unify.unify_terms.Goals as goal

pub pairs-requires : goal.pairs-requires
pairs-requires c =
    record {
      state = ready-state c.requires.ready c.requires.blank;
      left_bound = c.requires.left_bound;
      right_bound = c.requires.right_bound;
    }

pub returns : goal.returns
returns c = let a = c.args in unifies-ended a.p a.q a.number c.pairs.ensures
