-- The listing, and the goals left.
use Rattle.carry_program.proofs.EndLaws.{kept-both}
use Rattle.carry_program.proofs.ending.Ending.put.Goals as goal

pub put_run-listing-requires : goal.put_run-listing-requires
put_run-listing-requires c = let f = c.requires.1 in (f.outcome, rw c.symbols.ensures f.shown)

pub returns : goal.returns
returns c = λ k f.
    kept-both k (record { outcome = f.outcome; terms = c.args.self.now.terms }) f.comes (c.put_run-listing.ensures f.outcome (rw c.symbols.ensures f.shown)) (c.put_goals-goals.ensures k f)
