-- The calls so far, from the file after its number on.
use Rattle.case_file.specs.Cases.{Through}
use Rattle.case_file.proofs.CaseFile.each.Given as goal

abbrev pub invariant-loop : goal.invariant-loop
invariant-loop g l = Through (λ s r t. goal.C-post g l.case s r t) l.counter l.initial.self l.self
