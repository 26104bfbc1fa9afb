-- `leads_continue`: what the run that carries on gives, and what is told of it.
use Rattle.evaluation.specs.Results.{result_of}
use Rattle.leads_c.proofs.leads_continue.Goals as goal

pub returns : goal.returns
returns c =
    let ran = c.carry_on-ran in
    record { result = result_of ran.result; gives = ran.ensures; tells = c.told.ensures }
