-- `leads_preview`: what the preview gives, and what is told of it.
use Rattle.evaluation.specs.Results.{result_of}
use Rattle.leads_c.proofs.leads_preview.Goals as goal

pub returns : goal.returns
returns c =
    let ran = c.preview-ran in
    record { result = result_of ran.result; gives = ran.ensures; tells = c.told.ensures }
