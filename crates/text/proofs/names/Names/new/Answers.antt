-- No names, and no bucket has one.
use Rattle.std.proofs.Common.{ℕ, Option, None, replicate}
use Rattle.std.proofs.lemmas.List.{length-replicate, get_or-replicate}
use Rattle.text.specs.declared.names.Slot.{Slot}
use Rattle.text.proofs.NameLaws.{chained-none}
use Rattle.text.proofs.names.Names.new.Goals as goal

pub invariant_of-result : goal.invariant_of-result
invariant_of-result g c =
    let slot : Slot g.row.V.Denot = record { entry = record { from = 0; to = 0; value = c.default.result }; before = None } in
    chained-none g.row.N c.args.text.now (replicate g.row.N slot) (replicate 1021 None) c.requires (length-replicate g.row.N slot) (length-replicate {A = Option ℕ} 1021 None) (λ h l. get_or-replicate {A = Option ℕ} 1021 h None None l)
