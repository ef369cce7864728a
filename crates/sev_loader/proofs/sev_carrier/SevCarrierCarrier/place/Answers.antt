use Rattle.std.proofs.Common.{sym, ◌∙◌}
use Rattle.sev_loader.proofs.SevSteps.{same_places}
use Rattle.sev_loader.proofs.sev_carrier.SevCarrierCarrier.place.Goals as goal

pub place-requires-clause-new : goal.place-requires-clause-new
place-requires-clause-new g c =
    sym (same_places c.args.gpa (g.M.SevLaunch.state c.args.machine.now).entries) ∙ c.requires.new
