use Rattle.sev_loader.proofs.SevSteps.{can_update, only_normal, updated, on_ok}
use Rattle.sev_loader.proofs.sev_carrier.SevCarrierCarrier.add.Goals as goal

pub update-requires-clause-entry : goal.update-requires-clause-entry
update-requires-clause-entry g c =
    can_update c.args.slot c.args.tag (g.M.SevLaunch.state c.args.machine.now) c.requires.entry

pub returns-clause-done : goal.returns-clause-done
returns-clause-done g c =
    on_ok c.update.result
    (updated c.records_join.ensures.streams c.args.slot c.args.tag (g.M.SevLaunch.state c.args.machine.now)
    (g.M.SevLaunch.state c.update.new.self) (g.M.SevLaunch.spares c.args.machine.now)
    (g.M.SevLaunch.spares c.update.new.self) (g.M.SevLaunch.holds c.args.machine.now)
    (g.M.SevLaunch.holds c.update.new.self) c.requires.kind
    (only_normal (g.M.SevLaunch.state c.args.machine.now).kind c.args.tag c.requires.entry.entry.page c.requires.kind
    c.requires.entry.fits))
    c.update.ensures.done
