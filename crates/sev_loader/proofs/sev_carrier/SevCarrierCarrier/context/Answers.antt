use Rattle.sev_loader.proofs.SevSteps.{only_sev_es, context_added, on_ok}
use Rattle.sev_loader.proofs.sev_carrier.SevCarrierCarrier.context.Goals as goal

pub returns-clause-done : goal.returns-clause-done
returns-clause-done g c =
    on_ok c.context.result
    (context_added c.records_join.ensures.streams c.args.vp c.args.gpa c.args.page
    (g.M.SevLaunch.state c.args.machine.now) (g.M.SevLaunch.state c.context.new.self)
    (g.M.SevLaunch.spares c.args.machine.now) (g.M.SevLaunch.spares c.context.new.self)
    (g.M.SevLaunch.holds c.args.machine.now) (g.M.SevLaunch.holds c.context.new.self)
    (only_sev_es (g.M.SevLaunch.state c.args.machine.now).kind c.requires.kind c.requires.contexts))
    c.context.ensures.done
