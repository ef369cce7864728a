use Rattle.launch_platform.proofs.EnteringPages.{can_extend_next}
use Rattle.launch_platform.proofs.tests.launch.Goals as goal

pub extend-requires-clause-entry : goal.extend-requires-clause-entry
extend-requires-clause-entry g c =
    can_extend_next _ _ _ _ _ _ c.in-Ok.ensures.done.state c.in-Ok.ensures.slot c.in-Ok-add.ensures.done.state
