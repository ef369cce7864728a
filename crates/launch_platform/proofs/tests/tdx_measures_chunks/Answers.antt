use Rattle.std.proofs.Common.{◌≡◌, length}
use Rattle.launch_platform.specs.MemMachine.{mem_state}
use Rattle.launch_platform.proofs.EnteringPages.{can_extend_next}
use Rattle.launch_platform.proofs.tests.tdx_measures_chunks.Goals as goal

pub extend-requires-clause-entry : goal.extend-requires-clause-entry
extend-requires-clause-entry g c =
    let slot : c.in_ok-first.first ≡ length (mem_state c.start.new.self).entries = cc c.in_ok-first.ensures.sure in
    can_extend_next _ _ _ _ _ _ c.place.ensures.done.state slot c.add.ensures.done.state

pub extend-requires-2-clause-entry : goal.extend-requires-2-clause-entry
extend-requires-2-clause-entry g c =
    let slot : c.in_ok-second.second ≡ length (mem_state c.add-2.new.self).entries = cc c.in_ok-second.ensures.sure in
    can_extend_next _ _ _ _ _ _ c.place-3.ensures.done.state slot c.add-3.ensures.done.state
