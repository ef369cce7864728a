use Rattle.std.proofs.Common.{arith}
use Rattle.std.specs.Prelude.{vec_capacity}
use Rattle.launch_platform.proofs.PagesViews.{kept_entries}
use Rattle.launch_platform.proofs.guest_pages.GuestPages.entries.Goals as goal

pub returns : goal.returns
returns c =
    let size = kept_entries c.self.inside.entry_slots c.self.inside.context_slots (vec_capacity c.self.inside.entries) (vec_capacity c.self.inside.contexts) c.self.inside.entries.items c.self.inside.contexts.items c.self.inside.region _ c.self.invariant c.self.view_is in
    omega (arith, c.self.inside.entries.ok.0)
