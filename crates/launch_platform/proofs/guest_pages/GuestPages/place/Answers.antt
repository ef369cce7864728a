use Rattle.std.proofs.Common.{◌∙◌, arith}
use Rattle.std.specs.Prelude.{vec_capacity}
use Rattle.launch_platform.proofs.PagesViews.{kept_entries, kept_placed}
use Rattle.launch_platform.proofs.guest_pages.GuestPages.place.Goals as goal

pub returns-clause-slot : goal.returns-clause-slot
returns-clause-slot c =
    let size = kept_entries c.self.inside.entry_slots c.self.inside.context_slots (vec_capacity c.self.inside.entries) (vec_capacity c.self.inside.contexts) c.self.inside.entries.items c.self.inside.contexts.items c.self.inside.region _ c.self.invariant c.self.view_is in
    omega (arith, c.self.inside.entries.ok.0)

pub returns-clause-placed : goal.returns-clause-placed
returns-clause-placed c =
    kept_placed c.self.inside.entry_slots c.self.inside.context_slots (vec_capacity c.self.inside.entries) (vec_capacity c.self.inside.contexts) c.self.inside.entries.items _ _ c.self.inside.contexts.items c.self.inside.region _ c.args.page c.len-slot.result _ c.self.invariant c.self.view_is c.requires.spare (c.len-slot.ensures ∙ c.self.inside.entries.ok.0) c.push_reserved.ensures.items c.write.ensures
