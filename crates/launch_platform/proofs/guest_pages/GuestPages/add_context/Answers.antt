use Rattle.std.proofs.Common.{◌+◌, ap, ◌∙◌}
use Rattle.std.specs.Prelude.{vec_capacity}
use Rattle.launch_platform.proofs.PagesViews.{kept_begun}
use Rattle.launch_platform.proofs.guest_pages.GuestPages.add_context.Goals as goal

pub returns : goal.returns
returns c =
    kept_begun c.self.inside.entry_slots c.self.inside.context_slots (vec_capacity c.self.inside.entries) (vec_capacity c.self.inside.contexts) c.self.inside.entries.items c.self.inside.contexts.items _ _ c.self.inside.region _ c.args.page _ _ c.self.invariant c.self.view_is c.requires (ap (λ n. c.self.inside.entry_slots + n) (c.len.ensures ∙ c.self.inside.contexts.ok.0)) c.push_reserved.ensures.items c.write.ensures
