-- A block of zeros is a region of zero pages.
use Rattle.std.proofs.Common.{ap, ◌∙◌}
use Rattle.guest_region.specs.PagesOf.{pages_of}
use Rattle.guest_region.proofs.PagesOf.{pieces-replicate}
use Rattle.guest_region.proofs.region.GuestRegion.new.Goals as goal

pub returns-in-Ok : goal.returns-in-Ok
returns-in-Ok c = ap (λ bytes. pages_of c.args.slots bytes) c.in-Ok.ensures.zeros ∙ pieces-replicate 4096 c.args.slots 0
