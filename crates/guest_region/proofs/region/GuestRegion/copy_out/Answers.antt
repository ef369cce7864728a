-- The part of the block that is copied is the slot's page.
use Rattle.std.proofs.Common.{◌*◌, Some, sym, ap, ◌∙◌}
use Rattle.guest_region.specs.ByteSlices.{part}
use Rattle.guest_region.proofs.Regions.{page_within, page_at}
use Rattle.guest_region.proofs.region.GuestRegion.copy_out.Goals as goal

pub copy_out-requires : goal.copy_out-requires
copy_out-requires c =
    rw c.requires.bytes (page_within _ _ _ _ c.self.view_is c.self.invariant.bytes c.requires.within)

pub returns : goal.returns
returns c =
    page_at _ _ _ _ c.self.view_is c.requires.within
    ∙ ap Some (ap (λ n. part c.self.inside.block.bytes (c.args.slot * 4096) n) (sym c.requires.bytes) ∙ sym c.copy_out.ensures)
