-- The slot's part of the block becomes the page, and nothing else changes.
use Rattle.std.proofs.Common.{◌≡◌, ℕ, List, ◌+◌, ◌*◌, ◌<◌, ◌≤◌, arith, length, set, ap, ◌∙◌}
use Rattle.guest_region.specs.ByteSlices.{part}
use Rattle.guest_region.specs.PagesOf.{pages_of}
use Rattle.guest_region.proofs.Regions.{page_within, length-part, pages_after, whole_after}
use Rattle.guest_region.proofs.region.GuestRegion.write.Goals as goal

-- the part that is lent is a page long
length-lent : (slots slot : ℕ) (bytes lent : List ℕ) (pages : List (List ℕ)) → pages_of slots bytes ≡ pages → length bytes ≡ slots * 4096
    → slot < length pages → lent ≡ part bytes (slot * 4096) 4096 → length lent ≡ 4096
length-lent slots slot bytes lent pages shows long within e =
    ap length e ∙ length-part bytes (slot * 4096) 4096 (page_within slots slot bytes pages shows long within)

pub part_mut-requires : goal.part_mut-requires
part_mut-requires c = page_within _ _ _ _ c.self.view_is c.self.invariant.bytes c.requires

pub fill-requires : goal.fill-requires
fill-requires c = length-lent _ _ _ _ _ c.self.view_is c.self.invariant.bytes c.requires c.part_mut.ensures.value

-- so is the page that is written
length-filled : (c : goal.After-self-1) → length c.fill.new.out ≡ 4096
length-filled c = c.fill.auto.out ∙ length-lent _ _ _ _ _ c.self.view_is c.self.invariant.bytes c.requires c.part_mut.ensures.value

pub invariant_of-self : goal.invariant_of-self
invariant_of-self c =
    let room : c.args.slot * 4096 + 4096 ≤ length c.self.inside.block.bytes = page_within _ _ _ _ c.self.view_is c.self.invariant.bytes c.requires in
    whole_after _ _ _ _ (c.args.slot * 4096) c.fill.new.out c.self.invariant (omega (arith, room, length-filled c))

pub returns : goal.returns
returns c =
    pages_after _ _ _ _ _ c.self.view_is c.self.invariant.bytes c.requires (length-filled c)
    ∙ ap (λ page. set c.args.self.now c.args.slot page) c.fill.ensures
