-- What holds of the parts of a region.
use Rattle.std.specs.Prelude.{◌≡◌, ℕ, ◌*◌, ◌≤◌, length}
use Rattle.std.specs.declared.alloc.Global.{Global}
use Rattle.guest_region.specs.declared.block.RawBlock.{RawBlock}
use Rattle.guest_region.specs.declared.block.Lease.{Lease}
use Rattle.guest_region.specs.Lease.{IsLeaseFor}

-- the block has a page for each slot, and the lease is for it
pub record IsWhole (alloc : Global) (lease : Lease Global) (block : RawBlock) (slots : ℕ) : Type 0 where
  pub bytes : length block.bytes ≡ slots * 4096
  pub few : slots ≤ 589824
  pub leased : IsLeaseFor lease alloc block.ptr (slots * 4096)
