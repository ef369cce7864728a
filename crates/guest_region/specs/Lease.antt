-- What a lease is for.
use Rattle.std.specs.Prelude.{◌≡◌, ℕ}
use denote.RawPtr.{Ptr}
use Rattle.guest_region.specs.declared.block.Lease.{Lease}

-- the right to give a block of that many bytes at a pointer back to that allocator
pub record IsLeaseFor {A : Type 0} (lease : Lease A) (alloc : A) (ptr : Ptr) (len : ℕ) : Type 0 where
  pub handle : lease.alloc ≡ alloc
  pub place : lease.ptr ≡ ptr
  pub size : lease.len ≡ len
