-- What a block ends as, once a `&mut` into it has ended.
use Rattle.std.specs.Prelude.{ℕ, List}
use Rattle.std.specs.Borrow.{Fml, MutBor, Array, u8, Lends}
use Rattle.guest_region.specs.ByteSlices.{with_part}
use Rattle.guest_region.specs.declared.block.RawBlock.{RawBlock}
use Rattle.guest_region.specs.contracts.block.RawBlock.{the_row}

-- the same block with these bytes
abbrev pub with_bytes : RawBlock → List ℕ → RawBlock
with_bytes b bytes = record { ptr = b.ptr; bytes = bytes }

-- the block ends with the bytes that were lent from this place on set to what was last written there
abbrev pub lends_part : MutBor RawBlock → ℕ → MutBor (List ℕ) → Fml
lends_part b at r = Lends the_row (Array u8 0) b r (λ ws. with_bytes b.now (with_part b.now.bytes at ws))
