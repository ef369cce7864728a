-- Which header counts for which platform, by its compatibility mask (`igvm_defs`, compatibility_mask).
use Rattle.std.specs.Prelude.{ℕ, ◌==◌, ◌||◌, Bool, false, not, Option, Some, None, bit_and}
use Rattle.igvm_headers.specs.HeaderFacts.{is_for_all, mask_of}
use Rattle.igvm_headers.specs.declared.header.Header.{Header}

-- a mask, where there is one, has a bit in common with another
abbrev pub shares_bit : Option ℕ → ℕ → Bool
shares_bit None other = false
shares_bit (Some mask) other = not (bit_and mask other == 0)

-- a header counts for the platform of a mask
abbrev pub applies : Header → ℕ → Bool
applies header mask = is_for_all header || shares_bit (mask_of header) mask
