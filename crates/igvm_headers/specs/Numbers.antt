-- Numbers and slices of a file: all numbers are little-endian.
use Rattle.std.specs.Prelude.{ℕ, List, take, drop}
use Rattle.byteorder.specs.Endian.{little_number}

-- the number in the n bytes from a place on
abbrev pub number_at : ℕ → ℕ → List ℕ → ℕ
number_at n at bytes = little_number n (drop at bytes)

-- the n bytes from a place on
abbrev pub slice : List ℕ → ℕ → ℕ → List ℕ
slice bytes at n = take n (drop at bytes)
