-- An image in the pieces that it is written in.
use Rattle.std.specs.Prelude.{ℕ, ◌≡◌, ◌+◌, List, length, take}
use Rattle.igvm_headers.specs.Fixed.{fixed_size}
use Rattle.igvm_headers.specs.Numbers.{number_at}
use Rattle.igvm_outside.specs.JoinedBytes.{joined}

-- What stands before the data: the fixed header, which has the version at offset 4 and the section's size at
-- offset 12, and the section.
unfoldable pub front_of : List ℕ → List ℕ
front_of image = take (fixed_size (number_at 4 4 image) + number_at 4 12 image) image

-- pieces that have so many bytes, the first of them the front of all
pub record IsInPieces (before : List ℕ) (contents : List (List ℕ)) (bytes : ℕ) : Type 0 where
  pub front : before ≡ front_of (joined before contents)
  pub size : bytes ≡ length (joined before contents)
