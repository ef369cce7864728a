-- What one load of an image is held to.
use Rattle.std.specs.Prelude.{ℕ}

-- how many bytes its parameter areas have together, at most
abbrev pub area_bytes_limit : ℕ
area_bytes_limit = 67108864

-- how many pages of 4,096 bytes its headers place, at most
abbrev pub placed_limit : ℕ
placed_limit = 524288

-- how many contexts there are, at most: one for each number of 16 bits
abbrev pub context_limit : ℕ
context_limit = 65536
