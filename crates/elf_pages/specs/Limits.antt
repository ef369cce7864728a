-- The limits that a file is held to.
use Rattle.std.specs.Prelude.{ℕ}

-- the most loadable segments
abbrev pub segment_limit : ℕ
segment_limit = 64

-- the most pages of 4,096 bytes: 512 MB
abbrev pub page_limit : ℕ
page_limit = 131072

-- no segment ends past this guest physical address, 2^52
abbrev pub address_limit : ℕ
address_limit = 4503599627370496
