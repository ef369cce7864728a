-- Slices of a row of bytes.
use Rattle.std.specs.Prelude.{ℕ, ◌+◌, List, ◌++◌, length, take, drop}

-- that many bytes from a place on
abbrev pub part : List ℕ → ℕ → ℕ → List ℕ
part bytes at n = take n (drop at bytes)

-- the bytes with others in their place from there on
abbrev pub with_part : List ℕ → ℕ → List ℕ → List ℕ
with_part bytes at new = take at bytes ++ new ++ drop (at + length new) bytes
