-- How the values of a line are written. Numbers of no fixed width are std's `decimal`.
use Rattle.std.specs.Prelude.{ℕ, List}
use Rattle.std.specs.Int.{to_be_bytes, w32, w64}
use Rattle.hex.specs.Hex.{encode_lower}

-- bytes as lower-case hexadecimal digits, two each
unfoldable pub byte_digits : List ℕ → List ℕ
byte_digits bytes = encode_lower bytes

-- a number of 32 bits as 8 of them, the highest first
unfoldable pub eight_digits : ℕ → List ℕ
eight_digits n = byte_digits (to_be_bytes w32 n)

-- a number of 64 bits as 16 of them
unfoldable pub sixteen_digits : ℕ → List ℕ
sixteen_digits n = byte_digits (to_be_bytes w64 n)
