-- Bytes in JSON: texts of hexadecimal digits, two a byte.
use Rattle.std.specs.Prelude.{ℕ, nat_le, if◌then◌else◌, List, length, Option, Some, None, option_and_then, Result, Ok, Err}
use Rattle.hex.specs.Hex.{decode_of}
use Rattle.hex.specs.declared.error.FromHexError.{FromHexError}
use Rattle.serde_json.specs.Data.{Data}
use Rattle.serde_json.specs.Find.{as_str}

-- bytes that are no more than the limit
abbrev pub within : ℕ → Result (List ℕ) FromHexError → Option (List ℕ)
within limit (Ok bytes) = if nat_le (length bytes) limit then Some bytes else None
within limit (Err e) = None

-- the bytes that a text of hexadecimal digits writes, two digits a byte
abbrev pub bytes_of : ℕ → Data → Option (List ℕ)
bytes_of limit json = option_and_then (λ text. within limit (decode_of text)) (as_str json)
