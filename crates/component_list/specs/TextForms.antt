-- Forms of texts in a list: file names, and bytes in hexadecimal digits.
use Rattle.std.specs.Prelude.{ℕ, List, [], ◌∷◌, Option, Some, None, option_and_then, Result, Ok, Err}
use Rattle.hex.specs.Hex.{decode_sized}
use Rattle.hex.specs.declared.error.FromHexError.{FromHexError}
use Rattle.serde_json.specs.Data.{Data}
use Rattle.serde_json.specs.Find.{as_str}

-- a text that is not empty
abbrev pub unless_empty : List ℕ → Option (List ℕ)
unless_empty [] = None
unless_empty (byte ∷ bytes) = Some (byte ∷ bytes)

abbrev pub file_name : Data → Option (List ℕ)
file_name json = option_and_then unless_empty (as_str json)

-- exactly so many bytes, of two hexadecimal digits each
abbrev pub decoded : Result (List ℕ) FromHexError → Option (List ℕ)
decoded (Ok bytes) = Some bytes
decoded (Err e) = None

abbrev pub hex_bytes : ℕ → Data → Option (List ℕ)
hex_bytes size json = option_and_then (λ text. decoded (decode_sized text size)) (as_str json)
