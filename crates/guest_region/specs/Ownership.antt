-- What a block owns and lends.
use Rattle.std.specs.Prelude.{ℕ, ◌^◌, List, length}
use base.Fraction.{full_share}
use base.Fml.{Lft, Fml, ffalse, fsep, flt}
use mir.Syntax.{Ty, w8, ty_int, ty_array}
use denote.Builtin.{u8}
use denote.Index.{row}
use denote.RawPtr.{Ptr, block_ptr, null_ptr}
use denote.Sharing.{said, beside}
use denote.Slice.{elements_shared}

-- the type of a block of n bytes
abbrev pub block_type : ℕ → Ty
block_type n = ty_array (ty_int w8) n

-- bytes side by side from a pointer on, fewer than 2 ^ 63
abbrev pub bytes_own : Ptr → List ℕ → Fml
bytes_own (block_ptr b o) bytes = fsep (flt (length bytes) (2 ^ 63)) (row u8 full_share bytes b o)
bytes_own null_ptr bytes = ffalse

-- what a `&` to them holds
abbrev pub bytes_lent : Ptr → List ℕ → Lft → Fml
bytes_lent (block_ptr b o) bytes = beside (said (flt (length bytes) (2 ^ 63))) (elements_shared u8 bytes b o)
bytes_lent null_ptr bytes = said ffalse
