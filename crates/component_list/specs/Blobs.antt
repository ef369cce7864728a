-- The bytes of a blob, wherever they lie.
use Rattle.std.specs.Prelude.{ℕ, List}
use Rattle.std.specs.Rc.{rc_slice_items}
use Rattle.igvm_headers.specs.Numbers.{slice}
use Rattle.component_list.specs.declared.blob.Bytes.{Bytes}
use Rattle.component_list.specs.declared.blob.Bytes.TheVariants.{Own, Piece}

-- all of a vector, or a piece of a shared file
abbrev pub bytes_of : Bytes → List ℕ
bytes_of (Own bytes) = bytes.items
bytes_of (Piece file at size) = slice (rc_slice_items file) at size
