-- Headers that are carried as bytes: those of type 0x102, 0x103 and 0x311, and of each type with bit 31 set.
use Rattle.std.specs.Prelude.{ℕ, List, length, ◌==◌, ◌||◌, if◌then◌else◌, Bool, Result, Ok, Err}
use Rattle.igvm_headers.specs.Records.Fields.{is_set}
use Rattle.igvm_headers.specs.declared.fault.HeaderFault.{HeaderFault}
use Rattle.igvm_headers.specs.declared.fault.HeaderFault.TheVariants.{UnknownType}
use Rattle.igvm_headers.specs.declared.header.Header.{Header}
use Rattle.igvm_headers.specs.declared.header.Header.TheVariants as header

-- a type that is carried as bytes
abbrev pub is_carried : ℕ → Bool
is_carried kind = (kind == 0x102) || (kind == 0x103) || (kind == 0x311) || is_set 31 kind

-- the header of a type and a content; every other type is unknown
unfoldable pub carried_form : ℕ → List ℕ → Result Header HeaderFault
carried_form kind content =
    if is_carried kind then Ok (header.Carried kind (length content)) else Err (UnknownType kind)
