-- The fixed header, of 24 bytes in version 1 and of 32 in version 2, and the rules of the reader on it alone.
use Rattle.std.specs.Prelude.{ℕ, List, length, nat_lt, not, ◌==◌, ◌||◌, if◌then◌else◌, Bool, Option, Some, None, Result, Ok, Err}
use Rattle.igvm_headers.specs.Numbers.{number_at}
use Rattle.igvm_headers.specs.declared.fault.ReadFault.{ReadFault}
use Rattle.igvm_headers.specs.declared.fault.ReadWhat.{ReadWhat}
use Rattle.igvm_headers.specs.declared.fault.ReadWhat.TheVariants.{TooShort, Magic, Version, Aarch64, Architecture, PageSize}
use Rattle.igvm_headers.specs.declared.fixed.FixedHeader.{FixedHeader}

-- a rule that fails, and where
abbrev pub fault_at : ℕ → ReadWhat → ReadFault
fault_at at what = record { at = at; what = what }

-- the size in bytes of the fixed header of a version
abbrev pub fixed_size : ℕ → ℕ
fixed_size version = if version == 2 then 32 else 24

-- a number that version 2 has at a place, and what stands for it in version 1
abbrev pub added_field : ℕ → ℕ → List ℕ → ℕ
added_field default at file = if number_at 4 4 file == 2 then number_at 4 at file else default

-- the fields behind the magic; version 1 is X64 with pages of 4,096 bytes
abbrev pub fixed_fields : List ℕ → FixedHeader
fixed_fields file = record {
  version = number_at 4 4 file;
  var_offset = number_at 4 8 file;
  var_size = number_at 4 12 file;
  total = number_at 4 16 file;
  checksum = number_at 4 20 file;
  architecture = added_field 0 24 file;
  page_size = added_field 4096 28 file;
}

-- a version that is read
abbrev pub is_version : ℕ → Bool
is_version version = (version == 1) || (version == 2)

-- The rules on what version 2 adds: its 8 bytes are there, the architecture is X64, and pages have 4,096 bytes.
unfoldable pub added_fault : List ℕ → Option ReadFault
added_fault file =
    if nat_lt (length file) 32 then Some (fault_at (length file) TooShort) else
    if number_at 4 24 file == 1 then Some (fault_at 24 Aarch64) else
    if not (number_at 4 24 file == 0) then Some (fault_at 24 Architecture) else
    if not (number_at 4 28 file == 4096) then Some (fault_at 28 PageSize) else
    None

-- The first rule on the fixed header that fails. The magic is the bytes of `IGVM` as a number.
unfoldable pub fixed_fault : List ℕ → Option ReadFault
fixed_fault file =
    if nat_lt (length file) 24 then Some (fault_at (length file) TooShort) else
    if not (number_at 4 0 file == 0x4D564749) then Some (fault_at 0 Magic) else
    if not (is_version (number_at 4 4 file)) then Some (fault_at 4 Version) else
    if number_at 4 4 file == 2 then added_fault file else
    None

-- the fields, unless a rule fails
abbrev pub fixed_unless : Option ReadFault → List ℕ → Result FixedHeader ReadFault
fixed_unless None file = Ok (fixed_fields file)
fixed_unless (Some fault) file = Err fault

-- the fields, or the first rule that fails
unfoldable pub fixed_form : List ℕ → Result FixedHeader ReadFault
fixed_form file = fixed_unless (fixed_fault file) file
