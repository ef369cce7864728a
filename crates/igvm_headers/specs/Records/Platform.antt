-- SUPPORTED_PLATFORM: mask u32, highest VTL u8, platform type u8, version u16, shared GPA boundary u64.
use Rattle.std.specs.Prelude.{ℕ, List, ◌++◌, length, ◌==◌, if◌then◌else◌, Option, Some, None, Result, Ok, Err}
use Rattle.igvm_headers.specs.PlatformKinds.{kind_number, platform_kind_of}
use Rattle.igvm_headers.specs.declared.platform_kind.PlatformKind.{PlatformKind}
use Rattle.byteorder.specs.Endian.{little_bytes}
use Rattle.igvm_headers.specs.Numbers.{number_at}
use Rattle.igvm_headers.specs.declared.fault.HeaderFault.{HeaderFault}
use Rattle.igvm_headers.specs.declared.fault.HeaderFault.TheVariants as fault
use Rattle.igvm_headers.specs.declared.header.Header.{Header}
use Rattle.igvm_headers.specs.declared.header.Header.TheVariants as header

-- the header, where the type is known
abbrev pub platform_with : List ℕ → Option PlatformKind → Result Header HeaderFault
platform_with content None = Err fault.PlatformType
platform_with content (Some kind) =
    Ok (header.Platform (number_at 4 0 content) (number_at 1 4 content) kind (number_at 2 6 content) (number_at 8 8 content))

-- the header of a content
unfoldable pub platform_form : List ℕ → Result Header HeaderFault
platform_form content =
    if length content == 16 then platform_with content (platform_kind_of (number_at 1 5 content)) else Err fault.Length

-- the content of a header
unfoldable pub platform_fields : ℕ → ℕ → PlatformKind → ℕ → ℕ → List ℕ
platform_fields mask highest_vtl kind version shared_gpa =
    little_bytes 4 mask ++ little_bytes 1 highest_vtl ++ little_bytes 1 (kind_number kind)
    ++ little_bytes 2 version ++ little_bytes 8 shared_gpa
