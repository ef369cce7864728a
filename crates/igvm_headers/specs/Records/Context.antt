-- VP_CONTEXT: GPA u64, mask u32, file offset u32, VP index u16, reserved u16, and perhaps four bytes more.
use Rattle.std.specs.Prelude.{ℕ, List, ◌++◌, length, ◌==◌, ◌||◌, if◌then◌else◌, Result, Ok, Err}
use Rattle.igvm_headers.specs.Records.Fields.{reserved}
use Rattle.byteorder.specs.Endian.{little_bytes}
use Rattle.igvm_headers.specs.Numbers.{number_at}
use Rattle.igvm_headers.specs.declared.fault.HeaderFault.{HeaderFault}
use Rattle.igvm_headers.specs.declared.fault.HeaderFault.TheVariants as fault
use Rattle.igvm_headers.specs.declared.header.Header.{Header}
use Rattle.igvm_headers.specs.declared.header.Header.TheVariants as header

-- the header of a content of either length
unfoldable pub context_form : List ℕ → Result Header HeaderFault
context_form content =
    if (length content == 20) || (length content == 24) then
    Ok (header.Context (number_at 8 0 content) (number_at 4 8 content) (number_at 4 12 content) (number_at 2 16 content))
    else Err fault.Length

-- the content of a header, which is written with 20 bytes
unfoldable pub context_fields : ℕ → ℕ → ℕ → ℕ → List ℕ
context_fields gpa mask offset vp =
    little_bytes 8 gpa ++ little_bytes 4 mask ++ little_bytes 4 offset ++ little_bytes 2 vp ++ reserved 2
