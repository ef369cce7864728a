-- REQUIRED_MEMORY: GPA u64, mask u32, number of bytes u32, flags u32, reserved u32.
use Rattle.std.specs.Prelude.{ℕ, List, ◌++◌, Result}
use Rattle.byteorder.specs.Endian.{little_bytes}
use Rattle.igvm_headers.specs.Numbers.{number_at}
use Rattle.igvm_headers.specs.Records.Fields.{of_length, reserved}
use Rattle.igvm_headers.specs.declared.fault.HeaderFault.{HeaderFault}
use Rattle.igvm_headers.specs.declared.header.Header.{Header}
use Rattle.igvm_headers.specs.declared.header.Header.TheVariants as header

-- the header of a content
unfoldable pub required_form : List ℕ → Result Header HeaderFault
required_form content = of_length 24 content
    (header.Required (number_at 8 0 content) (number_at 4 8 content) (number_at 4 12 content) (number_at 4 16 content))

-- the content of a header
unfoldable pub required_fields : ℕ → ℕ → ℕ → ℕ → List ℕ
required_fields gpa mask bytes flags =
    little_bytes 8 gpa ++ little_bytes 4 mask ++ little_bytes 4 bytes ++ little_bytes 4 flags ++ reserved 4
