-- ERROR_RANGE: GPA u64, mask u32, size u32.
use Rattle.std.specs.Prelude.{ℕ, List, ◌++◌, Result}
use Rattle.byteorder.specs.Endian.{little_bytes}
use Rattle.igvm_headers.specs.Numbers.{number_at}
use Rattle.igvm_headers.specs.Records.Fields.{of_length}
use Rattle.igvm_headers.specs.declared.fault.HeaderFault.{HeaderFault}
use Rattle.igvm_headers.specs.declared.header.Header.{Header}
use Rattle.igvm_headers.specs.declared.header.Header.TheVariants as header

-- the header of a content
unfoldable pub error_range_form : List ℕ → Result Header HeaderFault
error_range_form content = of_length 16 content
    (header.ErrorRange (number_at 8 0 content) (number_at 4 8 content) (number_at 4 12 content))

-- the content of a header
unfoldable pub error_range_fields : ℕ → ℕ → ℕ → List ℕ
error_range_fields gpa mask bytes =
    little_bytes 8 gpa ++ little_bytes 4 mask ++ little_bytes 4 bytes
