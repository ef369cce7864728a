-- PARAMETER_INSERT: GPA u64, mask u32, area index u32.
use Rattle.std.specs.Prelude.{ℕ, List, ◌++◌, Result}
use Rattle.byteorder.specs.Endian.{little_bytes}
use Rattle.igvm_headers.specs.Numbers.{number_at}
use Rattle.igvm_headers.specs.Records.Fields.{of_length}
use Rattle.igvm_headers.specs.declared.fault.HeaderFault.{HeaderFault}
use Rattle.igvm_headers.specs.declared.header.Header.{Header}
use Rattle.igvm_headers.specs.declared.header.Header.TheVariants as header

-- the header of a content
unfoldable pub insert_form : List ℕ → Result Header HeaderFault
insert_form content = of_length 16 content
    (header.Insert (number_at 8 0 content) (number_at 4 8 content) (number_at 4 12 content))

-- the content of a header
unfoldable pub insert_fields : ℕ → ℕ → ℕ → List ℕ
insert_fields gpa mask area =
    little_bytes 8 gpa ++ little_bytes 4 mask ++ little_bytes 4 area
