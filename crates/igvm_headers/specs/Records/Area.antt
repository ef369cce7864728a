-- PARAMETER_AREA: number of bytes u64, area index u32, file offset u32.
use Rattle.std.specs.Prelude.{ℕ, List, ◌++◌, Result}
use Rattle.byteorder.specs.Endian.{little_bytes}
use Rattle.igvm_headers.specs.Numbers.{number_at}
use Rattle.igvm_headers.specs.Records.Fields.{of_length}
use Rattle.igvm_headers.specs.declared.fault.HeaderFault.{HeaderFault}
use Rattle.igvm_headers.specs.declared.header.Header.{Header}
use Rattle.igvm_headers.specs.declared.header.Header.TheVariants as header

-- the header of a content
unfoldable pub area_form : List ℕ → Result Header HeaderFault
area_form content = of_length 16 content
    (header.Area (number_at 8 0 content) (number_at 4 8 content) (number_at 4 12 content))

-- the content of a header
unfoldable pub area_fields : ℕ → ℕ → ℕ → List ℕ
area_fields bytes area offset =
    little_bytes 8 bytes ++ little_bytes 4 area ++ little_bytes 4 offset
