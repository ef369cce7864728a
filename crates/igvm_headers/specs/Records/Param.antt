-- The parameters: area index u32, byte offset u32. The kind is the type's alone.
use Rattle.std.specs.Prelude.{ℕ, List, ◌++◌, Result}
use Rattle.byteorder.specs.Endian.{little_bytes}
use Rattle.igvm_headers.specs.Numbers.{number_at}
use Rattle.igvm_headers.specs.Records.Fields.{of_length}
use Rattle.igvm_headers.specs.declared.param_kind.ParamKind.{ParamKind}
use Rattle.igvm_headers.specs.declared.fault.HeaderFault.{HeaderFault}
use Rattle.igvm_headers.specs.declared.header.Header.{Header}
use Rattle.igvm_headers.specs.declared.header.Header.TheVariants as header

-- the header of a content, under its kind
unfoldable pub param_form : ParamKind → List ℕ → Result Header HeaderFault
param_form kind content = of_length 8 content (header.Param kind (number_at 4 0 content) (number_at 4 4 content))

-- the content of a header
unfoldable pub param_fields : ℕ → ℕ → List ℕ
param_fields area byte_offset = little_bytes 4 area ++ little_bytes 4 byte_offset
