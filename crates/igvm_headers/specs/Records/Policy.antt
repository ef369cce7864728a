-- GUEST_POLICY: policy u64, mask u32, reserved u32.
use Rattle.std.specs.Prelude.{ℕ, List, ◌++◌, Result}
use Rattle.byteorder.specs.Endian.{little_bytes}
use Rattle.igvm_headers.specs.Numbers.{number_at}
use Rattle.igvm_headers.specs.Records.Fields.{of_length, reserved}
use Rattle.igvm_headers.specs.declared.fault.HeaderFault.{HeaderFault}
use Rattle.igvm_headers.specs.declared.header.Header.{Header}
use Rattle.igvm_headers.specs.declared.header.Header.TheVariants as header

-- the header of a content
unfoldable pub policy_form : List ℕ → Result Header HeaderFault
policy_form content = of_length 16 content
    (header.Policy (number_at 8 0 content) (number_at 4 8 content))

-- the content of a header
unfoldable pub policy_fields : ℕ → ℕ → List ℕ
policy_fields policy mask =
    little_bytes 8 policy ++ little_bytes 4 mask ++ reserved 4
