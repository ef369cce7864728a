-- A header out of its type and its content (`igvm_defs`, IGVM_VHT_* and IGVM_VHS_*).
use Rattle.std.specs.Prelude.{ℕ, List, ◌==◌, if◌then◌else◌, Option, Some, None, Result}
use Rattle.igvm_headers.specs.ParamKinds.{param_kind_of}
use Rattle.igvm_headers.specs.Records.Platform.{platform_form}
use Rattle.igvm_headers.specs.Records.Policy.{policy_form}
use Rattle.igvm_headers.specs.Records.Area.{area_form}
use Rattle.igvm_headers.specs.Records.Page.{page_form}
use Rattle.igvm_headers.specs.Records.Insert.{insert_form}
use Rattle.igvm_headers.specs.Records.Param.{param_form}
use Rattle.igvm_headers.specs.Records.Context.{context_form}
use Rattle.igvm_headers.specs.Records.Required.{required_form}
use Rattle.igvm_headers.specs.Records.ErrorRange.{error_range_form}
use Rattle.igvm_headers.specs.Records.IdBlock.{id_block_form}
use Rattle.igvm_headers.specs.Records.Carried.{carried_form}
use Rattle.igvm_headers.specs.declared.fault.HeaderFault.{HeaderFault}
use Rattle.igvm_headers.specs.declared.param_kind.ParamKind.{ParamKind}
use Rattle.igvm_headers.specs.declared.header.Header.{Header}

-- a parameter, or one of the types that have no record
abbrev pub param_or_carried : ℕ → List ℕ → Option ParamKind → Result Header HeaderFault
param_or_carried kind content (Some param) = param_form param content
param_or_carried kind content None = carried_form kind content

-- The header of a type and a content, or the first fault in the order: unknown type, length, flags, data type,
-- platform type.
unfoldable pub header_form : ℕ → List ℕ → Result Header HeaderFault
header_form kind content =
    if kind == 0x1 then platform_form content else
    if kind == 0x101 then policy_form content else
    if kind == 0x301 then area_form content else
    if kind == 0x302 then page_form content else
    if kind == 0x303 then insert_form content else
    if kind == 0x304 then context_form content else
    if kind == 0x305 then required_form content else
    if kind == 0x30B then id_block_form content else
    if kind == 0x30D then error_range_form content else
    param_or_carried kind content (param_kind_of kind)
