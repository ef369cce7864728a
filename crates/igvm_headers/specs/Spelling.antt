-- The bytes that a builder writes for a header, with its fields in the order of docs/FORMAT.md.
use Rattle.std.specs.Prelude.{ℕ, ◌-◌, ◌%◌, List, [], ◌++◌, length, replicate}
use Rattle.byteorder.specs.Endian.{little_bytes}
use Rattle.igvm_headers.specs.HeaderFacts.{header_type}
use Rattle.igvm_headers.specs.Records.Platform.{platform_fields}
use Rattle.igvm_headers.specs.Records.Policy.{policy_fields}
use Rattle.igvm_headers.specs.Records.Area.{area_fields}
use Rattle.igvm_headers.specs.Records.Page.{page_fields}
use Rattle.igvm_headers.specs.Records.Insert.{insert_fields}
use Rattle.igvm_headers.specs.Records.Param.{param_fields}
use Rattle.igvm_headers.specs.Records.Context.{context_fields}
use Rattle.igvm_headers.specs.Records.Required.{required_fields}
use Rattle.igvm_headers.specs.Records.ErrorRange.{error_range_fields}
use Rattle.igvm_headers.specs.Records.IdBlock.{id_block_fields}
use Rattle.igvm_headers.specs.declared.header.Header.{Header}
use Rattle.igvm_headers.specs.declared.header.Header.TheVariants.{Platform, Policy, Area, Page, Insert, Param, Context, Required, ErrorRange, IdBlock, Carried}

-- A header's fields in order. What is carried unread has none: it stands in the tail, after them.
unfoldable pub header_fields : Header → List ℕ
header_fields (Platform mask highest_vtl kind version shared_gpa) = platform_fields mask highest_vtl kind version shared_gpa
header_fields (Policy policy mask) = policy_fields policy mask
header_fields (Area bytes area offset) = area_fields bytes area offset
header_fields (Page gpa mask offset large unmeasured kind) = page_fields gpa mask offset large unmeasured kind
header_fields (Insert gpa mask area) = insert_fields gpa mask area
header_fields (Param kind area byte_offset) = param_fields area byte_offset
header_fields (Context gpa mask offset vp) = context_fields gpa mask offset vp
header_fields (Required gpa mask bytes flags) = required_fields gpa mask bytes flags
header_fields (ErrorRange gpa mask bytes) = error_range_fields gpa mask bytes
header_fields (IdBlock mask author_enabled ld family_id image_id version guest_svn id_algorithm author_algorithm) =
    id_block_fields mask author_enabled ld family_id image_id version guest_svn id_algorithm author_algorithm
header_fields (Carried kind length) = []

-- a header's content: its fields, and what it carries unread
abbrev pub header_content : Header → List ℕ → List ℕ
header_content header tail = header_fields header ++ tail

-- how many bytes are missing up to a multiple of 8
abbrev pub padding_size : ℕ → ℕ
padding_size n = (8 - n % 8) % 8

-- a type and a content in a section
abbrev pub piece_bytes : ℕ → List ℕ → List ℕ
piece_bytes kind content =
    little_bytes 4 kind ++ little_bytes 4 (length content) ++ content
    ++ replicate (padding_size (length content)) 0

-- the bytes of a header and of what it carries unread
unfoldable pub spelled : Header → List ℕ → List ℕ
spelled header tail = piece_bytes (header_type header) (header_content header tail)
