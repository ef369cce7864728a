-- The text of each kind of header, by its fields, as docs/PROGRAM.md lists them.
use Rattle.std.specs.Prelude.{ℕ, List, ◌++◌, Bool, codes}
use Rattle.std.specs.Fmt.{decimal}
use Rattle.igvm_headers.specs.declared.header.Header.{Header}
use Rattle.igvm_headers.specs.declared.header.Header.TheVariants.{Platform, Policy, Area, Page, Insert, Param, Context, Required, ErrorRange, IdBlock, Carried}
use Rattle.igvm_headers.specs.declared.platform_kind.PlatformKind.{PlatformKind}
use Rattle.igvm_headers.specs.declared.page_kind.PageKind.{PageKind}
use Rattle.igvm_headers.specs.declared.param_kind.ParamKind.{ParamKind}
use Rattle.igvm_headers.specs.PlatformKinds.{kind_text}
use Rattle.igvm_headers.specs.PageKinds.{page_kind_text}
use Rattle.igvm_headers.specs.ParamKinds.{param_text}
use Rattle.line_buffer.specs.Fields.{eight_digits, sixteen_digits, byte_digits}
use Rattle.dump_text.specs.PageWords.{size_text, measured_text}

-- a platform, with its own number
unfoldable pub platform_text : ℕ → ℕ → ℕ → PlatformKind → ℕ → ℕ → List ℕ
platform_text number mask highest_vtl kind version shared_gpa =
    codes "platform " ++ decimal number ++ codes " mask " ++ eight_digits mask
    ++ codes " kind " ++ kind_text kind ++ codes " vtl " ++ decimal highest_vtl
    ++ codes " version " ++ decimal version ++ codes " shared " ++ sixteen_digits shared_gpa

-- a guest policy
unfoldable pub policy_text : ℕ → ℕ → List ℕ
policy_text policy mask =
    codes "policy mask " ++ eight_digits mask ++ codes " value " ++ sixteen_digits policy

-- a parameter area
unfoldable pub area_text : ℕ → ℕ → ℕ → List ℕ
area_text bytes area offset =
    codes "area " ++ decimal area ++ codes " bytes " ++ decimal bytes
    ++ codes " from " ++ decimal offset

-- a page
unfoldable pub page_text : ℕ → ℕ → ℕ → Bool → Bool → PageKind → List ℕ
page_text gpa mask offset large unmeasured kind =
    codes "page gpa " ++ sixteen_digits gpa ++ codes " mask " ++ eight_digits mask
    ++ codes " from " ++ decimal offset ++ codes " size " ++ size_text large
    ++ codes " " ++ measured_text unmeasured ++ codes " " ++ page_kind_text kind

-- a parameter area put into the guest
unfoldable pub insert_text : ℕ → ℕ → ℕ → List ℕ
insert_text gpa mask area =
    codes "insert gpa " ++ sixteen_digits gpa ++ codes " mask " ++ eight_digits mask
    ++ codes " area " ++ decimal area

-- a value of the host, written into an area
unfoldable pub parameter_text : ParamKind → ℕ → ℕ → List ℕ
parameter_text kind area byte_offset =
    codes "param " ++ param_text kind ++ codes " area " ++ decimal area
    ++ codes " offset " ++ decimal byte_offset

-- the state of a virtual processor
unfoldable pub context_text : ℕ → ℕ → ℕ → ℕ → List ℕ
context_text gpa mask offset vp =
    codes "context gpa " ++ sixteen_digits gpa ++ codes " mask " ++ eight_digits mask
    ++ codes " from " ++ decimal offset ++ codes " vp " ++ decimal vp

-- memory that the guest needs
unfoldable pub required_text : ℕ → ℕ → ℕ → ℕ → List ℕ
required_text gpa mask bytes flags =
    codes "required gpa " ++ sixteen_digits gpa ++ codes " mask " ++ eight_digits mask
    ++ codes " bytes " ++ decimal bytes ++ codes " flags " ++ eight_digits flags

-- memory where the guest reports errors
unfoldable pub error_range_text : ℕ → ℕ → ℕ → List ℕ
error_range_text gpa mask bytes =
    codes "error-range gpa " ++ sixteen_digits gpa ++ codes " mask " ++ eight_digits mask
    ++ codes " bytes " ++ decimal bytes

-- an ID block
unfoldable pub id_block_text : ℕ → ℕ → List ℕ → List ℕ → List ℕ → ℕ → ℕ → ℕ → ℕ → List ℕ
id_block_text mask author ld family image version svn id_algorithm author_algorithm =
    codes "id-block mask " ++ eight_digits mask ++ codes " author " ++ decimal author
    ++ codes " ld " ++ byte_digits ld ++ codes " family " ++ byte_digits family
    ++ codes " image " ++ byte_digits image
    ++ codes " version " ++ decimal version ++ codes " svn " ++ decimal svn
    ++ codes " algorithms " ++ decimal id_algorithm ++ codes " " ++ decimal author_algorithm

-- a header that is carried as bytes
unfoldable pub carried_text : ℕ → ℕ → List ℕ
carried_text kind length =
    codes "carried kind " ++ eight_digits kind ++ codes " length " ++ decimal length

-- The text of a header; the number is its own where it is a platform.
abbrev pub header_text : ℕ → Header → List ℕ
header_text number (Platform mask highest_vtl kind version shared_gpa) =
    platform_text number mask highest_vtl kind version shared_gpa
header_text number (Policy policy mask) = policy_text policy mask
header_text number (Area bytes area offset) = area_text bytes area offset
header_text number (Page gpa mask offset large unmeasured kind) =
    page_text gpa mask offset large unmeasured kind
header_text number (Insert gpa mask area) = insert_text gpa mask area
header_text number (Param kind area byte_offset) = parameter_text kind area byte_offset
header_text number (Context gpa mask offset vp) = context_text gpa mask offset vp
header_text number (Required gpa mask bytes flags) = required_text gpa mask bytes flags
header_text number (ErrorRange gpa mask bytes) = error_range_text gpa mask bytes
header_text number (IdBlock mask author ld family image version svn id_algorithm author_algorithm) =
    id_block_text mask author ld family image version svn id_algorithm author_algorithm
header_text number (Carried kind length) = carried_text kind length
