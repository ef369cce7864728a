-- What holds of a header by its type: each fact once, with a line a type that has it, and a last one for all others.
use Rattle.std.specs.Prelude.{ℕ, ◌/◌, ◌==◌, List, [], drop, Bool, true, false, if◌then◌else◌, Option, Some, None}
use Rattle.igvm_headers.specs.Pages.{page_bytes, small_pages}
use Rattle.igvm_headers.specs.ParamKinds.{param_type}
use Rattle.igvm_headers.specs.Records.Fields.{is_set}
use Rattle.igvm_headers.specs.declared.header.Header.{Header}
use Rattle.igvm_headers.specs.declared.header.Header.TheVariants.{Platform, Policy, Area, Page, Insert, Param, Context, Required, ErrorRange, IdBlock, Carried}

-- ---- its record

-- the type in the section
abbrev pub header_type : Header → ℕ
header_type (Platform mask highest_vtl kind version shared_gpa) = 0x1
header_type (Policy policy mask) = 0x101
header_type (Area bytes area offset) = 0x301
header_type (Page gpa mask offset large unmeasured kind) = 0x302
header_type (Insert gpa mask area) = 0x303
header_type (Context gpa mask offset vp) = 0x304
header_type (Required gpa mask bytes flags) = 0x305
header_type (IdBlock _ _ _ _ _ _ _ _ _) = 0x30B
header_type (ErrorRange gpa mask bytes) = 0x30D
header_type (Param kind area byte_offset) = param_type kind
header_type (Carried kind length) = kind

-- how many bytes the content is written with
abbrev pub content_size : Header → ℕ
content_size (Platform mask highest_vtl kind version shared_gpa) = 16
content_size (Policy policy mask) = 16
content_size (Area bytes area offset) = 16
content_size (Page gpa mask offset large unmeasured kind) = 24
content_size (Insert gpa mask area) = 16
content_size (Param kind area byte_offset) = 8
content_size (Context gpa mask offset vp) = 20
content_size (Required gpa mask bytes flags) = 24
content_size (ErrorRange gpa mask bytes) = 16
content_size (IdBlock _ _ _ _ _ _ _ _ _) = 696
content_size (Carried kind length) = length

-- how many bytes of the content are carried unread
abbrev pub tail_size : Header → ℕ
tail_size (IdBlock _ _ _ _ _ _ _ _ _) = 592
tail_size (Carried kind length) = length
tail_size _ = 0

-- what is carried unread of the content: the keys and signatures of an ID block, or all
abbrev pub header_tail : Header → List ℕ → List ℕ
header_tail (IdBlock _ _ _ _ _ _ _ _ _) content = drop 104 content
header_tail (Carried kind length) content = content
header_tail _ content = []

-- ---- its place among headers, and the platforms that it counts for

-- The class of what is carried: none with bit 31 set, that of directives for 0x311, and else that of initialization.
abbrev pub carried_class : ℕ → ℕ
carried_class kind = if is_set 31 kind then 0 else if kind == 0x311 then 3 else 2

-- the class in the order of headers (`igvm_defs`, IGVM_VHT_RANGE_*): platforms, initialization, directives; 0 for none
abbrev pub class_of : Header → ℕ
class_of (Platform mask highest_vtl kind version shared_gpa) = 1
class_of (Policy policy mask) = 2
class_of (Carried kind length) = carried_class kind
class_of _ = 3

-- the compatibility mask, where the record has one
abbrev pub mask_of : Header → Option ℕ
mask_of (Area bytes area offset) = None
mask_of (Param kind area byte_offset) = None
mask_of (Carried kind length) = None
mask_of (Platform mask highest_vtl kind version shared_gpa) = Some mask
mask_of (Policy policy mask) = Some mask
mask_of (Page gpa mask offset large unmeasured kind) = Some mask
mask_of (Insert gpa mask area) = Some mask
mask_of (Context gpa mask offset vp) = Some mask
mask_of (Required gpa mask bytes flags) = Some mask
mask_of (ErrorRange gpa mask bytes) = Some mask
mask_of (IdBlock mask author_enabled ld family_id image_id version guest_svn id_algorithm author_algorithm) = Some mask

-- it counts for every platform
abbrev pub is_for_all : Header → Bool
is_for_all (Area bytes area offset) = true
is_for_all (Param kind area byte_offset) = true
is_for_all _ = false

-- ---- the pages that it places

-- the guest physical address of the first, and 0 where it places none
abbrev pub gpa_of : Header → ℕ
gpa_of (Page gpa mask offset large unmeasured kind) = gpa
gpa_of (Insert gpa mask area) = gpa
gpa_of _ = 0

-- how many of 4,096 bytes; a parameter area has a number of bytes
abbrev pub page_count : Header → ℕ → ℕ
page_count (Page gpa mask offset large unmeasured kind) area_bytes = small_pages large
page_count (Insert gpa mask area) area_bytes = area_bytes / 4096
page_count _ area_bytes = 0

-- the index of the area that is put there
abbrev pub inserted_area : Header → Option ℕ
inserted_area (Insert gpa mask area) = Some area
inserted_area _ = None

-- ---- its data

-- how many bytes they have, where it has any
abbrev pub data_size : Header → Option ℕ
data_size (Area bytes area offset) = Some bytes
data_size (Page gpa mask offset large unmeasured kind) = Some (page_bytes large)
data_size (Context gpa mask offset vp) = Some 4096
data_size _ = None

-- how many pages of 4,096 bytes they are
abbrev pub data_pages : Header → ℕ
data_pages (Area bytes area offset) = bytes / 4096
data_pages (Page gpa mask offset large unmeasured kind) = small_pages large
data_pages (Context gpa mask offset vp) = 1
data_pages _ = 0

-- where they stand in the file, and 0 where they are zeros or it has none
abbrev pub data_offset : Header → ℕ
data_offset (Area bytes area offset) = offset
data_offset (Page gpa mask offset large unmeasured kind) = offset
data_offset (Context gpa mask offset vp) = offset
data_offset _ = 0

-- the same header with data that stand elsewhere
abbrev pub with_offset : ℕ → Header → Header
with_offset at (Area bytes area offset) = Area bytes area at
with_offset at (Page gpa mask offset large unmeasured kind) = Page gpa mask at large unmeasured kind
with_offset at (Context gpa mask offset vp) = Context gpa mask at vp
with_offset at header = header
