-- Headers with other compatibility masks, other area indices, and another wanted launch digest; all else stays.
use Rattle.std.specs.Prelude.{ℕ, List}
use Rattle.igvm_headers.specs.declared.header.Header.{Header}
use Rattle.igvm_headers.specs.declared.header.Header.TheVariants.{Platform, Policy, Area, Page, Insert, Param, Context, Required, ErrorRange, IdBlock, Carried}
use Rattle.component_list.specs.declared.component.Component.{Component}

-- the same header, its mask and the index of its area changed, where it has them
abbrev pub changed : (ℕ → ℕ) → (ℕ → ℕ) → Header → Header
changed mask_to area_to (Platform mask highest_vtl kind version shared_gpa) =
    Platform (mask_to mask) highest_vtl kind version shared_gpa
changed mask_to area_to (Policy policy mask) = Policy policy (mask_to mask)
changed mask_to area_to (Area bytes area offset) = Area bytes (area_to area) offset
changed mask_to area_to (Page gpa mask offset large unmeasured kind) =
    Page gpa (mask_to mask) offset large unmeasured kind
changed mask_to area_to (Insert gpa mask area) = Insert gpa (mask_to mask) (area_to area)
changed mask_to area_to (Param kind area byte_offset) = Param kind (area_to area) byte_offset
changed mask_to area_to (Context gpa mask offset vp) = Context gpa (mask_to mask) offset vp
changed mask_to area_to (Required gpa mask bytes flags) = Required gpa (mask_to mask) bytes flags
changed mask_to area_to (ErrorRange gpa mask bytes) = ErrorRange gpa (mask_to mask) bytes
changed mask_to area_to (IdBlock mask author_enabled ld family_id image_id version guest_svn id_algorithm author_algorithm) =
    IdBlock (mask_to mask) author_enabled ld family_id image_id version guest_svn id_algorithm author_algorithm
changed mask_to area_to (Carried kind length) = Carried kind length

-- the same mask, or index
abbrev pub same : ℕ → ℕ
same number = number

-- the same header with this mask, where it has one
abbrev pub with_mask : ℕ → Header → Header
with_mask mask header = changed (λ old. mask) same header

-- the same header with this index of its area, where it has one
abbrev pub with_area : ℕ → Header → Header
with_area area header = changed same (λ old. area) header

-- an ID block that wants this launch digest; every other header as it is
abbrev pub with_digest : List ℕ → Header → Header
with_digest digest (IdBlock mask author_enabled ld family_id image_id version guest_svn id_algorithm author_algorithm) =
    IdBlock mask author_enabled digest family_id image_id version guest_svn id_algorithm author_algorithm
with_digest digest header = header

-- a component with another header
abbrev pub with_header : Header → Component → Component
with_header header c = record { header = header; tail = c.tail; content = c.content }

-- a component whose header is changed
abbrev pub changed_part : (ℕ → ℕ) → (ℕ → ℕ) → Component → Component
changed_part mask_to area_to c = with_header (changed mask_to area_to c.header) c
