-- What a component is: a header with file offset 0, the bytes that its record carries unread, and its data.
use Rattle.std.specs.Prelude.{ℕ, length, ◌==◌, ◌&&◌, not, Bool, true, false, Option, Some, None}
use Rattle.igvm_headers.specs.HeaderFacts.{data_size, tail_size}
use Rattle.igvm_headers.specs.Records.Carried.{is_carried}
use Rattle.igvm_headers.specs.declared.page_kind.PageKind.{PageKind}
use Rattle.igvm_headers.specs.declared.page_kind.PageKind.TheVariants.{Normal}
use Rattle.igvm_headers.specs.declared.header.Header.{Header}
use Rattle.igvm_headers.specs.declared.header.Header.TheVariants.{Page, Carried}
use Rattle.component_list.specs.declared.component.Component.{Component}
use Rattle.component_list.specs.declared.component.Content.{Content}
use Rattle.component_list.specs.declared.component.Content.TheVariants.{Nothing, Zero, Bytes}

-- data of this size are all zeros, or exactly so many bytes
abbrev pub fills : ℕ → Content → Bool
fills size Nothing = false
fills size Zero = true
fills size (Bytes bytes) = length bytes == size

-- there are no data
abbrev pub is_nothing : Content → Bool
is_nothing Nothing = true
is_nothing _ = false

-- data of a size, and none where there is no size
abbrev pub fits_size : Option ℕ → Content → Bool
fits_size (Some size) content = fills size content
fits_size None content = is_nothing content

-- a header's data are of its size, and there are none where it has none
abbrev pub fits_content : Header → Content → Bool
fits_content header content = fits_size (data_size header) content

-- a type that is neither known nor carried unread
abbrev pub is_unknown : Header → Bool
is_unknown (Carried kind length) = not (is_carried kind)
is_unknown _ = false

-- the type of a header that is carried unread
abbrev pub carried_kind : Header → ℕ
carried_kind (Carried kind length) = kind
carried_kind _ = 0

-- the tail or the content has another size than the header's
abbrev pub breaks_length : Component → Bool
breaks_length c = not ((length c.tail == tail_size c.header) && fits_content c.header c.content)

-- an ordinary page
abbrev pub is_normal : PageKind → Bool
is_normal Normal = true
is_normal _ = false

-- a 2 MB page is not a normal one
abbrev pub breaks_data_type : Header → Bool
breaks_data_type (Page gpa mask offset large unmeasured kind) = large && not (is_normal kind)
breaks_data_type _ = false
