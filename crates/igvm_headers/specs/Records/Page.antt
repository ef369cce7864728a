-- PAGE_DATA: GPA u64, mask u32, file offset u32, flags u32, data type u16, reserved u16. Flag bit 0 is a 2 MB page,
-- bit 1 unmeasured; the least other bit that is set is named.
use Rattle.std.specs.Prelude.{ℕ, zero, suc, ◌+◌, List, ◌++◌, length, not, ◌==◌, ◌&&◌, if◌then◌else◌, Bool, Option, Some, None, Result, Ok, Err}
use Rattle.igvm_headers.specs.PageKinds.{data_type, page_kind_of}
use Rattle.igvm_headers.specs.Records.Fields.{is_set, reserved}
use Rattle.igvm_headers.specs.declared.page_kind.PageKind.{PageKind}
use Rattle.byteorder.specs.Endian.{little_bytes}
use Rattle.igvm_headers.specs.Numbers.{number_at}
use Rattle.igvm_headers.specs.declared.fault.HeaderFault.{HeaderFault}
use Rattle.igvm_headers.specs.declared.fault.HeaderFault.TheVariants as fault
use Rattle.igvm_headers.specs.declared.header.Header.{Header}
use Rattle.igvm_headers.specs.declared.header.Header.TheVariants as header

-- the least set bit of a number, among the n bits from a bit on
unfoldable pub least_set : ℕ → ℕ → ℕ → Option ℕ
least_set zero bit flags = None
least_set (suc n) bit flags = if is_set bit flags then Some bit else least_set n (suc bit) flags

-- the header, where the data type is known; a page of 2 MB is a normal one
abbrev pub page_with : List ℕ → Bool → Option PageKind → Result Header HeaderFault
page_with content large None = Err fault.DataType
page_with content large (Some kind) =
    if large && not (number_at 2 20 content == 0) then Err fault.DataType else
    Ok (header.Page (number_at 8 0 content) (number_at 4 8 content) (number_at 4 12 content) large
    (is_set 1 (number_at 4 16 content)) kind)

-- the header, unless a flag is unknown
abbrev pub page_unless : List ℕ → Option ℕ → Result Header HeaderFault
page_unless content (Some bit) = Err (fault.Flags bit)
page_unless content None =
    page_with content (is_set 0 (number_at 4 16 content)) (page_kind_of (number_at 2 20 content))

-- the header of a content
unfoldable pub page_form : List ℕ → Result Header HeaderFault
page_form content =
    if length content == 24 then page_unless content (least_set 30 2 (number_at 4 16 content)) else Err fault.Length

-- the flags of a page
abbrev pub page_flags : Bool → Bool → ℕ
page_flags large unmeasured = (if large then 1 else 0) + (if unmeasured then 2 else 0)

-- the content of a header
unfoldable pub page_fields : ℕ → ℕ → ℕ → Bool → Bool → PageKind → List ℕ
page_fields gpa mask offset large unmeasured kind =
    little_bytes 8 gpa ++ little_bytes 4 mask ++ little_bytes 4 offset
    ++ little_bytes 4 (page_flags large unmeasured) ++ little_bytes 2 (data_type kind) ++ reserved 2
