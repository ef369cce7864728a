-- Pages of 4,096 bytes and of 2 MB, and the pages of the data at a file offset.
use Rattle.std.specs.Prelude.{ℕ, ◌+◌, ◌-◌, ◌*◌, List, ◌++◌, length, take, replicate, Bool, if◌then◌else◌, ◌==◌}
use Rattle.igvm_headers.specs.Numbers.{number_at, slice}

-- the size in bytes of a page, large or not
abbrev pub page_bytes : Bool → ℕ
page_bytes large = if large then 2097152 else 4096

-- how many pages of 4,096 bytes it is
abbrev pub small_pages : Bool → ℕ
small_pages large = if large then 512 else 1

-- these bytes, followed by zeros up to a page's size
unfoldable pub padded_page : List ℕ → List ℕ
padded_page bytes = bytes ++ replicate (4096 - length bytes) 0

-- the file up to its total size: what lies behind is not read
abbrev pub file_body : List ℕ → List ℕ
file_body file = take (number_at 4 16 file) file

-- Page k of the data at an offset of such a body. Offset 0 stands for zeros; bytes past the end count as zero.
unfoldable pub body_page : List ℕ → ℕ → ℕ → List ℕ
body_page body offset k =
    if offset == 0 then replicate 4096 0 else padded_page (slice body (offset + 4096 * k) 4096)
