-- What a header's data are: pages at a file offset.
use Rattle.std.specs.Prelude.{ℕ, List, Bool, ◌==◌, ◌||◌}
use Rattle.igvm_headers.specs.HeaderFacts.{data_offset, data_pages}
use Rattle.igvm_headers.specs.Pages.{body_page, file_body}
use Rattle.igvm_headers.specs.declared.header.Header.{Header}

-- pages of 4,096 bytes at an offset of the file's body
pub record Data : Type 0 where
  pub body : List ℕ
  pub offset : ℕ
  pub pages : ℕ

-- the data of a header in a file's body
abbrev pub data_in : List ℕ → Header → Data
data_in body header = record { body = body; offset = data_offset header; pages = data_pages header }

-- the data of a file's header
abbrev pub data_of : List ℕ → Header → Data
data_of file header = data_in (file_body file) header

-- all the data are zeros that the file does not hold
abbrev pub is_zero : Data → Bool
is_zero data' = (data'.offset == 0) || (data'.pages == 0)

-- page k of the data
abbrev pub data_page : Data → ℕ → List ℕ
data_page data' k = body_page data'.body data'.offset k
