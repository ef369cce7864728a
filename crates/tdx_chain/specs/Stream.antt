-- The measurement of a TDX guest, MRTD: one hash over a row of records (Intel TDX Module Base Architecture
-- Specification, TDH.MEM.PAGE.ADD and TDH.MR.EXTEND).
use Rattle.std.specs.Prelude.{ℕ, ◌+◌, ◌-◌, ◌*◌, List, ◌++◌, length, map, replicate, codes}
use Rattle.std.specs.List.{concat, range_with_len}
use Rattle.igvm_headers.specs.Endian.{little_bytes}
use Rattle.igvm_headers.specs.Numbers.{slice}
use Rattle.sha2.specs.Sha512.{sha384}

-- what a record is, in 16 bytes: its name, followed by zeros
abbrev pub name_of : List ℕ → List ℕ
name_of letters = letters ++ replicate (16 - length letters) 0

abbrev pub page_add : List ℕ
page_add = name_of (codes "MEM.PAGE.ADD")

abbrev pub mr_extend : List ℕ
mr_extend = name_of (codes "MR.EXTEND")

-- the first 128 bytes of a record: its name (16), an address (8), and zeros
unfoldable pub record_front : List ℕ → ℕ → List ℕ
record_front name gpa = name ++ little_bytes 8 gpa ++ replicate 104 0

-- a page is added at an address: 128 bytes
abbrev pub page_add_record : ℕ → List ℕ
page_add_record gpa = record_front page_add gpa

-- a chunk of 256 bytes is measured at an address: 384 bytes
abbrev pub extend_record : ℕ → List ℕ → List ℕ
extend_record gpa chunk = record_front mr_extend gpa ++ chunk

-- the records of a page's first n chunks, each at its own address
abbrev pub chunk_records : ℕ → List ℕ → ℕ → List (List ℕ)
chunk_records gpa page n = map (λ k. extend_record (gpa + 256 * k) (slice page (256 * k) 256)) (range_with_len 0 n)

-- the page at an address is measured: its 16 chunks, in rising order
unfoldable pub extend_records : ℕ → List ℕ → List (List ℕ)
extend_records gpa page = chunk_records gpa page 16

-- the measurement of these records
unfoldable pub tdx : List (List ℕ) → List ℕ
tdx records = sha384 (concat records)
