-- The records of a page that is measured (SEV-SNP Firmware ABI, PAGE_INFO; Intel TDX Module Base Architecture
-- Specification, TDH.MEM.PAGE.ADD and TDH.MR.EXTEND).
use Rattle.std.specs.Prelude.{ℕ, List, [], ◌∷◌, replicate, Option, Some, None}
use Rattle.sha2.specs.Sha512.{sha384}
use Rattle.snp_chain.specs.Chain.{PageRecord, page_of}
use Rattle.tdx_chain.specs.Stream.{page_add_record, extend_records}
use Rattle.igvm_measure.specs.Measured.{SnpMeasured, TdxMeasured}

-- what stands for a page's bytes on SEV-SNP: their SHA-384, and 48 zeros where they aren't measured
abbrev pub contents_of : Option (List ℕ) → List ℕ
contents_of None = replicate 48 0
contents_of (Some page) = sha384 page

-- the record of a page on SEV-SNP
abbrev pub snp_record : SnpMeasured → PageRecord
snp_record m = page_of m.kind m.gpa (contents_of m.bytes)

-- the records of a page's bytes on TDX, and none where they aren't measured
abbrev pub extended : ℕ → Option (List ℕ) → List (List ℕ)
extended gpa None = []
extended gpa (Some page) = extend_records gpa page

-- the records of a page on TDX: its place, and its bytes behind it
abbrev pub tdx_records_of : TdxMeasured → List (List ℕ)
tdx_records_of m = page_add_record m.gpa ∷ extended m.gpa m.bytes
