-- What is wrong with a file: the first rule that it breaks, and where.
use Rattle.std.specs.Prelude.{ℕ, ◌+◌, ◌-◌, List, [], ◌∷◌, ◌++◌, length, take, replicate, nat_lt, not, ◌==◌, ◌||◌, if◌then◌else◌, Option, Some, None, Result, Ok, Err}
use Rattle.igvm_headers.specs.Numbers.{slice}
use Rattle.igvm_headers.specs.Checksum.{crc}
use Rattle.igvm_headers.specs.Fixed.{fixed_form, fixed_size, fault_at}
use Rattle.igvm_headers.specs.HeaderForm.{header_form}
use Rattle.igvm_headers.specs.declared.fixed.FixedHeader.{FixedHeader}
use Rattle.igvm_headers.specs.declared.header.Header.{Header}
use Rattle.igvm_headers.specs.declared.fault.HeaderFault.{HeaderFault}
use Rattle.igvm_headers.specs.declared.fault.HeaderFault.TheVariants as header
use Rattle.igvm_headers.specs.declared.fault.ReadFault.{ReadFault}
use Rattle.igvm_headers.specs.declared.fault.ReadWhat.{ReadWhat}
use Rattle.igvm_headers.specs.declared.fault.ReadWhat.TheVariants.{TotalSize, Section, Checksum, HeaderCut, UnknownType, Length, Flags, DataType, PlatformType, NoPlatform}
use Rattle.igvm_image.specs.Pieces.{Piece, size_of, pieces, cut}
use Rattle.igvm_image.specs.HeaderRules.{Seen, seen_of, rule_fault}
use Rattle.platform_masks.specs.Platforms.{platforms_of}

-- the variable header section of a file
abbrev pub section_of : List ℕ → FixedHeader → List ℕ
section_of file fixed = slice file fixed.var_offset fixed.var_size

-- what the fixed header has after its checksum: nothing in version 1, and 8 bytes in version 2
abbrev pub after_checksum : List ℕ → FixedHeader → List ℕ
after_checksum file fixed = slice file 24 (fixed_size fixed.version - 24)

-- the checksum's message: the fixed header with zeros for the checksum, and the section
abbrev pub checked_bytes : List ℕ → FixedHeader → List ℕ
checked_bytes file fixed = take 20 file ++ replicate 4 0 ++ after_checksum file fixed ++ section_of file fixed

-- the first rule on the fixed header's fields that fails
abbrev pub fields_fault : List ℕ → FixedHeader → Option ReadFault
fields_fault file fixed =
    if nat_lt fixed.total (fixed_size fixed.version) || nat_lt (length file) fixed.total then Some (fault_at 16 TotalSize) else
    if nat_lt fixed.var_offset (fixed_size fixed.version) || nat_lt fixed.total (fixed.var_offset + fixed.var_size) then
    Some (fault_at 8 Section) else
    if not (crc (checked_bytes file fixed) == fixed.checksum) then Some (fault_at 20 Checksum) else
    None

-- a header's fault as the reader answers it
abbrev pub what_of : HeaderFault → ReadWhat
what_of (header.UnknownType kind) = UnknownType kind
what_of header.Length = Length
what_of (header.Flags bit) = Flags bit
what_of header.DataType = DataType
what_of header.PlatformType = PlatformType

-- a header that breaks no rule, or the first rule that it breaks, its content's rules first
abbrev pub if_rules_hold : Header → Option ReadWhat → Result Header ReadWhat
if_rules_hold header None = Ok header
if_rules_hold header (Some what) = Err what

abbrev pub judged_form : ℕ → Seen → Result Header HeaderFault → Result Header ReadWhat
judged_form total seen (Err fault) = Err (what_of fault)
judged_form total seen (Ok header) = if_rules_hold header (rule_fault total seen header)

unfoldable pub judged : ℕ → Seen → Piece → Result Header ReadWhat
judged total seen p = judged_form total seen (header_form p.kind p.content)

-- behind the last whole header: what is left is cut, or there is no platform
abbrev pub end_fault : ℕ → ℕ → List Header → List ℕ → Option ReadFault
end_fault start at before [] = if length (platforms_of before) == 0 then Some (fault_at start NoPlatform) else None
end_fault start at before (byte ∷ rest) = Some (fault_at at HeaderCut)

-- a fault stands where its header does, and else the headers behind it are judged
abbrev pub unless_fault : ℕ → Result Header ReadWhat → (Header → Option ReadFault) → Option ReadFault
unless_fault at (Err what) next = Some (fault_at at what)
unless_fault at (Ok header) next = next header

-- The first fault of these headers, behind those before, and of what is left behind them. `start` is the file
-- offset of the section and `at` that of the first of these headers.
unfoldable pub headers_fault : ℕ → ℕ → ℕ → List Header → List Piece → List ℕ → Option ReadFault
headers_fault total start at before [] rest = end_fault start at before rest
headers_fault total start at before (p ∷ ps) rest =
    unless_fault at (judged total (seen_of before) p)
    (λ header. headers_fault total start (at + size_of p) (before ++ header ∷ []) ps rest)

-- the first fault of a section's headers
abbrev pub section_fault : ℕ → ℕ → List ℕ → Option ReadFault
section_fault total start section = headers_fault total start start [] (pieces section) (cut section)

-- a later fault counts where there is no earlier one
abbrev pub fault_or : Option ReadFault → Option ReadFault → Option ReadFault
fault_or None later = later
fault_or (Some first) later = Some first

-- the rules on the whole file, and then those on its headers
abbrev pub faults_behind : List ℕ → Result FixedHeader ReadFault → Option ReadFault
faults_behind file (Err fault) = Some fault
faults_behind file (Ok fixed) =
    fault_or (fields_fault file fixed) (section_fault fixed.total fixed.var_offset (section_of file fixed))

-- the first rule that a file breaks, or nothing
unfoldable pub fault_of : List ℕ → Option ReadFault
fault_of file = faults_behind file (fixed_form file)
