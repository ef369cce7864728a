-- What the fault of a file's headers is, in words: the first header that breaks a rule has it, and else what is
-- left behind the headers, and else the lack of a platform.
use Rattle.std.specs.Prelude.{◌≡◌, ◌<◌, ◌⊎◌, ℕ, List, [], length, take, Some, None, Ok, Err}
use Rattle.std.specs.List.{slice_get}
use Rattle.igvm_headers.specs.Fixed.{fixed_form, fixed_fields, fault_at}
use Rattle.igvm_headers.specs.declared.header.Header.{Header}
use Rattle.igvm_headers.specs.declared.fault.ReadFault.{ReadFault}
use Rattle.igvm_headers.specs.declared.fault.ReadWhat.TheVariants.{HeaderCut, NoPlatform}
use Rattle.igvm_image.specs.Pieces.{Piece, cut}
use Rattle.igvm_image.specs.HeaderRules.{seen_of}
use Rattle.igvm_image.specs.FileFault.{judged, fields_fault, section_of}
use Rattle.igvm_image.specs.Headers.{pieces_of}
use Rattle.igvm_image.specs.HeadersOfFile.{place_of}
use Rattle.platform_masks.specs.Platforms.{platforms_of}

-- the rules on the whole file hold: the fixed header is read, and its fields break no rule
pub record KeepsFileRules (file : List ℕ) : Type 0 where
  pub read : fixed_form file ≡ Ok (fixed_fields file)
  pub fields : fields_fault file (fixed_fields file) ≡ None

-- these pieces spell these headers, one each, and none breaks a rule behind those before it
pub record AllKept (total : ℕ) (ps : List Piece) (headers : List Header) : Type 0 where
  pub as_many : length headers ≡ length ps
  pub each : (k : ℕ) (p : Piece) (header : Header) → slice_get ps k ≡ Some p → slice_get headers k ≡ Some header
      → judged total (seen_of (take k headers)) p ≡ Ok header

-- what is left of a file's section behind its whole headers
abbrev pub cut_of : List ℕ → List ℕ
cut_of file = cut (section_of file (fixed_fields file))

-- the pieces before keep the rules as these headers, and the next one breaks a rule, where it stands
pub record HeaderFails (file : List ℕ) (fault : ReadFault) (before : List Header) (p : Piece) : Type 0 where
  pub kept : AllKept (fixed_fields file).total (take (length before) (pieces_of file)) before
  pub next : slice_get (pieces_of file) (length before) ≡ Some p
  pub fails : judged (fixed_fields file).total (seen_of before) p ≡ Err fault.what
  pub place : fault.at ≡ place_of file (length before)

-- all pieces keep the rules as these headers, and what is left behind them is no whole header
pub record LeavesCut (file : List ℕ) (fault : ReadFault) (headers : List Header) : Type 0 where
  pub kept : AllKept (fixed_fields file).total (pieces_of file) headers
  pub left : 0 < length (cut_of file)
  pub same : fault ≡ fault_at (place_of file (length headers)) HeaderCut

-- all pieces keep the rules as these headers, nothing is left, and no header is a platform
pub record LacksPlatform (file : List ℕ) (fault : ReadFault) (headers : List Header) : Type 0 where
  pub kept : AllKept (fixed_fields file).total (pieces_of file) headers
  pub left : cut_of file ≡ []
  pub none : platforms_of headers ≡ []
  pub same : fault ≡ fault_at (fixed_fields file).var_offset NoPlatform

abbrev pub IsFirstFault : List ℕ → ReadFault → Type 0
IsFirstFault file fault =
    ((before : List Header) × (p : Piece) × HeaderFails file fault before p)
    ⊎ (((headers : List Header) × LeavesCut file fault headers)
    ⊎ ((headers : List Header) × LacksPlatform file fault headers))

-- all pieces keep the rules as these headers, nothing is left, and a platform is there
pub record KeepsHeaderRules (file : List ℕ) (headers : List Header) : Type 0 where
  pub kept : AllKept (fixed_fields file).total (pieces_of file) headers
  pub left : cut_of file ≡ []
  pub platform : 0 < length (platforms_of headers)
