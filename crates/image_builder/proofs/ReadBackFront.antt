-- The fixed header of a file that is put together breaks no rule, and the section behind it is read.
use Rattle.std.proofs.Common.{◌≡◌, ℕ, ◌+◌, ◌-◌, ◌^◌, ◌<◌, ◌≤◌, List, ◌++◌, length, take, replicate, refl, sym, ◌∙◌, ap, ap₂, subst, arith, Option, Some, None, Ok, Bool, true, false}
use Rattle.std.specs.Prelude.{if◌then◌else◌, ◌==◌, ◌||◌, nat_lt, not}
use Rattle.std.proofs.lemmas.Bool.{le-ltb, eq-eqb, eqb-true}
use Rattle.std.proofs.lemmas.List.{take_at, take_all}
use Rattle.byteorder.specs.Endian.{little_bytes, little_number}
use Rattle.byteorder.specs.Numbers.{little_number-reads_back}
use Rattle.igvm_headers.specs.Numbers.{number_at, slice}
use Rattle.igvm_headers.specs.Checksum.{crc}
use Rattle.igvm_headers.specs.Pages.{file_body}
use Rattle.igvm_headers.specs.Fixed.{added_fault, fixed_fault, fixed_form, fixed_fields, fixed_size, fixed_unless, is_version, fault_at}
use Rattle.igvm_headers.specs.declared.fixed.FixedHeader.{FixedHeader}
use Rattle.igvm_headers.specs.declared.fault.ReadFault.{ReadFault}
use Rattle.igvm_headers.specs.declared.fault.ReadWhat.TheVariants.{TooShort}
use Rattle.igvm_image.specs.Pieces.{pieces}
use Rattle.igvm_image.specs.FileFault.{fault_of, fields_fault, faults_behind, fault_or, section_fault, section_of, checked_bytes}
use Rattle.igvm_image.specs.Headers.{placed_from, placed_headers}
use Rattle.image_builder.specs.Layout.{fixed_front, fixed_rest}
use Rattle.image_builder.proofs.Lengths.{front_size, together}

-- a file of these parts, with any number for the checksum
abbrev pub made : ℕ → ℕ → ℕ → ℕ → List ℕ → List ℕ → List ℕ
made version size total seal headers bytes =
    fixed_front version size total ++ little_bytes 4 seal ++ fixed_rest version ++ headers ++ bytes

-- its fixed header
abbrev pub made_fields : ℕ → ℕ → ℕ → ℕ → FixedHeader
made_fields version size total seal = record {
  version = version;
  var_offset = fixed_size version;
  var_size = size;
  total = total;
  checksum = seal;
  architecture = 0;
  page_size = 4096;
}

-- the numbers are those of the parts, and fit their fields
pub record IsMade (version size total seal : ℕ) (headers bytes : List ℕ) : Type 0 where
  pub known : is_version version ≡ true
  pub sized : length headers ≡ size
  pub whole : fixed_size version + (size + length bytes) ≡ total
  pub small : total < 2 ^ 32
  pub sealed : seal ≡ crc (fixed_front version size total ++ replicate 4 0 ++ fixed_rest version ++ headers)
  pub seal_fits : seal < 2 ^ 32

number_back : (x : ℕ) (rest : List ℕ) → x < 2 ^ 32 → little_number 4 (little_bytes 4 x ++ rest) ≡ x
number_back x rest fits = little_number-reads_back 4 x rest (omega arith)

made_length : (version size total seal : ℕ) (headers bytes : List ℕ)
    → length (made version size total seal headers bytes) ≡ fixed_size version + (length headers + length bytes)
made_length version size total seal headers bytes =
    together version (fixed_front version size total) headers bytes seal (front_size version size total)

-- ---- each version

-- what the reader finds in the fixed header of a version
record ReadsFixed (version : ℕ) : Type 0 where
  pub fields : (size total seal : ℕ) (headers bytes : List ℕ) → size < 2 ^ 32 → total < 2 ^ 32 → seal < 2 ^ 32
      → fixed_fields (made version size total seal headers bytes) ≡ made_fields version size total seal
  pub fault : (size total seal : ℕ) (headers bytes : List ℕ) → fixed_fault (made version size total seal headers bytes) ≡ None
  pub section : (size total seal : ℕ) (headers bytes : List ℕ)
      → slice (made version size total seal headers bytes) (fixed_size version) size ≡ take size (headers ++ bytes)
  pub checked : (size total seal : ℕ) (headers bytes : List ℕ)
      → take 20 (made version size total seal headers bytes) ++ replicate 4 0 ++ slice (made version size total seal headers bytes) 24 (fixed_size version - 24)
      ≡ fixed_front version size total ++ replicate 4 0 ++ fixed_rest version
  pub some : 24 ≤ fixed_size version

-- a test that doesn't hold, and others behind it
past : (b : Bool) (fault : ReadFault) (others : Option ReadFault) → b ≡ false → others ≡ None → (if b then Some fault else others) ≡ None
past true fault others told none = cc
past false fault others told none = none

first_version : ReadsFixed 1
unfolding fixed_fault
first_version = record {
  fields = λ size total seal headers bytes sized summed sealed.
      let file = made 1 size total seal headers bytes in
      let rest = headers ++ bytes in
      let section : number_at 4 12 file ≡ size = number_back size (little_bytes 4 total ++ (little_bytes 4 seal ++ rest)) sized in
      let whole : number_at 4 16 file ≡ total = number_back total (little_bytes 4 seal ++ rest) summed in
      let checksum : number_at 4 20 file ≡ seal = number_back seal rest sealed in
      let version : number_at 4 4 file ≡ 1 = refl in
      let offset : number_at 4 8 file ≡ 24 = refl in
      cc;
  fault = λ size total seal headers bytes.
      let file = made 1 size total seal headers bytes in
      past (nat_lt (length file) 24) (fault_at (length file) TooShort) None
      (le-ltb (length file) 24 (omega (arith, made_length 1 size total seal headers bytes))) refl;
  section = λ size total seal headers bytes. refl;
  checked = λ size total seal headers bytes. refl;
  some = omega arith;
}

second_version : ReadsFixed 2
unfolding fixed_fault added_fault
second_version = record {
  fields = λ size total seal headers bytes sized summed sealed.
      let file = made 2 size total seal headers bytes in
      let rest = fixed_rest 2 ++ (headers ++ bytes) in
      let section : number_at 4 12 file ≡ size = number_back size (little_bytes 4 total ++ (little_bytes 4 seal ++ rest)) sized in
      let whole : number_at 4 16 file ≡ total = number_back total (little_bytes 4 seal ++ rest) summed in
      let checksum : number_at 4 20 file ≡ seal = number_back seal rest sealed in
      let version : number_at 4 4 file ≡ 2 = refl in
      let offset : number_at 4 8 file ≡ 32 = refl in
      cc;
  fault = λ size total seal headers bytes.
      let file = made 2 size total seal headers bytes in
      let long = made_length 2 size total seal headers bytes in
      past (nat_lt (length file) 24) (fault_at (length file) TooShort) _ (le-ltb (length file) 24 (omega (arith, long)))
      (past (nat_lt (length file) 32) (fault_at (length file) TooShort) None (le-ltb (length file) 32 (omega (arith, long))) refl);
  section = λ size total seal headers bytes. refl;
  checked = λ size total seal headers bytes. refl;
  some = omega arith;
}

reads_fixed : (version : ℕ) → is_version version ≡ true → ReadsFixed version
reads_fixed version known = choice (version == 1) refl known
  where
    choice : (b : Bool) → (version == 1) ≡ b → (b || (version == 2)) ≡ true → ReadsFixed version
    choice true same told = subst ReadsFixed (sym (eqb-true version 1 same)) first_version
    choice false other told = subst ReadsFixed (sym (eqb-true version 2 told)) second_version

-- ---- the whole file

module _ (version size total seal : ℕ) (headers bytes : List ℕ) (is : IsMade version size total seal headers bytes) where
  abbrev file : List ℕ
  file = made version size total seal headers bytes

  abbrev fixed : FixedHeader
  fixed = made_fields version size total seal

  fields_are : fixed_fields file ≡ fixed
  fields_are =
      let whole = is.whole in
      let small = is.small in
      (reads_fixed version is.known).fields size total seal headers bytes (omega arith) is.small is.seal_fits

  form_made : fixed_form file ≡ Ok (fixed_fields file)
  unfolding fixed_form
  form_made = ap (λ fault. fixed_unless fault file) ((reads_fixed version is.known).fault size total seal headers bytes)

  -- the section is what was put there
  section_made : section_of file fixed ≡ headers
  section_made = (reads_fixed version is.known).section size total seal headers bytes ∙ take_at headers bytes size is.sized

  checked_made : crc (checked_bytes file fixed) ≡ seal
  checked_made =
      ap₂ (λ front s. crc (front ++ s)) ((reads_fixed version is.known).checked size total seal headers bytes) section_made ∙ sym is.sealed

  no_faults : fields_fault file fixed ≡ None
  no_faults =
      let size' = made_length version size total seal headers bytes in
      let sized = is.sized in
      let whole = is.whole in
      let totals : (nat_lt total (fixed_size version) || nat_lt (length file) total) ≡ false =
      ap₂ ◌||◌ (le-ltb total (fixed_size version) (omega arith)) (le-ltb (length file) total (omega (arith, size'))) in
      let places : (nat_lt (fixed_size version) (fixed_size version) || nat_lt total (fixed_size version + size)) ≡ false =
      ap₂ ◌||◌ (le-ltb (fixed_size version) (fixed_size version) (omega arith)) (le-ltb total (fixed_size version + size) (omega arith)) in
      past _ _ _ totals (past _ _ _ places (past _ _ None (ap not (eq-eqb (crc (checked_bytes file fixed)) seal checked_made)) refl))

  -- the fault of such a file is that of its headers
  pub fault_made : fault_of file ≡ section_fault total (fixed_size version) headers
  unfolding fault_of
  fault_made =
      ap (faults_behind file) (form_made ∙ ap (λ f. Ok f) fields_are)
      ∙ ap (λ first. fault_or first (section_fault total (fixed_size version) (section_of file fixed))) no_faults
      ∙ ap (section_fault total (fixed_size version)) section_made

  -- its headers are those of what was put there, and it is read whole
  pub placed_made : placed_headers file ≡ placed_from file 0 (fixed_size version) (pieces headers)
  placed_made =
      let size' = made_length version size total seal headers bytes in
      let sized = is.sized in
      let whole = is.whole in
      let body : file_body file ≡ file = ap (λ (f : FixedHeader). take f.total file) fields_are ∙ take_all total file (omega (arith, size')) in
      ap (λ (f : FixedHeader). placed_from (file_body file) 0 f.var_offset (pieces (section_of file f))) fields_are
      ∙ ap (λ s. placed_from (file_body file) 0 (fixed_size version) (pieces s)) section_made
      ∙ ap (λ b. placed_from b 0 (fixed_size version) (pieces headers)) body

  -- and its version is that of the list
  pub version_made : (fixed_fields file).version ≡ version
  version_made = ap (λ (f : FixedHeader). f.version) fields_are
