-- A file and its first bytes: numbers, slices and the rules on the whole file.
use Rattle.std.proofs.Common.{◌≡◌, ℕ, zero, suc, ◌+◌, ◌-◌, ◌*◌, ◌<◌, ◌≤◌, List, length, take, drop, refl, sym, ◌∙◌, ap, ap₂, subst, arith, Option, Some, None, Ok, Err, true, false, Bool, inl, inr, ◌⊎◌}
use Rattle.std.specs.Prelude.{◌||◌, nat_lt, not, ◌==◌, if◌then◌else◌, T}
use Rattle.std.proofs.Math.Facts.{eqb_yes}
use Rattle.std.proofs.lemmas.List.{get_or-drop, get_or-take, drop-take, take-take, length-take-le}
use Rattle.std.proofs.lemmas.Bool.{ltb-true, ltb-false, lt-ltb, le-ltb}
use Rattle.byteorder.specs.Endian.{little_from}
use Rattle.igvm_headers.specs.Numbers.{number_at, slice}
use Rattle.igvm_headers.specs.Checksum.{crc}
use Rattle.igvm_headers.specs.Fixed.{fixed_form, fixed_fields, fixed_size, fixed_fault, fixed_unless, added_fault, added_field, is_version, fault_at}
use Rattle.igvm_headers.specs.declared.fixed.FixedHeader.{FixedHeader}
use Rattle.igvm_headers.specs.declared.fault.ReadFault.{ReadFault}
use Rattle.igvm_headers.specs.declared.fault.ReadWhat.TheVariants.{TooShort, Magic, Version, Aarch64, Architecture, PageSize, TotalSize, Section, Checksum}
use Rattle.igvm_image.specs.FileFault.{fault_of, fields_fault, faults_behind, fault_or, section_fault, section_of, checked_bytes}
use Rattle.igvm_image.specs.Headers.{IsAccepted}
use Rattle.igvm_image.specs.HeadersOfFile.{cut_fault}
use Rattle.igvm_image.specs.AcceptedLaws.{accepted_is}

-- a number among the first m bytes
little_from-take : (i n at m : ℕ) (s : List ℕ) → at + i + n ≤ m → little_from i n (drop at (take m s)) ≡ little_from i n (drop at s)
little_from-take i zero at m s h = refl
little_from-take i (suc n) at m s h =
    let here = get_or-drop at (take m s) i 0 ∙ get_or-take m s (at + i) 0 (omega arith) ∙ sym (get_or-drop at s i 0) in
    let more = little_from-take (suc i) n at m s (omega arith) in
    ap₂ (λ a b. a + 256 * b) here more

pub number_at-take : (n at m : ℕ) (s : List ℕ) → at + n ≤ m → number_at n at (take m s) ≡ number_at n at s
number_at-take n at m s h = little_from-take 0 n at m s (omega arith)

-- a slice of the first m bytes
pub slice-take : (at n m : ℕ) (s : List ℕ) → at + n ≤ m → slice (take m s) at n ≡ slice s at n
slice-take at n m s h =
    let split : m ≡ at + (m - at) = omega arith in
    ap (λ k. take n (drop at (take k s))) split
    ∙ ap (take n) (drop-take at (m - at) s)
    ∙ take-take n (m - at) (drop at s) (omega arith)

-- what version 2 adds stands in the first bytes of its fixed header
added_field-take : (default at m : ℕ) (s : List ℕ) → 24 ≤ m → (number_at 4 4 s ≡ 2 → at + 4 ≤ m)
    → added_field default at (take m s) ≡ added_field default at s
added_field-take default at m s long whole =
    ap (λ n. if n == 2 then number_at 4 at (take m s) else default) (number_at-take 4 4 m s (omega arith))
    ∙ choice (number_at 4 4 s == 2) refl
  where
    choice : (b : Bool) → (number_at 4 4 s == 2) ≡ b
        → (if b then number_at 4 at (take m s) else default) ≡ (if b then number_at 4 at s else default)
    choice true same = number_at-take 4 at m s (whole (eqb_yes (subst T (sym same) tt)))
    choice false same = refl

-- what version 2 adds has 8 bytes more
fixed_size-added : (version : ℕ) → version ≡ 2 → fixed_size version ≡ 32
fixed_size-added version same = ap fixed_size same

pub fixed_size-least : (version : ℕ) → 24 ≤ fixed_size version
fixed_size-least version = choice (version == 2)
  where
    choice : (b : Bool) → 24 ≤ (if b then 32 else 24)
    choice true = omega arith
    choice false = omega arith

-- the fields stand in the fixed header
pub fixed_fields-take : (m : ℕ) (s : List ℕ) → fixed_size (number_at 4 4 s) ≤ m → fixed_fields (take m s) ≡ fixed_fields s
fixed_fields-take m s h =
    let least = fixed_size-least (number_at 4 4 s) in
    let whole : number_at 4 4 s ≡ 2 → 32 ≤ m = λ same. omega (arith, fixed_size-added (number_at 4 4 s) same) in
    let version = number_at-take 4 4 m s (omega arith) in
    let offset = number_at-take 4 8 m s (omega arith) in
    let size = number_at-take 4 12 m s (omega arith) in
    let total = number_at-take 4 16 m s (omega arith) in
    let checksum = number_at-take 4 20 m s (omega arith) in
    let architecture = added_field-take 0 24 m s (omega arith) (λ same. omega (arith, whole same)) in
    let page_size = added_field-take 4096 28 m s (omega arith) whole in
    cc

-- three tests in a row, of which none holds
chosen_last : {X : Type 0} (a b c : Bool) (x y z w : X) → a ≡ false → b ≡ false → c ≡ false
    → (if a then x else if b then y else if c then z else w) ≡ w
chosen_last a b c x y z w no_a no_b no_c =
    ap (λ t. if t then x else if b then y else if c then z else w) no_a
    ∙ ap (λ t. if t then y else if c then z else w) no_b
    ∙ ap (λ t. if t then z else w) no_c

not_not : (b : Bool) → not b ≡ false → b ≡ true
not_not true h = refl
not_not false h = cc

not_chosen : (b : Bool) (fault : ReadFault) (rest : Option ReadFault) → (if b then Some fault else rest) ≡ None
    → (b ≡ false) × (rest ≡ None)
not_chosen true fault rest h = cc
not_chosen false fault rest h = (refl, h)

neither : (a b : Bool) → a || b ≡ false → (a ≡ false) × (b ≡ false)
neither true b h = cc
neither false b h = (refl, h)

or_true : (b : Bool) → b || true ≡ true
or_true true = refl
or_true false = refl

is_equal : (a b : ℕ) → not (a == b) ≡ false → a ≡ b
is_equal a b h = eqb_yes (subst T (sym (not_not (a == b) h)) tt)

-- What a file of version 2 is whose fixed header is read.
pub record HasAdded (s : List ℕ) : Type 0 where
  pub version : number_at 4 4 s ≡ 2
  pub long : 32 ≤ length s
  pub architecture : number_at 4 24 s ≡ 0
  pub page_size : number_at 4 28 s ≡ 4096

-- What a file is whose fixed header is read.
pub record HasFixed (s : List ℕ) : Type 0 where
  pub long : 24 ≤ length s
  pub magic : number_at 4 0 s ≡ 0x4D564749
  pub version : (number_at 4 4 s ≡ 1) ⊎ HasAdded s

pub fixed_fits : (s : List ℕ) → HasFixed s → fixed_size (number_at 4 4 s) ≤ length s
fixed_fits s h = cases h.version
  where
    cases : (number_at 4 4 s ≡ 1) ⊎ HasAdded s → fixed_size (number_at 4 4 s) ≤ length s
    cases (inl first) = subst (λ n. fixed_size n ≤ length s) (sym first) h.long
    cases (inr added) = subst (λ n. fixed_size n ≤ length s) (sym added.version) added.long

fixed_fault-none : (s : List ℕ) → HasFixed s → fixed_fault s ≡ None
unfolding fixed_fault added_fault
fixed_fault-none s h = cases h.version
  where
    long : nat_lt (length s) 24 ≡ false
    long = le-ltb (length s) 24 h.long

    cases : (number_at 4 4 s ≡ 1) ⊎ HasAdded s → fixed_fault s ≡ None
    cases (inl first) = rw (long, h.magic, first) refl
    cases (inr added) =
        rw (long, h.magic, added.version, le-ltb (length s) 32 added.long, added.architecture, added.page_size) refl

pub fixed_form-read : (s : List ℕ) → HasFixed s → fixed_form s ≡ Ok (fixed_fields s)
unfolding fixed_form
fixed_form-read s h = ap (λ fault. fixed_unless fault s) (fixed_fault-none s h)

-- its fixed header keeps the rules that version 2 adds
has_added : (s : List ℕ) → number_at 4 4 s ≡ 2 → added_fault s ≡ None → HasAdded s
unfolding added_fault
has_added s version h =
    let long = not_chosen (nat_lt (length s) 32) (fault_at (length s) TooShort) _ h in
    let arm = not_chosen (number_at 4 24 s == 1) (fault_at 24 Aarch64) _ long.1 in
    let other = not_chosen (not (number_at 4 24 s == 0)) (fault_at 24 Architecture) _ arm.1 in
    let size = not_chosen (not (number_at 4 28 s == 4096)) (fault_at 28 PageSize) None other.1 in
    record {
      version = version;
      long = ltb-false (length s) 32 long.0;
      architecture = is_equal (number_at 4 24 s) 0 other.0;
      page_size = is_equal (number_at 4 28 s) 4096 size.0;
    }

-- one of the two versions
has_version : (s : List ℕ) → not (is_version (number_at 4 4 s)) ≡ false
    → (if number_at 4 4 s == 2 then added_fault s else None) ≡ None → (number_at 4 4 s ≡ 1) ⊎ HasAdded s
has_version s known kept = choice (number_at 4 4 s == 2) refl (not_not (is_version (number_at 4 4 s)) known) kept
  where
    first : (b : Bool) → b || false ≡ true → b ≡ true
    first true h = refl
    first false h = cc

    choice : (b : Bool) → (number_at 4 4 s == 2) ≡ b → is_version (number_at 4 4 s) ≡ true
        → (if b then added_fault s else None) ≡ None → (number_at 4 4 s ≡ 1) ⊎ HasAdded s
    choice true same known kept = inr (has_added s (eqb_yes (subst T (sym same) tt)) kept)
    choice false other known kept =
        let one = first (number_at 4 4 s == 1) (ap (λ b. (number_at 4 4 s == 1) || b) (sym other) ∙ known) in
        inl (eqb_yes (subst T (sym one) tt))

unless_read : (fault : Option ReadFault) (s : List ℕ) (fixed : FixedHeader) → fixed_unless fault s ≡ Ok fixed → fault ≡ None
unless_read None s fixed h = refl
unless_read (Some fault) s fixed h = cc

pub has_fixed : (s : List ℕ) (fixed : FixedHeader) → fixed_form s ≡ Ok fixed → HasFixed s
unfolding fixed_form fixed_fault
has_fixed s fixed h =
    let none = unless_read (fixed_fault s) s fixed h in
    let long = not_chosen (nat_lt (length s) 24) (fault_at (length s) TooShort) _ none in
    let magic = not_chosen (not (number_at 4 0 s == 0x4D564749)) (fault_at 0 Magic) _ long.1 in
    let version = not_chosen (not (is_version (number_at 4 4 s))) (fault_at 4 Version) _ magic.1 in
    record {
      long = ltb-false (length s) 24 long.0;
      magic = is_equal (number_at 4 0 s) 0x4D564749 magic.0;
      version = has_version s version.0 version.1;
    }

-- the fixed header is cut, in either version
fixed_fault-short : (s : List ℕ) → length s < 24 → fixed_fault s ≡ Some (fault_at (length s) TooShort)
unfolding fixed_fault
fixed_fault-short s h = rw (lt-ltb (length s) 24 h) refl

fixed_fault-added_short : (s : List ℕ) → 24 ≤ length s → number_at 4 0 s ≡ 0x4D564749 → number_at 4 4 s ≡ 2
    → length s < 32 → fixed_fault s ≡ Some (fault_at (length s) TooShort)
unfolding fixed_fault added_fault
fixed_fault-added_short s long magic version h = rw (le-ltb (length s) 24 long, magic, version, lt-ltb (length s) 32 h) refl

fixed_form-fault : (s : List ℕ) (fault : ReadFault) → fixed_fault s ≡ Some fault → fixed_form s ≡ Err fault
unfolding fixed_form
fixed_form-fault s fault h = ap (λ found. fixed_unless found s) h

-- What a file is whose fields break no rule.
pub record HasFields (s : List ℕ) (fixed : FixedHeader) : Type 0 where
  pub total : fixed_size fixed.version ≤ fixed.total
  pub there : fixed.total ≤ length s
  pub offset : fixed_size fixed.version ≤ fixed.var_offset
  pub within : fixed.var_offset + fixed.var_size ≤ fixed.total
  pub checked : (crc (checked_bytes s fixed) == fixed.checksum) ≡ true

pub has_fields : (s : List ℕ) (fixed : FixedHeader) → fields_fault s fixed ≡ None → HasFields s fixed
has_fields s fixed h =
    let total = not_chosen (nat_lt fixed.total (fixed_size fixed.version) || nat_lt (length s) fixed.total) (fault_at 16 TotalSize) _ h in
    let section = not_chosen (nat_lt fixed.var_offset (fixed_size fixed.version) || nat_lt fixed.total (fixed.var_offset + fixed.var_size)) (fault_at 8 Section) _ total.1 in
    let checksum = not_chosen (not (crc (checked_bytes s fixed) == fixed.checksum)) (fault_at 20 Checksum) None section.1 in
    let sizes = neither (nat_lt fixed.total (fixed_size fixed.version)) (nat_lt (length s) fixed.total) total.0 in
    let places = neither (nat_lt fixed.var_offset (fixed_size fixed.version)) (nat_lt fixed.total (fixed.var_offset + fixed.var_size)) section.0 in
    record {
      total = ltb-false fixed.total (fixed_size fixed.version) sizes.0;
      there = ltb-false (length s) fixed.total sizes.1;
      offset = ltb-false fixed.var_offset (fixed_size fixed.version) places.0;
      within = ltb-false fixed.total (fixed.var_offset + fixed.var_size) places.1;
      checked = not_not (crc (checked_bytes s fixed) == fixed.checksum) checksum.0;
    }

pub fields_fault-none : (s : List ℕ) (fixed : FixedHeader) → HasFields s fixed → fields_fault s fixed ≡ None
fields_fault-none s fixed h =
    let total : (nat_lt fixed.total (fixed_size fixed.version) || nat_lt (length s) fixed.total) ≡ false =
    ap₂ ◌||◌ (le-ltb fixed.total (fixed_size fixed.version) h.total) (le-ltb (length s) fixed.total h.there) in
    let section : (nat_lt fixed.var_offset (fixed_size fixed.version) || nat_lt fixed.total (fixed.var_offset + fixed.var_size)) ≡ false =
    ap₂ ◌||◌ (le-ltb fixed.var_offset (fixed_size fixed.version) h.offset) (le-ltb fixed.total (fixed.var_offset + fixed.var_size) h.within) in
    chosen_last (nat_lt fixed.total (fixed_size fixed.version) || nat_lt (length s) fixed.total)
    (nat_lt fixed.var_offset (fixed_size fixed.version) || nat_lt fixed.total (fixed.var_offset + fixed.var_size))
    (not (crc (checked_bytes s fixed) == fixed.checksum)) _ _ _ _ total section (ap not h.checked)

pub fields_fault-total : (s : List ℕ) (fixed : FixedHeader) → length s < fixed.total → fields_fault s fixed ≡ Some (fault_at 16 TotalSize)
fields_fault-total s fixed h =
    let short : (nat_lt fixed.total (fixed_size fixed.version) || nat_lt (length s) fixed.total) ≡ true =
    ap (λ b. nat_lt fixed.total (fixed_size fixed.version) || b) (lt-ltb (length s) fixed.total h) ∙ or_true (nat_lt fixed.total (fixed_size fixed.version)) in
    ap (λ b. if b then Some (fault_at 16 TotalSize) else
    if nat_lt fixed.var_offset (fixed_size fixed.version) || nat_lt fixed.total (fixed.var_offset + fixed.var_size) then
    Some (fault_at 8 Section) else
    if not (crc (checked_bytes s fixed) == fixed.checksum) then Some (fault_at 20 Checksum) else
    None) short

-- a file that is cut in its fixed header is too short
cut_short : (s : List ℕ) (n : ℕ) → HasFixed s → n < fixed_size (number_at 4 4 s) → length (take n s) ≡ n
    → fixed_form (take n s) ≡ Err (fault_at n TooShort)
cut_short s n was less size =
    cases (nat_lt n 24) refl
  where
    at_end : fixed_fault (take n s) ≡ Some (fault_at (length (take n s)) TooShort) → fixed_form (take n s) ≡ Err (fault_at n TooShort)
    at_end h = fixed_form-fault (take n s) (fault_at (length (take n s)) TooShort) h ∙ ap (λ k. Err (fault_at k TooShort)) size

    second : 24 ≤ n → (number_at 4 4 s ≡ 1) ⊎ HasAdded s → fixed_form (take n s) ≡ Err (fault_at n TooShort)
    second long (inl first) =
        let few : n < 24 = subst (λ v. n < fixed_size v) first less in
        absurd (omega arith)
    second long (inr added) =
        let few : n < 32 = subst (λ v. n < fixed_size v) added.version less in
        at_end (fixed_fault-added_short (take n s) (omega (arith, size)) (number_at-take 4 0 n s (omega arith) ∙ was.magic)
        (number_at-take 4 4 n s (omega arith) ∙ added.version) (omega (arith, size)))

    cases : (b : Bool) → nat_lt n 24 ≡ b → fixed_form (take n s) ≡ Err (fault_at n TooShort)
    cases true short = at_end (fixed_fault-short (take n s) (omega (arith, size, ltb-true n 24 short)))
    cases false long = second (ltb-false n 24 long) was.version

-- the rules on the fixed header hold of the first bytes, too
cut_fixed : (s : List ℕ) (n : ℕ) → HasFixed s → fixed_size (number_at 4 4 s) ≤ n → length (take n s) ≡ n → HasFixed (take n s)
cut_fixed s n was enough size =
    let least = fixed_size-least (number_at 4 4 s) in
    record {
      long = omega (arith, size);
      magic = number_at-take 4 0 n s (omega arith) ∙ was.magic;
      version = cases was.version (omega arith);
    }
  where
    cases : (number_at 4 4 s ≡ 1) ⊎ HasAdded s → 24 ≤ n → (number_at 4 4 (take n s) ≡ 1) ⊎ HasAdded (take n s)
    cases (inl first) long = inl (number_at-take 4 4 n s (omega arith) ∙ first)
    cases (inr added) long =
        let whole : 32 ≤ n = subst (λ v. fixed_size v ≤ n) added.version enough in
        inr (record {
          version = number_at-take 4 4 n s (omega arith) ∙ added.version;
          long = omega (arith, size);
          architecture = number_at-take 4 24 n s (omega arith) ∙ added.architecture;
          page_size = number_at-take 4 28 n s (omega arith) ∙ added.page_size;
        })

-- a cut file is refused
pub truncated : (s : List ℕ) (n : ℕ) → IsAccepted s → n < (fixed_fields s).total
    → fault_of (take n s) ≡ Some (cut_fault (fixed_size (fixed_fields s).version) n)
unfolding fault_of
truncated s n h less =
    let file = accepted_is s h in
    let fields = has_fields s (fixed_fields s) file.kept in
    let there = fields.there in
    let size : length (take n s) ≡ n = length-take-le n s (omega arith) in
    cases (nat_lt n (fixed_size (number_at 4 4 s))) refl size (has_fixed s (fixed_fields s) file.read)
  where
    cases : (b : Bool) → nat_lt n (fixed_size (number_at 4 4 s)) ≡ b → length (take n s) ≡ n → HasFixed s
        → fault_of (take n s) ≡ Some (cut_fault (fixed_size (number_at 4 4 s)) n)
    cases true short size was =
        ap (faults_behind (take n s)) (cut_short s n was (ltb-true n (fixed_size (number_at 4 4 s)) short) size)
        ∙ sym (ap (λ b. Some (if b then fault_at n TooShort else fault_at 16 TotalSize)) short)
    cases false long size was =
        let enough = ltb-false n (fixed_size (number_at 4 4 s)) long in
        let now = cut_fixed s n was enough size in
        let same = fixed_fields-take n s enough in
        let total : length (take n s) < (fixed_fields (take n s)).total =
        subst (λ (f : FixedHeader). length (take n s) < f.total) (sym same) (omega (arith, size)) in
        ap (faults_behind (take n s)) (fixed_form-read (take n s) now)
        ∙ ap (λ first. fault_or first (section_fault (fixed_fields (take n s)).total (fixed_fields (take n s)).var_offset (section_of (take n s) (fixed_fields (take n s))))) (fields_fault-total (take n s) (fixed_fields (take n s)) total)
        ∙ sym (ap (λ b. Some (if b then fault_at n TooShort else fault_at 16 TotalSize)) long)
