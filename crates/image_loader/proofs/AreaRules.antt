-- What the reader's rules and the rows of misfits say of the area of a header that fits.
use Rattle.std.proofs.Common.{◌≡◌, ℕ, ◌∷◌, ◌+◌, ◌%◌, ◌<◌, ◌≤◌, List, length, Bool, true, false, not, Option, Some, None, IsSome, is_some, refl, arith, unwrap_or, nat_lt, ◌||◌, ◌==◌}
use Rattle.std.specs.Bool.{then_some}
use Rattle.std.specs.Option.{option_or}
use Rattle.std.specs.List.{list_any}
use Rattle.std.proofs.lemmas.Bool.{leb-false, ltb-false, or_parts}
use Rattle.igvm_headers.specs.declared.header.Header.{Header}
use Rattle.igvm_headers.specs.declared.header.Header.TheVariants.{Area, Insert, Param}
use Rattle.igvm_headers.specs.declared.param_kind.ParamKind.{ParamKind}
use Rattle.host_set.specs.Hosts.{value_of}
use Rattle.igvm_image.specs.Areas.{area_size}
use Rattle.igvm_image.specs.HeaderRules.{Seen}
use Rattle.igvm_image.specs.RulesLaws.{KeepsRules}
use Rattle.directive_rules.specs.DirectiveFacts.{inserts}
use Rattle.directive_rules.specs.FirstMisfit.{headers_in, misfit_after, misfit_or}
use Rattle.directive_rules.specs.MisfitRows.{Setting, row, why_of}
use Rattle.directive_rules.specs.declared.misfit.Misfit.{Misfit}
use Rattle.directive_rules.specs.declared.misfit.Why.{Why}
use Rattle.igvm_image.specs.Headers.{PlacedHeader}

-- ---- the reader's rules

-- An area that the reader accepts: its index is new, there are fewer than 256 before it, and it has whole pages.
pub record IsNewArea (seen : Seen) (bytes area : ℕ) : Type 0 where
  pub few : length seen.areas < 256
  pub new : area_size seen.areas area ≡ None
  pub whole : bytes % 4096 ≡ 0

none_there : {X : Type 0} (o : Option X) → is_some o ≡ false → o ≡ None
none_there None h = refl
none_there (Some x) h = cc

one_there : {X : Type 0} (o : Option X) → not (is_some o) ≡ false → IsSome o
one_there None h = cc
one_there (Some x) h = refl

is_zero : (n : ℕ) → not (n == 0) ≡ false → n ≡ 0
is_zero n h = grind arith

whole_pages : (bytes : ℕ) → ((bytes == 0) || not (bytes % 4096 == 0) || nat_lt 67108864 bytes) ≡ false
    → bytes % 4096 ≡ 0
whole_pages bytes h =
    let small = or_parts ((bytes == 0) || not (bytes % 4096 == 0)) (nat_lt 67108864 bytes) h in
    let whole = or_parts (bytes == 0) (not (bytes % 4096 == 0)) small.0 in
    is_zero (bytes % 4096) whole.1

-- such is an area that keeps the rules
pub new_area : (total : ℕ) (seen : Seen) (bytes area offset : ℕ) → KeepsRules total seen (Area bytes area offset)
    → IsNewArea seen bytes area
new_area total seen bytes area offset kept = record {
  few = leb-false 256 (length seen.areas) kept.limit;
  new = none_there (area_size seen.areas area) kept.repeated;
  whole = whole_pages bytes kept.size;
}

-- an area that a parameter names is declared before
pub param_declared : (total : ℕ) (seen : Seen) (kind : ParamKind) (area byte_offset : ℕ)
    → KeepsRules total seen (Param kind area byte_offset) → IsSome (area_size seen.areas area)
param_declared total seen kind area byte_offset kept = one_there (area_size seen.areas area) kept.unknown

-- and one that is inserted
pub insert_declared : (total : ℕ) (seen : Seen) (gpa mask area : ℕ) → KeepsRules total seen (Insert gpa mask area)
    → IsSome (area_size seen.areas area)
insert_declared total seen gpa mask area kept = one_there (area_size seen.areas area) kept.unknown

-- ---- the rows of misfits

-- a cause that doesn't hold, before others
not_first : {X : Type 0} (b : Bool) (x : X) (others : Option X) → option_or (then_some b x) others ≡ None
    → (b ≡ false) × (others ≡ None)
not_first true x others h = cc
not_first false x others h = (refl, h)

not_last : {X : Type 0} (b : Bool) (x : X) → then_some b x ≡ None → b ≡ false
not_last true x h = cc
not_last false x h = refl

-- A parameter that fits behind these headers: none of them inserts its area, and its value ends within that.
pub record IsFilled (s : Setting) (before : List Header) (kind : ParamKind) (area byte_offset : ℕ) : Type 0 where
  pub kept : list_any (inserts area) before ≡ false
  pub within : byte_offset + length (value_of s.host kind) ≤ unwrap_or (area_size s.areas area) 0

-- such is a parameter that has no misfit
pub param_fits : (s : Setting) (before : List Header) (kind : ParamKind) (area byte_offset : ℕ)
    → row s before (Param kind area byte_offset) ≡ None → IsFilled s before kind area byte_offset
unfolding why_of
param_fits s before kind area byte_offset none =
    let gone = not_first (list_any (inserts area) before) _ _ none in
    let size = unwrap_or (area_size s.areas area) 0 in
    let end = byte_offset + length (value_of s.host kind) in
    record { kept = gone.0; within = ltb-false size end (not_last (nat_lt size end) _ gone.1) }

-- an area that is inserted and fits is inserted by none of the headers before
pub insert_fits : (s : Setting) (before : List Header) (gpa mask area : ℕ) → row s before (Insert gpa mask area) ≡ None
    → list_any (inserts area) before ≡ false
unfolding why_of
insert_fits s before gpa mask area none = (not_first (list_any (inserts area) before) _ _ none).0

first_none : (index : ℕ) (why : Option Why) (later : Option Misfit) → misfit_or index why later ≡ None → why ≡ None
first_none index None later h = refl
first_none index (Some why) later h = cc

-- the first of headers that have no misfit has none
pub first_fits : (s : Setting) (before : List PlacedHeader) (p : PlacedHeader) (left : List PlacedHeader)
    → misfit_after s before (p ∷ left) ≡ None → row s (headers_in before) p.header ≡ None
unfolding misfit_after
first_fits s before p left none = first_none p.index (row s (headers_in before) p.header) _ none
