-- A page: what is spelled is read again, and what is read can be spelled.
use Rattle.std.proofs.Common.{◌≡◌, ℕ, List, ◌++◌, length, true, false, Ok, refl, sym, ap, ◌∙◌, ◌<◌, Bool, Some, None, lit<, cond, Result, Err, Option, subst}
use Rattle.std.specs.Prelude.{◌==◌, IsTrue, not, ◌&&◌}
use Rattle.std.proofs.lemmas.Bool.{eqb-true}
use Rattle.byteorder.specs.Endian.{little_bytes}
use Rattle.igvm_headers.specs.Numbers.{number_at}
use Rattle.igvm_headers.specs.Records.Page.{page_form, least_set, page_fields, page_flags, page_with, page_unless}
use Rattle.igvm_headers.specs.Spelling.{header_fields}
use Rattle.igvm_headers.specs.Records.Fields.{reserved, is_set}
use Rattle.igvm_headers.specs.SpellingConditions.{NumbersFit, LargeIsNormal}
use Rattle.igvm_headers.specs.declared.header.Header.{Header}
use Rattle.igvm_headers.specs.declared.header.Header.TheVariants.{Page}
use Rattle.igvm_headers.specs.PageKinds.{page_kind_of, data_type}
use Rattle.igvm_headers.specs.declared.page_kind.PageKind.{PageKind}
use Rattle.igvm_headers.specs.declared.fault.HeaderFault.{HeaderFault}
use Rattle.igvm_headers.specs.declared.page_kind.PageKind.TheVariants as page
use Rattle.igvm_headers.proofs.RecordFields.{number_again, Reads, number_fits, passed, ok, ok_is}

pub page_kind_again : (kind : PageKind) → page_kind_of (data_type kind) ≡ Some kind
page_kind_again page.Normal = refl
page_kind_again page.Secrets = refl
page_kind_again page.Cpuid = refl
page_kind_again page.CpuidXf = refl

data_type-fits : (kind : PageKind) → data_type kind < 65536
data_type-fits page.Normal = lit< tt
data_type-fits page.Secrets = lit< tt
data_type-fits page.Cpuid = lit< tt
data_type-fits page.CpuidXf = lit< tt

-- flags that were put: none is unknown, and each is the one that was put
record FlagsAgain (large unmeasured : Bool) : Type 0 where
  fits : page_flags large unmeasured < 4294967296
  known : least_set 30 2 (page_flags large unmeasured) ≡ None
  large_again : is_set 0 (page_flags large unmeasured) ≡ large
  unmeasured_again : is_set 1 (page_flags large unmeasured) ≡ unmeasured

flags_again : (large unmeasured : Bool) → FlagsAgain large unmeasured
unfolding least_set
flags_again false false = record { fits = lit< tt; known = refl; large_again = refl; unmeasured_again = refl }
flags_again false true = record { fits = lit< tt; known = refl; large_again = refl; unmeasured_again = refl }
flags_again true false = record { fits = lit< tt; known = refl; large_again = refl; unmeasured_again = refl }
flags_again true true = record { fits = lit< tt; known = refl; large_again = refl; unmeasured_again = refl }

-- a page of 2 MB is not refused for its data type
large_passes : (large : Bool) (kind : PageKind) → (IsTrue large → kind ≡ page.Normal) → (large && not (data_type kind == 0)) ≡ false
large_passes false kind normal = refl
large_passes true kind normal = rw (normal refl) refl

pub page_again : (gpa mask offset : ℕ) (large unmeasured : Bool) (kind : PageKind) → NumbersFit (Page gpa mask offset large unmeasured kind) → LargeIsNormal (Page gpa mask offset large unmeasured kind)
    → page_form (header_fields (Page gpa mask offset large unmeasured kind)) ≡ Ok (Page gpa mask offset large unmeasured kind)
unfolding header_fields page_fields page_form
page_again gpa mask offset large unmeasured kind fit normal =
    let flags = flags_again large unmeasured in
    let type_rest = little_bytes 2 (data_type kind) ++ reserved 2 in
    let flags_rest = little_bytes 4 (page_flags large unmeasured) ++ type_rest in
    let offset_rest = little_bytes 4 offset ++ flags_rest in
    let g = number_again 8 gpa (little_bytes 4 mask ++ offset_rest) fit.0 in
    let m = number_again 4 mask offset_rest fit.1 in
    let o = number_again 4 offset flags_rest fit.2 in
    let f = number_again 4 (page_flags large unmeasured) type_rest flags.fits in
    let t = number_again 2 (data_type kind) (reserved 2) (data_type-fits kind) in
    let known = ap (least_set 30 2) f ∙ flags.known in
    let l = ap (is_set 0) f ∙ flags.large_again in
    let u = ap (is_set 1) f ∙ flags.unmeasured_again in
    let k = ap page_kind_of t ∙ page_kind_again kind in
    let passes = ap (λ (n : ℕ). large && not (n == 0)) t ∙ large_passes large kind normal in
    rw (known, l, k, passes, u, g, m, o) refl

-- a test that refuses, and didn't
not_refused : (b : Bool) (r : Result Header HeaderFault) (fault : HeaderFault) (h : Header) → cond b (Err fault) r ≡ Ok h → (b ≡ false) × (r ≡ Ok h)
not_refused true r fault h e = absurd cc
not_refused false r fault h e = (refl, e)

not_false : (b : Bool) → not b ≡ false → b ≡ true
not_false true h = refl
not_false false h = absurd cc

some : PageKind → Option PageKind
some kind = Some kind

some_is : (x y : PageKind) → some x ≡ some y → x ≡ y
unfolding some
some_is x y e = cc

-- a large page that is not refused is normal
normal_where_large : (large : Bool) (n : ℕ) (kind : PageKind) → page_kind_of n ≡ Some kind → (large && not (n == 0)) ≡ false → IsTrue large → kind ≡ page.Normal
unfolding some
normal_where_large false n kind is passes set = absurd cc
normal_where_large true n kind is passes set =
    some_is kind page.Normal (sym is ∙ ap page_kind_of (eqb-true n 0 (not_false (n == 0) passes)))

pub page_with_read : (content : List ℕ) (large : Bool) (kind : Option PageKind) (h : Header) → page_kind_of (number_at 2 20 content) ≡ kind → page_with content large kind ≡ Ok h → Reads 0x302 content h
unfolding ok
page_with_read content large None h is e = absurd cc
page_with_read content large (Some kind) h is e =
    let p = not_refused (large && not (number_at 2 20 content == 0)) _ _ h e in
    subst (Reads 0x302 content) (ok_is _ h p.1) (record {
      type = refl;
      numbers = λ small. (number_fits 8 0 content small.bytes, number_fits 4 8 content small.bytes, number_fits 4 12 content small.bytes);
      tail_fits = refl;
      large_is_normal = normal_where_large large (number_at 2 20 content) kind is p.0;
      kind_is_carried = tt;
    })

pub page_unless_read : (content : List ℕ) (unknown : Option ℕ) (h : Header) → page_unless content unknown ≡ Ok h → Reads 0x302 content h
page_unless_read content (Some bit) h e = absurd cc
page_unless_read content None h e = page_with_read content (is_set 0 (number_at 4 16 content)) (page_kind_of (number_at 2 20 content)) h refl e

pub page_read : (content : List ℕ) (h : Header) → page_form content ≡ Ok h → Reads 0x302 content h
unfolding page_form
page_read content h e =
    page_unless_read content (least_set 30 2 (number_at 4 16 content)) h (passed (length content == 24) _ _ h e).1
