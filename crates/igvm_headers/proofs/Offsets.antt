-- Headers whose data stand elsewhere.
use Rattle.std.proofs.Common.{◌≡◌, ℕ, ◌^◌, ◌<◌, List, length, refl}
use Rattle.igvm_headers.specs.HeaderFacts.{data_offset, with_offset}
use Rattle.igvm_headers.specs.Spelling.{header_fields}
use Rattle.igvm_headers.specs.SpellingConditions.{NumbersFit, IsSpellable, ListsAreBytes}
use Rattle.igvm_headers.specs.Records.Area.{area_fields}
use Rattle.igvm_headers.specs.Records.Page.{page_fields}
use Rattle.igvm_headers.specs.Records.Context.{context_fields}
use Rattle.igvm_headers.specs.declared.header.Header.{Header}
use Rattle.igvm_headers.specs.declared.header.Header.TheVariants.{Area, Page, Context}

-- its fields take as many bytes wherever its data stand
pub fields_same : (at : ℕ) (h : Header) → length (header_fields (with_offset at h)) ≡ length (header_fields h)
unfolding header_fields area_fields page_fields context_fields
fields_same at (Area bytes area offset) = refl
fields_same at (Page gpa mask offset large unmeasured kind) = refl
fields_same at (Context gpa mask offset vp) = refl
fields_same at h = refl

pub numbers_at : (at : ℕ) (h : Header) → at < 2 ^ 32 → NumbersFit h → NumbersFit (with_offset at h)
numbers_at at (Area bytes area offset) small fit = (fit.0, fit.1, small)
numbers_at at (Page gpa mask offset large unmeasured kind) small fit = (fit.0, fit.1, small)
numbers_at at (Context gpa mask offset vp) small fit = (fit.0, fit.1, small, fit.3)
numbers_at at h small fit = fit

-- what is asked beyond the numbers does not see the offset
pub spellable_at : (at : ℕ) (h : Header) (tail : List ℕ) → at < 2 ^ 32 → IsSpellable h tail → IsSpellable (with_offset at h) tail
spellable_at at (Area bytes area offset) tail small s =
    record { numbers = numbers_at at (Area bytes area offset) small s.numbers; tail_fits = s.tail_fits; large_is_normal = s.large_is_normal; kind_is_carried = s.kind_is_carried }
spellable_at at (Page gpa mask offset large unmeasured kind) tail small s =
    record { numbers = numbers_at at (Page gpa mask offset large unmeasured kind) small s.numbers; tail_fits = s.tail_fits; large_is_normal = s.large_is_normal; kind_is_carried = s.kind_is_carried }
spellable_at at (Context gpa mask offset vp) tail small s =
    record { numbers = numbers_at at (Context gpa mask offset vp) small s.numbers; tail_fits = s.tail_fits; large_is_normal = s.large_is_normal; kind_is_carried = s.kind_is_carried }
spellable_at at h tail small s = s

pub lists_at : (at : ℕ) (h : Header) → ListsAreBytes h → ListsAreBytes (with_offset at h)
lists_at at (Area bytes area offset) lists = tt
lists_at at (Page gpa mask offset large unmeasured kind) lists = tt
lists_at at (Context gpa mask offset vp) lists = tt
lists_at at h lists = lists

-- of two offsets the last counts
pub last_counts : (first second : ℕ) (h : Header) → with_offset second (with_offset first h) ≡ with_offset second h
last_counts first second (Area bytes area offset) = refl
last_counts first second (Page gpa mask offset large unmeasured kind) = refl
last_counts first second (Context gpa mask offset vp) = refl
last_counts first second h = refl

pub own_offset : (h : Header) → with_offset (data_offset h) h ≡ h
own_offset (Area bytes area offset) = refl
own_offset (Page gpa mask offset large unmeasured kind) = refl
own_offset (Context gpa mask offset vp) = refl
own_offset h = refl
