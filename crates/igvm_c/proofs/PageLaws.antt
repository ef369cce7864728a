-- The bytes of the pages that a header places are those that the call names.
use Rattle.std.proofs.Common.{◌≡◌, ℕ, zero, suc, ◌+◌, ◌-◌, ◌*◌, ◌<◌, List, [], ◌∷◌, take, drop, refl, ◌∙◌, sym, ap, ap₂, arith, false, Ok}
use Rattle.std.specs.Prelude.{◌==◌, min, replicate, cond, if◌then◌else◌}
use Rattle.std.proofs.lemmas.List.{drop-drop}
use Rattle.std.proofs.Math.Seq.{take-nil, drop-nil}
use Rattle.igvm_headers.specs.HeaderFacts.{data_pages}
use Rattle.igvm_headers.specs.Numbers.{slice}
use Rattle.igvm_headers.specs.Pages.{body_page, file_body, padded_page, small_pages}
use Rattle.igvm_headers.specs.Fixed.{fixed_fields}
use Rattle.igvm_headers.specs.declared.header.Header.{Header}
use Rattle.igvm_headers.specs.declared.header.Header.TheVariants.{Platform, Policy, Area, Page, Insert, Param, Context, Required, ErrorRange, IdBlock, Carried}
use Rattle.igvm_image.specs.Data.{data_of, data_page}
use Rattle.igvm_c.specs.declared.pages.PagesFields.{PagesFields}
use Rattle.igvm_c.specs.Pages.{page_in, pages_of, stored_run, stored_size}

take_of_take : (n m : ℕ) (xs : List ℕ) → take n (take m xs) ≡ take (min n m) xs
take_of_take zero m xs = let none : 0 ≡ min 0 m = omega arith in ap (λ i. take i xs) none
take_of_take (suc n) zero xs = let none : 0 ≡ min (suc n) 0 = omega arith in ap (λ i. take i xs) none
take_of_take (suc n) (suc m) [] = sym (take-nil (min (suc n) (suc m)))
take_of_take (suc n) (suc m) (x ∷ xs) =
    let fewer : suc (min n m) ≡ min (suc n) (suc m) = omega arith in
    ap (λ ys. x ∷ ys) (take_of_take n m xs) ∙ ap (λ i. take i (x ∷ xs)) fewer

drop_of_take : (a t : ℕ) (xs : List ℕ) → drop a (take t xs) ≡ take (t - a) (drop a xs)
drop_of_take zero t xs = let all : t ≡ t - 0 = omega arith in ap (λ i. take i xs) all
drop_of_take (suc a) zero xs = let none : 0 ≡ 0 - suc a = omega arith in ap (λ i. take i (drop (suc a) xs)) none
drop_of_take (suc a) (suc t) [] = sym (take-nil (suc t - suc a))
drop_of_take (suc a) (suc t) (x ∷ xs) =
    let fewer : t - a ≡ suc t - suc a = omega arith in
    drop_of_take a t xs ∙ ap (λ i. take i (drop a xs)) fewer

slice_of_front : (t a n : ℕ) (xs : List ℕ) → slice (take t xs) a n ≡ take (min n (t - a)) (drop a xs)
slice_of_front t a n xs = ap (take n) (drop_of_take a t xs) ∙ take_of_take n (t - a) (drop a xs)

-- a page of the body, and of the part of the file that has these pages
same_slice : (file : List ℕ) (t at count k : ℕ) → k < count
    → slice (take t file) (at + 4096 * k) 4096 ≡ slice (slice file at (min (4096 * count) (t - at))) (4096 * k) 4096
same_slice file t at count k within =
    slice_of_front t (at + 4096 * k) 4096 file
    ∙ ap₂ (λ n xs. take n xs) (omega (arith, within)) (sym (drop-drop (4096 * k) at file))
    ∙ sym (slice_of_front (min (4096 * count) (t - at)) (4096 * k) 4096 (drop at file))

padded_none : replicate 4096 0 ≡ padded_page []
unfolding padded_page
padded_none = let all : 4096 ≡ 4096 - 0 = omega arith in ap (λ n. replicate n 0) all

none_stored : (file : List ℕ) (size : ℕ) → 0 ≡ stored_size file 0 size
unfolding stored_size
none_stored file size = refl

zeros : (file : List ℕ) (gpa count k : ℕ) → padded_page [] ≡ page_in file (stored_run file gpa count 0) k
zeros file gpa count k =
    ap padded_page (sym (take-nil 4096) ∙ ap (take 4096) (sym (drop-nil (4096 * k)))
    ∙ ap (λ n. slice (slice file 0 n) (4096 * k) 4096) (none_stored file (4096 * count)))

first_page : (file : List ℕ) (k : ℕ) → body_page (file_body file) 0 k ≡ replicate 4096 0
unfolding body_page
first_page file k = refl

later_page : (file : List ℕ) (at k : ℕ) → (at == 0) ≡ false
    → body_page (file_body file) at k ≡ padded_page (slice (file_body file) (at + 4096 * k) 4096)
unfolding body_page
later_page file at k there =
    ap (λ b. if b then replicate 4096 0 else padded_page (slice (file_body file) (at + 4096 * k) 4096)) there

some_stored : (file : List ℕ) (at size : ℕ) → (at == 0) ≡ false → stored_size file at size ≡ min size ((fixed_fields file).total - at)
unfolding stored_size
some_stored file at size there = ap (λ b. cond b 0 (min size ((fixed_fields file).total - at))) there

stored_page : (file : List ℕ) (gpa count at k : ℕ) → k < count
    → body_page (file_body file) at k ≡ page_in file (stored_run file gpa count at) k
stored_page file gpa count zero k within = first_page file k ∙ padded_none ∙ zeros file gpa count k
stored_page file gpa count (suc a) k within =
    let at = suc a in
    let there : (at == 0) ≡ false = grind arith in
    later_page file at k there
    ∙ ap padded_page (same_slice file (fixed_fields file).total at count k within
    ∙ ap (λ n. slice (slice file at n) (4096 * k) 4096) (sym (some_stored file at (4096 * count) there)))

pub stored_bytes : (file : List ℕ) (header : Header) (run : PagesFields) (k : ℕ) → pages_of file header ≡ Ok run
    → k < data_pages header → data_page (data_of file header) k ≡ page_in file run k
stored_bytes file (Page gpa mask offset large unmeasured kind) run k is within =
    let same : stored_run file gpa (small_pages large) offset ≡ run = cc in
    stored_page file gpa (small_pages large) offset k within ∙ ap (λ r. page_in file r k) same
stored_bytes file (Context gpa mask offset vp) run k is within =
    let same : stored_run file gpa 1 offset ≡ run = cc in
    stored_page file gpa 1 offset k within ∙ ap (λ r. page_in file r k) same
stored_bytes file (Insert gpa mask area) run k is within =
    absurd (omega (arith, within))
stored_bytes file (Platform mask highest_vtl kind version shared_gpa) run k is within = cc
stored_bytes file (Policy policy mask) run k is within = cc
stored_bytes file (Area bytes area offset) run k is within = cc
stored_bytes file (Param kind area byte_offset) run k is within = cc
stored_bytes file (Required gpa mask bytes flags) run k is within = cc
stored_bytes file (ErrorRange gpa mask bytes) run k is within = cc
stored_bytes file (IdBlock mask author_enabled ld family_id image_id version guest_svn id_algorithm author_algorithm) run k is within = cc
stored_bytes file (Carried kind size) run k is within = cc
