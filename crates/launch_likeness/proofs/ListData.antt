-- The data of a file's header, page by page, are those of its component.
use Rattle.std.proofs.Common.{◌≡◌, ℕ, zero, suc, ◌+◌, ◌*◌, ◌-◌, ◌<◌, List, [], ◌∷◌, ◌++◌, length, take, drop, replicate, sym, ◌∙◌, ap, append-nil, add-zero, zero-add, refl, arith, Bool, true, false}
use Rattle.std.specs.Prelude.{if◌then◌else◌, ◌==◌}
use Rattle.std.specs.List.{flat_map, range_with_len}
use Rattle.std.proofs.Math.Seq.{take-append_seam, drop-append-add}
use Rattle.igvm_headers.specs.Pages.{body_page, padded_page}
use Rattle.igvm_headers.specs.Numbers.{slice}
use Rattle.igvm_image.specs.Data.{Data, data_page}
use Rattle.component_list.specs.declared.component.Content.{Content}
use Rattle.component_list.specs.declared.component.Content.TheVariants.{Zero, Bytes}
use Rattle.component_list.specs.ImageList.{data_bytes, stored}
use Rattle.component_list.proofs.ImageLists.{data_page_size}

-- A component's data as data of a header: its bytes stand behind one byte, since data at offset 0 are zeros.
abbrev pub as_data : ℕ → Content → Data
as_data pages (Bytes bytes) = record { body = 0 ∷ bytes; offset = 1; pages = pages }
as_data pages _ = record { body = []; offset = 0; pages = pages }

-- the first page of whole pages, and those behind it
first_page : (xs ys : List ℕ) → length xs ≡ 4096 → take 4096 (xs ++ ys) ≡ xs
first_page xs ys size = ap (λ n. take n (xs ++ ys)) (sym size) ∙ take-append_seam xs ys

past_page : (xs ys : List ℕ) (k : ℕ) → length xs ≡ 4096 → drop (4096 * suc k) (xs ++ ys) ≡ drop (4096 * k) ys
past_page xs ys k size =
    let same : 4096 * suc k ≡ length xs + 4096 * k = omega (arith, size) in
    ap (λ n. drop n (xs ++ ys)) same ∙ drop-append-add xs ys (4096 * k)

-- page k of pages one behind the other
page_of_pages : (d : Data) (k n a : ℕ) → k < n
    → slice (flat_map (data_page d) (range_with_len a n)) (4096 * k) 4096 ≡ data_page d (a + k)
page_of_pages d k zero a below = absurd (omega arith)
page_of_pages d zero (suc n) a below =
    first_page (data_page d a) (flat_map (data_page d) (range_with_len (a + 1) n)) (data_page_size d a)
    ∙ ap (data_page d) (sym (add-zero a))
page_of_pages d (suc k) (suc n) a below =
    ap (take 4096) (past_page (data_page d a) (flat_map (data_page d) (range_with_len (a + 1) n)) k (data_page_size d a))
    ∙ page_of_pages d k n (a + 1) (omega arith)
    ∙ ap (data_page d) (omega arith)

-- what stands behind one byte
behind_one : (bytes : List ℕ) (k : ℕ) → drop (1 + 4096 * k) (0 ∷ bytes) ≡ drop (4096 * k) bytes
behind_one bytes k = ap (λ n. drop n (0 ∷ bytes)) (let same : 1 + 4096 * k ≡ suc (4096 * k) = omega arith in same)

-- a whole page stays as it is
whole : (page : List ℕ) → length page ≡ 4096 → padded_page page ≡ page
unfolding padded_page
whole page size = ap (λ n. page ++ replicate (4096 - n) 0) size ∙ append-nil page

-- page k of a component's data
pub stored_page : (d : Data) (k : ℕ) → k < d.pages → data_page (as_data d.pages (stored d.offset d)) k ≡ data_page d k
unfolding body_page data_bytes
stored_page d k below = cases (d.offset == 0) refl
  where
    page : slice (data_bytes d) (4096 * k) 4096 ≡ data_page d k
    page = page_of_pages d k d.pages 0 below ∙ ap (data_page d) (zero-add k)

    cases : (b : Bool) → (d.offset == 0) ≡ b
        → data_page (as_data d.pages (if b then Zero else Bytes (data_bytes d))) k ≡ data_page d k
    cases true is = sym (ap (λ b. if b then replicate 4096 0 else padded_page (slice d.body (d.offset + 4096 * k) 4096)) is)
    cases false is =
        ap (λ bytes. padded_page (take 4096 bytes)) (behind_one (data_bytes d) k)
        ∙ ap padded_page page
        ∙ whole (data_page d k) (data_page_size d k)
