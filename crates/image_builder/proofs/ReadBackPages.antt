-- Data that stand whole in a body, page by page.
use Rattle.std.proofs.Common.{◌≡◌, ℕ, zero, suc, ◌+◌, ◌-◌, ◌*◌, ◌≤◌, List, ◌++◌, length, take, drop, replicate, refl, sym, ◌∙◌, ap, ap₂, arith, append-nil, false}
use Rattle.std.specs.Prelude.{◌==◌}
use Rattle.std.specs.List.{flat_map, range_with_len}
use Rattle.std.proofs.lemmas.Bool.{cond-false}
use Rattle.std.proofs.lemmas.List.{take-append-drop, take-take, drop-take, drop-drop, length-drop, length-take-le}
use Rattle.igvm_headers.specs.Numbers.{slice}
use Rattle.igvm_headers.specs.Pages.{padded_page, body_page}
use Rattle.component_list.specs.ImageList.{data_bytes}

take_parts : (a b : ℕ) (xs : List ℕ) → take (a + b) xs ≡ take a xs ++ take b (drop a xs)
take_parts a b xs =
    sym (take-append-drop a (take (a + b) xs)) ∙ ap₂ ◌++◌ (take-take a (a + b) xs (omega arith)) (drop-take a b xs)

-- a whole page has no padding
padded_whole : (bytes : List ℕ) → length bytes ≡ 4096 → padded_page bytes ≡ bytes
unfolding padded_page
padded_whole bytes whole =
    let none : 4096 - length bytes ≡ 0 = omega arith in
    ap (λ n. bytes ++ replicate n 0) none ∙ append-nil bytes

page_whole : (body : List ℕ) (offset k : ℕ) → (offset == 0) ≡ false → offset + 4096 * k + 4096 ≤ length body
    → body_page body offset k ≡ take 4096 (drop (offset + 4096 * k) body)
unfolding body_page
page_whole body offset k some within =
    cond-false (offset == 0) _ _ some
    ∙ padded_whole (slice body (offset + 4096 * k) 4096) (length-take-le 4096 (drop (offset + 4096 * k) body) (omega (arith, length-drop (offset + 4096 * k) body)))

pages_whole : (body : List ℕ) (offset n k : ℕ) → (offset == 0) ≡ false → offset + 4096 * (k + n) ≤ length body
    → flat_map (body_page body offset) (range_with_len k n) ≡ take (4096 * n) (drop (offset + 4096 * k) body)
pages_whole body offset zero k some within = refl
pages_whole body offset (suc n) k some within =
    let at = offset + 4096 * k in
    let first = page_whole body offset k some (omega arith) in
    let later = pages_whole body offset n (k + 1) some (omega arith) in
    let next : offset + 4096 * (k + 1) ≡ at + 4096 = omega arith in
    let size : 4096 + 4096 * n ≡ 4096 * suc n = omega arith in
    ap₂ ◌++◌ first (later ∙ ap (λ m. take (4096 * n) (drop m body)) next ∙ ap (take (4096 * n)) (sym (drop-drop 4096 at body)))
    ∙ sym (take_parts 4096 (4096 * n) (drop at body))
    ∙ ap (λ m. take m (drop at body)) size

-- bytes that stand whole at an offset are its data
pub data_whole : (body bytes : List ℕ) (offset pages : ℕ) → (offset == 0) ≡ false → length bytes ≡ 4096 * pages
    → take (length bytes) (drop offset body) ≡ bytes → offset + length bytes ≤ length body
    → data_bytes (record { body = body; offset = offset; pages = pages }) ≡ bytes
unfolding data_bytes
data_whole body bytes offset pages some size stands within =
    let start : offset + 4096 * 0 ≡ offset = omega arith in
    pages_whole body offset pages 0 some (omega arith)
    ∙ ap (λ m. take (4096 * pages) (drop m body)) start
    ∙ ap (λ m. take m (drop offset body)) (sym size)
    ∙ stands
