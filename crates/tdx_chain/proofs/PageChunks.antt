-- A chunk of a page: what is lent of it, and the zeros behind.
use Rattle.std.proofs.Common.{◌≡◌, ℕ, zero, suc, ◌+◌, ◌-◌, ◌*◌, ◌<◌, ◌≤◌, List, [], ◌∷◌, ◌++◌, length, take, drop, replicate, min, refl, ap, ap₂, ◌∙◌, arith, sym, append_assoc, append-nil}
use Rattle.std.proofs.lemmas.List.{drop-replicate, take-replicate, drop_min, take_min, length-drop}
use Rattle.igvm_headers.specs.Numbers.{slice}
use Rattle.igvm_headers.specs.Pages.{padded_page}

drop_padded : (s : List ℕ) (n at : ℕ) → drop at (s ++ replicate n 0) ≡ drop at s ++ replicate (n - (at - length s)) 0
drop_padded [] n zero =
    let count : n ≡ n - (0 - 0) = omega arith in
    ap (λ k. replicate k 0) count
drop_padded [] n (suc at) =
    let count : n - suc at ≡ n - (suc at - 0) = omega arith in
    drop-replicate (suc at) n 0 ∙ ap (λ k. replicate k 0) count
drop_padded (x ∷ s) n zero =
    let count : n ≡ n - (0 - suc (length s)) = omega arith in
    ap (λ k. x ∷ (s ++ replicate k 0)) count
drop_padded (x ∷ s) n (suc at) =
    let count : n - (at - length s) ≡ n - (suc at - suc (length s)) = omega arith in
    drop_padded s n at ∙ ap (λ k. drop at s ++ replicate k 0) count

take_padded : (s : List ℕ) (n size : ℕ) → size ≤ length s + n → take size (s ++ replicate n 0) ≡ take size s ++ replicate (size - length (take size s)) 0
take_padded [] n zero h = refl
take_padded [] n (suc size) h =
    let count : suc size ≡ suc size - 0 = omega arith in
    take-replicate (suc size) n 0 (omega arith) ∙ ap (λ k. replicate k 0) count
take_padded (x ∷ s) n zero h = refl
take_padded (x ∷ s) n (suc size) h =
    let count : size - length (take size s) ≡ suc size - suc (length (take size s)) = omega arith in
    ap (λ (xs : List ℕ). x ∷ xs) (take_padded s n size (omega arith) ∙ ap (λ k. take size s ++ replicate k 0) count)

-- chunk k of a page
pub chunk_padded : (lent : List ℕ) (k : ℕ) → length lent ≤ 4096 → k < 16
    → slice (padded_page lent) (256 * k) 256 ≡ slice lent (256 * k) 256 ++ replicate (256 - length (slice lent (256 * k) 256)) 0
unfolding padded_page
chunk_padded lent k within few =
    ap (take 256) (drop_padded lent (4096 - length lent) (256 * k))
    ∙ take_padded (drop (256 * k) lent) (4096 - length lent - (256 * k - length lent)) 256 (omega (arith, length-drop (256 * k) lent))

-- what is lent of it, cut out between two places
pub lent_slice : (lent : List ℕ) (at start end : ℕ) → start ≡ min at (length lent) → end ≡ min (start + 256) (length lent)
    → take (end - start) (drop start lent) ≡ slice lent at 256
lent_slice lent at start end is_start is_end =
    let behind : drop start lent ≡ drop at lent = ap (λ n. drop n lent) is_start ∙ drop_min at lent in
    let size : end - start ≡ min 256 (length (drop at lent)) = omega (arith, length-drop at lent) in
    ap₂ take size behind ∙ take_min 256 (drop at lent)

-- behind bytes that came before: what is lent of a chunk, and its zeros
pub then_chunk : (m lent chunk zeros : List ℕ) (k : ℕ) → length lent ≤ 4096 → k < 16 → chunk ≡ slice lent (256 * k) 256 → zeros ≡ replicate (256 - length chunk) 0
    → (m ++ chunk) ++ zeros ≡ m ++ slice (padded_page lent) (256 * k) 256
then_chunk m lent chunk zeros k within few lends fills =
    let rest : zeros ≡ replicate (256 - length (slice lent (256 * k) 256)) 0 = fills ∙ ap (λ (xs : List ℕ). replicate (256 - length xs) 0) lends in
    append_assoc m chunk zeros ∙ ap (λ (xs : List ℕ). m ++ xs) (ap₂ (λ (xs ys : List ℕ). xs ++ ys) lends rest ∙ sym (chunk_padded lent k within few))

-- a whole chunk has no zeros behind
pub then_whole_chunk : (m lent chunk : List ℕ) (k : ℕ) → length lent ≤ 4096 → k < 16 → chunk ≡ slice lent (256 * k) 256 → 256 ≤ length chunk → m ++ chunk ≡ m ++ slice (padded_page lent) (256 * k) 256
then_whole_chunk m lent chunk k within few lends whole =
    let full : 0 ≡ 256 - length chunk = omega (arith, whole) in
    let none : [] ≡ replicate (256 - length chunk) 0 = ap (λ n. replicate n 0) full in
    sym (append-nil (m ++ chunk)) ∙ then_chunk m lent chunk [] k within few lends none
