-- Pieces of a row of bytes: their number, one of them, and a write to one of them.
use Rattle.std.proofs.Common.{◌≡◌, ℕ, zero, suc, ◌+◌, ◌-◌, ◌*◌, ◌<◌, ◌≤◌, List, ◌++◌, length, get_or, take, drop, set, replicate, Some, refl, sym, ap, ◌∙◌, arith, length-append}
use Rattle.std.proofs.Math.Nat.{mul-le-mul_right}
use Rattle.std.specs.List.{slice_get}
use Rattle.std.proofs.lemmas.List.{take-replicate, drop-replicate, drop-drop, take-take, drop-take, take_at, drop_at, take-append-le, drop-append-le, length-take-le, length-drop}
use Rattle.guest_region.specs.ByteSlices.{part, with_part}
use Rattle.guest_region.specs.PagesOf.{pieces}

-- a piece ends within the row
pub piece_within : (size n k : ℕ) → k < n → k * size + size ≤ n * size
piece_within size n k h = let whole : (suc k) * size ≤ n * size = mul-le-mul_right size (omega arith) in omega arith

pub length-pieces : (size n : ℕ) (bytes : List ℕ) → length (pieces size n bytes) ≡ n
unfolding pieces
length-pieces size zero bytes = refl
length-pieces size (suc n) bytes = ap (λ k. suc k) (length-pieces size n (drop size bytes))

pub pieces-replicate : (size n byte : ℕ) → pieces size n (replicate (n * size) byte) ≡ replicate n (replicate size byte)
unfolding pieces
pieces-replicate size zero byte = refl
pieces-replicate size (suc n) byte =
    let fits : size ≤ suc n * size = omega arith in
    let left : suc n * size - size ≡ n * size = omega arith in
    rw (take-replicate size (suc n * size) byte, drop-replicate size (suc n * size) byte, left, pieces-replicate size n byte) refl

pub get-pieces : (size n k : ℕ) (bytes : List ℕ) → k < n → slice_get (pieces size n bytes) k ≡ Some (part bytes (k * size) size)
unfolding pieces
get-pieces size zero k bytes h = absurd (omega arith)
get-pieces size (suc n) zero bytes h =
    let none : 0 * size ≡ 0 = omega arith in rw none refl
get-pieces size (suc n) (suc k) bytes h =
    let at : size + k * size ≡ suc k * size = omega arith in
    get-pieces size n k (drop size bytes) (omega arith)
    ∙ ap (λ rest. Some (take size rest)) (drop-drop (k * size) size bytes ∙ ap (λ i. drop i bytes) at)

-- what lies before a part that is replaced
front-with_part : (size m : ℕ) (bytes new : List ℕ) → size + m ≤ length bytes
    → take size (with_part bytes (size + m) new) ≡ take size bytes
front-with_part size m bytes new h =
    let longer : length (take (size + m) bytes) ≡ size + m = length-take-le (size + m) bytes h in
    take-append-le size (take (size + m) bytes ++ new) _ (omega (arith, length-append (take (size + m) bytes) new))
    ∙ take-append-le size (take (size + m) bytes) new (omega arith)
    ∙ take-take size (size + m) bytes (omega arith)

rest-with_part : (size m : ℕ) (bytes new : List ℕ) → size + m ≤ length bytes
    → drop size (with_part bytes (size + m) new) ≡ with_part (drop size bytes) m new
rest-with_part size m bytes new h =
    let longer : length (take (size + m) bytes) ≡ size + m = length-take-le (size + m) bytes h in
    let past : size + m + length new ≡ size + (m + length new) = omega arith in
    drop-append-le size (take (size + m) bytes ++ new) _ (omega (arith, length-append (take (size + m) bytes) new))
    ∙ ap (λ front. front ++ drop (size + m + length new) bytes) (drop-append-le size (take (size + m) bytes) new (omega arith))
    ∙ ap (λ front. front ++ new ++ drop (size + m + length new) bytes) (drop-take size m bytes)
    ∙ ap (λ rest. take m (drop size bytes) ++ new ++ rest) (ap (λ i. drop i bytes) past ∙ sym (drop-drop (m + length new) size bytes))

pub set-pieces : (size n k : ℕ) (bytes new : List ℕ) → k < n → length bytes ≡ n * size → length new ≡ size
    → pieces size n (with_part bytes (k * size) new) ≡ set (pieces size n bytes) k new
unfolding pieces
set-pieces size zero k bytes new h long exact = absurd (omega arith)
set-pieces size (suc n) zero bytes new h long exact =
    let none : 0 * size ≡ 0 = omega arith in
    let past : 0 + length new ≡ size = omega arith in
    rw (none, take_at new (drop (0 + length new) bytes) size exact, drop_at new (drop (0 + length new) bytes) size exact, past) refl
set-pieces size (suc n) (suc k) bytes new h long exact =
    let at : suc k * size ≡ size + k * size = omega arith in
    let within : size + k * size ≤ length bytes = rw long (omega (arith, piece_within size (suc n) (suc k) h)) in
    let shorter : length (drop size bytes) ≡ n * size = length-drop size bytes ∙ omega arith in
    rw (at, front-with_part size (k * size) bytes new within, rest-with_part size (k * size) bytes new within, set-pieces size n k (drop size bytes) new (omega arith) shorter exact) refl

-- each piece has the size
pub length-piece : (size n k : ℕ) (bytes d : List ℕ) → n * size ≤ length bytes → k < length (pieces size n bytes)
    → length (get_or (pieces size n bytes) k d) ≡ size
unfolding pieces
length-piece size zero k bytes d long h = absurd (omega arith)
length-piece size (suc n) zero bytes d long h = length-take-le size bytes (omega arith)
length-piece size (suc n) (suc k) bytes d long h =
    length-piece size n k (drop size bytes) d (omega (arith, length-drop size bytes)) (omega arith)
