-- Numbers in bytes, the low byte first.
use Rattle.std.proofs.Common.{◌≡◌, ◌<◌, ◌^◌, ◌+◌, ◌*◌, ◌/◌, ◌%◌, ℕ, zero, suc, List, [], ◌∷◌, ◌++◌, slice_index, refl, sym, ap, ap₂, ◌∙◌, arith}
use Rattle.std.proofs.Math.Nat.{div-div-eq-div-mul, div-one, pow-succ'}
use Rattle.std.specs.Int.{byte_at, bytes_low_first}
use Rattle.byteorder.specs.Endian.{little_bytes, little_from}

-- numbers of the same bytes are the same
pub little_same : (w i j : ℕ) (p q : List ℕ) → ((k : ℕ) → k < w → (a b : ℕ) → a ≡ i + k → b ≡ j + k → slice_index p a ≡ slice_index q b) → little_from i w p ≡ little_from j w q
little_same zero i j p q h = refl
little_same (suc w) i j p q h =
    ap₂ (λ (x y : ℕ). x + 256 * y) (h 0 (omega arith) i j (omega arith) (omega arith))
    (little_same w (suc i) (suc j) p q (λ k below a b x y. h (suc k) (omega arith) a b (omega (arith, x)) (omega (arith, y))))

-- so many bytes from a place on
abbrev pub run : ℕ → ℕ → List ℕ → List ℕ
run i zero p = []
run i (suc w) p = slice_index p i ∷ run (suc i) w p

pub run_at : (w i : ℕ) (p : List ℕ) (k : ℕ) → k < w → (a : ℕ) → a ≡ i + k → slice_index p a ≡ slice_index (run i w p) k
run_at zero i p k below a is = absurd (omega arith)
run_at (suc w) i p zero below a is = let same : a ≡ i = omega (arith, is) in ap (slice_index p) same
run_at (suc w) i p (suc k) below a is = run_at w (suc i) p k (omega arith) a (omega (arith, is))

pub run_append : (a b i j n : ℕ) (p : List ℕ) → j ≡ i + a → n ≡ a + b → run i n p ≡ run i a p ++ run j b p
run_append zero b i j n p x y =
    let same : i ≡ j = omega (arith, x) in
    let size : n ≡ b = omega (arith, y) in
    ap₂ (λ (at w : ℕ). run at w p) same size
run_append (suc a) b i j zero p x y = absurd (omega (arith, y))
run_append (suc a) b i j (suc n) p x y = ap (λ l. slice_index p i ∷ l) (run_append a b (suc i) j n p (omega (arith, x)) (omega (arith, y)))

-- each is below 256
abbrev pub IsBytes : List ℕ → Type 0
IsBytes p = (i : ℕ) → slice_index p i < 256

byte_at_pow : (k x : ℕ) → byte_at k x ≡ x / 256 ^ k % 256
byte_at_pow zero x = ap (λ (y : ℕ). y % 256) (sym (div-one x))
byte_at_pow (suc k) x = refl

above : (b r : ℕ) → b < 256 → (b + 256 * r) / 256 ≡ r
above b r h = omega arith

lowest : (b r : ℕ) → b < 256 → (b + 256 * r) % 256 ≡ b
lowest b r h = omega arith

byte_above : (j b r : ℕ) → b < 256 → byte_at (suc j) (b + 256 * r) ≡ byte_at j r
byte_above j b r h =
    let shift : (b + 256 * r) / 256 ^ suc j ≡ (b + 256 * r) / 256 / 256 ^ j = ap (λ (p : ℕ). (b + 256 * r) / p) (pow-succ' 256 j) ∙ sym (div-div-eq-div-mul (b + 256 * r) 256 (256 ^ j)) in
    ap (λ (y : ℕ). y % 256) (shift ∙ ap (λ (y : ℕ). y / 256 ^ j) (above b r h)) ∙ sym (byte_at_pow j r)

bytes_above : (k j b r : ℕ) → b < 256 → bytes_low_first (suc j) k (b + 256 * r) ≡ bytes_low_first j k r
bytes_above zero j b r h = refl
bytes_above (suc k) j b r h = ap₂ (λ (x : ℕ) (l : List ℕ). x ∷ l) (byte_above j b r h) (bytes_above k (suc j) b r h)

-- the bytes of a number that was read are those bytes
pub bytes_of_little : (w i : ℕ) (p : List ℕ) → IsBytes p → little_bytes w (little_from i w p) ≡ run i w p
bytes_of_little zero i p bytes = refl
bytes_of_little (suc w) i p bytes =
    let r = little_from (suc i) w p in
    ap₂ (λ (x : ℕ) (l : List ℕ). x ∷ l) (lowest (slice_index p i) r (bytes i)) (bytes_above w 0 (slice_index p i) r (bytes i) ∙ bytes_of_little w (suc i) p bytes)
