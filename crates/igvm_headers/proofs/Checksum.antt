-- A step of the checksum by the table of src/crc_table.rt is the step bit by bit of specs/Checksum.antt.
use Rattle.std.proofs.Common.{◌≡◌, ℕ, zero, suc, ◌+◌, ◌*◌, ◌/◌, ◌%◌, ◌^◌, ◌<◌, true, false, cond, refl, sym, ap, ap₂, ◌∙◌, arith, map, get_or, lit<, List, add-zero, zero-add, mul_assoc}
use Rattle.std.specs.Prelude.{bit_xor, bit_and, if◌then◌else◌, ◌==◌}
use Rattle.std.specs.List.{range_with_len}
use Rattle.std.specs.Int.Bits.{xor_assoc, xor_zero_l, xor_zero_r, xor_shr, xor_mod, xor_block, and_mask}
use Rattle.std.proofs.Math.Nat.{pow-suc}
use Rattle.std.proofs.lemmas.Nat.{xor_comm}
use Rattle.std.proofs.lemmas.List.FromFn.{get_or-map-range_with_len}
use Rattle.igvm_headers.specs.Checksum.{shifted, shifted_times, crc_step}
use Rattle.igvm_headers.specs.declared.crc_table.TheConstants.{TABLE}

-- what the bit that falls out takes in
abbrev taken : ℕ → ℕ
taken bit = if bit == 1 then 0xEDB88320 else 0

taken-xor : (a b : ℕ) → a < 2 → b < 2 → taken (bit_xor a b) ≡ bit_xor (taken a) (taken b)
taken-xor zero zero h k = refl
taken-xor zero (suc zero) h k = refl
taken-xor (suc zero) zero h k = refl
taken-xor (suc zero) (suc zero) h k = refl
taken-xor zero (suc (suc b)) h k = absurd (omega arith)
taken-xor (suc zero) (suc (suc b)) h k = absurd (omega arith)
taken-xor (suc (suc a)) b h k = absurd (omega arith)

-- a step is the exclusive or of what stays and of what the lowest bit takes in
shifted-taken : (state : ℕ) → shifted state ≡ bit_xor (state / 2) (taken (state % 2))
shifted-taken state =
    elim (state % 2 == 1) as (λ b. cond b (bit_xor (state / 2) 0xEDB88320) (state / 2) ≡ bit_xor (state / 2) (cond b 0xEDB88320 0))
    [ true ↦ refl | false ↦ sym (xor_zero_r (state / 2)) ]

-- the order of four does not matter
xor-swap : (a b c d : ℕ) → bit_xor (bit_xor a b) (bit_xor c d) ≡ bit_xor (bit_xor a c) (bit_xor b d)
xor-swap a b c d =
    xor_assoc a b (bit_xor c d)
    ∙ ap (bit_xor a) (sym (xor_assoc b c d) ∙ ap (λ (x : ℕ). bit_xor x d) (xor_comm b c) ∙ xor_assoc c b d)
    ∙ sym (xor_assoc a c (bit_xor b d))

-- a step is linear
shifted-xor : (a b : ℕ) → shifted (bit_xor a b) ≡ bit_xor (shifted a) (shifted b)
shifted-xor a b =
    shifted-taken (bit_xor a b)
    ∙ ap₂ bit_xor (xor_shr a b 1)
    (ap taken (xor_mod a b 1) ∙ taken-xor (a % 2) (b % 2) (omega arith) (omega arith))
    ∙ xor-swap (a / 2) (b / 2) (taken (a % 2)) (taken (b % 2))
    ∙ sym (ap₂ bit_xor (shifted-taken a) (shifted-taken b))

shifted_times-xor : (n a b : ℕ) → shifted_times n (bit_xor a b) ≡ bit_xor (shifted_times n a) (shifted_times n b)
unfolding shifted_times
shifted_times-xor zero a b = refl
shifted_times-xor (suc n) a b =
    ap (shifted_times n) (shifted-xor a b) ∙ shifted_times-xor n (shifted a) (shifted b)

-- a zero that falls out leaves the rest as it stands
shifted-double : (n : ℕ) → shifted (n * 2) ≡ n
shifted-double n =
    let low : n * 2 % 2 ≡ 0 = omega arith in
    let high : n * 2 / 2 ≡ n = omega arith in
    shifted-taken (n * 2) ∙ ap₂ (λ (x y : ℕ). bit_xor x (taken y)) high low ∙ xor_zero_r n

-- so do as many zeros as there are bits to fall out
shifted_times-zeros : (n high : ℕ) → shifted_times n (high * 2 ^ n) ≡ high
unfolding shifted_times
shifted_times-zeros zero high = omega arith
shifted_times-zeros (suc n) high =
    let e : high * 2 ^ suc n ≡ high * 2 ^ n * 2 = ap (λ (x : ℕ). high * x) (pow-suc 2 n) ∙ sym (mul_assoc high (2 ^ n) 2) in
    ap (λ (x : ℕ). shifted_times n (shifted x)) e
    ∙ ap (shifted_times n) (shifted-double (high * 2 ^ n))
    ∙ shifted_times-zeros n high

-- a number is its high part beside its lowest byte
byte_apart : (high low : ℕ) → low < 256 → bit_xor (high * 256) low ≡ high * 256 + low
byte_apart high low h =
    ap₂ bit_xor (sym (add-zero (high * 256))) (sym (zero-add low))
    ∙ xor_block 8 high 0 0 low (lit< tt) h
    ∙ ap₂ (λ (x y : ℕ). x * 256 + y) (xor_zero_r high) (xor_zero_l low)

-- the table's entry at a byte is what the byte leaves once its eight bits have fallen out
table-computes : TABLE ≡ map (shifted_times 8) (range_with_len 0 256)
unfolding shifted_times
table-computes = refl

table-entry : (byte : ℕ) → byte < 256 → get_or TABLE byte 0 ≡ shifted_times 8 byte
table-entry byte h =
    ap (λ (t : List ℕ). get_or t byte 0) table-computes
    ∙ get_or-map-range_with_len (shifted_times 8) 0 256 byte byte 0 h (zero-add byte)

-- linear: the high part stays as it stands, and the table has what the low byte leaves
shifted_times-byte : (state : ℕ) → bit_xor (get_or TABLE (bit_and state 255) 0) (state / 256) ≡ shifted_times 8 state
shifted_times-byte state =
    let low = state % 256 in
    let high = state / 256 in
    let below : low < 256 = omega arith in
    let whole : high * 256 + low ≡ state = omega arith in
    ap (λ (i : ℕ). bit_xor (get_or TABLE i 0) high) (and_mask state 8)
    ∙ ap (λ (x : ℕ). bit_xor x high) (table-entry low below)
    ∙ xor_comm (shifted_times 8 low) high
    ∙ ap (λ (x : ℕ). bit_xor x (shifted_times 8 low)) (sym (shifted_times-zeros 8 high))
    ∙ sym (shifted_times-xor 8 (high * 256) low)
    ∙ ap (shifted_times 8) (byte_apart high low below ∙ whole)

-- eight bits fall out at once: the table says what they leave
pub crc_step-table : (state byte : ℕ) → bit_xor (get_or TABLE (bit_and (bit_xor state byte) 255) 0) (bit_xor state byte / 256) ≡ crc_step state byte
unfolding crc_step
crc_step-table state byte = shifted_times-byte (bit_xor state byte)
