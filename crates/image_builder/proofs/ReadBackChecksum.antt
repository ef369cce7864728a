-- The checksum over the fixed header and the section is a number of 32 bits, since both are bytes.
use Rattle.std.proofs.Common.{ℕ, zero, suc, ◌%◌, ◌/◌, ◌^◌, ◌<◌, List, [], ◌∷◌, ◌++◌, replicate, arith, fold, lit<, true, false}
use Rattle.std.specs.Prelude.{if◌then◌else◌, ◌==◌, bit_xor}
use Rattle.std.specs.List.{AllByRecursion, flat_map}
use Rattle.std.proofs.lemmas.Nat.{xor_of_32}
use Rattle.byteorder.specs.Endian.{little_bytes}
use Rattle.igvm_headers.specs.Checksum.{shifted, shifted_times, crc_step, crc}
use Rattle.component_list.specs.declared.component.Component.{Component}
use Rattle.igvm_headers.specs.Fixed.{fixed_size}
use Rattle.igvm_headers.specs.HeaderFacts.{with_offset}
use Rattle.igvm_headers.specs.Spelling.{spelled}
use Rattle.igvm_headers.specs.SpellingConditions.{AreBytes, ListsAreBytes}
use Rattle.igvm_headers.specs.declared.header.Header.{Header}
use Rattle.igvm_headers.proofs.Bytes.{joined, behind, number_bytes, zero_bytes}
use Rattle.component_list.specs.Ranges.{IsComponent}
use Rattle.image_builder.specs.Layout.{offset_among, written, magic, fixed_front, fixed_rest}
use Rattle.image_builder.proofs.ReadBackOffsets.{OffsetKeeps}

-- what is spelled is bytes
abbrev pub SpelledIsBytes : Type 0
SpelledIsBytes = (h : Header) (tail : List ℕ) → ListsAreBytes h → AreBytes tail → AreBytes (spelled h tail)

shifted_fits : (state : ℕ) → state < 2 ^ 32 → shifted state < 2 ^ 32
shifted_fits state fits =
    elim (state % 2 == 1) as (λ b. (if b then bit_xor (state / 2) 0xEDB88320 else state / 2) < 2 ^ 32)
    [ true ↦ xor_of_32 (state / 2) 0xEDB88320 (omega arith) (lit< tt) | false ↦ omega arith ]

times_fits : (n state : ℕ) → state < 2 ^ 32 → shifted_times n state < 2 ^ 32
unfolding shifted_times
times_fits zero state fits = fits
times_fits (suc n) state fits = times_fits n (shifted state) (shifted_fits state fits)

step_fits : (state byte : ℕ) → state < 2 ^ 32 → byte < 2 ^ 8 → crc_step state byte < 2 ^ 32
unfolding crc_step
step_fits state byte fits small = times_fits 8 (bit_xor state byte) (xor_of_32 state byte fits (omega arith))

state_fits : (bytes : List ℕ) (state : ℕ) → state < 2 ^ 32 → AreBytes bytes → fold crc_step state bytes < 2 ^ 32
state_fits [] state fits all = fits
state_fits (byte ∷ bytes) state fits all = state_fits bytes (crc_step state byte) (step_fits state byte fits all.0) all.1

crc_fits : (bytes : List ℕ) → AreBytes bytes → crc bytes < 2 ^ 32
crc_fits bytes all = xor_of_32 (fold crc_step 0xFFFFFFFF bytes) 0xFFFFFFFF (state_fits bytes 0xFFFFFFFF (lit< tt) all) (lit< tt)

front_bytes : (version size total : ℕ) → AreBytes (fixed_front version size total)
front_bytes version size total =
    let named = magic ++ little_bytes 4 version ++ little_bytes 4 (fixed_size version) in
    behind (named ++ little_bytes 4 size) 4 total
    (behind named 4 size
    (behind (magic ++ little_bytes 4 version) 4 (fixed_size version)
    (behind magic 4 version (lit< tt, (lit< tt, (lit< tt, (lit< tt, tt)))))))

rest_bytes : (version : ℕ) → AreBytes (fixed_rest version)
rest_bytes version =
    elim (version == 2) as (λ b. AreBytes (if b then little_bytes 4 0 ++ little_bytes 4 4096 else []))
    [ true ↦ behind (little_bytes 4 0) 4 4096 (number_bytes 4 0) | false ↦ tt ]

section_bytes : SpelledIsBytes → OffsetKeeps → (start : ℕ) (kept : List (List ℕ)) (parts : List Component) → AllByRecursion IsComponent parts
    → AreBytes (flat_map (written start kept) parts)
section_bytes bytes keeps start kept [] all = tt
section_bytes bytes keeps start kept (c ∷ cs) all =
    let at = offset_among start kept c.content in
    joined (written start kept c) (flat_map (written start kept) cs)
    (bytes (with_offset at c.header) c.tail (keeps.lists at c.header all.0.lists) all.0.tail)
    (section_bytes bytes keeps start kept cs all.1)

-- the checksum over both
pub checksum_fits : SpelledIsBytes → OffsetKeeps → (version size total start : ℕ) (kept : List (List ℕ)) (parts : List Component) → AllByRecursion IsComponent parts
    → crc (fixed_front version size total ++ replicate 4 0 ++ fixed_rest version ++ flat_map (written start kept) parts) < 2 ^ 32
checksum_fits bytes keeps version size total start kept parts all =
    let front = fixed_front version size total in
    let headers = flat_map (written start kept) parts in
    let zeros = joined front (replicate 4 0) (front_bytes version size total) (zero_bytes 4) in
    let fixed = joined (front ++ replicate 4 0) (fixed_rest version) zeros (rest_bytes version) in
    crc_fits (front ++ replicate 4 0 ++ fixed_rest version ++ headers)
    (joined (front ++ replicate 4 0 ++ fixed_rest version) headers fixed (section_bytes bytes keeps start kept parts all))
