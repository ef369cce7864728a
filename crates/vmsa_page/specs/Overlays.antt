-- Bytes that are written over others.
use Rattle.std.specs.Prelude.{◌≡◌, ◌<◌, ◌+◌, ◌-◌, ◌&&◌, ◌==◌, ℕ, nat_le, nat_lt, if◌then◌else◌, List, [], ◌∷◌, length, slice_index}
use Rattle.vmsa_page.specs.declared.other_byte.OtherByte.{OtherByte}

-- each byte is what the function makes of its place and of the byte before
abbrev pub IsOverlay : (ℕ → ℕ → ℕ) → List ℕ → List ℕ → Type 0
IsOverlay f old new =
    (length new ≡ length old) × ((i : ℕ) → i < length old → slice_index new i ≡ f i (slice_index old i))

-- these bytes from a place on, or else another
abbrev pub run_or : ℕ → List ℕ → ℕ → ℕ → ℕ
run_or at bytes i else_ =
    if nat_le at i && nat_lt i (at + length bytes) then slice_index bytes (i - at) else else_

-- the first of these bytes with that place, or else another
abbrev pub other_or : List OtherByte → ℕ → ℕ → ℕ
other_or [] i else_ = else_
other_or (o ∷ os) i else_ = if o.at == i then o.byte else other_or os i else_
