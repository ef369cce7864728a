-- CRC-32 with the reflected polynomial 0xEDB88320 (ISO 3309), bit by bit.
use Rattle.std.specs.Prelude.{ℕ, zero, suc, ◌/◌, ◌%◌, List, ◌==◌, if◌then◌else◌, fold, bit_xor}

-- one bit falls out at the low end; where it was 1 the polynomial is taken in
abbrev pub shifted : ℕ → ℕ
shifted state = if state % 2 == 1 then bit_xor (state / 2) 0xEDB88320 else state / 2

-- that many bits fall out, one after the other
unfoldable pub shifted_times : ℕ → ℕ → ℕ
shifted_times zero state = state
shifted_times (suc n) state = shifted_times n (shifted state)

-- the state after one more byte
unfoldable pub crc_step : ℕ → ℕ → ℕ
crc_step state byte = shifted_times 8 (bit_xor state byte)

-- the state after these bytes
abbrev pub crc_state : List ℕ → ℕ
crc_state bytes = fold crc_step 0xFFFFFFFF bytes

-- the checksum of these bytes
abbrev pub crc : List ℕ → ℕ
crc bytes = bit_xor (crc_state bytes) 0xFFFFFFFF
