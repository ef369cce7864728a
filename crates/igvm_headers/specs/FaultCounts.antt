-- When a fault of something outside may be answered.
use Rattle.std.specs.Prelude.{◌≡◌, ℕ, ◌<◌, ◌⊎◌, Result, OnErr}

-- a count of faults rose, or stands at its last value, 2^64 - 1
abbrev pub Rose : ℕ → ℕ → Type 0
Rose before now = (before < now) ⊎ (now ≡ 18446744073709551615)

-- a refusal comes only where the count rose
abbrev pub HasCause : {A E : Type 0} → ℕ → ℕ → Result A E → Type 0
HasCause before now result = OnErr result (Rose before now)
