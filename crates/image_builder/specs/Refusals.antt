-- When a list is refused.
use Rattle.std.specs.Prelude.{◌≡◌, ℕ, ◌<◌, ⊤}
use Rattle.image_builder.specs.declared.refusal.BuildRefusal.{BuildRefusal}
use Rattle.image_builder.specs.declared.refusal.BuildRefusal.TheVariants.{TooLarge, Memory}
use Rattle.image_builder.specs.ContentIndex.{saturated}

-- a refusal for size comes where a file of this size is past the limit, and names the size
abbrev pub IsTooLarge : ℕ → BuildRefusal → Type 0
IsTooLarge size (TooLarge bytes) = (536870912 < size) × (bytes ≡ saturated size)
IsTooLarge size Memory = ⊤
