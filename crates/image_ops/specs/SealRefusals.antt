-- When a list isn't sealed.
use Rattle.std.specs.Prelude.{◌≡◌, ℕ, ◌<◌, Bool, true, false, ⊤}
use Rattle.image_builder.specs.ContentIndex.{saturated}
use Rattle.image_ops.specs.declared.sealing.SealRefusal.{SealRefusal}
use Rattle.image_ops.specs.declared.sealing.SealRefusal.TheVariants.{NoIdBlock, TooLarge, Memory}

-- There is no ID block that counts; else the list's image, of this size, is past the limit, and the refusal names the size.
abbrev pub IsSealRefusal : Bool → ℕ → SealRefusal → Type 0
IsSealRefusal has size NoIdBlock = has ≡ false
IsSealRefusal has size (TooLarge bytes) = (has ≡ true) × (536870912 < size) × (bytes ≡ saturated size)
IsSealRefusal has size Memory = ⊤
