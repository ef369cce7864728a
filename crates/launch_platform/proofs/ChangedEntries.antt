-- A list with one element changed.
use Rattle.std.proofs.Common.{◌≡◌, ◌≢◌, ℕ, zero, suc, List, [], ◌∷◌, length, refl, ap}
use Rattle.std.specs.Prelude.{slice_get}
use Rattle.std.specs.Option.{option_map}
use Rattle.launch_platform.specs.Commands.{change_at}

pub change_at-changed : {X : Type 0} (xs : List X) (n : ℕ) (change : X → X) → slice_get (change_at n change xs) n ≡ option_map change (slice_get xs n)
change_at-changed [] n change = refl
change_at-changed (x ∷ xs) zero change = refl
change_at-changed (x ∷ xs) (suc n) change = change_at-changed xs n change

pub change_at-other : {X : Type 0} (xs : List X) (n : ℕ) (change : X → X) (other : ℕ) → other ≢ n → slice_get (change_at n change xs) other ≡ slice_get xs other
change_at-other [] n change other differs = refl
change_at-other (x ∷ xs) zero change zero differs = absurd (differs refl)
change_at-other (x ∷ xs) zero change (suc other) differs = refl
change_at-other (x ∷ xs) (suc n) change zero differs = refl
change_at-other (x ∷ xs) (suc n) change (suc other) differs = change_at-other xs n change other (λ same. differs (ap suc same))

pub length-change_at : {X : Type 0} (xs : List X) (n : ℕ) (change : X → X) → length (change_at n change xs) ≡ length xs
length-change_at [] n change = refl
length-change_at (x ∷ xs) zero change = refl
length-change_at (x ∷ xs) (suc n) change = ap suc (length-change_at xs n change)
