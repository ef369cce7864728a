-- What a value set in one area leaves of all: which are open, and their sizes.
use Rattle.std.proofs.Common.{◌≡◌, ℕ, ◌+◌, ◌≤◌, List, Option, Some, None, length, refl, ap, sym, ◌∙◌, inl, inr, ◌==◌, subst}
use Rattle.std.specs.Option.{option_map}
use Rattle.std.proofs.lemmas.Bool.{eqb-true, ne_eqb}
use Rattle.std.proofs.lemmas.Bool.Decides.{eqb_tells}
use Rattle.param_areas.specs.AreaBytes.{Area, Space, IsOpen, area_at, bytes_in, bytes_of, change_first, with_change, with_taken, with_value}
use Rattle.param_areas.proofs.Changes.{find_changed, find_other}
use Rattle.param_areas.proofs.Written.{length_written}

-- the area of an index after a change of that one
found_same : (change : Area → Area) → ((a : Area) → (change a).index ≡ a.index) → (areas : List Area) (area : ℕ) → area_at (change_first (λ a. a.index == area) change areas) area ≡ option_map change (area_at areas area)
found_same change keeps areas area =
    find_changed (λ (a : Area). a.index == area) change (λ a. ap (λ i. i == area) (keeps a)) areas

-- the area of another index
found_other : (change : Area → Area) → ((a : Area) → (change a).index ≡ a.index) → (areas : List Area) (area other : ℕ) → (other ≡ area → ⊥) → area_at (change_first (λ a. a.index == area) change areas) other ≡ area_at areas other
found_other change keeps areas area other ne =
    find_other (λ (a : Area). a.index == area) (λ (a : Area). a.index == other) change
    (λ a is. ne_eqb a.index other (λ e. ne (sym e ∙ eqb-true a.index area is)))
    (λ a is. ne_eqb (change a).index other (λ e. ne (sym e ∙ keeps a ∙ eqb-true a.index area is)))
    areas

taken_same : (place : ℕ) (value : List ℕ) (o : Option Area) → option_map (λ a. a.taken) (option_map (with_value place value) o) ≡ option_map (λ a. a.taken) o
taken_same place value None = refl
taken_same place value (Some a) = refl

size_same : (place : ℕ) (value : List ℕ) (o : Option Area) → place + length value ≤ length (bytes_in o) → length (bytes_in (option_map (with_value place value) o)) ≡ length (bytes_in o)
size_same place value None fits = refl
size_same place value (Some a) fits = length_written place value a.bytes fits

-- what is open stays open
pub set_keeps_open : (space : Space) (area place : ℕ) (value : List ℕ) (other : ℕ) → IsOpen space.areas other → IsOpen (with_change (with_value place value) area space).areas other
set_keeps_open space area place value other open' =
    elim (eqb_tells other area) [
      | inl same ↦
          let P : ℕ → Type 0 = λ i. IsOpen space.areas i → IsOpen (with_change (with_value place value) area space).areas i in
          subst P (sym same.1) (λ here. ap (option_map (λ a. a.taken)) (found_same (with_value place value) (λ a. refl) space.areas area) ∙ taken_same place value (area_at space.areas area) ∙ here) open'
      | inr not_same ↦ ap (option_map (λ a. a.taken)) (found_other (with_value place value) (λ a. refl) space.areas area other not_same.1) ∙ open'
    ]

-- and has its size
pub set_keeps_size : (space : Space) (area place : ℕ) (value : List ℕ) (other : ℕ) → place + length value ≤ length (bytes_of space.areas area) → length (bytes_of (with_change (with_value place value) area space).areas other) ≡ length (bytes_of space.areas other)
set_keeps_size space area place value other fits =
    elim (eqb_tells other area) [
      | inl same ↦
          let P : ℕ → Type 0 = λ i. length (bytes_of (with_change (with_value place value) area space).areas i) ≡ length (bytes_of space.areas i) in
          subst P (sym same.1) (ap (λ o. length (bytes_in o)) (found_same (with_value place value) (λ a. refl) space.areas area) ∙ size_same place value (area_at space.areas area) fits)
      | inr not_same ↦ ap (λ o. length (bytes_in o)) (found_other (with_value place value) (λ a. refl) space.areas area other not_same.1)
    ]

bytes_same : (o : Option Area) → bytes_in (option_map with_taken o) ≡ bytes_in o
bytes_same None = refl
bytes_same (Some a) = refl

-- the others stay open where one is taken
pub take_keeps_open : (space : Space) (area other : ℕ) → (other ≡ area → ⊥) → IsOpen space.areas other → IsOpen (with_change with_taken area space).areas other
take_keeps_open space area other ne open' =
    ap (option_map (λ a. a.taken)) (found_other with_taken (λ a. refl) space.areas area other ne) ∙ open'

-- and all have their bytes
pub take_keeps_bytes : (space : Space) (area other : ℕ) → bytes_of (with_change with_taken area space).areas other ≡ bytes_of space.areas other
take_keeps_bytes space area other =
    elim (eqb_tells other area) [
      | inl same ↦
          let P : ℕ → Type 0 = λ i. bytes_of (with_change with_taken area space).areas i ≡ bytes_of space.areas i in
          subst P (sym same.1) (ap bytes_in (found_same with_taken (λ a. refl) space.areas area) ∙ bytes_same (area_at space.areas area))
      | inr not_same ↦ ap bytes_in (found_other with_taken (λ a. refl) space.areas area other not_same.1)
    ]
