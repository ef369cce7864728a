-- Two lists of headers set side by side, header by header: what each step may be, so that a platform of the one is
-- launched as a platform of the other.
use Rattle.std.proofs.Common.{◌≡◌, ℕ, ◌<◌, List, [], ◌∷◌, Bool, true, false}
use Rattle.std.specs.Prelude.{◌==◌}
use Rattle.std.specs.List.{AllByRecursion}
use Rattle.igvm_headers.specs.HeaderFacts.{data_offset, data_pages, with_offset}
use Rattle.igvm_headers.specs.declared.header.Header.{Header}
use Rattle.igvm_headers.specs.declared.header.Header.TheVariants.{Area, Insert, Param}
use Rattle.platform_masks.specs.Masks.{applies}
use Rattle.igvm_image.specs.Data.{data_page}
use Rattle.igvm_image.specs.Headers.{PlacedHeader}
use Rattle.list_changes.specs.Changes.{changed, with_digest}

-- a header of each list that say the same, or one of the first alone, or one of the second alone
pub data Step : Type 0 where
  Both : (first second : PlacedHeader) → Step
  Gone : (first : PlacedHeader) → Step
  Come : (second : PlacedHeader) → Step

-- the first list of these steps
abbrev pub firsts : List Step → List PlacedHeader
firsts [] = []
firsts (Both p q ∷ steps) = p ∷ firsts steps
firsts (Gone p ∷ steps) = p ∷ firsts steps
firsts (Come q ∷ steps) = firsts steps

-- the second
abbrev pub seconds : List Step → List PlacedHeader
seconds [] = []
seconds (Both p q ∷ steps) = q ∷ seconds steps
seconds (Gone p ∷ steps) = seconds steps
seconds (Come q ∷ steps) = q ∷ seconds steps

-- The masks of the two platforms; the indices of the areas of the first list; and how the second names these.
pub record Change : Type 0 where
  pub old : ℕ
  pub new : ℕ
  pub own : ℕ → Bool
  pub area_to : ℕ → ℕ

-- areas of the first list keep apart
abbrev pub KeepsApart : Change → Type 0
KeepsApart ch =
    (x y : ℕ) → ch.own x ≡ true → ch.own y ≡ true → (ch.area_to y == ch.area_to x) ≡ (y == x)

-- the area that a header declares, fills or inserts is one of these
abbrev pub NamesOwn : (ℕ → Bool) → Header → Type 0
NamesOwn own (Area bytes area offset) = own area ≡ true
NamesOwn own (Insert gpa mask area) = own area ≡ true
NamesOwn own (Param kind area byte_offset) = own area ≡ true
NamesOwn own _ = Unit {0}

-- The second says what the first says: but for its mask, the name of its area, the place of its data and the digest
-- that an ID block wants, it is the same header, it has the same data, and it counts for its platform where the first does.
pub record IsSame (ch : Change) (p q : PlacedHeader) : Type 0 where
  pub mask : ℕ
  pub offset : ℕ
  pub wanted : List ℕ
  pub header : q.header ≡ with_offset offset (changed (λ old. mask) ch.area_to (with_digest wanted p.header))
  pub zero : (offset == 0) ≡ (data_offset p.header == 0)
  pub own_count : p.content.pages ≡ data_pages p.header
  pub count : q.content.pages ≡ data_pages p.header
  pub pages : (k : ℕ) → k < data_pages p.header → data_page q.content k ≡ data_page p.content k
  pub counts : applies q.header ch.new ≡ applies p.header ch.old
  pub named : NamesOwn ch.own p.header

-- it is no area of the first list
abbrev pub IsOther : Change → ℕ → Type 0
IsOther ch area = (x : ℕ) → ch.own x ≡ true → (area == ch.area_to x) ≡ false

-- A header of the second list alone: it declares or fills an area that is none of the first's, or doesn't count.
abbrev pub IsForeign : Change → Header → Type 0
IsForeign ch (Area bytes area offset) = IsOther ch area
IsForeign ch (Param kind area byte_offset) = IsOther ch area
IsForeign ch header = applies header ch.new ≡ false

abbrev pub IsStep : Change → Step → Type 0
IsStep ch (Both p q) = IsSame ch p q
IsStep ch (Gone p) = applies p.header ch.old ≡ false
IsStep ch (Come q) = IsForeign ch q.header

abbrev pub AreSteps : Change → List Step → Type 0
AreSteps ch steps = AllByRecursion (IsStep ch) steps

-- ---- no area is named anew

-- all areas keep their names
abbrev pub same_areas : ℕ → ℕ → Change
same_areas old new = record { old = old; new = new; own = λ area. true; area_to = λ area. area }

-- the second list has no header of its own
abbrev pub IsOld : Step → Type 0
IsOld (Both p q) = Unit {0}
IsOld (Gone p) = Unit {0}
IsOld (Come q) = ⊥

abbrev pub AreOld : List Step → Type 0
AreOld steps = AllByRecursion IsOld steps
