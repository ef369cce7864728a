-- Sums that stop at the greatest number of 64 bits.
use Rattle.std.proofs.Common.{◌≡◌, ℕ, ◌+◌, ◌<◌, ◌≤◌, ◌^◌, List, length, get_or, refl, sym, ◌∙◌, ap, arith, map}
use Rattle.std.specs.Prelude.{sum_by}
use Rattle.std.proofs.lemmas.List.{get_or-map}
use Rattle.igvm_headers.specs.Fixed.{fixed_size}
use Rattle.component_list.specs.Lists.{ImageParts}
use Rattle.component_list.specs.declared.component.Component.{Component}
use Rattle.component_list.specs.declared.component.Content.{Content}
use Rattle.component_list.specs.declared.component.Content.TheVariants.{Nothing, Zero, Bytes}
use Rattle.image_builder.specs.DistinctContents.{place_of}
use Rattle.image_builder.specs.ContentIndex.{Row, saturated}
use Rattle.image_builder.specs.Layout.{section_size, data_start, kept_contents, offset_among, layout_size}
use Rattle.image_builder.specs.Plans.{IsPlan, offsets_in}
use Rattle.image_builder.proofs.Kept.{place_within}

-- what begins at a number that stopped stops, too
pub saturated_twice : (n k : ℕ) → saturated (saturated n + k) ≡ saturated (n + k)
saturated_twice n k = omega arith

offset_twice : (start : ℕ) (kept : List (List ℕ)) (content : Content)
    → saturated (offset_among (saturated start) kept content) ≡ saturated (offset_among start kept content)
offset_twice start kept Nothing = refl
offset_twice start kept Zero = refl
offset_twice start kept (Bytes bytes) = saturated_twice start (place_of bytes kept)

pub offsets_twice : (start : ℕ) (kept : List (List ℕ)) (parts : List Component) → offsets_in (saturated start) kept parts ≡ offsets_in start kept parts
offsets_twice start kept parts = ap (λ f. map f parts) (λ i (c : Component). offset_twice start kept c.content i)

pub starts_saturated : (section n : ℕ) (list : ImageParts) → section ≡ saturated (section_size list.parts) → n ≡ saturated (section + fixed_size list.version)
    → n ≡ saturated (data_start list)
starts_saturated section n list sized is = omega arith

-- the end of a planned row is the layout's size
pub plan_end : (section : ℕ) (offsets : List ℕ) (row : Row) (list : ImageParts) → IsPlan section offsets row list
    → saturated (row.start + sum_by length row.kept) ≡ saturated (layout_size list)
unfolding layout_size
plan_end section offsets row list plan =
    ap (λ n. saturated (n + sum_by length row.kept)) plan.begins
    ∙ saturated_twice (data_start list) (sum_by length row.kept)
    ∙ ap (λ kept. saturated (data_start list + sum_by length kept)) plan.holds

-- each offset is within a layout
pub offset_within : (list : ImageParts) (content : Content) → offset_among (data_start list) (kept_contents list.parts) content ≤ layout_size list
unfolding layout_size
offset_within list Nothing = omega arith
offset_within list Zero = omega arith
offset_within list (Bytes bytes) = omega (arith, place_within bytes (kept_contents list.parts))

pub section_within : (list : ImageParts) → section_size list.parts ≤ layout_size list
unfolding layout_size
section_within list = omega arith

-- a number within the limit did not stop
pub exact : (n limit : ℕ) → n ≤ limit → limit < 2 ^ 64 → saturated n ≡ n
exact n limit within small = omega arith

-- the offset of a component, as it is planned for a file within the limit
pub offset_at : (list : ImageParts) (offsets : List ℕ) (place : ℕ) (c : Component)
    → offsets ≡ offsets_in (data_start list) (kept_contents list.parts) list.parts → layout_size list ≤ 536870912 → place < length list.parts → c ≡ get_or list.parts place c
    → get_or offsets place 0 ≡ offset_among (data_start list) (kept_contents list.parts) c.content
offset_at list offsets place c planned within inside is =
    let f = λ (c : Component). saturated (offset_among (data_start list) (kept_contents list.parts) c.content) in
    ap (λ os. get_or os place 0) planned
    ∙ get_or-map f list.parts place c 0 inside
    ∙ ap f (sym is)
    ∙ exact (offset_among (data_start list) (kept_contents list.parts) c.content) 536870912 (omega (arith, offset_within list c.content)) (omega arith)
