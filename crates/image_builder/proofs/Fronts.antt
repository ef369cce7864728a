-- What stands before the data of a layout, and the pieces of an image.
use Rattle.std.proofs.Common.{◌≡◌, ℕ, ◌+◌, ◌<◌, ◌≤◌, ◌^◌, List, ◌++◌, length, take, drop, sym, ◌∙◌, ap, ap₂, arith, length-append}
use Rattle.std.specs.List.{concat}
use Rattle.std.proofs.Math.Seq.{take-append_seam}
use Rattle.byteorder.specs.Numbers.{little_number-reads_back}
use Rattle.igvm_headers.specs.Numbers.{number_at}
use Rattle.igvm_outside.specs.JoinedBytes.{joined}
use Rattle.igvm_headers.specs.Fixed.{fixed_size}
use Rattle.component_list.specs.Lists.{ImageParts}
use Rattle.image_builder.specs.ImagePieces.{front_of, IsInPieces}
use Rattle.image_builder.specs.Layout.{section_size, kept_contents, data_bytes, layout_size, layout}
use Rattle.image_builder.proofs.Lengths.{length-concat}

-- the numbers of the fixed header
version_number : (list : ImageParts) → list.version < 2 ^ 32 → number_at 4 4 (layout list) ≡ list.version
unfolding layout
version_number list fits =
    little_number-reads_back 4 list.version (drop 8 (layout list)) (omega arith)

section_number : (list : ImageParts) → section_size list.parts < 2 ^ 32 → number_at 4 12 (layout list) ≡ section_size list.parts
unfolding layout
section_number list fits =
    little_number-reads_back 4 (section_size list.parts) (drop 16 (layout list)) (omega arith)

-- what is left of a layout without its data is the front
front_is : (list : ImageParts) (front : List ℕ) → list.version < 2 ^ 32 → front ++ data_bytes list.parts ≡ layout list → length (layout list) ≡ layout_size list
    → layout_size list ≤ 536870912 → front ≡ front_of (layout list)
unfolding front_of data_bytes layout_size
front_is list front small whole size within =
    let ends : length front ≡ fixed_size list.version + section_size list.parts =
    omega (arith, size, ap length whole, length-append front (concat (kept_contents list.parts)), length-concat (kept_contents list.parts)) in
    sym (take-append_seam front (data_bytes list.parts))
    ∙ ap (take (length front)) whole
    ∙ ap (λ n. take n (layout list)) (ends
    ∙ ap₂ (λ v n. fixed_size v + n) (sym (version_number list small)) (sym (section_number list (omega arith))))

-- the front and the contents make the layout
pub joined_is : (list : ImageParts) (front : List ℕ) (kept : List (List ℕ)) → kept ≡ kept_contents list.parts
    → front ++ data_bytes list.parts ≡ layout list → joined front kept ≡ layout list
unfolding data_bytes
joined_is list front kept same whole = ap (joined front) same ∙ whole

pub in_pieces : (list : ImageParts) (front : List ℕ) (kept : List (List ℕ)) (bytes : ℕ) → list.version < 2 ^ 32 → kept ≡ kept_contents list.parts
    → bytes ≡ layout_size list → front ++ data_bytes list.parts ≡ layout list → length (layout list) ≡ layout_size list
    → layout_size list ≤ 536870912 → IsInPieces front kept bytes
in_pieces list front kept bytes small same counted whole size within =
    let is = joined_is list front kept same whole in
    record {
      front = front_is list front small whole size within ∙ ap front_of (sym is);
      size = counted ∙ sym size ∙ ap length (sym is);
    }
