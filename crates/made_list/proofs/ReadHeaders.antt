-- The headers of a made list's image are the list's own, but for where their data stand.
use Rattle.std.proofs.Common.{◌≡◌, ℕ, ◌≤◌, List, [], ◌∷◌, map, refl, sym, ◌∙◌, ap, arith}
use Rattle.igvm_headers.specs.HeaderFacts.{with_offset}
use Rattle.igvm_headers.specs.declared.header.Header.{Header}
use Rattle.igvm_image.specs.Areas.{areas_of}
use Rattle.igvm_image.specs.HeaderRules.{Seen, seen_of}
use Rattle.igvm_image.specs.Headers.{PlacedHeader, headers_of, placed_headers}
use Rattle.platform_masks.specs.Platforms.{platforms_of}
use Rattle.component_list.specs.FirstFault.{headers_in}
use Rattle.component_list.specs.ImageList.{component_of, list_of}
use Rattle.component_list.specs.Lists.{ImageParts, IsList}
use Rattle.image_builder.specs.Layout.{layout, layout_size}
use Rattle.made_list.specs.MadeList.{made_list}
use Rattle.made_list.specs.MadeImage.{made_platforms}
use Rattle.made_list.proofs.Headers.{made_headers, headers_of_parts, platforms_of_made, made_areas, areas_of_made}
use Rattle.made_list.proofs.Sizes.{made_size}
use Rattle.made_list.proofs.Valid.{made_list_is}

-- the laws of the crates below that this stands on: what is built is read back, and where data stand changes nothing
-- of what the rules ask of headers
pub record Laws : Type 0 where
  pub back : (list : ImageParts) → IsList list → layout_size list ≤ 536870912 → list_of (layout list) ≡ list
  pub seen : (at : ℕ) (hs : List Header) → seen_of (map (with_offset at) hs) ≡ seen_of hs

-- the headers with file offset 0
abbrev pub at_0 : List Header → List Header
at_0 hs = map (with_offset 0) hs

headers_of_components : (placed : List PlacedHeader) → headers_in (map component_of placed) ≡ at_0 (map (λ p. p.header) placed)
headers_of_components [] = refl
headers_of_components (p ∷ ps) = ap (λ hs. with_offset 0 p.header ∷ hs) (headers_of_components ps)

pub headers_of_image : Laws → (n : ℕ) → n ≤ 100000 → at_0 (headers_of (layout (made_list n))) ≡ made_headers n
headers_of_image laws n few =
    let list = laws.back (made_list n) (made_list_is n few) (omega (arith, made_size n few)) in
    sym (headers_of_components (placed_headers (layout (made_list n))))
    ∙ ap (λ (l : ImageParts). headers_in l.parts) list
    ∙ headers_of_parts n

seen_of_image : Laws → (n : ℕ) → n ≤ 100000 → seen_of (headers_of (layout (made_list n))) ≡ seen_of (made_headers n)
seen_of_image laws n few =
    sym (laws.seen 0 (headers_of (layout (made_list n)))) ∙ ap (λ hs. seen_of hs) (headers_of_image laws n few)

pub platforms_of_image : Laws → (n : ℕ) → n ≤ 100000 → platforms_of (headers_of (layout (made_list n))) ≡ made_platforms
platforms_of_image laws n few = ap (λ (s : Seen). s.platforms) (seen_of_image laws n few) ∙ platforms_of_made n

pub areas_of_image : Laws → (n : ℕ) → n ≤ 100000 → areas_of (headers_of (layout (made_list n))) ≡ made_areas
areas_of_image laws n few = ap (λ (s : Seen). s.areas) (seen_of_image laws n few) ∙ areas_of_made n
