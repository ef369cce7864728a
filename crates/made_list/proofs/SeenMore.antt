-- What the rules ask of headers, with one header more.
use Rattle.std.proofs.Common.{◌≡◌, ℕ, ◌+◌, List, [], ◌∷◌, ◌++◌, refl, sym, ◌∙◌, ap, add_assoc, append-nil, append_assoc, arith, Option, Some, None}
use Rattle.std.specs.Prelude.{max}
use Rattle.std.specs.List.{cons_option}
use Rattle.std.specs.Option.{option_to_list}
use Rattle.std.proofs.lemmas.List.Elements.{filter_map-append}
use Rattle.std.proofs.lemmas.List.Sums.{fold_push}
use Rattle.igvm_headers.specs.HeaderFacts.{class_of}
use Rattle.igvm_headers.specs.declared.header.Header.{Header}
use Rattle.platform_masks.specs.PlatformsLaws.{platforms_of-push}
use Rattle.igvm_image.specs.Areas.{areas_of, area_entry, placed_pages}
use Rattle.igvm_image.specs.HeaderRules.{seen_of, seen_after, named_from}
use Rattle.igvm_image.specs.declared.area_table.AreaEntry.{AreaEntry}

in_front : (e : Option AreaEntry) (areas : List AreaEntry) → cons_option e areas ≡ option_to_list e ++ areas
in_front None areas = refl
in_front (Some e) areas = refl

areas_more : (hs : List Header) (h : Header) → areas_of (hs ++ h ∷ []) ≡ areas_of hs ++ option_to_list (area_entry h)
areas_more hs h =
    filter_map-append area_entry hs (h ∷ [])
    ∙ ap (λ areas. areas_of hs ++ areas) (in_front (area_entry h) [] ∙ append-nil (option_to_list (area_entry h)))

pages_more : (areas : List AreaEntry) (hs : List Header) (h : Header)
    → named_from areas (hs ++ h ∷ []) ≡ named_from areas hs + placed_pages (areas ++ areas_of hs) h
pages_more areas [] h = ap (λ known. placed_pages known h + 0) (sym (append-nil areas)) ∙ omega arith
pages_more areas (g ∷ hs) h =
    let known = areas ++ option_to_list (area_entry g) in
    let same : known ++ areas_of hs ≡ areas ++ areas_of (g ∷ hs) =
    append_assoc areas (option_to_list (area_entry g)) (areas_of hs) ∙ ap (λ e. areas ++ e) (sym (in_front (area_entry g) (areas_of hs))) in
    ap (λ n. placed_pages areas g + n) (pages_more known hs h)
    ∙ sym (add_assoc (placed_pages areas g) (named_from known hs) (placed_pages (known ++ areas_of hs) h))
    ∙ ap (λ e. placed_pages areas g + named_from known hs + placed_pages e h) same

pub seen_more : (hs : List Header) (h : Header) → seen_of (hs ++ h ∷ []) ≡ seen_after (seen_of hs) h
seen_more hs h =
    let latest = fold_push (λ (latest : ℕ) (header : Header). max latest (class_of header)) 0 hs h in
    let platforms = platforms_of-push hs h in
    let areas = areas_more hs h in
    let pages = pages_more [] hs h in
    cc
