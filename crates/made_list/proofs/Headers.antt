-- The headers of a made list, with the platforms and the area that they declare.
use Rattle.std.proofs.Common.{◌≡◌, ℕ, zero, suc, ◌+◌, ◌*◌, List, [], ◌∷◌, ◌++◌, map, refl, ◌∙◌, ap, ap₂, append_assoc}
use Rattle.std.specs.Prelude.{false}
use Rattle.std.specs.List.{range_with_len}
use Rattle.std.proofs.lemmas.List.{map-append}
use Rattle.igvm_headers.specs.declared.header.Header.{Header}
use Rattle.igvm_headers.specs.declared.header.Header.TheVariants.{Platform, Policy, Area, Page, Insert, Param, Context, Required}
use Rattle.igvm_headers.specs.declared.page_kind.PageKind.TheVariants.{Secrets, Cpuid}
use Rattle.igvm_headers.specs.declared.param_kind.ParamKind.TheVariants.{CommandLine}
use Rattle.igvm_headers.specs.declared.platform_kind.PlatformKind.TheVariants.{SevSnp, Tdx, Native}
use Rattle.igvm_image.specs.Areas.{areas_of}
use Rattle.igvm_image.specs.declared.area_table.AreaEntry.{AreaEntry}
use Rattle.platform_masks.specs.Platforms.{platforms_from, platforms_of}
use Rattle.component_list.specs.FirstFault.{headers_in}
use Rattle.made_list.specs.MadeList.{made_head, made_page, made_pages, made_parts, made_tail, page_header}
use Rattle.made_list.specs.MadeImage.{made_platforms}

-- the headers of pages in a row
abbrev pub page_headers : ℕ → ℕ → List Header
page_headers first n = map page_header (range_with_len first n)

-- those behind the pages
abbrev pub last_headers : List Header
last_headers =
    Page 0xF1000 1 0 false false Secrets ∷ Page 0xF2000 1 0 false false Cpuid ∷ Insert 0xF0000 3 0 ∷ Context 0xFFFFFFFFF000 1 0 0 ∷ []

-- those before the pages, and these behind them
abbrev pub behind_head : ℕ → List Header → List Header
behind_head n others =
    Platform 1 0 SevSnp 1 0 ∷ Platform 2 0 Tdx 1 0 ∷ Platform 4 0 Native 1 0
    ∷ Policy 0x30000 1 ∷ Area 4096 0 0 ∷ Param CommandLine 0 0 ∷ Required 0x100000 7 (4096 * n) 0 ∷ others

-- all
abbrev pub made_headers : ℕ → List Header
made_headers n = behind_head n (page_headers 0 n ++ last_headers)

headers_of_pages : (first n : ℕ) → headers_in (map made_page (range_with_len first n)) ≡ page_headers first n
unfolding made_page
headers_of_pages first zero = refl
headers_of_pages first (suc n) = ap (λ hs. page_header first ∷ hs) (headers_of_pages (first + 1) n)

headers_of_head : (n : ℕ) (others : List Header) → headers_in (made_head n) ++ others ≡ behind_head n others
unfolding made_head
headers_of_head n others = refl

headers_of_tail : headers_in made_tail ≡ last_headers
unfolding made_tail
headers_of_tail = refl

pub headers_of_parts : (n : ℕ) → headers_in (made_parts n) ≡ made_headers n
unfolding made_parts
headers_of_parts n =
    map-append (λ c. c.header) (made_head n ++ made_pages n) made_tail
    ∙ ap (λ hs. hs ++ headers_in made_tail) (map-append (λ c. c.header) (made_head n) (made_pages n))
    ∙ append_assoc (headers_in (made_head n)) (headers_in (made_pages n)) (headers_in made_tail)
    ∙ ap₂ (λ pages last. headers_in (made_head n) ++ (pages ++ last)) (headers_of_pages 0 n) headers_of_tail
    ∙ headers_of_head n (page_headers 0 n ++ last_headers)

-- ---- the platforms

platforms_of_pages : (first n : ℕ) → platforms_from 3 (page_headers first n ++ last_headers) ≡ []
unfolding platforms_from
platforms_of_pages first zero = refl
platforms_of_pages first (suc n) = platforms_of_pages (first + 1) n

pub platforms_of_made : (n : ℕ) → platforms_of (made_headers n) ≡ made_platforms
unfolding platforms_from
platforms_of_made n = ap (λ ps. made_platforms ++ ps) (platforms_of_pages 0 n)

-- ---- the area

-- the one area
abbrev pub made_areas : List AreaEntry
made_areas = record { area = 0; bytes = 4096 } ∷ []

areas_of_pages : (first n : ℕ) → areas_of (page_headers first n ++ last_headers) ≡ []
areas_of_pages first zero = refl
areas_of_pages first (suc n) = areas_of_pages (first + 1) n

pub areas_of_made : (n : ℕ) → areas_of (made_headers n) ≡ made_areas
areas_of_made n = ap (λ areas. made_areas ++ areas) (areas_of_pages 0 n)
