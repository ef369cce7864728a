-- What headers tell the parameter areas, by what they declare and insert.
use Rattle.std.proofs.Common.{◌≡◌, ◌⊎◌, ℕ, ◌+◌, ◌*◌, List, [], ◌∷◌, ◌++◌, length, map, Bool, true, false, cond, Some, None, IsSome, refl, sym, ap, ◌∙◌, inl, inr, arith, ◌==◌, ◌||◌, if◌then◌else◌, sum, sum_by, fold, find, option_map, append_assoc, append-nil}
use Rattle.std.specs.List.{AllByRecursion, cons_option, filter_map, list_any}
use Rattle.std.proofs.lemmas.List.{length-map, map-append}
use Rattle.std.proofs.lemmas.List.Elements.{filter_map-append}
use Rattle.std.proofs.lemmas.List.Sums.{sum-map, sum_by-cons}
use Rattle.std.proofs.lemmas.Bool.{eq-eqb, ne_eqb}
use Rattle.std.proofs.lemmas.Bool.Decides.{eqb_tells}
use Rattle.igvm_headers.specs.declared.header.Header.{Header}
use Rattle.igvm_headers.specs.declared.header.Header.TheVariants.{Area, Insert, Param}
use Rattle.host_set.specs.Hosts.{HostValues, value_of}
use Rattle.igvm_image.specs.Areas.{area_entry, area_size, areas_of}
use Rattle.igvm_image.specs.Data.{Data}
use Rattle.igvm_image.specs.Headers.{PlacedHeader}
use Rattle.igvm_image.specs.RulesInWords.{declared_bytes}
use Rattle.igvm_image.specs.declared.area_table.AreaEntry.{AreaEntry}
use Rattle.directive_rules.specs.DirectiveFacts.{inserts}
use Rattle.directive_rules.specs.FirstMisfit.{headers_in}
use Rattle.param_areas.specs.AreaBytes.{change_first}
use Rattle.param_areas.specs.AreaHistory.{Told, declared, told_change, told_size, told_taken, told_value}
use Rattle.param_areas.specs.Calls.{AreInOrder, Call, Declare, IsKnown, Set, Take, content_in, content_of, first_of_contents, is_taken, told_by, told_call}
use Rattle.image_loader.specs.FilledAreas.{calls_of, header_call}

-- an area that a header declares has the bytes of its pages
abbrev pub IsWhole : Header → Data → Type 0
IsWhole (Area bytes area offset) content = bytes ≡ 4096 * content.pages
IsWhole _ content = Unit {0}

-- each area that these declare has the bytes of its pages
abbrev pub AreWhole : List PlacedHeader → Type 0
AreWhole headers = AllByRecursion (λ p. IsWhole p.header p.content) headers

-- the bytes of an area by what it was told, by its content, and by its entry
abbrev pub told_bytes : Told → ℕ
told_bytes told = told_size (Some told)

abbrev pub data_bytes : Data → ℕ
data_bytes content = 4096 * content.pages

abbrev pub entry_bytes : AreaEntry → ℕ
entry_bytes entry = entry.bytes

-- what one more header tells comes last
pub calls_more : (host : HostValues) (before : List PlacedHeader) (p : PlacedHeader)
    → calls_of host (before ++ p ∷ []) ≡ calls_of host before ++ cons_option (header_call host p.header p.content) []
calls_more host before p = filter_map-append (λ q. header_call host q.header q.content) before (p ∷ [])

-- ---- how many areas, and of what sizes

-- a change that keeps a number of each
map_change : {X : Type 0} (f : X → ℕ) (test : X → Bool) (change : X → X) → ((x : X) → f (change x) ≡ f x)
    → (xs : List X) → map f (change_first test change xs) ≡ map f xs
map_change f test change same [] = refl
map_change f test change same (x ∷ xs) =
    elim (test x) as (λ b. map f (if b then change x ∷ xs else x ∷ change_first test change xs) ≡ f x ∷ map f xs) [
      | true ↦ ap (λ n. n ∷ map f xs) (same x)
      | false ↦ ap (λ ns. f x ∷ ns) (map_change f test change same xs)
    ]

-- the sizes after the calls of some headers, behind what was told before
abbrev SizesAre : HostValues → List PlacedHeader → List Told → Type 0
SizesAre host headers told =
    map told_bytes (fold told_call told (calls_of host headers))
    ≡ map told_bytes told ++ map entry_bytes (areas_of (headers_in headers))

sizes_with : (host : HostValues) (headers : List PlacedHeader) (h : Header) (content : Data) (told : List Told)
    → IsWhole h content → ((more : List Told) → SizesAre host headers more)
    → map told_bytes (fold told_call told (cons_option (header_call host h content) (calls_of host headers)))
    ≡ map told_bytes told ++ map entry_bytes (cons_option (area_entry h) (areas_of (headers_in headers)))
sizes_with host headers (Area bytes area offset) content told whole others =
    let rest : List ℕ = map entry_bytes (areas_of (headers_in headers)) in
    others (told ++ declared area content ∷ [])
    ∙ ap (λ ns. ns ++ rest) (map-append told_bytes told (declared area content ∷ []))
    ∙ append_assoc (map told_bytes told) (4096 * content.pages ∷ []) rest
    ∙ ap (λ n. map told_bytes told ++ n ∷ rest) (sym whole)
sizes_with host headers (Param kind area byte_offset) content told whole others =
    let change : Told → Told = told_value byte_offset (value_of host kind) in
    others (told_change change area told)
    ∙ ap (λ ns. ns ++ map entry_bytes (areas_of (headers_in headers)))
    (map_change told_bytes (λ t. t.index == area) change (λ t. refl) told)
sizes_with host headers (Insert gpa mask area) content told whole others =
    others (told_change told_taken area told)
    ∙ ap (λ ns. ns ++ map entry_bytes (areas_of (headers_in headers)))
    (map_change told_bytes (λ t. t.index == area) told_taken (λ t. refl) told)
sizes_with host headers _ content told whole others = others told

sizes_after : (host : HostValues) (headers : List PlacedHeader) (told : List Told) → AreWhole headers
    → SizesAre host headers told
sizes_after host [] told whole = sym (append-nil (map told_bytes told))
sizes_after host (p ∷ headers) told whole =
    sizes_with host headers p.header p.content told whole.0 (λ more. sizes_after host headers more whole.1)

-- as many areas were told as are declared
pub told_count : (host : HostValues) (headers : List PlacedHeader) → AreWhole headers
    → length (told_by (calls_of host headers)) ≡ length (areas_of (headers_in headers))
told_count host headers whole =
    sym (length-map (told_by (calls_of host headers)) told_bytes)
    ∙ ap length (sizes_after host headers [] whole)
    ∙ length-map (areas_of (headers_in headers)) entry_bytes

sum_with : (h : Header) (headers : List Header)
    → sum_by entry_bytes (cons_option (area_entry h) (areas_of headers))
    ≡ declared_bytes h + sum_by entry_bytes (areas_of headers)
sum_with (Area bytes area offset) headers =
    sum_by-cons entry_bytes (record { area = area; bytes = bytes }) (areas_of headers)
sum_with _ headers = omega arith

sum_declared : (headers : List Header) → sum_by entry_bytes (areas_of headers) ≡ sum_by declared_bytes headers
sum_declared [] = refl
sum_declared (h ∷ headers) =
    sum_with h headers
    ∙ ap (λ n. declared_bytes h + n) (sum_declared headers)
    ∙ sym (sum_by-cons declared_bytes h headers)

-- they have as many bytes together as the headers declare
pub told_total : (host : HostValues) (headers : List PlacedHeader) → AreWhole headers
    → sum_by told_bytes (told_by (calls_of host headers)) ≡ sum_by declared_bytes (headers_in headers)
told_total host headers whole =
    sym (sum-map told_bytes (told_by (calls_of host headers)))
    ∙ ap sum (sizes_after host headers [] whole)
    ∙ sum-map entry_bytes (areas_of (headers_in headers))
    ∙ sum_declared (headers_in headers)

-- ---- one area

content_with : (host : HostValues) (area : ℕ) (headers : List PlacedHeader) (h : Header) (content : Data)
    → IsWhole h content
    → option_map data_bytes (content_of area (calls_of host headers)) ≡ area_size (areas_of (headers_in headers)) area
    → option_map data_bytes (content_of area (cons_option (header_call host h content) (calls_of host headers)))
    ≡ area_size (cons_option (area_entry h) (areas_of (headers_in headers))) area
content_with host area headers (Area bytes of offset) content whole others = choice (of == area)
  where
    entry : AreaEntry
    entry = record { area = of; bytes = bytes }

    contents : List Data
    contents = filter_map (content_in area) (calls_of host headers)

    choice : (b : Bool)
        → option_map data_bytes (first_of_contents (cons_option (if b then Some content else None) contents))
        ≡ option_map entry_bytes (cond b (Some entry) (find (λ e. e.area == area) (areas_of (headers_in headers))))
    choice true = ap Some (sym whole)
    choice false = others
content_with host area headers _ content whole others = others

-- the content that is declared for an area has the size that the first header gives that declares it
pub content_size : (host : HostValues) (area : ℕ) (headers : List PlacedHeader) → AreWhole headers
    → option_map data_bytes (content_of area (calls_of host headers)) ≡ area_size (areas_of (headers_in headers)) area
content_size host area [] whole = refl
content_size host area (p ∷ headers) whole =
    content_with host area headers p.header p.content whole.0 (content_size host area headers whole.1)

eqb_swap : (a b : ℕ) → (a == b) ≡ (b == a)
eqb_swap a b =
    elim (eqb_tells a b) [
      | inl same ↦ same.0 ∙ sym (eq-eqb b a (sym same.1))
      | inr other ↦ other.0 ∙ sym (ne_eqb b a (λ e. other.1 (sym e)))
    ]

taken_with : (host : HostValues) (area : ℕ) (headers : List PlacedHeader) (h : Header) (content : Data)
    → is_taken area (calls_of host headers) ≡ list_any (inserts area) (headers_in headers)
    → is_taken area (cons_option (header_call host h content) (calls_of host headers))
    ≡ (inserts area h || list_any (inserts area) (headers_in headers))
taken_with host area headers (Insert gpa mask of) content others =
    ap (λ b. b || is_taken area (calls_of host headers)) (eqb_swap of area) ∙ ap (λ b. (area == of) || b) others
taken_with host area headers _ content others = others

-- an area is taken where a header inserts it
pub taken_is_inserted : (host : HostValues) (area : ℕ) (headers : List PlacedHeader)
    → is_taken area (calls_of host headers) ≡ list_any (inserts area) (headers_in headers)
taken_is_inserted host area [] = refl
taken_is_inserted host area (p ∷ headers) =
    taken_with host area headers p.header p.content (taken_is_inserted host area headers)

-- ---- the order of calls

-- an area may always be declared
pub order_declare : (known : List ℕ) (calls : List Call) (area : ℕ) (content : Data) → AreInOrder known calls
    → AreInOrder known (calls ++ Declare area content ∷ [])
order_declare known [] area content order = tt
order_declare known (Declare of other ∷ calls) area content order = order_declare (of ∷ known) calls area content order
order_declare known (Set of place value ∷ calls) area content order =
    (order.0, order_declare known calls area content order.1)
order_declare known (Take of ∷ calls) area content order = (order.0, order_declare known calls area content order.1)

-- an area is known, or these calls declare it
abbrev IsThere : List ℕ → ℕ → List Call → Type 0
IsThere known area calls = IsKnown known area ⊎ IsSome (content_of area calls)

there_behind : (known : List ℕ) (of area : ℕ) (content : Data) (calls : List Call)
    → IsThere known area (Declare of content ∷ calls) → IsThere (of ∷ known) area calls
there_behind known of area content calls = choice (of == area)
  where
    contents : List Data
    contents = filter_map (content_in area) calls

    choice : (b : Bool)
        → IsKnown known area ⊎ IsSome (first_of_contents (cons_option (if b then Some content else None) contents))
        → IsSome (cond b (Some of) (find (λ i. i == area) known)) ⊎ IsSome (content_of area calls)
    choice true is = inl refl
    choice false is = is

-- a call that needs an area may follow where that is there
order_behind : (known : List ℕ) (calls : List Call) (area : ℕ) (c : Call)
    → ((more : List ℕ) → IsKnown more area → AreInOrder more (c ∷ [])) → AreInOrder known calls
    → IsThere known area calls → AreInOrder known (calls ++ c ∷ [])
order_behind known [] area c last order (inl is) = last known is
order_behind known [] area c last order (inr none) = cc
order_behind known (Declare of content ∷ calls) area c last order is =
    order_behind (of ∷ known) calls area c last order (there_behind known of area content calls is)
order_behind known (Set of place value ∷ calls) area c last order is =
    (order.0, order_behind known calls area c last order.1 is)
order_behind known (Take of ∷ calls) area c last order is =
    (order.0, order_behind known calls area c last order.1 is)

-- a value may be set in an area that the calls before declare
pub order_set : (calls : List Call) (area place : ℕ) (value : List ℕ) → AreInOrder [] calls
    → IsSome (content_of area calls) → AreInOrder [] (calls ++ Set area place value ∷ [])
order_set calls area place value order is =
    order_behind [] calls area (Set area place value) (λ more known. (known, tt)) order (inr is)

-- and such an area may be taken
pub order_take : (calls : List Call) (area : ℕ) → AreInOrder [] calls → IsSome (content_of area calls)
    → AreInOrder [] (calls ++ Take area ∷ [])
order_take calls area order is = order_behind [] calls area (Take area) (λ more known. (known, tt)) order (inr is)
