-- A header of an accepted file that fits finds its area as it needs it.
use Rattle.std.proofs.Common.{◌≡◌, ℕ, suc, ◌+◌, ◌*◌, ◌/◌, ◌≤◌, List, [], ◌∷◌, ◌++◌, length, take, Bool, true, false, cond, Option, Some, None, IsSome, refl, sym, ap, ◌∙◌, subst, arith, sum_by, find, filter, slice_get, unwrap_or, option_map, if◌then◌else◌, ◌==◌}
use Rattle.std.specs.List.{AllByRecursion, cons_option}
use Rattle.std.specs.Option.{option_or}
use Rattle.std.proofs.lemmas.List.{length-map, map-append, take_at}
use Rattle.std.proofs.lemmas.List.Elements.{filter-append, filter_map-append}
use Rattle.std.proofs.lemmas.List.Folds.{find-append}
use Rattle.std.proofs.lemmas.List.Sums.{sum_by-append, sum_by-cons}
use Rattle.igvm_headers.specs.Fixed.{fixed_fields}
use Rattle.igvm_headers.specs.Pages.{file_body}
use Rattle.igvm_headers.specs.declared.header.Header.{Header}
use Rattle.igvm_headers.specs.declared.header.Header.TheVariants.{Area, Insert, Param}
use Rattle.platform_masks.specs.Masks.{applies}
use Rattle.host_set.specs.declared.range.PlanRange.{PlanRange}
use Rattle.igvm_image.specs.Areas.{area_entry, area_size, areas_of}
use Rattle.igvm_image.specs.Data.{Data, data_in}
use Rattle.igvm_image.specs.HeaderRules.{Seen, rule_fault, seen_of}
use Rattle.igvm_image.specs.Headers.{IsAccepted, PlacedHeader, headers_of, placed_headers}
use Rattle.igvm_image.specs.HeadersOfFile.{IsHeaderOf}
use Rattle.igvm_image.specs.RulesInWords.{declared_bytes}
use Rattle.igvm_image.specs.RulesLaws.{KeepsRules, keeps_rules}
use Rattle.igvm_image.specs.declared.area_table.AreaEntry.{AreaEntry}
use Rattle.directive_rules.specs.FirstMisfit.{headers_for, headers_in, misfit_after, setting_of}
use Rattle.directive_rules.specs.MisfitRows.{row}
use Rattle.param_areas.specs.AreaBytes.{Space}
use Rattle.image_loader.specs.Fitting.{AreasAreBehind, AreasFit, InsertsFit, IsNext}
use Rattle.image_loader.specs.Loads.{Load, areas_in, directives}
use Rattle.image_loader.proofs.AreaCalls.{AreWhole, IsWhole}
use Rattle.image_loader.proofs.AreaRules.{first_fits, insert_declared, insert_fits, new_area, param_declared, param_fits}
use Rattle.image_loader.proofs.AreasBehind.{AreasHave, CallsTell, ToldIsShown, areas_have}

-- each header of an accepted file is one of it
abbrev pub AreHeaders : Type 0
AreHeaders = (file : List ℕ) (k : ℕ) (placed : PlacedHeader) → IsAccepted file
    → slice_get (placed_headers file) k ≡ Some placed → IsHeaderOf file k placed

-- ---- lists

-- what holds at each place holds of all
all_from : {X : Type 0} (P : X → Type 0) (xs : List X) → ((k : ℕ) (x : X) → slice_get xs k ≡ Some x → P x)
    → AllByRecursion P xs
all_from P [] each = tt
all_from P (x ∷ xs) each = (each 0 x refl, all_from P xs (λ k y h. each (suc k) y h))

-- and of a front
all_front : {X : Type 0} (P : X → Type 0) (xs ys : List X) → AllByRecursion P (xs ++ ys) → AllByRecursion P xs
all_front P [] ys all = tt
all_front P (x ∷ xs) ys all = (all.0, all_front P xs ys all.1)

-- and of those that pass a test
all_kept : {X : Type 0} (P : X → Type 0) (test : X → Bool) (xs : List X) → AllByRecursion P xs
    → AllByRecursion P (filter test xs)
all_kept P test [] all = tt
all_kept P test (x ∷ xs) all =
    elim (test x) as (λ b. AllByRecursion P (cond b (x ∷ filter test xs) (filter test xs))) [
      | true ↦ (all.0, all_kept P test xs all.1)
      | false ↦ all_kept P test xs all.1
    ]

get_behind : {X : Type 0} (xs : List X) (x : X) (ys : List X) → slice_get (xs ++ x ∷ ys) (length xs) ≡ Some x
get_behind [] x ys = refl
get_behind (y ∷ xs) x ys = get_behind xs x ys

some_is : {X : Type 0} (o : Option X) → IsSome o → (x : X) × (o ≡ Some x)
some_is None h = cc
some_is (Some x) h = (x, refl)

-- ---- the areas of headers that count for a platform

same_either : (b : Bool) (entry : Option AreaEntry) → (if b then entry else entry) ≡ entry
same_either true entry = refl
same_either false entry = refl

-- a header that declares an area counts for every platform
area_counts : (h : Header) (mask : ℕ) → (if applies h mask then area_entry h else None) ≡ area_entry h
area_counts (Area bytes area offset) mask = refl
area_counts h mask = same_either (applies h mask) None

areas_of_next : (p : PlacedHeader) (rest : List PlacedHeader) (b : Bool)
    → areas_of (headers_in (cond b (p ∷ rest) rest))
    ≡ cons_option (if b then area_entry p.header else None) (areas_of (headers_in rest))
areas_of_next p rest true = refl
areas_of_next p rest false = refl

-- so those that count declare the same areas as all
areas_for : (mask : ℕ) (headers : List PlacedHeader)
    → areas_of (headers_in (headers_for mask headers)) ≡ areas_of (headers_in headers)
areas_for mask [] = refl
areas_for mask (p ∷ headers) =
    areas_of_next p (headers_for mask headers) (applies p.header mask)
    ∙ ap (λ o. cons_option o (areas_of (headers_in (headers_for mask headers)))) (area_counts p.header mask)
    ∙ ap (cons_option (area_entry p.header)) (areas_for mask headers)

found_first : (bytes : ℕ) (found more : Option AreaEntry) → option_map (λ (e : AreaEntry). e.bytes) found ≡ Some bytes
    → option_map (λ (e : AreaEntry). e.bytes) (option_or found more) ≡ Some bytes
found_first bytes None more is = cc
found_first bytes (Some entry) more is = is

-- an area has its size among more
size_among : (areas more : List AreaEntry) (area bytes : ℕ) → area_size areas area ≡ Some bytes
    → area_size (areas ++ more) area ≡ Some bytes
size_among areas more area bytes is =
    let test : AreaEntry → Bool = λ e. e.area == area in
    ap (option_map (λ (e : AreaEntry). e.bytes)) (find-append test areas more)
    ∙ found_first bytes (find test areas) (find test more) is

-- an area that some of a file's headers declare has that size among all
size_of_file : (load : Load) (headers : List Header) (more : List AreaEntry) (area bytes : ℕ)
    → areas_in load ≡ areas_of headers ++ more → area_size (areas_of headers) area ≡ Some bytes
    → unwrap_or (area_size (areas_in load) area) 0 ≡ bytes
size_of_file load headers more area bytes among is =
    ap (λ areas. unwrap_or (area_size areas area) 0) among
    ∙ ap (λ o. unwrap_or o 0) (size_among (areas_of headers) more area bytes is)

-- ---- whole areas

-- an area that keeps the rules has the bytes of its pages
header_whole : (total : ℕ) (seen : Seen) (body : List ℕ) (h : Header) (content : Data) → content ≡ data_in body h
    → KeepsRules total seen h → IsWhole h content
header_whole total seen body (Area bytes area offset) content own kept =
    let new = new_area total seen bytes area offset kept in
    let pages : content.pages ≡ bytes / 4096 = ap (λ (d : Data). d.pages) own in
    omega (arith, new.whole)
header_whole total seen body _ content own kept = tt

placed_whole : AreHeaders → (file : List ℕ) → IsAccepted file → (k : ℕ) (q : PlacedHeader)
    → slice_get (placed_headers file) k ≡ Some q → IsWhole q.header q.content
placed_whole headers file accepted k q is =
    let kept = headers file k q accepted is in
    header_whole (fixed_fields file).total (seen_of (take k (headers_of file))) (file_body file) q.header q.content
    kept.content (keeps_rules (fixed_fields file).total (seen_of (take k (headers_of file))) q.header kept.rules)

-- each area of an accepted file has the bytes of its pages
file_whole : AreHeaders → (file : List ℕ) → IsAccepted file → AreWhole (placed_headers file)
file_whole headers file accepted =
    all_from (λ (q : PlacedHeader). IsWhole q.header q.content) (placed_headers file)
    (placed_whole headers file accepted)

-- ---- by the header

-- what the areas need of a header that keeps the rules and has no misfit
areas_by : (load : Load) (plan : List PlanRange) (total : ℕ) (headers : List Header) (more : List AreaEntry)
    → (before : List Header) (space : Space) (h : Header) (content : Data) → areas_in load ≡ areas_of headers ++ more
    → KeepsRules total (seen_of headers) h → IsWhole h content → AreasHave space (areas_of headers) before
    → row (setting_of load.file load.platform plan load.host) before h ≡ None
    → sum_by declared_bytes before + declared_bytes h ≤ space.total → AreasFit load.host space h content
areas_by load plan total headers more before space (Area bytes area offset) content among kept whole have fits room =
    let new = new_area total (seen_of headers) bytes area offset kept in
    record {
      new = have.new area new.new;
      few = omega (arith, have.count, new.few);
      size = whole;
      room = omega (arith, have.total, room);
    }
areas_by load plan total headers more before space (Param kind area at) content among kept whole have fits room =
    let found = some_is (area_size (areas_of headers) area)
    (param_declared total (seen_of headers) kind area at kept) in
    let filled = param_fits (setting_of load.file load.platform plan load.host) before kind area at fits in
    let size = size_of_file load headers more area found.0 among found.1 in
    record {
      opened = have.opened area found.0 found.1 filled.kept;
      within = omega (arith, have.size area found.0 found.1, filled.within, size);
    }
areas_by load plan total headers more before space (Insert gpa mask area) content among kept whole have fits room =
    let found = some_is (area_size (areas_of headers) area)
    (insert_declared total (seen_of headers) gpa mask area kept) in
    have.opened area found.0 found.1
    (insert_fits (setting_of load.file load.platform plan load.host) before gpa mask area fits)
areas_by load plan total headers more before space _ content among kept whole have fits room = tt

-- what the machine needs of an area that such a header inserts
inserts_by : (load : Load) (plan : List PlanRange) (total : ℕ) (headers : List Header) (more : List AreaEntry)
    → (before : List Header) (space : Space) (h : Header) → areas_in load ≡ areas_of headers ++ more
    → KeepsRules total (seen_of headers) h → AreasHave space (areas_of headers) before
    → row (setting_of load.file load.platform plan load.host) before h ≡ None → InsertsFit load space h
inserts_by load plan total headers more before space (Insert gpa mask area) among kept have fits =
    let found = some_is (area_size (areas_of headers) area)
    (insert_declared total (seen_of headers) gpa mask area kept) in
    let size = size_of_file load headers more area found.0 among found.1 in
    record {
      opened = have.opened area found.0 found.1
          (insert_fits (setting_of load.file load.platform plan load.host) before gpa mask area fits);
      size = have.size area found.0 found.1 ∙ have.whole area found.0 found.1 ∙ ap (λ n. 4096 * (n / 4096)) (sym size);
    }
inserts_by load plan total headers more before space _ among kept have fits = tt

-- ---- the next header

-- What is known of the next header: it keeps the rules behind those that were gone through, and fits behind those of
-- them that count.
record NextFits (load : Load) (plan : List PlanRange) (done left : List PlacedHeader) (p : PlacedHeader)
    : Type 0 where
  pub kept : KeepsRules (fixed_fields load.file).total (seen_of (headers_in done)) p.header
  pub whole : IsWhole p.header p.content
  pub whole_before : AreWhole (headers_for load.platform.mask done)
  pub among : areas_in load ≡ areas_of (headers_in done) ++ areas_of (headers_in (p ∷ left))
  pub fits : row (setting_of load.file load.platform plan load.host) (headers_in (headers_for load.platform.mask done))
      p.header ≡ None

-- the next header counts
next_counts : (mask : ℕ) (p : PlacedHeader) (left : List PlacedHeader) → applies p.header mask ≡ true
    → headers_for mask (p ∷ left) ≡ p ∷ headers_for mask left
next_counts mask p left counts = ap (λ b. cond b (p ∷ headers_for mask left) (headers_for mask left)) counts

next_fits : AreHeaders → (load : Load) (plan : List PlanRange) (done left : List PlacedHeader) (p : PlacedHeader)
    → IsNext load plan done p left → NextFits load plan done left p
next_fits headers load plan done left p next =
    let mask = load.platform.mask in
    let total = (fixed_fields load.file).total in
    let here : slice_get (placed_headers load.file) (length done) ≡ Some p =
    ap (λ all. slice_get all (length done)) (sym next.whole) ∙ get_behind done p left in
    let is = headers load.file (length done) p next.accepted here in
    let split : headers_of load.file ≡ headers_in done ++ headers_in (p ∷ left) =
    ap headers_in (sym next.whole) ∙ map-append (λ (q : PlacedHeader). q.header) done (p ∷ left) in
    let before : take (length done) (headers_of load.file) ≡ headers_in done =
    ap (take (length done)) split
    ∙ take_at (headers_in done) (headers_in (p ∷ left)) (length done)
    (length-map done (λ (q : PlacedHeader). q.header)) in
    let is_whole : PlacedHeader → Type 0 = λ q. IsWhole q.header q.content in
    let done_whole : AreWhole done =
    all_front is_whole done (p ∷ left)
    (subst AreWhole (sym next.whole) (file_whole headers load.file next.accepted)) in
    let s = setting_of load.file load.platform plan load.host in
    record {
      kept = keeps_rules total (seen_of (headers_in done)) p.header
          (subst (λ hs. rule_fault total (seen_of hs) p.header ≡ None) before is.rules);
      whole = placed_whole headers load.file next.accepted (length done) p here;
      whole_before = all_kept is_whole (λ q. applies q.header mask) done done_whole;
      among = ap areas_of split ∙ filter_map-append area_entry (headers_in done) (headers_in (p ∷ left));
      fits = first_fits s (headers_for mask done) p (headers_for mask left)
          (subst (λ ps. misfit_after s (headers_for mask done) ps ≡ None)
          (next_counts mask p left next.counts) next.fits);
    }

-- the areas behind those that count are the ones that those gone through declare
next_have : CallsTell → ToldIsShown → (load : Load) (plan : List PlanRange) (done left : List PlacedHeader)
    → (p : PlacedHeader) (space : Space) → NextFits load plan done left p
    → AreasAreBehind load (headers_for load.platform.mask done) space
    → AreasHave space (areas_of (headers_in done)) (headers_in (headers_for load.platform.mask done))
next_have tell shown load plan done left p space next behind =
    subst (λ areas. AreasHave space areas (headers_in (headers_for load.platform.mask done)))
    (areas_for load.platform.mask done)
    (areas_have tell shown load (headers_for load.platform.mask done) space next.whole_before behind)

-- the bytes that those before it and it declare are among those of all
next_room : (load : Load) (plan : List PlanRange) (done left : List PlacedHeader) (p : PlacedHeader)
    → IsNext load plan done p left
    → sum_by declared_bytes (headers_in (headers_for load.platform.mask done)) + declared_bytes p.header
    ≤ sum_by declared_bytes (headers_in (directives load))
next_room load plan done left p next =
    let mask = load.platform.mask in
    let before = headers_for mask done in
    let after = headers_for mask left in
    let split : directives load ≡ before ++ p ∷ after =
    ap (headers_for mask) (sym next.whole)
    ∙ filter-append (λ (q : PlacedHeader). applies q.header mask) done (p ∷ left)
    ∙ ap (λ ps. before ++ ps) (next_counts mask p left next.counts) in
    let sums : sum_by declared_bytes (headers_in (directives load))
    ≡ sum_by declared_bytes (headers_in before) + sum_by declared_bytes (p.header ∷ headers_in after) =
    ap (λ ps. sum_by declared_bytes (headers_in ps)) split
    ∙ ap (sum_by declared_bytes) (map-append (λ (q : PlacedHeader). q.header) before (p ∷ after))
    ∙ sum_by-append declared_bytes (headers_in before) (p.header ∷ headers_in after) in
    omega (arith, sums, sum_by-cons declared_bytes p.header (headers_in after))

-- the areas take what the next header tells them
pub next_areas_fit : AreHeaders → CallsTell → ToldIsShown → (load : Load) (plan : List PlanRange)
    → (done left : List PlacedHeader) (p : PlacedHeader) (space : Space) → IsNext load plan done p left
    → space.total ≡ sum_by declared_bytes (headers_in (directives load))
    → AreasAreBehind load (headers_for load.platform.mask done) space → AreasFit load.host space p.header p.content
next_areas_fit headers tell shown load plan done left p space next total behind =
    let known = next_fits headers load plan done left p next in
    areas_by load plan (fixed_fields load.file).total (headers_in done) (areas_of (headers_in (p ∷ left)))
    (headers_in (headers_for load.platform.mask done)) space p.header p.content known.among known.kept known.whole
    (next_have tell shown load plan done left p space known behind) known.fits
    (omega (arith, next_room load plan done left p next, total))

-- and have the pages that it inserts
pub next_inserts_fit : AreHeaders → CallsTell → ToldIsShown → (load : Load) (plan : List PlanRange)
    → (done left : List PlacedHeader) (p : PlacedHeader) (space : Space) → IsNext load plan done p left
    → AreasAreBehind load (headers_for load.platform.mask done) space → InsertsFit load space p.header
next_inserts_fit headers tell shown load plan done left p space next behind =
    let known = next_fits headers load plan done left p next in
    inserts_by load plan (fixed_fields load.file).total (headers_in done) (areas_of (headers_in (p ∷ left)))
    (headers_in (headers_for load.platform.mask done)) space p.header known.among known.kept
    (next_have tell shown load plan done left p space known behind) known.fits
