-- Headers set side by side by steps: areas have the same sizes on both sides, and headers place as many pages.
use Rattle.std.proofs.Common.{◌≡◌, ℕ, ◌/◌, ◌==◌, List, [], ◌∷◌, refl, sym, ◌∙◌, ap, Option, Some, Bool, true, false, cond, find, option_map, unwrap_or}
use Rattle.std.specs.List.{cons_option}
use Rattle.igvm_headers.specs.HeaderFacts.{with_offset}
use Rattle.igvm_headers.specs.declared.header.Header.{Header}
use Rattle.igvm_headers.specs.declared.header.Header.TheVariants.{Area, Insert}
use Rattle.platform_masks.specs.Masks.{applies}
use Rattle.igvm_image.specs.declared.area_table.AreaEntry.{AreaEntry}
use Rattle.igvm_image.specs.Areas.{area_entry, areas_of, area_size, placed_pages}
use Rattle.igvm_image.specs.Headers.{PlacedHeader}
use Rattle.directive_rules.specs.FirstMisfit.{headers_in}
use Rattle.list_changes.specs.Changes.{changed, with_digest}
use Rattle.launch_likeness.proofs.Steps.{Step, Both, Gone, Come, firsts, seconds, Change, KeepsApart, NamesOwn, IsSame, IsForeign, AreSteps}

-- a header with another mask, place of its data and wanted digest, and another name of its area
abbrev pub renewed : ℕ → ℕ → List ℕ → (ℕ → ℕ) → Header → Header
renewed offset mask wanted area_to h = with_offset offset (changed (λ old. mask) area_to (with_digest wanted h))

-- ---- one header before areas

-- the size of an area, where a header stands before those that declare the others
abbrev size_behind : Header → List AreaEntry → ℕ → Option ℕ
size_behind h areas x = area_size (cons_option (area_entry h) areas) x

-- a first entry that is the one looked for on both sides, or on neither
entry_same : (b : Bool) (e f : AreaEntry) (u v : Option AreaEntry) → e.bytes ≡ f.bytes
    → option_map (λ (entry : AreaEntry). entry.bytes) u ≡ option_map (λ (entry : AreaEntry). entry.bytes) v
    → option_map (λ (entry : AreaEntry). entry.bytes) (cond b (Some e) u) ≡ option_map (λ (entry : AreaEntry). entry.bytes) (cond b (Some f) v)
entry_same true e f u v bytes others = ap Some bytes
entry_same false e f u v bytes others = others

both_size : (ch : Change) → KeepsApart ch → (offset mask : ℕ) (wanted : List ℕ) (h : Header) → NamesOwn ch.own h
    → (x : ℕ) → ch.own x ≡ true → (es fs : List AreaEntry) → area_size fs (ch.area_to x) ≡ area_size es x
    → size_behind (renewed offset mask wanted ch.area_to h) fs (ch.area_to x) ≡ size_behind h es x
both_size ch apart offset mask wanted (Area bytes area at) named x own es fs others =
    let e : AreaEntry = record { area = ch.area_to area; bytes = bytes } in
    let f : AreaEntry = record { area = area; bytes = bytes } in
    let u : Option AreaEntry = find (λ (entry : AreaEntry). entry.area == ch.area_to x) fs in
    let v : Option AreaEntry = find (λ (entry : AreaEntry). entry.area == x) es in
    ap (λ (b : Bool). option_map (λ (entry : AreaEntry). entry.bytes) (cond b (Some e) u)) (apart x area own named)
    ∙ entry_same (area == x) e f u v refl others
both_size ch apart offset mask wanted h named x own es fs others = others

gone_size : (old : ℕ) (h : Header) → applies h old ≡ false → (es : List AreaEntry) (x : ℕ) → size_behind h es x ≡ area_size es x
gone_size old (Area bytes area at) not_here es x = cc
gone_size old h not_here es x = refl

come_size : (ch : Change) (h : Header) → IsForeign ch h → (x : ℕ) → ch.own x ≡ true → (fs : List AreaEntry)
    → size_behind h fs (ch.area_to x) ≡ area_size fs (ch.area_to x)
come_size ch (Area bytes area at) other x own fs =
    let e : AreaEntry = record { area = area; bytes = bytes } in
    let u : Option AreaEntry = find (λ (entry : AreaEntry). entry.area == ch.area_to x) fs in
    ap (λ (b : Bool). option_map (λ (entry : AreaEntry). entry.bytes) (cond b (Some e) u)) (other x own)
come_size ch h other x own fs = refl

-- ---- all headers

pub sizes_same : (ch : Change) → KeepsApart ch → (steps : List Step) → AreSteps ch steps → (x : ℕ) → ch.own x ≡ true
    → area_size (areas_of (headers_in (seconds steps))) (ch.area_to x) ≡ area_size (areas_of (headers_in (firsts steps))) x
sizes_same ch apart [] are x own = refl
sizes_same ch apart (Both p q ∷ steps) are x own =
    let es : List AreaEntry = areas_of (headers_in (firsts steps)) in
    let fs : List AreaEntry = areas_of (headers_in (seconds steps)) in
    ap (λ (h : Header). size_behind h fs (ch.area_to x)) are.0.header
    ∙ both_size ch apart are.0.offset are.0.mask are.0.wanted p.header are.0.named x own es fs (sizes_same ch apart steps are.1 x own)
sizes_same ch apart (Gone p ∷ steps) are x own =
    sizes_same ch apart steps are.1 x own
    ∙ sym (gone_size ch.old p.header are.0 (areas_of (headers_in (firsts steps))) x)
sizes_same ch apart (Come q ∷ steps) are x own =
    come_size ch q.header are.0 x own (areas_of (headers_in (seconds steps)))
    ∙ sizes_same ch apart steps are.1 x own

-- a header places as many pages where its area has the same size
pages_at : (ch : Change) (offset mask : ℕ) (wanted : List ℕ) (es fs : List AreaEntry)
    → ((x : ℕ) → ch.own x ≡ true → area_size fs (ch.area_to x) ≡ area_size es x)
    → (h : Header) → NamesOwn ch.own h → placed_pages fs (renewed offset mask wanted ch.area_to h) ≡ placed_pages es h
pages_at ch offset mask wanted es fs sizes (Insert gpa mask' area) named =
    ap (λ (size : Option ℕ). unwrap_or size 0 / 4096) (sizes area named)
pages_at ch offset mask wanted es fs sizes h named = refl

pub pages_same : (ch : Change) → KeepsApart ch → (steps : List Step) → AreSteps ch steps → (p q : PlacedHeader) → IsSame ch p q
    → placed_pages (areas_of (headers_in (seconds steps))) q.header ≡ placed_pages (areas_of (headers_in (firsts steps))) p.header
pages_same ch apart steps are p q same =
    let es : List AreaEntry = areas_of (headers_in (firsts steps)) in
    let fs : List AreaEntry = areas_of (headers_in (seconds steps)) in
    ap (placed_pages fs) same.header
    ∙ pages_at ch same.offset same.mask same.wanted es fs (sizes_same ch apart steps are) p.header same.named
