-- What the commands of a load leave: its pages and contexts, and what was measured of each.
use Rattle.std.proofs.Common.{◌≡◌, ℕ, suc, ◌+◌, List, [], ◌∷◌, ◌++◌, length, map, refl, sym, ap, ◌∙◌, arith, append_assoc, append-nil, length-append, Option, Some, None, Bool, true, false}
use Rattle.std.specs.Prelude.{slice_get}
use Rattle.std.specs.List.{flat_map}
use Rattle.std.proofs.lemmas.List.{length_push, length-map, map-append}
use Rattle.igvm_headers.specs.declared.tag.Tag.{Tag}
use Rattle.igvm_headers.specs.declared.platform_kind.PlatformKind.{PlatformKind}
use Rattle.igvm_image.specs.Headers.{PlacedHeader}
use Rattle.launch_platform.specs.Machine.{Entry, Context, State, LaunchRecord}
use Rattle.launch_platform.specs.Commands.{change_at, new_entry, tagged, extended, records_of_add, records_of_extend, records_of_context, of_entry}
use Rattle.image_loader.specs.FilledAreas.{filled_page}
use Rattle.image_loader.specs.Loads.{Load}
use Rattle.image_loader.specs.PlacedPages.{PlacedPage, page_with, entry_of, header_pages, header_contexts, pages_behind}
use Rattle.image_loader.specs.LoadCommands.{page_commands, pages_commands, context_commands, header_commands, commands_behind, state_after, records_by, grown}
use Rattle.image_loader.proofs.CommandsJoined.{state_after-append, records_by-append, change_at_end, slice_get_end}

-- ---- one page

-- what is measured of an entry, where it is added by a tag
abbrev pub added_records : PlatformKind → Option Tag → Entry → List LaunchRecord
added_records kind None entry = []
added_records kind (Some tag) entry = records_of_add kind tag entry

-- what is measured of an entry's bytes, where it is extended
abbrev pub extended_records : Bool → Entry → List LaunchRecord
extended_records true entry = records_of_extend entry
extended_records false entry = []

-- what is measured of a page
abbrev pub page_records : PlatformKind → PlacedPage → List LaunchRecord
page_records kind q =
    added_records kind q.tag (new_entry q.gpa q.page) ++ extended_records q.extended (new_entry q.gpa q.page)

-- the state with one more page
abbrev pub with_page : State → PlacedPage → State
with_page s q = record s { entries = s.entries ++ entry_of q ∷ [] }

-- a page is one more entry, with its tag and mark
page_done : (s : State) (gpa : ℕ) (page : List ℕ) (tag : Option Tag) (extend : Bool)
    → state_after (page_commands (length s.entries) (page_with gpa page tag extend)) s
    ≡ with_page s (page_with gpa page tag extend)
page_done s gpa page None false = refl
page_done s gpa page None true =
    ap (λ es. record s { entries = es }) (change_at_end s.entries (new_entry gpa page) extended)
page_done s gpa page (Some tag) false =
    ap (λ es. record s { entries = es }) (change_at_end s.entries (new_entry gpa page) (tagged tag))
page_done s gpa page (Some tag) true =
    ap (λ es. record s { entries = change_at (length s.entries) extended es })
    (change_at_end s.entries (new_entry gpa page) (tagged tag))
    ∙ ap (λ es. record s { entries = es }) (change_at_end s.entries (tagged tag (new_entry gpa page)) extended)

-- its bytes are measured from its own entry
page_measured : (s : State) (gpa : ℕ) (page : List ℕ) (tag : Option Tag) (extend : Bool)
    → records_by (page_commands (length s.entries) (page_with gpa page tag extend)) s
    ≡ page_records s.kind (page_with gpa page tag extend)
page_measured s gpa page None false = refl
page_measured s gpa page None true =
    ap (λ o. of_entry records_of_extend o ++ []) (slice_get_end s.entries (new_entry gpa page))
    ∙ append-nil (records_of_extend (new_entry gpa page))
page_measured s gpa page (Some tag) false =
    ap (λ o. of_entry (records_of_add s.kind tag) o ++ []) (slice_get_end s.entries (new_entry gpa page))
page_measured s gpa page (Some tag) true =
    let entry = new_entry gpa page in
    let added = change_at (length s.entries) (tagged tag) (s.entries ++ entry ∷ []) in
    let there : slice_get added (length s.entries) ≡ Some (tagged tag entry) =
    ap (λ es. slice_get es (length s.entries)) (change_at_end s.entries entry (tagged tag))
    ∙ slice_get_end s.entries (tagged tag entry) in
    let more = λ (o : Option Entry). of_entry records_of_extend o ++ [] in
    ap (λ o. of_entry (records_of_add s.kind tag) o ++ more (slice_get added (length s.entries)))
    (slice_get_end s.entries entry)
    ∙ ap (λ o. records_of_add s.kind tag entry ++ more o) there
    ∙ ap (λ rs. records_of_add s.kind tag entry ++ rs) (append-nil (records_of_extend entry))

-- the number of the entry behind it
next_slot : (s : State) (q : PlacedPage) → suc (length s.entries) ≡ length (with_page s q).entries
next_slot s q = omega (arith, length_push s.entries (entry_of q))

-- ---- pages in a row

pub pages_done : (s : State) (qs : List PlacedPage)
    → state_after (pages_commands (length s.entries) qs) s ≡ record s { entries = s.entries ++ map entry_of qs }
pages_done s [] = ap (λ es. record s { entries = es }) (sym (append-nil s.entries))
pages_done s (q ∷ qs) =
    let slot = length s.entries in
    state_after-append (page_commands slot q) (pages_commands (suc slot) qs) s
    ∙ ap (state_after (pages_commands (suc slot) qs)) (page_done s q.gpa q.page q.tag q.extended)
    ∙ ap (λ n. state_after (pages_commands n qs) (with_page s q)) (next_slot s q)
    ∙ pages_done (with_page s q) qs
    ∙ ap (λ es. record s { entries = es }) (append_assoc s.entries (entry_of q ∷ []) (map entry_of qs))

pages_measured : (s : State) (qs : List PlacedPage)
    → records_by (pages_commands (length s.entries) qs) s ≡ flat_map (page_records s.kind) qs
pages_measured s [] = refl
pages_measured s (q ∷ qs) =
    let slot = length s.entries in
    records_by-append (page_commands slot q) (pages_commands (suc slot) qs) s
    ∙ ap (λ rs. rs ++ records_by (pages_commands (suc slot) qs) (state_after (page_commands slot q) s))
    (page_measured s q.gpa q.page q.tag q.extended)
    ∙ ap (λ t. page_records s.kind q ++ records_by (pages_commands (suc slot) qs) t)
    (page_done s q.gpa q.page q.tag q.extended)
    ∙ ap (λ n. page_records s.kind q ++ records_by (pages_commands n qs) (with_page s q)) (next_slot s q)
    ∙ ap (λ rs. page_records s.kind q ++ rs) (pages_measured (with_page s q) qs)

-- ---- contexts

-- what is measured of a context
abbrev pub context_records : PlatformKind → Context → List LaunchRecord
context_records kind c = records_of_context kind c.gpa c.page

contexts_done : (s : State) (cs : List Context)
    → state_after (context_commands cs) s ≡ record s { contexts = s.contexts ++ cs }
contexts_done s [] = ap (λ cs. record s { contexts = cs }) (sym (append-nil s.contexts))
contexts_done s (c ∷ cs) =
    contexts_done (record s { contexts = s.contexts ++ c ∷ [] }) cs
    ∙ ap (λ cs. record s { contexts = cs }) (append_assoc s.contexts (c ∷ []) cs)

contexts_measured : (s : State) (cs : List Context)
    → records_by (context_commands cs) s ≡ flat_map (context_records s.kind) cs
contexts_measured s [] = refl
contexts_measured s (c ∷ cs) =
    ap (λ rs. context_records s.kind c ++ rs) (contexts_measured (record s { contexts = s.contexts ++ c ∷ [] }) cs)

-- ---- a header

-- what is measured of a header's pages and context
abbrev pub header_records : PlatformKind → Load → (ℕ → ℕ → List ℕ) → PlacedHeader → List LaunchRecord
header_records kind load area_page p =
    flat_map (page_records kind) (header_pages load area_page p) ++ flat_map (context_records kind) (header_contexts p)

-- a header's pages and context are in the machine
pub header_done : (load : Load) (area_page : ℕ → ℕ → List ℕ) (p : PlacedHeader) (s : State)
    → state_after (header_commands load area_page (length s.entries) p) s
    ≡ grown s (map entry_of (header_pages load area_page p)) (header_contexts p)
header_done load area_page p s =
    let qs = header_pages load area_page p in
    state_after-append (pages_commands (length s.entries) qs) (context_commands (header_contexts p)) s
    ∙ ap (state_after (context_commands (header_contexts p))) (pages_done s qs)
    ∙ contexts_done (record s { entries = s.entries ++ map entry_of qs }) (header_contexts p)

-- and they are what it has measured
header_measured : (load : Load) (area_page : ℕ → ℕ → List ℕ) (p : PlacedHeader) (s : State)
    → records_by (header_commands load area_page (length s.entries) p) s ≡ header_records s.kind load area_page p
header_measured load area_page p s =
    let qs = header_pages load area_page p in
    let commands = pages_commands (length s.entries) qs in
    records_by-append commands (context_commands (header_contexts p)) s
    ∙ ap (λ rs. rs ++ records_by (context_commands (header_contexts p)) (state_after commands s)) (pages_measured s qs)
    ∙ ap (λ rs. flat_map (page_records s.kind) qs ++ rs)
    (contexts_measured (state_after commands s) (header_contexts p)
    ∙ ap (λ (t : State). flat_map (context_records t.kind) (header_contexts p)) (pages_done s qs))

-- how many entries there are behind a header
pub slot_after : (s : State) (qs : List PlacedPage) (cs : List Context)
    → length s.entries + length qs ≡ length (grown s (map entry_of qs) cs).entries
slot_after s qs cs = omega (arith, length-append s.entries (map entry_of qs), length-map qs entry_of)

-- ---- all headers

-- the pages and contexts of all headers are in the machine
pub all_done : (load : Load) (before ps : List PlacedHeader) (s : State)
    → state_after (commands_behind load (length s.entries) before ps) s
    ≡ grown s (map entry_of (pages_behind load before ps)) (flat_map header_contexts ps)
all_done load before [] s =
    ap (λ es. record s { entries = es; contexts = s.contexts }) (sym (append-nil s.entries))
    ∙ ap (λ cs. record s { entries = s.entries ++ []; contexts = cs }) (sym (append-nil s.contexts))
all_done load before (p ∷ ps) s =
    let area_page = filled_page load.host before in
    let qs = header_pages load area_page p in
    let rest = pages_behind load (before ++ p ∷ []) ps in
    let t = grown s (map entry_of qs) (header_contexts p) in
    let left = λ (slot : ℕ). commands_behind load slot (before ++ p ∷ []) ps in
    state_after-append (header_commands load area_page (length s.entries) p) (left (length s.entries + length qs)) s
    ∙ ap (state_after (left (length s.entries + length qs))) (header_done load area_page p s)
    ∙ ap (λ n. state_after (left n) t) (slot_after s qs (header_contexts p))
    ∙ all_done load (before ++ p ∷ []) ps t
    ∙ ap (λ es. record s { entries = es; contexts = (s.contexts ++ header_contexts p) ++ flat_map header_contexts ps })
    (append_assoc s.entries (map entry_of qs) (map entry_of rest)
    ∙ ap (λ es. s.entries ++ es) (sym (map-append entry_of qs rest)))
    ∙ ap (λ cs. record s { entries = s.entries ++ map entry_of (qs ++ rest); contexts = cs })
    (append_assoc s.contexts (header_contexts p) (flat_map header_contexts ps))

-- what is measured of headers that follow those before them
abbrev pub records_behind : PlatformKind → Load → List PlacedHeader → List PlacedHeader → List LaunchRecord
records_behind kind load before [] = []
records_behind kind load before (p ∷ ps) =
    header_records kind load (filled_page load.host before) p ++ records_behind kind load (before ++ p ∷ []) ps

-- and they are what it has measured
pub all_measured : (load : Load) (before ps : List PlacedHeader) (s : State)
    → records_by (commands_behind load (length s.entries) before ps) s ≡ records_behind s.kind load before ps
all_measured load before [] s = refl
all_measured load before (p ∷ ps) s =
    let area_page = filled_page load.host before in
    let qs = header_pages load area_page p in
    let t = grown s (map entry_of qs) (header_contexts p) in
    let first = header_commands load area_page (length s.entries) p in
    let left = λ (slot : ℕ). commands_behind load slot (before ++ p ∷ []) ps in
    records_by-append first (left (length s.entries + length qs)) s
    ∙ ap (λ u. records_by first s ++ records_by (left (length s.entries + length qs)) u)
    (header_done load area_page p s)
    ∙ ap (λ n. records_by first s ++ records_by (left n) t) (slot_after s qs (header_contexts p))
    ∙ ap (λ rs. records_by first s ++ rs) (all_measured load (before ++ p ∷ []) ps t)
    ∙ ap (λ rs. rs ++ records_behind s.kind load (before ++ p ∷ []) ps) (header_measured load area_page p s)
