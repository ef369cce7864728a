-- Pages put into a machine one after the other.
use Rattle.std.proofs.Common.{◌≡◌, ℕ, suc, ◌+◌, ◌*◌, ◌<◌, List, [], ◌∷◌, ◌++◌, length, map, take, drop, get_or, sym, ap, subst, ◌∙◌, arith, append_assoc, length-append, Bool, false, Option}
use Rattle.std.specs.List.{range_with_len}
use Rattle.std.proofs.lemmas.List.{append-nil, take_more, drop_more, take-append-drop, take_all, length-map}
use Rattle.std.proofs.lemmas.List.FromFn.{get_or-map-range_with_len, length-map-range_with_len}
use Rattle.igvm_headers.specs.HeaderFacts.{gpa_of}
use Rattle.igvm_headers.specs.declared.tag.Tag.{Tag}
use Rattle.igvm_image.specs.Headers.{PlacedHeader}
use Rattle.image_loader.specs.declared.carrier.Carrier as carriers
use Rattle.launch_platform.specs.Machine.{State, is_placed}
use Rattle.image_loader.specs.Loads.{Load}
use Rattle.image_loader.specs.PlacedPages.{PlacedPage, page_with, page_at, entry_of, added_by, is_extended, page_bytes}
use Rattle.image_loader.specs.LoadCommands.{Did, Stopped, state_after, page_commands, pages_commands}
use Rattle.image_loader.specs.Fitting.{AreFresh}
use Rattle.image_loader.specs.Carrying.{Placing}
use Rattle.image_loader.proofs.Carried.{did_more, stopped_after, stopped_before}
use Rattle.image_loader.proofs.Done.{with_page, pages_done}

-- the commands for two rows are those for the first, and then those for the second behind its entries
pages_commands-append : (n : ℕ) (ps qs : List PlacedPage)
    → pages_commands n (ps ++ qs) ≡ pages_commands n ps ++ pages_commands (n + length ps) qs
pages_commands-append n [] qs = let e : n ≡ n + 0 = omega arith in ap (λ m. pages_commands m qs) e
pages_commands-append n (p ∷ ps) qs =
    let e : suc n + length ps ≡ n + suc (length ps) = omega arith in
    ap (λ cs. page_commands n p ++ cs)
    (pages_commands-append (suc n) ps qs ∙ ap (λ m. pages_commands (suc n) ps ++ pages_commands m qs) e)
    ∙ sym (append_assoc (page_commands n p) (pages_commands (suc n) ps) (pages_commands (n + suc (length ps)) qs))

-- ---- a machine with the first k of a row of pages

placing_state : {C M : Type 0} (g : carriers.Ghosts C M) (qs : List PlacedPage) (k : ℕ) (a b : M)
    → Placing g qs k a b
    → g.state b ≡ record (g.state a) { entries = (g.state a).entries ++ map entry_of (take k qs) }
placing_state g qs k a b p = p.did.state ∙ pages_done (g.state a) (take k qs)

pub placing_phase : {C M : Type 0} (g : carriers.Ghosts C M) (qs : List PlacedPage) (k : ℕ) (a b : M)
    → Placing g qs k a b → (g.state b).phase ≡ (g.state a).phase
placing_phase g qs k a b p = ap (λ (s : State). s.phase) (placing_state g qs k a b p)

pub placing_kind : {C M : Type 0} (g : carriers.Ghosts C M) (qs : List PlacedPage) (k : ℕ) (a b : M)
    → Placing g qs k a b → (g.state b).kind ≡ (g.state a).kind
placing_kind g qs k a b p = ap (λ (s : State). s.kind) (placing_state g qs k a b p)

placing_slot : {C M : Type 0} (g : carriers.Ghosts C M) (qs : List PlacedPage) (k : ℕ) (a b : M)
    → Placing g qs k a b → length (g.state b).entries ≡ length (g.state a).entries + length (take k qs)
placing_slot g qs k a b p =
    ap (λ (s : State). length s.entries) (placing_state g qs k a b p)
    ∙ omega (arith, length-append (g.state a).entries (map entry_of (take k qs)), length-map (take k qs) entry_of)

front_more : (k : ℕ) (qs : List PlacedPage) (q : PlacedPage) → k < length qs → drop k qs ≡ q ∷ drop (k + 1) qs
    → take (k + 1) qs ≡ take k qs ++ q ∷ []
front_more k qs q within is =
    let e : get_or qs k q ∷ drop (k + 1) qs ≡ q ∷ drop (k + 1) qs = sym (drop_more qs k q within) ∙ is in
    let same : get_or qs k q ≡ q = cc in
    take_more qs k q within ∙ ap (λ x. take k qs ++ x ∷ []) same

-- one page more
placing_more : {C M : Type 0} (g : carriers.Ghosts C M) (qs : List PlacedPage) (k : ℕ) (q : PlacedPage) (a b c : M)
    → Placing g qs k a b → k < length qs → drop k qs ≡ q ∷ drop (k + 1) qs
    → Did g (page_commands (length (g.state b).entries) q) 1 0 b c → Placing g qs (k + 1) a c
placing_more g qs k q a b c p within is did =
    let first = length (g.state a).entries in
    let slot = length (g.state b).entries in
    let one : pages_commands slot (q ∷ []) ≡ page_commands slot q = append-nil (page_commands slot q) in
    let commands : pages_commands first (take k qs) ++ page_commands slot q ≡ pages_commands first (take (k + 1) qs) =
    ap (λ cs. pages_commands first (take k qs) ++ cs) (sym one)
    ∙ ap (λ n. pages_commands first (take k qs) ++ pages_commands n (q ∷ [])) (placing_slot g qs k a b p)
    ∙ sym (pages_commands-append first (take k qs) (q ∷ []))
    ∙ ap (pages_commands first) (sym (front_more k qs q within is)) in
    let state : g.state c ≡ with_page (g.state b) q =
    did.state ∙ ap (λ cs. state_after cs (g.state b)) (sym one) ∙ pages_done (g.state b) (q ∷ []) in
    let fresh = subst (AreFresh (g.state b).entries) is p.fresh in
    record {
      did = subst (λ cs. Did g cs (k + 1) 0 a c) commands (did_more g _ _ k 0 1 0 a b c p.did did);
      fresh = subst (λ (s : State). AreFresh s.entries (drop (k + 1) qs)) (sym state) fresh.1;
    }

-- a fault at the next page
placing_stopped : {C M : Type 0} (g : carriers.Ghosts C M) (qs : List PlacedPage) (k : ℕ) (q : PlacedPage) (a b c : M)
    → Placing g qs k a b → drop k qs ≡ q ∷ drop (k + 1) qs
    → Stopped g (page_commands (length (g.state b).entries) q) b c
    → Stopped g (pages_commands (length (g.state a).entries) qs) a c
placing_stopped g qs k q a b c p is stopped =
    let first = length (g.state a).entries in
    let slot = length (g.state b).entries in
    let rest = pages_commands (suc slot) (drop (k + 1) qs) in
    let commands : pages_commands first (take k qs) ++ (page_commands slot q ++ rest) ≡ pages_commands first qs =
    ap (λ ps. pages_commands first (take k qs) ++ pages_commands slot ps) (sym is)
    ∙ ap (λ n. pages_commands first (take k qs) ++ pages_commands n (drop k qs)) (placing_slot g qs k a b p)
    ∙ sym (pages_commands-append first (take k qs) (drop k qs))
    ∙ ap (pages_commands first) (take-append-drop k qs) in
    subst (λ cs. Stopped g cs a c) commands
    (stopped_after g _ _ k 0 a b c p.did (stopped_before g (page_commands slot q) rest b c stopped))

-- ---- a row of n pages, which are given by number

abbrev pub row : (ℕ → PlacedPage) → ℕ → List PlacedPage
row page n = map page (range_with_len 0 n)

row_here : (page : ℕ → PlacedPage) (n k : ℕ) → k < n → drop k (row page n) ≡ page k ∷ drop (k + 1) (row page n)
row_here page n k within =
    let size : length (row page n) ≡ n = length-map-range_with_len page 0 n in
    drop_more (row page n) k (page k) (omega arith)
    ∙ ap (λ q. q ∷ drop (k + 1) (row page n))
    (get_or-map-range_with_len page 0 n k k (page k) within (omega arith))

-- the next page is new
pub row_new : {C M : Type 0} (g : carriers.Ghosts C M) (page : ℕ → PlacedPage) (n k : ℕ) (a b : M)
    → Placing g (row page n) k a b → k < n → is_placed (page k).gpa (g.state b).entries ≡ false
row_new g page n k a b p within = (subst (AreFresh (g.state b).entries) (row_here page n k within) p.fresh).0

pub row_more : {C M : Type 0} (g : carriers.Ghosts C M) (page : ℕ → PlacedPage) (n k : ℕ) (q : PlacedPage) (a b c : M)
    → Placing g (row page n) k a b → k < n → q ≡ page k
    → Did g (page_commands (length (g.state b).entries) q) 1 0 b c → Placing g (row page n) (k + 1) a c
row_more g page n k q a b c p within is did =
    let size : length (row page n) ≡ n = length-map-range_with_len page 0 n in
    placing_more g (row page n) k (page k) a b c p (omega arith) (row_here page n k within)
    (subst (λ q. Did g (page_commands (length (g.state b).entries) q) 1 0 b c) is did)

pub row_stopped : {C M : Type 0} (g : carriers.Ghosts C M) (page : ℕ → PlacedPage) (n k : ℕ) (q : PlacedPage) (a b c : M)
    → Placing g (row page n) k a b → k < n → q ≡ page k
    → Stopped g (page_commands (length (g.state b).entries) q) b c
    → Stopped g (pages_commands (length (g.state a).entries) (row page n)) a c
row_stopped g page n k q a b c p within is stopped =
    placing_stopped g (row page n) k (page k) a b c p (row_here page n k within)
    (subst (λ q. Stopped g (page_commands (length (g.state b).entries) q) b c) is stopped)

-- all pages are placed
pub row_done : {C M : Type 0} (g : carriers.Ghosts C M) (page : ℕ → PlacedPage) (n k : ℕ) (a b : M)
    → Placing g (row page n) k a b → k ≡ n
    → Did g (pages_commands (length (g.state a).entries) (row page n)) n 0 a b
row_done g page n k a b p all =
    let size : length (row page n) ≡ n = length-map-range_with_len page 0 n in
    subst (λ m. Did g (pages_commands (length (g.state a).entries) (row page n)) m 0 a b) all
    (subst (λ ps. Did g (pages_commands (length (g.state a).entries) ps) k 0 a b)
    (take_all k (row page n) (omega arith)) p.did)

-- what is put in for page k of a header is that page
pub page_made : (load : Load) (area_page : ℕ → ℕ → List ℕ) (p : PlacedHeader) (t : Tag) (k gpa : ℕ) (bytes : List ℕ)
    (added : Option Tag) (extend : Bool) → gpa ≡ gpa_of p.header
    → bytes ≡ page_bytes load.host area_page p.header p.content k → added ≡ added_by load.platform.kind t
    → extend ≡ is_extended load.platform.kind t
    → page_with (gpa + 4096 * k) bytes added extend ≡ page_at load area_page p t k
page_made load area_page p t k gpa bytes added extend at same tagged measured = cc
