-- What a SEV or SEV-ES machine holds where a load was cut short, and where all its commands were carried out.
use Rattle.std.proofs.Common.{◌≡◌, ℕ, zero, suc, ◌+◌, inl, inr, List, [], ◌∷◌, ◌++◌, length, map, take, refl, sym, ap, ◌∙◌, subst, arith, append_assoc, append-nil, Option, Some, None, Bool, true, false}
use Rattle.std.specs.Prelude.{is_some}
use Rattle.std.specs.List.{flat_map, range_with_len, AllByRecursion}
use Rattle.std.proofs.lemmas.List.{length_push}
use Rattle.igvm_headers.specs.declared.platform_kind.PlatformKind.{PlatformKind}
use Rattle.igvm_headers.specs.declared.tag.Tag.{Tag}
use Rattle.directive_rules.specs.Tags.{tag_of}
use Rattle.igvm_image.specs.Areas.{placed_pages}
use Rattle.igvm_image.specs.Headers.{PlacedHeader}
use Rattle.launch_platform.specs.declared.phase.Phase.TheVariants.{Loading}
use Rattle.launch_platform.specs.Machine.{Entry, Context, State, started}
use Rattle.launch_platform.specs.Commands.{Command, AddContext, after_command, new_entry}
use Rattle.image_loader.specs.FilledAreas.{filled_page}
use Rattle.image_loader.specs.Loads.{Load, areas_in, directives}
use Rattle.image_loader.specs.PlacedPages.{PlacedPage, page_with, entry_of, is_extended, page_at, tagged_pages, header_pages, pages_behind, placed, header_contexts, contexts}
use Rattle.image_loader.specs.LoadCommands.{page_commands, pages_commands, context_commands, header_commands, commands_behind, commands, state_after, grown}
use Rattle.sev_chain.specs.SevBytes.{HasSevDigest}
use Rattle.sev_platform.specs.SevMachine.{SevPage, SevState}
use Rattle.sev_loader.specs.SevPlaced.{sev_page, sev_placed}
use Rattle.sev_loader.specs.SevAsLaunch.{as_entry, as_state}
use Rattle.sev_loader.specs.SevLoading.{AreFirst, IsCutShort}
use Rattle.image_loader.proofs.Done.{with_page, pages_done, header_done, slot_after}

-- ---- fronts of commands

-- what holds behind each front of two rows of commands, where it holds behind each front of either
fronts : (P : State → Type 0) (cs ds : List Command) (s : State) (n : ℕ)
    → ((m : ℕ) → P (state_after (take m cs) s))
    → ((m : ℕ) → P (state_after (take m ds) (state_after cs s)))
    → P (state_after (take n (cs ++ ds)) s)
fronts P [] ds s n first second = second n
fronts P (c ∷ cs) ds s zero first second = first zero
fronts P (c ∷ cs) ds s (suc n) first second =
    fronts P cs ds (after_command c s) n (λ m. first (suc m)) second

-- ---- the first pages and contexts

-- the entries of the first k of these pages, and behind them, where it is half done, the next as it was placed
abbrev first_entries : ℕ → Bool → List PlacedPage → List Entry
first_entries zero false qs = []
first_entries zero true [] = []
first_entries zero true (q ∷ qs) = new_entry q.gpa q.page ∷ []
first_entries (suc k) half [] = []
first_entries (suc k) half (q ∷ qs) = entry_of q ∷ first_entries k half qs

-- A machine has, behind what it had, the first of these pages, of which the last may be half done, and contexts.
record Begun (qs : List PlacedPage) (cs : List Context) (s t : State) : Type 0 where
  pages : ℕ
  half : Bool
  added : ℕ
  state : t ≡ grown s (first_entries pages half qs) (take added cs)

-- no page of these is extended
abbrev AreNotExtended : List PlacedPage → Type 0
AreNotExtended qs = AllByRecursion (λ q. q.extended ≡ false) qs

-- all of them
all_entries : (qs : List PlacedPage) → first_entries (length qs) false qs ≡ map entry_of qs
all_entries [] = refl
all_entries (q ∷ qs) = ap (λ es. entry_of q ∷ es) (all_entries qs)

-- the first of some pages are the first of more
more_entries : (k : ℕ) (half : Bool) (qs rs : List PlacedPage)
    → (m : ℕ) × (h : Bool) × (first_entries k half qs ≡ first_entries m h (qs ++ rs))
more_entries zero false qs rs = (zero, false, refl)
more_entries zero true [] rs = (zero, false, refl)
more_entries zero true (q ∷ qs) rs = (zero, true, refl)
more_entries (suc k) half [] rs = (zero, false, refl)
more_entries (suc k) half (q ∷ qs) rs =
    let more = more_entries k half qs rs in
    (suc more.0, more.1, ap (λ es. entry_of q ∷ es) more.2)

-- all of some pages and the first of those behind them are the first of both
behind_entries : (k : ℕ) (half : Bool) (qs rs : List PlacedPage)
    → (m : ℕ) × (map entry_of qs ++ first_entries k half rs ≡ first_entries m half (qs ++ rs))
behind_entries k half [] rs = (k, refl)
behind_entries k half (q ∷ qs) rs =
    let behind = behind_entries k half qs rs in
    (suc behind.0, ap (λ es. entry_of q ∷ es) behind.1)

-- the same of contexts
more_contexts : (n : ℕ) (cs ds : List Context) → (m : ℕ) × (take n cs ≡ take m (cs ++ ds))
more_contexts zero cs ds = (zero, refl)
more_contexts (suc n) [] ds = (zero, refl)
more_contexts (suc n) (c ∷ cs) ds =
    let more = more_contexts n cs ds in
    (suc more.0, ap (λ xs. c ∷ xs) more.1)

behind_contexts : (n : ℕ) (cs ds : List Context) → (m : ℕ) × (cs ++ take n ds ≡ take m (cs ++ ds))
behind_contexts n [] ds = (n, refl)
behind_contexts n (c ∷ cs) ds =
    let behind = behind_contexts n cs ds in
    (suc behind.0, ap (λ xs. c ∷ xs) behind.1)

-- what is begun of some is begun of more
begun_more : (qs rs : List PlacedPage) (cs ds : List Context) (s t : State)
    → Begun qs cs s t → Begun (qs ++ rs) (cs ++ ds) s t
begun_more qs rs cs ds s t b =
    let es = more_entries b.pages b.half qs rs in
    let xs = more_contexts b.added cs ds in
    record {
      pages = es.0;
      half = es.1;
      added = xs.0;
      state = b.state ∙ ap (λ l. grown s l (take b.added cs)) es.2
          ∙ ap (λ l. grown s (first_entries es.0 es.1 (qs ++ rs)) l) xs.1;
    }

-- what is begun behind all of some is begun of both
begun_behind : (qs rs : List PlacedPage) (cs ds : List Context) (s t : State)
    → Begun rs ds (grown s (map entry_of qs) cs) t → Begun (qs ++ rs) (cs ++ ds) s t
begun_behind qs rs cs ds s t b =
    let es = behind_entries b.pages b.half qs rs in
    let xs = behind_contexts b.added cs ds in
    let more = first_entries b.pages b.half rs in
    record {
      pages = es.0;
      half = b.half;
      added = xs.0;
      state = b.state
          ∙ ap (λ l. record s { entries = l; contexts = (s.contexts ++ cs) ++ take b.added ds })
          (append_assoc s.entries (map entry_of qs) more ∙ ap (λ l. s.entries ++ l) es.1)
          ∙ ap (λ l. record s { entries = s.entries ++ first_entries es.0 b.half (qs ++ rs); contexts = l })
          (append_assoc s.contexts cs (take b.added ds) ∙ ap (λ l. s.contexts ++ l) xs.1);
    }

-- a machine as it was has begun nothing
nothing_begun : (qs : List PlacedPage) (cs : List Context) (s : State) → Begun qs cs s s
nothing_begun qs cs s = record {
  pages = zero;
  half = false;
  added = zero;
  state = sym (ap (λ es. record s { entries = es; contexts = s.contexts ++ [] }) (append-nil s.entries)
      ∙ ap (λ xs. record s { contexts = xs }) (append-nil s.contexts));
}

-- ---- one page

-- what is begun stays so at an equal state
begun_at : (qs : List PlacedPage) (cs : List Context) (s : State) {t u : State}
    → t ≡ u → Begun qs cs s u → Begun qs cs s t
begun_at qs cs s is b = record { pages = b.pages; half = b.half; added = b.added; state = is ∙ b.state }

-- a lone entry is the first of these pages
entry_begun : (k : ℕ) (half : Bool) (qs : List PlacedPage) (cs : List Context) (s : State) (e : Entry)
    → first_entries k half qs ≡ e ∷ [] → Begun qs cs s (record s { entries = s.entries ++ e ∷ [] })
entry_begun k half qs cs s e is = record {
  pages = k;
  half = half;
  added = zero;
  state = sym (ap (λ es. grown s es []) is
      ∙ ap (λ xs. record s { entries = s.entries ++ e ∷ []; contexts = xs }) (append-nil s.contexts));
}

-- all commands of a page
page_done : (s : State) (q : PlacedPage) → state_after (page_commands (length s.entries) q) s ≡ with_page s q
page_done s q =
    ap (λ cs. state_after cs s) (sym (append-nil (page_commands (length s.entries) q))) ∙ pages_done s (q ∷ [])

-- all commands of a page that is added begin it whole
added_begun : (s : State) (gpa : ℕ) (page : List ℕ) (tag : Tag) (qs : List PlacedPage) (cs : List Context)
    → Begun (page_with gpa page (Some tag) false ∷ qs) cs s
    (state_after (page_commands (length s.entries) (page_with gpa page (Some tag) false)) s)
added_begun s gpa page tag qs cs =
    let q = page_with gpa page (Some tag) false in
    begun_at (q ∷ qs) cs s (page_done s q) (entry_begun 1 false (q ∷ qs) cs s (entry_of q) refl)

-- a page that is not extended is in the machine as it was placed, and then with its tag
page_begun : (s : State) (gpa : ℕ) (page : List ℕ) (tag : Option Tag) (qs : List PlacedPage) (cs : List Context)
    → (n : ℕ)
    → Begun (page_with gpa page tag false ∷ qs) cs s
    (state_after (take n (page_commands (length s.entries) (page_with gpa page tag false))) s)
page_begun s gpa page tag qs cs zero = nothing_begun (page_with gpa page tag false ∷ qs) cs s
page_begun s gpa page tag qs cs (suc zero) =
    entry_begun 0 true (page_with gpa page tag false ∷ qs) cs s (new_entry gpa page) refl
page_begun s gpa page None qs cs (suc (suc n)) =
    entry_begun 0 true (page_with gpa page None false ∷ qs) cs s (new_entry gpa page) refl
page_begun s gpa page (Some tag) qs cs (suc (suc zero)) = added_begun s gpa page tag qs cs
page_begun s gpa page (Some tag) qs cs (suc (suc (suc n))) = added_begun s gpa page tag qs cs

-- the number of the entry behind a page
next_slot : (s : State) (q : PlacedPage) → suc (length s.entries) ≡ length (with_page s q).entries
next_slot s q = omega (arith, length_push s.entries (entry_of q))

-- ---- pages in a row

-- the same of a page whose mark is known
page_begun_of : (s : State) (q : PlacedPage) (qs : List PlacedPage) (cs : List Context) (n : ℕ)
    → q.extended ≡ false
    → Begun (q ∷ qs) cs s (state_after (take n (page_commands (length s.entries) q)) s)
page_begun_of s q qs cs n h =
    subst (λ (r : PlacedPage). Begun (r ∷ qs) cs s (state_after (take n (page_commands (length s.entries) r)) s))
    (sym (ap (page_with q.gpa q.page q.tag) h)) (page_begun s q.gpa q.page q.tag qs cs n)

-- what is begun behind a page is begun with it
begun_next : (q : PlacedPage) (qs : List PlacedPage) (cs : List Context) (s t : State)
    → Begun qs cs (with_page s q) t → Begun (q ∷ qs) cs s t
begun_next q qs cs s t b = record {
  pages = suc b.pages;
  half = b.half;
  added = b.added;
  state = b.state
      ∙ ap (λ es. record s { entries = es; contexts = s.contexts ++ take b.added cs })
      (append_assoc s.entries (entry_of q ∷ []) (first_entries b.pages b.half qs));
}

-- the commands of pages begin them in order
pages_begun : (s : State) (qs : List PlacedPage) (cs : List Context) (n : ℕ) → AreNotExtended qs
    → Begun qs cs s (state_after (take n (pages_commands (length s.entries) qs)) s)
pages_begun s [] cs zero h = nothing_begun [] cs s
pages_begun s [] cs (suc n) h = nothing_begun [] cs s
pages_begun s (q ∷ qs) cs n h =
    let slot = length s.entries in
    fronts (λ t. Begun (q ∷ qs) cs s t) (page_commands slot q) (pages_commands (suc slot) qs) s n
    (λ m. page_begun_of s q qs cs m h.0)
    (λ m. begun_at (q ∷ qs) cs s
    (ap (state_after (take m (pages_commands (suc slot) qs))) (page_done s q)
    ∙ ap (λ k. state_after (take m (pages_commands k qs)) (with_page s q)) (next_slot s q))
    (begun_next q qs cs s _ (pages_begun (with_page s q) qs cs m h.1)))

-- ---- contexts

contexts_done : (s : State) (cs : List Context)
    → state_after (context_commands cs) s ≡ record s { contexts = s.contexts ++ cs }
contexts_done s [] = ap (λ cs. record s { contexts = cs }) (sym (append-nil s.contexts))
contexts_done s (c ∷ cs) =
    contexts_done (record s { contexts = s.contexts ++ c ∷ [] }) cs
    ∙ ap (λ cs. record s { contexts = cs }) (append_assoc s.contexts (c ∷ []) cs)

-- a front of these commands is those of a front of the contexts
context_front : (n : ℕ) (cs : List Context) → take n (context_commands cs) ≡ context_commands (take n cs)
context_front zero cs = refl
context_front (suc n) [] = refl
context_front (suc n) (c ∷ cs) = ap (λ l. AddContext c.vp c.gpa c.page ∷ l) (context_front n cs)

-- behind all pages the commands of contexts begin these in order
contexts_begun : (s : State) (qs : List PlacedPage) (cs : List Context) (n : ℕ)
    → Begun qs cs s
    (state_after (take n (context_commands cs)) (record s { entries = s.entries ++ map entry_of qs }))
contexts_begun s qs cs n =
    let t : State = record s { entries = s.entries ++ map entry_of qs } in
    record {
      pages = length qs;
      half = false;
      added = n;
      state = ap (λ l. state_after l t) (context_front n cs) ∙ contexts_done t (take n cs)
          ∙ ap (λ es. grown s es (take n cs)) (sym (all_entries qs));
    }

-- ---- a header

-- SEV and SEV-ES machines have no such command
not_extended : (kind : PlatformKind) (tag : Tag) → HasSevDigest kind → is_extended kind tag ≡ false
not_extended kind tag (inl is) = rw is
not_extended kind tag (inr is) = rw is

tagged_not_extended : (load : Load) (area_page : ℕ → ℕ → List ℕ) (p : PlacedHeader) (tag : Tag) (ks : List ℕ)
    → HasSevDigest load.platform.kind → AreNotExtended (map (page_at load area_page p tag) ks)
tagged_not_extended load area_page p tag [] sev = tt
tagged_not_extended load area_page p tag (k ∷ ks) sev =
    (not_extended load.platform.kind tag sev, tagged_not_extended load area_page p tag ks sev)

header_not_extended : (load : Load) (area_page : ℕ → ℕ → List ℕ) (p : PlacedHeader)
    → HasSevDigest load.platform.kind → AreNotExtended (header_pages load area_page p)
unfolding header_pages
header_not_extended load area_page p sev = cases (tag_of p.header load.platform.kind load.options)
  where
    cases : (tag : Option Tag)
        → AreNotExtended (tagged_pages load area_page p tag (placed_pages (areas_in load) p.header))
    cases None = tt
    cases (Some tag) =
        tagged_not_extended load area_page p tag (range_with_len 0 (placed_pages (areas_in load) p.header)) sev

-- the commands of a header begin its pages and contexts
header_begun : (load : Load) (area_page : ℕ → ℕ → List ℕ) (p : PlacedHeader) (s : State) (n : ℕ)
    → HasSevDigest load.platform.kind
    → Begun (header_pages load area_page p) (header_contexts p) s
    (state_after (take n (header_commands load area_page (length s.entries) p)) s)
header_begun load area_page p s n sev =
    let qs = header_pages load area_page p in
    let cs = header_contexts p in
    let plain = header_not_extended load area_page p sev in
    fronts (λ t. Begun qs cs s t) (pages_commands (length s.entries) qs) (context_commands cs) s n
    (λ m. pages_begun s qs cs m plain)
    (λ m. begun_at qs cs s (ap (state_after (take m (context_commands cs))) (pages_done s qs))
    (contexts_begun s qs cs m))

-- ---- all headers

-- and those of headers that follow those before them begin theirs
all_begun : (load : Load) (before ps : List PlacedHeader) (s : State) (n : ℕ) → HasSevDigest load.platform.kind
    → Begun (pages_behind load before ps) (flat_map header_contexts ps) s
    (state_after (take n (commands_behind load (length s.entries) before ps)) s)
all_begun load before [] s zero sev = nothing_begun [] [] s
all_begun load before [] s (suc n) sev = nothing_begun [] [] s
all_begun load before (p ∷ ps) s n sev =
    let area_page = filled_page load.host before in
    let qs = header_pages load area_page p in
    let cs = header_contexts p in
    let rest = pages_behind load (before ++ p ∷ []) ps in
    let others = flat_map header_contexts ps in
    let t = grown s (map entry_of qs) cs in
    let left = λ (slot : ℕ). commands_behind load slot (before ++ p ∷ []) ps in
    let slot = length s.entries + length qs in
    fronts (λ u. Begun (qs ++ rest) (cs ++ others) s u) (header_commands load area_page (length s.entries) p)
    (left slot) s n
    (λ m. begun_more qs rest cs others s _ (header_begun load area_page p s m sev))
    (λ m. begun_at (qs ++ rest) (cs ++ others) s
    (ap (state_after (take m (left slot))) (header_done load area_page p s)
    ∙ ap (λ k. state_after (take m (left k)) t) (slot_after s qs cs))
    (begun_behind qs rest cs others s _ (all_begun load (before ++ p ∷ []) ps t m sev)))

-- ---- as the machine has them

-- the page of an entry
abbrev sev_of : Entry → SevPage
sev_of e = record { gpa = e.gpa; page = e.page; measured = is_some e.tag }

sev_of_entry : (gpa : ℕ) (page : List ℕ) (measured : Bool)
    → sev_of (as_entry (record { gpa = gpa; page = page; measured = measured }))
    ≡ record { gpa = gpa; page = page; measured = measured }
sev_of_entry gpa page true = refl
sev_of_entry gpa page false = refl

-- the pages are those of their entries
sev_entries : (es : List SevPage) → es ≡ map sev_of (map as_entry es)
sev_entries [] = refl
sev_entries (e ∷ es) =
    ap (λ l. e ∷ l) (sev_entries es)
    ∙ ap (λ (f : SevPage). f ∷ map sev_of (map as_entry es)) (sym (sev_of_entry e.gpa e.page e.measured))

-- what is placed, as the image has it
sev_placed_entries : (qs : List PlacedPage) → map sev_of (map entry_of qs) ≡ map sev_page qs
sev_placed_entries [] = refl
sev_placed_entries (q ∷ qs) = ap (λ l. sev_page q ∷ l) (sev_placed_entries qs)

-- one more page before both
next_first : (e : SevPage) (es all : List SevPage) → AreFirst es all → AreFirst (e ∷ es) (e ∷ all)
next_first e es all (n, inl is) = (suc n, inl (ap (λ l. e ∷ l) is))
next_first e es all (n, inr (last, there, is)) = (suc n, inr (last, there, ap (λ l. e ∷ l) is))

-- they are the first pages of the image, of which the last may not be measured yet
are_first : (k : ℕ) (half : Bool) (qs : List PlacedPage)
    → AreFirst (map sev_of (first_entries k half qs)) (map sev_page qs)
are_first zero false qs = (0, inl refl)
are_first zero true [] = (0, inl refl)
are_first zero true (q ∷ qs) = (0, inr (sev_page q, refl, refl))
are_first (suc k) half [] = (0, inl refl)
are_first (suc k) half (q ∷ qs) =
    next_first (sev_page q) (map sev_of (first_entries k half qs)) (map sev_page qs) (are_first k half qs)

-- a machine that has carried out a front of the commands of a load was cut short in it
pub cut_short : (load : Load) → HasSevDigest load.platform.kind → (n : ℕ) → (s : SevState)
    → as_state s ≡ state_after (take n (commands load)) (started load.platform.kind) → IsCutShort load s
cut_short load sev n s is =
    let b = all_begun load [] (directives load) (started load.platform.kind) n sev in
    let all = is ∙ b.state in
    let es = first_entries b.pages b.half (placed load) in
    let entries : s.entries ≡ map sev_of es =
    sev_entries s.entries ∙ ap (λ (t : State). map sev_of t.entries) all in
    record {
      kind = ap (λ (t : State). t.kind) all;
      phase = ap (λ (t : State). t.phase) all;
      entries = subst (λ (l : List SevPage). AreFirst l (sev_placed load)) (sym entries)
          (are_first b.pages b.half (placed load));
      contexts = (b.added, ap (λ (t : State). t.contexts) all);
      digest = ap (λ (t : State). t.digest) all;
    }

-- a machine that has carried out all of them has exactly the pages and contexts that the image places
pub loaded_whole : (load : Load) (s : SevState)
    → as_state s ≡ grown (started load.platform.kind) (map entry_of (placed load)) (contexts load)
    → (s.entries ≡ sev_placed load) × (s.contexts ≡ contexts load) × (s.kind ≡ load.platform.kind)
    × (s.phase ≡ Loading)
loaded_whole load s is = (
  sev_entries s.entries ∙ ap (λ (t : State). map sev_of t.entries) is ∙ sev_placed_entries (placed load),
  ap (λ (t : State). t.contexts) is,
  ap (λ (t : State). t.kind) is,
  ap (λ (t : State). t.phase) is,
)
