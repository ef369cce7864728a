-- Headers set side by side by steps: the same is measured, and the same contexts are made.
use Rattle.std.proofs.Common.{◌≡◌, ℕ, zero, suc, ◌+◌, ◌*◌, ◌<◌, ◌==◌, ◌&&◌, List, [], ◌∷◌, ◌++◌, map, refl, sym, ◌∙◌, ap, ap₂, arith, Option, Some, None, Bool, true, false, cond}
use Rattle.std.specs.List.{AllByRecursion, flat_map, range_with_len}
use Rattle.igvm_headers.specs.HeaderFacts.{data_offset, data_pages, gpa_of}
use Rattle.igvm_headers.specs.Pages.{small_pages}
use Rattle.igvm_headers.specs.declared.header.Header.{Header}
use Rattle.igvm_headers.specs.declared.header.Header.TheVariants.{Area, Page, Param, Context}
use Rattle.igvm_headers.specs.declared.options.Options.{Options}
use Rattle.igvm_headers.specs.declared.platform_kind.PlatformKind.{PlatformKind}
use Rattle.igvm_headers.specs.declared.platform_kind.PlatformKind.TheVariants.{SevSnp, Tdx}
use Rattle.igvm_headers.specs.declared.tag.Tag.{Tag}
use Rattle.platform_masks.specs.Masks.{applies}
use Rattle.snp_chain.specs.Tagged.{page_type_of}
use Rattle.snp_chain.specs.declared.page.SnpPage.TheVariants.{Vmsa}
use Rattle.igvm_image.specs.declared.area_table.AreaEntry.{AreaEntry}
use Rattle.igvm_image.specs.Areas.{areas_of, placed_pages}
use Rattle.igvm_image.specs.Data.{Data, data_page}
use Rattle.igvm_image.specs.Headers.{PlacedHeader}
use Rattle.directive_rules.specs.FirstMisfit.{headers_for, headers_in}
use Rattle.directive_rules.specs.Tags.{tag_of, is_native_zero, page_tag}
use Rattle.igvm_measure.specs.Measured.{SnpMeasured, TdxMeasured, counted, has_bytes, bytes_if, snp_page, snp_pages, snp_contexts, snp_header_measured, is_measured, tag_has_bytes, tdx_page, tdx_header_measured}
use Rattle.launch_platform.specs.Commands.{context_of}
use Rattle.image_loader.specs.PlacedPages.{context_in, header_contexts}
use Rattle.launch_likeness.proofs.Steps.{Step, Both, Gone, Come, firsts, seconds, Change, KeepsApart, IsSame, IsForeign, AreSteps}
use Rattle.launch_likeness.proofs.StepAreas.{renewed, pages_same}

-- ---- what all headers give by what each gives

flat_if : {R : Type 0} (given : PlacedHeader → List R) (p : PlacedHeader) (others : List PlacedHeader) (b : Bool)
    → flat_map given (cond b (p ∷ others) others) ≡ cond b (given p) [] ++ flat_map given others
flat_if given p others true = refl
flat_if given p others false = refl

none_if : {R : Type 0} (b : Bool) (rs : List R) → (b ≡ true → rs ≡ []) → cond b rs [] ≡ []
none_if true rs none = none refl
none_if false rs none = refl

-- a function gives the same for both headers of a step
abbrev pub Gives : {R : Type 0} → (PlacedHeader → List R) → (PlacedHeader → List R) → Step → Type 0
Gives given given' (Both p q) = given' q ≡ given p
Gives given given' (Gone p) = Unit {0}
Gives given given' (Come q) = Unit {0}

-- It does so at each step, and gives nothing for a foreign header that counts: so it gives the same for all headers.
pub counted_by : {R : Type 0} (ch : Change) (given given' : PlacedHeader → List R)
    → ((q : PlacedHeader) → IsForeign ch q.header → applies q.header ch.new ≡ true → given' q ≡ [])
    → (steps : List Step) → AreSteps ch steps → AllByRecursion (Gives given given') steps
    → counted given' ch.new (seconds steps) ≡ counted given ch.old (firsts steps)
counted_by ch given given' come [] are give = refl
counted_by ch given given' come (Both p q ∷ steps) are give =
    flat_if given' q (headers_for ch.new (seconds steps)) (applies q.header ch.new)
    ∙ ap₂ (λ b rs. cond b rs [] ++ counted given' ch.new (seconds steps)) are.0.counts give.0
    ∙ ap (λ rs. cond (applies p.header ch.old) (given p) [] ++ rs) (counted_by ch given given' come steps are.1 give.1)
    ∙ sym (flat_if given p (headers_for ch.old (firsts steps)) (applies p.header ch.old))
counted_by ch given given' come (Gone p ∷ steps) are give =
    counted_by ch given given' come steps are.1 give.1
    ∙ sym (ap (λ b. flat_map given (cond b (p ∷ headers_for ch.old (firsts steps)) (headers_for ch.old (firsts steps)))) are.0)
counted_by ch given given' come (Come q ∷ steps) are give =
    flat_if given' q (headers_for ch.new (seconds steps)) (applies q.header ch.new)
    ∙ ap (λ rs. rs ++ counted given' ch.new (seconds steps)) (none_if (applies q.header ch.new) (given' q) (come q are.0))
    ∙ counted_by ch given given' come steps are.1 give.1

-- it does so for all headers that say the same
all_give : {R : Type 0} (ch : Change) (given given' : PlacedHeader → List R) → ((p q : PlacedHeader) → IsSame ch p q → given' q ≡ given p)
    → (steps : List Step) → AreSteps ch steps → AllByRecursion (Gives given given') steps
all_give ch given given' both [] are = tt
all_give ch given given' both (Both p q ∷ steps) are = (both p q are.0, all_give ch given given' both steps are.1)
all_give ch given given' both (Gone p ∷ steps) are = (tt, all_give ch given given' both steps are.1)
all_give ch given given' both (Come q ∷ steps) are = (tt, all_give ch given given' both steps are.1)

pub counted_same : {R : Type 0} (ch : Change) (given given' : PlacedHeader → List R)
    → ((p q : PlacedHeader) → IsSame ch p q → given' q ≡ given p)
    → ((q : PlacedHeader) → IsForeign ch q.header → applies q.header ch.new ≡ true → given' q ≡ [])
    → (steps : List Step) → AreSteps ch steps → counted given' ch.new (seconds steps) ≡ counted given ch.old (firsts steps)
counted_same ch given given' both come steps are =
    counted_by ch given given' come steps are (all_give ch given given' both steps are)

-- ---- one header

-- functions that agree on the first numbers give one list
pub map_agrees : {X : Type 0} (f g : ℕ → X) (a n : ℕ) → ((k : ℕ) → k < a + n → f k ≡ g k)
    → map f (range_with_len a n) ≡ map g (range_with_len a n)
map_agrees f g a zero same = refl
map_agrees f g a (suc n) same =
    ap₂ (λ x xs. x ∷ xs) (same a (omega arith)) (map_agrees f g (a + 1) n (λ k below. same k (omega arith)))

zero_same : (kind : PlatformKind) (options : Options) (at offset : ℕ) → (at == 0) ≡ (offset == 0)
    → is_native_zero kind at options ≡ is_native_zero kind offset options
zero_same SevSnp options at offset same = ap (λ b. options.native_zero && b) same
zero_same kind options at offset same = refl

-- the tag of a header's pages is that of the renewed header's
pub tag_same : (kind : PlatformKind) (options : Options) (offset mask : ℕ) (wanted : List ℕ) (area_to : ℕ → ℕ) (h : Header)
    → (offset == 0) ≡ (data_offset h == 0) → tag_of (renewed offset mask wanted area_to h) kind options ≡ tag_of h kind options
tag_same kind options offset mask wanted area_to (Page gpa mask' at large unmeasured page_kind) same =
    ap (λ zeros. page_tag page_kind unmeasured zeros kind) (zero_same kind options offset at same)
tag_same kind options offset mask wanted area_to h same = refl

pub gpa_same : (offset mask : ℕ) (wanted : List ℕ) (area_to : ℕ → ℕ) (h : Header) → gpa_of (renewed offset mask wanted area_to h) ≡ gpa_of h
gpa_same offset mask wanted area_to (Area bytes area at) = refl
gpa_same offset mask wanted area_to h = refl

-- ---- SEV-SNP

-- a page by its bytes
abbrev snp_of : Tag → ℕ → ℕ → List ℕ → SnpMeasured
snp_of tag gpa k page = record { kind = page_type_of tag; gpa = gpa + 4096 * k; bytes = bytes_if (has_bytes tag) page }

snp_tagged : (tag : Option Tag) (gpa n : ℕ) (d e : Data) → ((k : ℕ) → k < n → data_page e k ≡ data_page d k)
    → snp_pages tag gpa n e ≡ snp_pages tag gpa n d
snp_tagged None gpa n d e same = refl
snp_tagged (Some tag) gpa n d e same =
    map_agrees (snp_page tag gpa e) (snp_page tag gpa d) 0 n
    (λ k below. ap (snp_of tag gpa k) (same k (let less : k < n = omega (arith, below) in less)))

snp_at : (options : Options) (areas : List AreaEntry) (offset mask : ℕ) (wanted : List ℕ) (area_to : ℕ → ℕ) (h : Header) (d e : Data)
    → ((k : ℕ) → k < data_pages h → data_page e k ≡ data_page d k)
    → snp_pages (tag_of h SevSnp options) (gpa_of h) (placed_pages areas h) e ++ snp_contexts (renewed offset mask wanted area_to h) e
    ≡ snp_pages (tag_of h SevSnp options) (gpa_of h) (placed_pages areas h) d ++ snp_contexts h d
snp_at options areas offset mask wanted area_to (Page gpa mask' at large unmeasured kind) d e same =
    ap (λ (rs : List SnpMeasured). rs ++ [])
    (snp_tagged (tag_of (Page gpa mask' at large unmeasured kind) SevSnp options) gpa (small_pages large) d e same)
snp_at options areas offset mask wanted area_to (Context gpa mask' at vp) d e same =
    ap (λ (page : List ℕ). record { kind = Vmsa; gpa = gpa; bytes = Some page } ∷ []) (same 0 (omega arith))
snp_at options areas offset mask wanted area_to h d e same = refl

snp_both : (options : Options) (ch : Change) (es fs : List AreaEntry) (p q : PlacedHeader) → IsSame ch p q
    → placed_pages fs q.header ≡ placed_pages es p.header → snp_header_measured options fs q ≡ snp_header_measured options es p
unfolding snp_header_measured
snp_both options ch es fs p q same count =
    let n : ℕ = placed_pages es p.header in
    let r : Header = renewed same.offset same.mask same.wanted ch.area_to p.header in
    ap (λ (m : ℕ). snp_pages (tag_of q.header SevSnp options) (gpa_of q.header) m q.content ++ snp_contexts q.header q.content) count
    ∙ ap (λ (h : Header). snp_pages (tag_of h SevSnp options) (gpa_of h) n q.content ++ snp_contexts h q.content) same.header
    ∙ ap₂ (λ (tag : Option Tag) (gpa : ℕ). snp_pages tag gpa n q.content ++ snp_contexts r q.content)
    (tag_same SevSnp options same.offset same.mask same.wanted ch.area_to p.header same.zero)
    (gpa_same same.offset same.mask same.wanted ch.area_to p.header)
    ∙ snp_at options es same.offset same.mask same.wanted ch.area_to p.header p.content q.content same.pages

snp_foreign : (options : Options) (ch : Change) (areas : List AreaEntry) (h : Header) (d : Data) → IsForeign ch h → applies h ch.new ≡ true
    → snp_pages (tag_of h SevSnp options) (gpa_of h) (placed_pages areas h) d ++ snp_contexts h d ≡ []
snp_foreign options ch areas (Area bytes area offset) d foreign counts = refl
snp_foreign options ch areas (Param kind area byte_offset) d foreign counts = refl
snp_foreign options ch areas h d foreign counts = cc

snp_come : (options : Options) (ch : Change) (areas : List AreaEntry) (q : PlacedHeader) → IsForeign ch q.header → applies q.header ch.new ≡ true
    → snp_header_measured options areas q ≡ []
unfolding snp_header_measured
snp_come options ch areas q foreign counts = snp_foreign options ch areas q.header q.content foreign counts

pub snp_same : (ch : Change) → KeepsApart ch → (steps : List Step) → AreSteps ch steps → (options : Options)
    → counted (snp_header_measured options (areas_of (headers_in (seconds steps)))) ch.new (seconds steps)
    ≡ counted (snp_header_measured options (areas_of (headers_in (firsts steps)))) ch.old (firsts steps)
snp_same ch apart steps are options =
    let es : List AreaEntry = areas_of (headers_in (firsts steps)) in
    let fs : List AreaEntry = areas_of (headers_in (seconds steps)) in
    counted_same ch (snp_header_measured options es) (snp_header_measured options fs)
    (λ p q same. snp_both options ch es fs p q same (pages_same ch apart steps are p q same))
    (snp_come options ch fs) steps are

-- ---- TDX

-- a page by its bytes
abbrev tdx_of : Bool → ℕ → ℕ → List ℕ → TdxMeasured
tdx_of measured gpa k page = record { gpa = gpa + 4096 * k; bytes = bytes_if measured page }

tdx_at : (areas : List AreaEntry) (h : Header) (d e : Data) → ((k : ℕ) → k < data_pages h → data_page e k ≡ data_page d k)
    → map (tdx_page (is_measured h) (gpa_of h) e) (range_with_len 0 (placed_pages areas h))
    ≡ map (tdx_page (is_measured h) (gpa_of h) d) (range_with_len 0 (placed_pages areas h))
tdx_at areas (Page gpa mask offset large unmeasured kind) d e same =
    let measured : Bool = is_measured (Page gpa mask offset large unmeasured kind) in
    map_agrees (tdx_page measured gpa e) (tdx_page measured gpa d) 0 (small_pages large)
    (λ k below. ap (tdx_of measured gpa k) (same k (let less : k < small_pages large = omega (arith, below) in less)))
tdx_at areas h d e same = refl

tdx_both : (ch : Change) (es fs : List AreaEntry) (p q : PlacedHeader) → IsSame ch p q
    → placed_pages fs q.header ≡ placed_pages es p.header → tdx_header_measured fs q ≡ tdx_header_measured es p
unfolding tdx_header_measured
tdx_both ch es fs p q same count =
    let n : ℕ = placed_pages es p.header in
    let no_option : Options = record { native_zero = false } in
    ap (λ (m : ℕ). map (tdx_page (is_measured q.header) (gpa_of q.header) q.content) (range_with_len 0 m)) count
    ∙ ap (λ (h : Header). map (tdx_page (is_measured h) (gpa_of h) q.content) (range_with_len 0 n)) same.header
    ∙ ap₂ (λ (tag : Option Tag) (gpa : ℕ). map (tdx_page (tag_has_bytes tag) gpa q.content) (range_with_len 0 n))
    (tag_same Tdx no_option same.offset same.mask same.wanted ch.area_to p.header same.zero)
    (gpa_same same.offset same.mask same.wanted ch.area_to p.header)
    ∙ tdx_at es p.header p.content q.content same.pages

tdx_foreign : (ch : Change) (areas : List AreaEntry) (h : Header) (d : Data) → IsForeign ch h → applies h ch.new ≡ true
    → map (tdx_page (is_measured h) (gpa_of h) d) (range_with_len 0 (placed_pages areas h)) ≡ []
tdx_foreign ch areas (Area bytes area offset) d foreign counts = refl
tdx_foreign ch areas (Param kind area byte_offset) d foreign counts = refl
tdx_foreign ch areas h d foreign counts = cc

tdx_come : (ch : Change) (areas : List AreaEntry) (q : PlacedHeader) → IsForeign ch q.header → applies q.header ch.new ≡ true
    → tdx_header_measured areas q ≡ []
unfolding tdx_header_measured
tdx_come ch areas q foreign counts = tdx_foreign ch areas q.header q.content foreign counts

pub tdx_same : (ch : Change) → KeepsApart ch → (steps : List Step) → AreSteps ch steps
    → counted (tdx_header_measured (areas_of (headers_in (seconds steps)))) ch.new (seconds steps)
    ≡ counted (tdx_header_measured (areas_of (headers_in (firsts steps)))) ch.old (firsts steps)
tdx_same ch apart steps are =
    let es : List AreaEntry = areas_of (headers_in (firsts steps)) in
    let fs : List AreaEntry = areas_of (headers_in (seconds steps)) in
    counted_same ch (tdx_header_measured es) (tdx_header_measured fs)
    (λ p q same. tdx_both ch es fs p q same (pages_same ch apart steps are p q same))
    (tdx_come ch fs) steps are

-- ---- contexts

context_at : (offset mask : ℕ) (wanted : List ℕ) (area_to : ℕ → ℕ) (h : Header) (d e : Data)
    → ((k : ℕ) → k < data_pages h → data_page e k ≡ data_page d k)
    → context_in (renewed offset mask wanted area_to h) e ≡ context_in h d
context_at offset mask wanted area_to (Context gpa mask' at vp) d e same =
    ap (λ (page : List ℕ). context_of vp gpa page ∷ []) (same 0 (omega arith))
context_at offset mask wanted area_to h d e same = refl

context_both : (ch : Change) (p q : PlacedHeader) → IsSame ch p q → header_contexts q ≡ header_contexts p
unfolding header_contexts
context_both ch p q same =
    ap (λ (h : Header). context_in h q.content) same.header
    ∙ context_at same.offset same.mask same.wanted ch.area_to p.header p.content q.content same.pages

context_foreign : (ch : Change) (h : Header) (d : Data) → IsForeign ch h → applies h ch.new ≡ true → context_in h d ≡ []
context_foreign ch (Area bytes area offset) d foreign counts = refl
context_foreign ch (Param kind area byte_offset) d foreign counts = refl
context_foreign ch h d foreign counts = cc

context_come : (ch : Change) (q : PlacedHeader) → IsForeign ch q.header → applies q.header ch.new ≡ true → header_contexts q ≡ []
unfolding header_contexts
context_come ch q foreign counts = context_foreign ch q.header q.content foreign counts

pub contexts_same : (ch : Change) → (steps : List Step) → AreSteps ch steps
    → flat_map header_contexts (headers_for ch.new (seconds steps)) ≡ flat_map header_contexts (headers_for ch.old (firsts steps))
contexts_same ch steps are = counted_same ch header_contexts header_contexts (context_both ch) (context_come ch) steps are
