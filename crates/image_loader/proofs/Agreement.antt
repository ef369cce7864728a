-- What is measured of the commands of a load is what the file alone gives.
use Rattle.std.proofs.Common.{◌≡◌, ℕ, ◌+◌, ◌*◌, List, [], ◌∷◌, ◌++◌, map, refl, sym, ap, ap₂, subst, ◌∙◌, Option, Some, None, false, inl, inr}
use Rattle.std.specs.List.{flat_map, range_with_len}
use Rattle.std.proofs.lemmas.List.{append-nil, map-append}
use Rattle.std.proofs.lemmas.List.Concat.{flat_map-append}
use Rattle.igvm_headers.specs.HeaderFacts.{gpa_of}
use Rattle.igvm_headers.specs.declared.header.Header.{Header}
use Rattle.igvm_headers.specs.declared.header.Header.TheVariants.{Page, Insert, Context}
use Rattle.igvm_headers.specs.declared.options.Options.{Options}
use Rattle.igvm_headers.specs.declared.page_kind.PageKind.TheVariants.{Normal, Secrets, Cpuid, CpuidXf}
use Rattle.igvm_headers.specs.declared.platform_kind.PlatformKind.{PlatformKind}
use Rattle.igvm_headers.specs.declared.platform_kind.PlatformKind.TheVariants.{SevSnp, Tdx}
use Rattle.igvm_headers.specs.declared.tag.Tag.{Tag}
use Rattle.igvm_headers.specs.declared.tag.Tag.TheVariants as tag
use Rattle.host_set.specs.Hosts.{HostValues}
use Rattle.host_set.specs.declared.range.PlanRange.{PlanRange}
use Rattle.launch_platform.specs.Chain.{snp, page_of}
use Rattle.launch_platform.specs.Tagged.{page_type_of, contents_by}
use Rattle.launch_platform.specs.Stream.{tdx, page_add_record, extend_records}
use Rattle.igvm_image.specs.Areas.{placed_pages}
use Rattle.igvm_image.specs.Data.{Data, data_page}
use Rattle.igvm_image.specs.Headers.{PlacedHeader}
use Rattle.directive_rules.specs.Tags.{tag_of, host_tag}
use Rattle.directive_rules.specs.MisfitRows.{Setting, Before, setting, row, why_of}
use Rattle.directive_rules.specs.FirstMisfit.{headers_in, misfit_or, misfit_after, setting_of, first_misfit}
use Rattle.directive_rules.specs.declared.misfit.Why.{Why}
use Rattle.directive_rules.specs.declared.misfit.Misfit.{Misfit}
use Rattle.igvm_measure.specs.Measured.{has_bytes, bytes_if, tag_has_bytes, is_measured, snp_page, snp_pages, snp_contexts, snp_header_measured, tdx_page, tdx_header_measured}
use Rattle.igvm_measure.specs.Records.{contents_of, snp_record, extended, tdx_records_of}
use Rattle.igvm_measure.specs.Digests.{snp_digest, tdx_digest, digest_by, digest_of}
use Rattle.launch_platform.specs.Machine.{LaunchRecord, Bytes, infos, streams, launch_digest, HasDigest, started}
use Rattle.launch_platform.specs.Commands.{new_entry}
use Rattle.image_loader.specs.FilledAreas.{filled_page}
use Rattle.image_loader.specs.Loads.{Load, areas_in, directives}
use Rattle.image_loader.specs.PlacedPages.{added_by, is_extended, page_bytes, page_at, tagged_pages, header_pages, context_in, header_contexts}
use Rattle.image_loader.specs.LoadCommands.{commands, records_by}
use Rattle.image_loader.proofs.Done.{page_records, added_records, extended_records, context_records, header_records, records_behind, all_measured}

-- ---- what is known of records

-- page records of two lists in a row are those of each
abbrev pub InfosJoin : Type 0
InfosJoin = (first second : List LaunchRecord) → infos (first ++ second) ≡ infos first ++ infos second

-- rows of bytes of two lists in a row are those of each
abbrev pub StreamsJoin : Type 0
StreamsJoin = (first second : List LaunchRecord) → streams (first ++ second) ≡ streams first ++ streams second

-- what was measured as rows is all measured
abbrev pub RowsAreMeasured : Type 0
RowsAreMeasured = (rows : List (List ℕ)) → streams (map (λ bytes. Bytes bytes) rows) ≡ rows

-- ---- the bytes of a page

-- a tag of a page of the host's, where it has one
host_tag_is : (kind : PlatformKind) (t u : Tag) → host_tag kind t ≡ Some u → t ≡ u
host_tag_is SevSnp t u is = cc
host_tag_is _ t u is = cc

-- pages whose bytes are measured have those of the file
own_bytes : (host : HostValues) (area_page : ℕ → ℕ → List ℕ) (h : Header) (content : Data) (k : ℕ)
    (kind : PlatformKind) (options : Options) → tag_of h kind options ≡ Some tag.Normal
    → page_bytes host area_page h content k ≡ data_page content k
own_bytes host area_page (Page gpa mask offset large unmeasured Normal) content k kind options is = refl
own_bytes host area_page (Page gpa mask offset large unmeasured Secrets) content k kind options is =
    cc (host_tag_is kind tag.Secrets tag.Normal is)
own_bytes host area_page (Page gpa mask offset large unmeasured Cpuid) content k kind options is =
    cc (host_tag_is kind tag.Cpuid tag.Normal is)
own_bytes host area_page (Page gpa mask offset large unmeasured CpuidXf) content k kind options is =
    cc (host_tag_is kind tag.Cpuid tag.Normal is)
own_bytes host area_page _ content k kind options is = cc

-- ---- SEV-SNP

-- what stands for a page's bytes is that of the file's, by each tag
snp_bytes : (load : Load) (area_page : ℕ → ℕ → List ℕ) (p : PlacedHeader) (t : Tag) (k : ℕ)
    → tag_of p.header SevSnp load.options ≡ Some t
    → contents_by t (page_bytes load.host area_page p.header p.content k)
    ≡ contents_of (bytes_if (has_bytes t) (data_page p.content k))
snp_bytes load area_page p tag.Normal k is =
    ap (contents_by tag.Normal) (own_bytes load.host area_page p.header p.content k SevSnp load.options is)
snp_bytes load area_page p _ k is = refl

snp_one : (load : Load) (area_page : ℕ → ℕ → List ℕ) (p : PlacedHeader) (t : Tag) (k : ℕ)
    → load.platform.kind ≡ SevSnp → tag_of p.header SevSnp load.options ≡ Some t
    → infos (page_records SevSnp (page_at load area_page p t k))
    ≡ snp_record (snp_page t (gpa_of p.header) p.content k) ∷ []
snp_one load area_page p t k snp is =
    let gpa = gpa_of p.header + 4096 * k in
    let entry = new_entry gpa (page_bytes load.host area_page p.header p.content k) in
    ap (λ kind. infos (added_records SevSnp (added_by kind t) entry ++ extended_records (is_extended kind t) entry)) snp
    ∙ ap (λ contents. page_of (page_type_of t) gpa contents ∷ []) (snp_bytes load area_page p t k is)

snp_row : InfosJoin → (load : Load) (area_page : ℕ → ℕ → List ℕ) (p : PlacedHeader) (t : Tag)
    → load.platform.kind ≡ SevSnp → tag_of p.header SevSnp load.options ≡ Some t → (ks : List ℕ)
    → infos (flat_map (page_records SevSnp) (map (page_at load area_page p t) ks))
    ≡ map snp_record (map (snp_page t (gpa_of p.header) p.content) ks)
snp_row join load area_page p t snp is [] = refl
snp_row join load area_page p t snp is (k ∷ ks) =
    join (page_records SevSnp (page_at load area_page p t k))
    (flat_map (page_records SevSnp) (map (page_at load area_page p t) ks))
    ∙ ap₂ ◌++◌ (snp_one load area_page p t k snp is) (snp_row join load area_page p t snp is ks)

snp_tagged : InfosJoin → (load : Load) (area_page : ℕ → ℕ → List ℕ) (p : PlacedHeader) (o : Option Tag) (count : ℕ)
    → load.platform.kind ≡ SevSnp → tag_of p.header SevSnp load.options ≡ o
    → infos (flat_map (page_records SevSnp) (tagged_pages load area_page p o count))
    ≡ map snp_record (snp_pages o (gpa_of p.header) count p.content)
snp_tagged join load area_page p None count snp is = refl
snp_tagged join load area_page p (Some t) count snp is = snp_row join load area_page p t snp is (range_with_len 0 count)

snp_context : (h : Header) (content : Data)
    → infos (flat_map (context_records SevSnp) (context_in h content)) ≡ map snp_record (snp_contexts h content)
snp_context (Context gpa mask offset vp) content = refl
snp_context _ content = refl

-- what is measured of a header is what the file gives of it
snp_header : InfosJoin → (load : Load) (area_page : ℕ → ℕ → List ℕ) (p : PlacedHeader) → load.platform.kind ≡ SevSnp
    → infos (header_records SevSnp load area_page p)
    ≡ map snp_record (snp_header_measured load.options (areas_in load) p)
unfolding header_pages header_contexts snp_header_measured
snp_header join load area_page p snp =
    let count = placed_pages (areas_in load) p.header in
    let given = λ (o : Option Tag). flat_map (page_records SevSnp) (tagged_pages load area_page p o count) in
    let contexts = flat_map (context_records SevSnp) (context_in p.header p.content) in
    let own = tag_of p.header SevSnp load.options in
    ap (λ kind. infos (given (tag_of p.header kind load.options) ++ contexts)) snp
    ∙ join (given own) contexts
    ∙ ap₂ ◌++◌ (snp_tagged join load area_page p own count snp refl) (snp_context p.header p.content)
    ∙ sym (map-append snp_record (snp_pages own (gpa_of p.header) count p.content) (snp_contexts p.header p.content))

-- and so of all headers
snp_all : InfosJoin → (load : Load) (before ps : List PlacedHeader) → load.platform.kind ≡ SevSnp
    → infos (records_behind SevSnp load before ps)
    ≡ map snp_record (flat_map (snp_header_measured load.options (areas_in load)) ps)
snp_all join load before [] snp = refl
snp_all join load before (p ∷ ps) snp =
    let given = snp_header_measured load.options (areas_in load) in
    let area_page = filled_page load.host before in
    join (header_records SevSnp load area_page p) (records_behind SevSnp load (before ++ p ∷ []) ps)
    ∙ ap₂ ◌++◌ (snp_header join load area_page p snp) (snp_all join load (before ++ p ∷ []) ps snp)
    ∙ sym (map-append snp_record (given p) (flat_map given ps))

-- ---- TDX

-- no option has a say in a tag
tdx_tag : (h : Header) (options other : Options) → tag_of h Tdx options ≡ tag_of h Tdx other
tdx_tag (Page gpa mask offset large unmeasured kind) options other = refl
tdx_tag _ options other = refl

-- what is measured of a page's bytes is that of the file's, by each tag
tdx_bytes : RowsAreMeasured → (load : Load) (area_page : ℕ → ℕ → List ℕ) (p : PlacedHeader) (t : Tag) (gpa k : ℕ)
    → tag_of p.header Tdx load.options ≡ Some t
    → streams
    (extended_records (is_extended Tdx t) (new_entry gpa (page_bytes load.host area_page p.header p.content k)))
    ≡ extended gpa (bytes_if (has_bytes t) (data_page p.content k))
tdx_bytes rows load area_page p tag.Normal gpa k is =
    rows (extend_records gpa (page_bytes load.host area_page p.header p.content k))
    ∙ ap (extend_records gpa) (own_bytes load.host area_page p.header p.content k Tdx load.options is)
tdx_bytes rows load area_page p _ gpa k is = refl

tdx_one : RowsAreMeasured → (load : Load) (area_page : ℕ → ℕ → List ℕ) (p : PlacedHeader) (t : Tag) (k : ℕ)
    → load.platform.kind ≡ Tdx → tag_of p.header Tdx load.options ≡ Some t
    → streams (page_records Tdx (page_at load area_page p t k))
    ≡ tdx_records_of (tdx_page (is_measured p.header) (gpa_of p.header) p.content k)
tdx_one rows load area_page p t k tdx is =
    let gpa = gpa_of p.header + 4096 * k in
    let entry = new_entry gpa (page_bytes load.host area_page p.header p.content k) in
    let plain : Options = record { native_zero = false } in
    ap (λ kind. streams (added_records Tdx (added_by kind t) entry ++ extended_records (is_extended kind t) entry)) tdx
    ∙ ap (λ rs. page_add_record gpa ∷ rs) (tdx_bytes rows load area_page p t gpa k is)
    ∙ ap (λ o. page_add_record gpa ∷ extended gpa (bytes_if (tag_has_bytes o) (data_page p.content k)))
    (sym is ∙ tdx_tag p.header load.options plain)

-- the records of these pages of a header, from the file alone
abbrev pages_records : PlacedHeader → List ℕ → List (List ℕ)
pages_records p ks = flat_map tdx_records_of (map (tdx_page (is_measured p.header) (gpa_of p.header) p.content) ks)

tdx_row : StreamsJoin → RowsAreMeasured → (load : Load) (area_page : ℕ → ℕ → List ℕ) (p : PlacedHeader) (t : Tag)
    → load.platform.kind ≡ Tdx → tag_of p.header Tdx load.options ≡ Some t → (ks : List ℕ)
    → streams (flat_map (page_records Tdx) (map (page_at load area_page p t) ks)) ≡ pages_records p ks
tdx_row join rows load area_page p t tdx is [] = refl
tdx_row join rows load area_page p t tdx is (k ∷ ks) =
    join (page_records Tdx (page_at load area_page p t k))
    (flat_map (page_records Tdx) (map (page_at load area_page p t) ks))
    ∙ ap₂ ◌++◌ (tdx_one rows load area_page p t k tdx is) (tdx_row join rows load area_page p t tdx is ks)

tdx_tagged : StreamsJoin → RowsAreMeasured → (load : Load) (area_page : ℕ → ℕ → List ℕ) (p : PlacedHeader)
    (o : Option Tag) (count : ℕ) → load.platform.kind ≡ Tdx → tag_of p.header Tdx load.options ≡ o
    → (o ≡ None → count ≡ 0)
    → streams (flat_map (page_records Tdx) (tagged_pages load area_page p o count))
    ≡ pages_records p (range_with_len 0 count)
tdx_tagged join rows load area_page p None count tdx is none =
    ap (λ n. pages_records p (range_with_len 0 n)) (sym (none refl))
tdx_tagged join rows load area_page p (Some t) count tdx is none =
    tdx_row join rows load area_page p t tdx is (range_with_len 0 count)

-- a header that fits has a tag where it places pages
tdx_none : (plan : List PlanRange) (load : Load) (before : Before) (h : Header)
    → why_of (setting Tdx plan load.host (areas_in load)) before h ≡ None
    → tag_of h Tdx load.options ≡ None → placed_pages (areas_in load) h ≡ 0
unfolding why_of
tdx_none plan load before (Page gpa mask offset large unmeasured Normal) fits none = cc
tdx_none plan load before (Page gpa mask offset large unmeasured Secrets) fits none = cc
tdx_none plan load before (Page gpa mask offset large unmeasured Cpuid) fits none = cc
tdx_none plan load before (Page gpa mask offset large unmeasured CpuidXf) fits none = cc
tdx_none plan load before (Insert gpa mask area) fits none = cc
tdx_none plan load before _ fits none = refl

-- a header that fits is no context
tdx_context : (plan : List PlanRange) (load : Load) (before : Before) (h : Header) (content : Data)
    → why_of (setting Tdx plan load.host (areas_in load)) before h ≡ None → context_in h content ≡ []
unfolding why_of
tdx_context plan load before (Context gpa mask offset vp) content fits = cc
tdx_context plan load before _ content fits = refl

-- what is measured of a header that fits is what the file gives of it
tdx_header : StreamsJoin → RowsAreMeasured → (load : Load) (area_page : ℕ → ℕ → List ℕ) (plan : List PlanRange)
    (before : Before) (p : PlacedHeader) → load.platform.kind ≡ Tdx
    → why_of (setting load.platform.kind plan load.host (areas_in load)) before p.header ≡ None
    → streams (header_records Tdx load area_page p) ≡ flat_map tdx_records_of (tdx_header_measured (areas_in load) p)
unfolding header_pages header_contexts tdx_header_measured
tdx_header join rows load area_page plan before p tdx fits =
    let count = placed_pages (areas_in load) p.header in
    let given = λ (o : Option Tag). flat_map (page_records Tdx) (tagged_pages load area_page p o count) in
    let own = tag_of p.header Tdx load.options in
    let here : why_of (setting Tdx plan load.host (areas_in load)) before p.header ≡ None =
    subst (λ kind. why_of (setting kind plan load.host (areas_in load)) before p.header ≡ None) tdx fits in
    let contexts = context_in p.header p.content in
    ap (λ kind. streams (given (tag_of p.header kind load.options) ++ flat_map (context_records Tdx) contexts)) tdx
    ∙ ap (λ cs. streams (given own ++ flat_map (context_records Tdx) cs))
    (tdx_context plan load before p.header p.content here)
    ∙ ap streams (append-nil (given own))
    ∙ tdx_tagged join rows load area_page p own count tdx refl (tdx_none plan load before p.header here)

misfit_parts : (index : ℕ) (why : Option Why) (later : Option Misfit) → misfit_or index why later ≡ None
    → (why ≡ None) × (later ≡ None)
misfit_parts index None later none = (refl, none)
misfit_parts index (Some why) later none = cc

-- the first header fits, and so do the others
fits_parts : (s : Setting) (before : List PlacedHeader) (p : PlacedHeader) (ps : List PlacedHeader)
    → misfit_after s before (p ∷ ps) ≡ None
    → (row s (headers_in before) p.header ≡ None) × (misfit_after s (before ++ p ∷ []) ps ≡ None)
unfolding misfit_after
fits_parts s before p ps none =
    misfit_parts p.index (row s (headers_in before) p.header) (misfit_after s (before ++ p ∷ []) ps) none

-- and so of all headers that fit
tdx_all : StreamsJoin → RowsAreMeasured → (load : Load) (plan : List PlanRange) (before ps : List PlacedHeader)
    → load.platform.kind ≡ Tdx → misfit_after (setting_of load.file load.platform plan load.host) before ps ≡ None
    → streams (records_behind Tdx load before ps)
    ≡ flat_map tdx_records_of (flat_map (tdx_header_measured (areas_in load)) ps)
tdx_all join rows load plan before [] tdx none = refl
tdx_all join rows load plan before (p ∷ ps) tdx none =
    let given = tdx_header_measured (areas_in load) in
    let area_page = filled_page load.host before in
    let fits = fits_parts (setting_of load.file load.platform plan load.host) before p ps none in
    join (header_records Tdx load area_page p) (records_behind Tdx load (before ++ p ∷ []) ps)
    ∙ ap₂ ◌++◌ (tdx_header join rows load area_page plan _ p tdx fits.0)
    (tdx_all join rows load plan (before ++ p ∷ []) ps tdx fits.1)
    ∙ sym (flat_map-append tdx_records_of (given p) (flat_map given ps))

-- ---- the digest

-- The digest of what the commands measure is that of the file alone.
pub digests_agree : InfosJoin → StreamsJoin → RowsAreMeasured → (load : Load) (plan : List PlanRange)
    → HasDigest load.platform.kind → first_misfit load.file load.platform plan load.host ≡ None
    → Some (launch_digest load.platform.kind (records_by (commands load) (started load.platform.kind)))
    ≡ digest_of load.file load.platform load.options
unfolding snp_digest tdx_digest
digests_agree infos_join streams_join rows load plan (inl is) none =
    let machine = started load.platform.kind in
    subst (λ kind. Some (launch_digest kind (records_by (commands load) machine))
    ≡ digest_by kind load.options load.file load.platform.mask) (sym is)
    (ap (λ rs. Some (snp rs))
    (ap infos (all_measured load [] (directives load) machine)
    ∙ ap (λ kind. infos (records_behind kind load [] (directives load))) is
    ∙ snp_all infos_join load [] (directives load) is))
digests_agree infos_join streams_join rows load plan (inr is) none =
    let machine = started load.platform.kind in
    subst (λ kind. Some (launch_digest kind (records_by (commands load) machine))
    ≡ digest_by kind load.options load.file load.platform.mask) (sym is)
    (ap (λ rs. Some (tdx rs))
    (ap streams (all_measured load [] (directives load) machine)
    ∙ ap (λ kind. streams (records_behind kind load [] (directives load))) is
    ∙ tdx_all streams_join rows load plan [] (directives load) is none))
