-- How the pages of a header enter a launch.
use Rattle.std.proofs.Common.{◌≡◌, ℕ, List, refl, sym, ap, subst, ◌∙◌, Some, Bool, true, false}
use Rattle.std.specs.Prelude.{replicate, ◌&&◌, ◌==◌, Option, IfSome}
use Rattle.igvm_headers.specs.HeaderFacts.{data_offset}
use Rattle.igvm_headers.specs.Pages.{body_page}
use Rattle.igvm_headers.specs.declared.header.Header.{Header}
use Rattle.igvm_headers.specs.declared.header.Header.TheVariants.{Page, Insert}
use Rattle.igvm_headers.specs.declared.options.Options.{Options}
use Rattle.igvm_headers.specs.declared.page_kind.PageKind.TheVariants.{Normal}
use Rattle.igvm_headers.specs.declared.platform_kind.PlatformKind.{PlatformKind}
use Rattle.igvm_headers.specs.declared.platform_kind.PlatformKind.TheVariants.{SevSnp, Tdx}
use Rattle.igvm_headers.specs.declared.tag.Tag.{Tag}
use Rattle.igvm_headers.specs.declared.tag.Tag.TheVariants as tag
use Rattle.directive_rules.specs.Tags.{tag_of, normal_tag, is_native_zero}
use Rattle.host_set.specs.Hosts.{HostValues}
use Rattle.igvm_image.specs.Data.{Data, data_page}
use Rattle.igvm_image.specs.Headers.{PlacedHeader}
use Rattle.launch_platform.specs.Commands.{TagFits}
use Rattle.image_loader.specs.Loads.{Load}
use Rattle.image_loader.specs.PlacedPages.{added_by, is_extended, kind_page, page_bytes}
use Rattle.image_loader.specs.Fitting.{HasOwnData}

-- only TDX extends pages
pub extended_kind : (kind : PlatformKind) (t : Tag) → is_extended kind t ≡ true → kind ≡ Tdx
extended_kind Tdx t is = refl
extended_kind kind t is = cc

-- and only pages that are added as normal
pub extended_normal : (kind : PlatformKind) (t : Tag) → is_extended kind t ≡ true → added_by kind t ≡ Some tag.Normal
extended_normal Tdx tag.Normal is = refl
extended_normal kind t is = cc

-- data at file offset 0 are zeros
zero_data : (native : Bool) (content : Data) (offset k : ℕ) → content.offset ≡ offset
    → (native && (offset == 0)) ≡ true → data_page content k ≡ replicate 4096 0
unfolding body_page
zero_data false content offset k own is = cc
zero_data true content offset k own is =
    let zero : (content.offset == 0) ≡ true = ap (λ n. n == 0) own ∙ is in
    rw zero

-- SEV-SNP takes each tag of a normal page, where it is measured as zeros only if it is zeros
normal_fits : (unmeasured zeros : Bool) (page : List ℕ) → (zeros ≡ true → page ≡ replicate 4096 0)
    → TagFits SevSnp (normal_tag unmeasured zeros) page
normal_fits true zeros page zero = tt
normal_fits false true page zero = zero refl
normal_fits false false page zero = tt

some_same : {X : Type 0} {x y : X} → Some x ≡ Some y → x ≡ y
some_same is = cc

snp_fits : (options : Options) (host : HostValues) (area_page : ℕ → ℕ → List ℕ) (h : Header) (content : Data) (k : ℕ)
    (t : Tag) → tag_of h SevSnp options ≡ Some t → content.offset ≡ data_offset h
    → TagFits SevSnp t (page_bytes host area_page h content k)
snp_fits options host area_page (Page gpa mask offset large unmeasured Normal) content k t is own =
    subst (λ t. TagFits SevSnp t (data_page content k)) (some_same is)
    (normal_fits unmeasured (is_native_zero SevSnp offset options) (data_page content k)
    (zero_data options.native_zero content offset k own))
snp_fits options host area_page (Page gpa mask offset large unmeasured kind) content k t is own =
    subst (λ t. TagFits SevSnp t (kind_page host kind content k)) (some_same is) tt
snp_fits options host area_page (Insert gpa mask area) content k t is own =
    subst (λ t. TagFits SevSnp t (area_page area k)) (some_same is) tt
snp_fits options host area_page h content k t is own = cc

tdx_fits : (options : Options) (h : Header) (page : List ℕ) (t : Tag) → tag_of h Tdx options ≡ Some t
    → TagFits Tdx t page
tdx_fits options (Page gpa mask offset large true Normal) page t is =
    subst (λ t. TagFits Tdx t page) (some_same is) tt
tdx_fits options (Page gpa mask offset large false Normal) page t is =
    subst (λ t. TagFits Tdx t page) (some_same is) tt
tdx_fits options (Page gpa mask offset large unmeasured kind) page t is = cc
tdx_fits options (Insert gpa mask area) page t is = subst (λ t. TagFits Tdx t page) (some_same is) tt
tdx_fits options h page t is = cc

-- each platform takes the tag by which the pages of a header are added, if they are
platform_fits : (kind : PlatformKind) (options : Options) (host : HostValues) (area_page : ℕ → ℕ → List ℕ) (h : Header)
    (content : Data) (k : ℕ) (t : Tag) → tag_of h kind options ≡ Some t → content.offset ≡ data_offset h
    → IfSome (added_by kind t) (λ u. TagFits kind u (page_bytes host area_page h content k))
platform_fits SevSnp options host area_page h content k t is own = snp_fits options host area_page h content k t is own
platform_fits Tdx options host area_page h content k t is own =
    tdx_fits options h (page_bytes host area_page h content k) t is
platform_fits kind options host area_page h content k tag.Normal is own = tt
platform_fits kind options host area_page h content k t is own = tt

-- a platform takes the tag of a header for each of its pages
pub tag_fits : (load : Load) (area_page : ℕ → ℕ → List ℕ) (p : PlacedHeader) (t : Tag) (k : ℕ) (kind : PlatformKind)
    (bytes : List ℕ) (added : Option Tag) → kind ≡ load.platform.kind
    → bytes ≡ page_bytes load.host area_page p.header p.content k → added ≡ added_by load.platform.kind t
    → tag_of p.header load.platform.kind load.options ≡ Some t → HasOwnData p
    → IfSome added (λ u. TagFits kind u bytes)
tag_fits load area_page p t k kind bytes added same made by tagged own =
    subst (λ o. IfSome o (λ u. TagFits kind u bytes)) (sym by)
    (subst (λ kind. IfSome (added_by load.platform.kind t) (λ u. TagFits kind u bytes)) (sym same)
    (subst (λ bytes. IfSome (added_by load.platform.kind t) (λ u. TagFits load.platform.kind u bytes)) (sym made)
    (platform_fits load.platform.kind load.options load.host area_page p.header p.content k t tagged own.offset)))
