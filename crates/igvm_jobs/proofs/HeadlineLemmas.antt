-- What `load` and `measure` give of one image, for the headline.
use Rattle.std.proofs.Common.{◌≡◌, ◌∙◌, ℕ, ◌≤◌, refl, sym, ap, subst, inl, inr, List, length, Option, Some, None, Ok, Bool, false, arith}
use Rattle.std.proofs.lemmas.Bool.Decides.{nat_tests}
use Rattle.std.specs.Prelude.{◌↔◌, nat_lt, if◌then◌else◌}
use Rattle.std.specs.FinMap as map
use Rattle.std.specs.Option.{option_or}
use Rattle.igvm_headers.specs.declared.options.Options.{Options}
use Rattle.igvm_headers.specs.declared.platform_kind.PlatformKind.{PlatformKind}
use Rattle.platform_masks.specs.declared.platform.Platform.{Platform}
use Rattle.host_set.specs.declared.range.PlanRange.{PlanRange}
use Rattle.host_set.specs.Hosts.{HostValues}
use Rattle.host_set.specs.Descriptions.{host_of}
use Rattle.igvm_image.specs.FileFault.{fault_of}
use Rattle.directive_rules.specs.declared.misfit.Misfit.{Misfit}
use Rattle.directive_rules.specs.FirstMisfit.{first_misfit}
use Rattle.igvm_measure.specs.Digests.{digest_by, digest_of}
use Rattle.igvm_measure.specs.WantedDigest.{bad_digest, load_misfit}
use Rattle.launch_platform.specs.Machine.{HasDigest}
use Rattle.image_loader.specs.Loads.{Load, load_of}
use Rattle.image_loader.specs.PlacedPages.{placed, contexts}
use Rattle.igvm_outside.specs.Files.{Files}
use Rattle.igvm_words.specs.Words.{LoadWords, PlatformChoice}
use Rattle.igvm_jobs.specs.declared.status.Status.TheVariants as is
use Rattle.igvm_jobs.specs.Texts.{digest_text, load_text, misfit_text, long_file_text, long_host_text}
use Rattle.igvm_jobs.specs.Outcome.{Outcome, Launched, done, refused, not_fit}
use Rattle.igvm_jobs.specs.ImageFiles.{file_limit, file_outcome, bytes_outcome, image_outcome}
use Rattle.igvm_jobs.specs.MeasureJob.{wanted_platform, platform_digest, platform_outcome, digest_outcome, measured, measured_for}
use Rattle.igvm_jobs.specs.LoadJob.{Setting, host_limit, loaded, ended_outcome, checked_outcome, described_outcome, host_outcome, host_file_outcome, set_for, set}
use Rattle.igvm_jobs.specs.Headline.{IsAsked, load_outcome, measure_outcome, Agree}

-- ---- what is asked for is there

-- where the kind of a platform has a digest, there is one
digest_there : (file : List ℕ) (platform : Platform) (options : Options) → HasDigest platform.kind → (digest : List ℕ) × (digest_of file platform options ≡ Some digest)
digest_there file platform options (inl snp) = (_, ap (λ (kind : PlatformKind). digest_by kind options file platform.mask) snp)
digest_there file platform options (inr tdx) = (_, ap (λ (kind : PlatformKind). digest_by kind options file platform.mask) tdx)

within_limit : (limit n : ℕ) → n ≤ limit → nat_lt limit n ≡ false
within_limit limit n within = grind (arith, nat_tests, within)

-- an accepted image under FILE decides
of_image : (next : List ℕ → Outcome) (bytes : List ℕ) (there : Option (List ℕ)) → there ≡ Some bytes → length bytes ≤ file_limit → fault_of bytes ≡ None → file_outcome next there ≡ next bytes
unfolding bytes_outcome
of_image next bytes there file within accepted =
    ap (file_outcome next) file
    ∙ ap (λ (long : Bool). if long then refused is.Limit long_file_text else image_outcome next bytes (fault_of bytes)) (within_limit file_limit (length bytes) within)
    ∙ ap (image_outcome next bytes) accepted

-- ---- what both give

of_measurement : (wanted : PlatformChoice) (options : Options) (bytes : List ℕ) (platform : Platform) (digest : List ℕ) → wanted_platform bytes wanted ≡ Some platform
    → digest_of bytes platform options ≡ Some digest → measured wanted options bytes ≡ done (digest_text digest)
unfolding measured platform_digest
of_measurement wanted options bytes platform digest found has =
    ap (platform_outcome wanted (measured_for bytes options)) found ∙ ap (digest_outcome platform.kind (λ d. done (digest_text d))) has

of_setting : (words : LoadWords) (next : Setting → Outcome) (bytes : List ℕ) (platform : Platform) (digest : List ℕ) → wanted_platform bytes words.wanted ≡ Some platform
    → digest_of bytes platform words.options ≡ Some digest → set words next bytes ≡ next (record { file = bytes; platform = platform; digest = digest })
unfolding set platform_digest
of_setting words next bytes platform digest found has =
    ap (platform_outcome words.wanted (set_for words next bytes)) found
    ∙ ap (digest_outcome platform.kind (λ d. next (record { file = bytes; platform = platform; digest = d }))) has

of_host : (words : LoadWords) (setting : Setting) (text : List ℕ) (there : Option (List ℕ)) (plan : List PlanRange) (host : HostValues) → there ≡ Some text → length text ≤ host_limit
    → host_of text ≡ Ok (plan, host) → host_file_outcome words setting there ≡ described_outcome words setting (Ok (plan, host))
unfolding host_outcome
of_host words setting text there plan host file short described =
    ap (host_file_outcome words setting) file
    ∙ ap (λ (long : Bool). if long then refused is.Limit long_host_text else described_outcome words setting (host_of text)) (within_limit host_limit (length text) short)
    ∙ ap (described_outcome words setting) described

measurement : (files : Files) (words : LoadWords) (bytes : List ℕ) (platform : Platform) (plan : List PlanRange) (host : HostValues) (digest : List ℕ)
    → IsAsked files words bytes platform plan host → digest_of bytes platform words.options ≡ Some digest → measure_outcome files words ≡ done (digest_text digest)
measurement files words bytes platform plan host digest asked has =
    of_image (measured words.wanted words.options) bytes _ asked.file asked.within asked.accepted
    ∙ of_measurement words.wanted words.options bytes platform digest asked.wanted has

load : (files : Files) (words : LoadWords) (bytes : List ℕ) (platform : Platform) (plan : List PlanRange) (host : HostValues) (digest : List ℕ)
    → IsAsked files words bytes platform plan host → digest_of bytes platform words.options ≡ Some digest
    → load_outcome files words ≡ checked_outcome words.image (load_of bytes platform words.options host) digest (first_misfit bytes platform plan host)
load files words bytes platform plan host digest asked has =
    let on_host = (λ (setting : Setting). host_file_outcome words setting (map.get files words.host)) in
    of_image (set words on_host) bytes _ asked.file asked.within asked.accepted ∙ of_setting words on_host bytes platform digest asked.wanted has
    ∙ of_host words (record { file = bytes; platform = platform; digest = digest }) asked.text _ plan host asked.description asked.short asked.described

-- ---- whether they agree

-- the load is done where there is no misfit, and names it where there is one
abbrev EndsBy : Option (List ℕ) → Load → List ℕ → Option Misfit → Outcome → Type 0
EndsBy image load digest None x = x ≡ loaded image load digest
EndsBy image load digest (Some misfit) x = (launched : Option Launched) × (x ≡ not_fit (misfit_text misfit) launched)

by_digest : (image : Option (List ℕ)) (load : Load) (digest : List ℕ) (bad : Option Misfit) → EndsBy image load digest bad (ended_outcome image load digest bad)
by_digest image load digest None = refl
by_digest image load digest (Some misfit) = (_, refl)

by_misfit : (image : Option (List ℕ)) (load : Load) (digest : List ℕ) (first : Option Misfit)
    → EndsBy image load digest (option_or first (bad_digest load.file load.platform load.options)) (checked_outcome image load digest first)
by_misfit image load digest None = by_digest image load digest (bad_digest load.file load.platform load.options)
by_misfit image load digest (Some misfit) = (_, refl)

is_done : (image : Option (List ℕ)) (load : Load) (digest : List ℕ) (misfit : Option Misfit) (x : Outcome) → EndsBy image load digest misfit x → (x.status ≡ is.Done) ↔ (misfit ≡ None)
is_done image load digest None x ends = ((λ _. refl), (λ _. ap (λ (y : Outcome). y.status) ends))
is_done image load digest (Some misfit) x (launched, same) = ((λ h. absurd cc), (λ h. absurd cc))

is_named : (image : Option (List ℕ)) (load : Load) (digest : List ℕ) (misfit : Option Misfit) (x : Outcome) → EndsBy image load digest misfit x
    → (first : Misfit) → misfit ≡ Some first → (x.status ≡ is.NotFit) × (x.out ≡ misfit_text first)
is_named image load digest None x ends first some = absurd cc
is_named image load digest (Some misfit) x (launched, same) first some = (cc, cc)

is_told : (image : Option (List ℕ)) (load : Load) (digest : List ℕ) (misfit : Option Misfit) (x : Outcome) → EndsBy image load digest misfit x
    → x.status ≡ is.Done → x.out ≡ load_text (length (placed load)) (length (contexts load)) digest
is_told image load digest None x ends h = ap (λ (y : Outcome). y.out) ends
is_told image load digest (Some misfit) x (launched, same) h = absurd cc

pub agree : (files : Files) (words : LoadWords) (bytes : List ℕ) (platform : Platform) (plan : List PlanRange) (host : HostValues)
    → IsAsked files words bytes platform plan host → Agree files words bytes platform plan host
agree files words bytes platform plan host asked =
    let there = digest_there bytes platform words.options asked.kind in
    let image = words.image in
    let one = load_of bytes platform words.options host in
    let misfit = load_misfit bytes platform plan host words.options in
    let x = load_outcome files words in
    let ends = subst (EndsBy image one there.0 misfit) (sym (load files words bytes platform plan host there.0 asked there.1))
    (by_misfit image one there.0 (first_misfit bytes platform plan host)) in
    record {
      exact = is_done image one there.0 misfit x ends;
      named = is_named image one there.0 misfit x ends;
      digest = there.0;
      measured = measurement files words bytes platform plan host there.0 asked there.1;
      told = is_told image one there.0 misfit x ends;
    }
