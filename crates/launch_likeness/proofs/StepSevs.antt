-- Headers set side by side by steps: the same bytes are hashed for SEV and SEV-ES.
use Rattle.std.proofs.Common.{◌≡◌, ℕ, zero, suc, ◌+◌, ◌<◌, List, [], ◌++◌, refl, sym, ◌∙◌, ap, ap₂, arith, Bool, true, false}
use Rattle.std.specs.List.{flat_map, range_with_len}
use Rattle.igvm_headers.specs.HeaderFacts.{data_pages}
use Rattle.igvm_headers.specs.declared.header.Header.{Header}
use Rattle.igvm_headers.specs.declared.header.Header.TheVariants.{Area, Page, Param, Context}
use Rattle.igvm_headers.specs.declared.page_kind.PageKind.{PageKind}
use Rattle.igvm_headers.specs.declared.page_kind.PageKind.TheVariants.{Normal}
use Rattle.igvm_headers.specs.declared.platform_kind.PlatformKind.{PlatformKind}
use Rattle.igvm_headers.specs.declared.platform_kind.PlatformKind.TheVariants.{SevEs}
use Rattle.platform_masks.specs.Masks.{applies}
use Rattle.igvm_image.specs.Data.{Data, data_page}
use Rattle.igvm_image.specs.Headers.{PlacedHeader}
use Rattle.igvm_measure.specs.Measured.{counted}
use Rattle.sev_chain.specs.SevBytes.{all_pages, hashed_context, hashed_in, hashed_pages, header_bytes}
use Rattle.launch_likeness.proofs.Steps.{Step, firsts, seconds, Change, IsSame, IsForeign, AreSteps}
use Rattle.launch_likeness.proofs.StepAreas.{renewed}
use Rattle.launch_likeness.proofs.StepMeasures.{counted_same}

-- functions that agree on the first numbers give one list
flat_map_agrees : {X : Type 0} (f g : ℕ → List X) (a n : ℕ) → ((k : ℕ) → k < a + n → f k ≡ g k)
    → flat_map f (range_with_len a n) ≡ flat_map g (range_with_len a n)
flat_map_agrees f g a zero same = refl
flat_map_agrees f g a (suc n) same =
    ap₂ (λ x xs. x ++ xs) (same a (omega arith)) (flat_map_agrees f g (a + 1) n (λ k below. same k (omega arith)))

-- data of as many pages, which are the same
all_same : (d e : Data) (n : ℕ) → d.pages ≡ n → e.pages ≡ n → ((k : ℕ) → k < n → data_page e k ≡ data_page d k)
    → all_pages e ≡ all_pages d
all_same d e n own count same =
    ap (λ m. flat_map (data_page e) (range_with_len 0 m)) count
    ∙ flat_map_agrees (data_page e) (data_page d) 0 n (λ k below. same k (let less : k < n = omega (arith, below) in less))
    ∙ sym (ap (λ m. flat_map (data_page d) (range_with_len 0 m)) own)

pages_hashed : (unmeasured : Bool) (kind : PageKind) (d e : Data) → all_pages e ≡ all_pages d
    → hashed_pages unmeasured kind e ≡ hashed_pages unmeasured kind d
pages_hashed false Normal d e same = same
pages_hashed false kind d e same = refl
pages_hashed true kind d e same = refl

context_hashed : (platform : PlatformKind) (d e : Data) → data_page e 0 ≡ data_page d 0
    → hashed_context platform e ≡ hashed_context platform d
context_hashed SevEs d e same = same
context_hashed platform d e same = refl

sev_at : (platform : PlatformKind) (offset mask : ℕ) (wanted : List ℕ) (area_to : ℕ → ℕ) (h : Header) (d e : Data)
    → d.pages ≡ data_pages h → e.pages ≡ data_pages h → ((k : ℕ) → k < data_pages h → data_page e k ≡ data_page d k)
    → hashed_in platform (renewed offset mask wanted area_to h) e ≡ hashed_in platform h d
sev_at platform offset mask wanted area_to (Page gpa own at large unmeasured kind) d e mine count same =
    pages_hashed unmeasured kind d e (all_same d e (data_pages (Page gpa own at large unmeasured kind)) mine count same)
sev_at platform offset mask wanted area_to (Context gpa own at vp) d e mine count same =
    context_hashed platform d e (same 0 (omega arith))
sev_at platform offset mask wanted area_to h d e mine count same = refl

sev_both : (platform : PlatformKind) (ch : Change) (p q : PlacedHeader) → IsSame ch p q → header_bytes platform q ≡ header_bytes platform p
unfolding header_bytes
sev_both platform ch p q same =
    ap (λ (h : Header). hashed_in platform h q.content) same.header
    ∙ sev_at platform same.offset same.mask same.wanted ch.area_to p.header p.content q.content same.own_count same.count same.pages

sev_foreign : (platform : PlatformKind) (ch : Change) (h : Header) (d : Data) → IsForeign ch h → applies h ch.new ≡ true
    → hashed_in platform h d ≡ []
sev_foreign platform ch (Area bytes area offset) d foreign counts = refl
sev_foreign platform ch (Param kind area byte_offset) d foreign counts = refl
sev_foreign platform ch h d foreign counts = cc

sev_come : (platform : PlatformKind) (ch : Change) (q : PlacedHeader) → IsForeign ch q.header → applies q.header ch.new ≡ true
    → header_bytes platform q ≡ []
unfolding header_bytes
sev_come platform ch q foreign counts = sev_foreign platform ch q.header q.content foreign counts

pub sev_same : (ch : Change) → (steps : List Step) → AreSteps ch steps → (platform : PlatformKind)
    → counted (header_bytes platform) ch.new (seconds steps) ≡ counted (header_bytes platform) ch.old (firsts steps)
sev_same ch steps are platform =
    counted_same ch (header_bytes platform) (header_bytes platform) (sev_both platform ch) (sev_come platform ch) steps are
