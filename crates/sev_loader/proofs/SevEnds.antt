-- How a load of a SEV or SEV-ES guest ends.
use Rattle.std.proofs.Common.{◌≡◌, ◌≢◌, ℕ, List, [], ◌++◌, length, map, take, refl, sym, ap, subst, ◌∙◌, arith, Some, inl, inr, Result, Ok, Err}
use Rattle.std.proofs.lemmas.List.{take_all}
use Rattle.sev_chain.specs.Sha256.{sha256}
use Rattle.igvm_headers.specs.declared.platform_kind.PlatformKind.{PlatformKind}
use Rattle.igvm_headers.specs.declared.platform_kind.PlatformKind.TheVariants.{Sev, SevEs}
use Rattle.platform_masks.specs.declared.platform.Platform.{Platform}
use Rattle.launch_platform.specs.declared.phase.Phase.TheVariants.{Loading}
use Rattle.launch_platform.specs.declared.refusals.StartRefusal.{StartRefusal}
use Rattle.launch_platform.specs.declared.refusals.StartRefusal.TheVariants.{Memory, Failed}
use Rattle.launch_platform.specs.Machine.{State, LaunchRecord, started}
use Rattle.image_loader.specs.declared.carrier.Carrier as carriers
use Rattle.image_loader.specs.Loads.{Load}
use Rattle.image_loader.specs.PlacedPages.{entry_of, placed, contexts}
use Rattle.image_loader.specs.LoadCommands.{Stopped, commands, grown, records_by, state_after}
use Rattle.image_loader.proofs.StoppedLoads.{stopped_in}
use Rattle.sev_chain.specs.SevBytes.{HasSevDigest, sev_bytes, sev_digest, sev_digest_by, sev_digest_of}
use Rattle.sev_platform.specs.declared.sev_launch.SevLaunch as launches
use Rattle.sev_platform.specs.SevMachine.{SevState, sev_started}
use Rattle.sev_platform.specs.SevCommands.{sev_ended}
use Rattle.sev_loader.specs.SevAsLaunch.{as_state, joined}
use Rattle.sev_loader.specs.SevLoading.{HoldsSevImage, IsCutShort}
use Rattle.sev_loader.proofs.CutShort.{cut_short, loaded_whole}

-- what the laws on the commands of a load say
abbrev pub Agrees : Load → Type 0
Agrees load =
    joined (records_by (commands load) (started load.platform.kind)) ≡ sev_bytes load.file load.platform

abbrev pub Places : Load → Type 0
Places load =
    state_after (commands load) (started load.platform.kind)
    ≡ grown (started load.platform.kind) (map entry_of (placed load)) (contexts load)

-- platforms of these kinds have the digest of the file
digest_is : (file : List ℕ) (platform : Platform) → HasSevDigest platform.kind
    → sev_digest_of file platform ≡ Some (sev_digest file platform)
digest_is file platform sev = by platform.kind sev
  where
    by : (kind : PlatformKind) → HasSevDigest kind
        → sev_digest_by kind file platform ≡ Some (sev_digest file platform)
    by Sev sev = refl
    by SevEs sev = refl
    by kind (inl is) = cc
    by kind (inr is) = cc

digest_of_bytes : (file : List ℕ) (platform : Platform) (digest : List ℕ) → digest ≡ sha256 (sev_bytes file platform)
    → digest ≡ sev_digest file platform
unfolding sev_digest
digest_of_bytes file platform digest is = is

-- a machine whose launch has begun is as the loader sees one
pub as_begun : {M : Type 0} (g : launches.Ghosts M) (load : Load) (a : M) → g.state a ≡ sev_started load.platform.kind
    → as_state (g.state a) ≡ started load.platform.kind
as_begun g load a begun = ap as_state begun

-- A machine has carried out all commands of a load.
pub record HasRun {M : Type 0} (g : launches.Ghosts M) (load : Load) (b : M) : Type 0 where
  pub after : as_state (g.state b) ≡ state_after (commands load) (started load.platform.kind)
  pub held : g.holds b (sev_bytes load.file load.platform)

pub has_run : {M : Type 0} (g : launches.Ghosts M) (load : Load) (a b : M) → Agrees load
    → g.state a ≡ sev_started load.platform.kind → g.holds a []
    → as_state (g.state b) ≡ state_after (commands load) (as_state (g.state a))
    → ((records : List LaunchRecord) → g.holds a (joined records)
    → g.holds b (joined (records ++ records_by (commands load) (as_state (g.state a)))))
    → HasRun g load b
has_run g load a b agrees begun empty state held = record {
  after = state ∙ ap (state_after (commands load)) (as_begun g load a begun);
  held = subst (g.holds b)
      (ap (λ (s : State). joined (records_by (commands load) s)) (as_begun g load a begun) ∙ agrees) (held [] empty);
}

-- one that then has ended holds the image
pub holds_image : {M : Type 0} (g : launches.Ghosts M) (load : Load) (b c : M) (digest : List ℕ)
    → HasSevDigest load.platform.kind → Places load → HasRun g load b → g.state c ≡ sev_ended digest (g.state b)
    → ((bytes : List ℕ) → g.holds b bytes → digest ≡ sha256 bytes)
    → HoldsSevImage load (g.state c) × ((g.state c).digest ≡ Some digest)
holds_image g load b c digest sev places run ended measured =
    let parts = loaded_whole load (g.state b) (run.after ∙ places) in
    let has : (g.state c).digest ≡ Some digest = ap (λ (s : SevState). s.digest) ended in
    let of_file : digest ≡ sev_digest load.file load.platform =
    digest_of_bytes load.file load.platform digest (measured (sev_bytes load.file load.platform) run.held) in (
      record {
        kind = ap (λ (s : SevState). s.kind) ended ∙ parts.2;
        phase = ap (λ (s : SevState). s.phase) ended;
        entries = ap (λ (s : SevState). s.entries) ended ∙ parts.0;
        contexts = ap (λ (s : SevState). s.contexts) ended ∙ parts.1;
        digest = has ∙ ap (λ d. Some d) of_file ∙ sym (digest_is load.file load.platform sev);
      },
      has,
    )

-- one that has not ended is cut short behind all commands
pub cut_at_end : {M : Type 0} (g : launches.Ghosts M) (load : Load) (b c : M) → HasSevDigest load.platform.kind
    → HasRun g load b → g.state c ≡ g.state b → IsCutShort load (g.state c)
cut_at_end g load b c sev run kept =
    let all : take (length (commands load)) (commands load) ≡ commands load =
    take_all (length (commands load)) (commands load) (omega arith) in
    cut_short load sev (length (commands load)) (g.state c)
    (ap as_state kept ∙ run.after ∙ ap (λ cs. state_after cs (started load.platform.kind)) (sym all))

-- a launch that has not ended and holds all pages and contexts is still loading
pub still_loading : {M : Type 0} (g : launches.Ghosts M) (load : Load) (b : M) → Places load → HasRun g load b
    → (g.state b).phase ≡ Loading
still_loading g load b places run = (loaded_whole load (g.state b) (run.after ∙ places)).3

-- one that a fault has stopped on its way is cut short
pub cut_on_the_way : {C M : Type 0} (g : launches.Ghosts M) (h : carriers.Ghosts C M) (load : Load) (a b : M)
    → HasSevDigest load.platform.kind → h.state a ≡ started load.platform.kind → h.holds a []
    → h.state b ≡ as_state (g.state b) → Stopped h (commands load) a b → IsCutShort load (g.state b)
cut_on_the_way g h load a b sev begun empty seen stopped =
    let stop = stopped_in h load a b begun empty stopped in
    cut_short load sev stop.0 (g.state b) (sym seen ∙ stop.1.state)

-- an answer is no refusal, and two refusals are two
pub is_not_err : {A E : Type 0} {a : A} (e : E) → Ok a ≢ Err e
is_not_err e same = cc

pub memory_is_no_fault : {A : Type 0} (x : StartRefusal) → x ≡ Memory → ◌≢◌ {A = Result A StartRefusal} (Err x) (Err Failed)
memory_is_no_fault x is same = cc
