-- How a load ends that has carried all commands out.
use Rattle.std.proofs.Common.{◌≡◌, ◌≢◌, ℕ, List, map, Bool, true, false, Decides, refl, sym, ap, ap₂, ◌∙◌, Option, Some, None, Ok}
use Rattle.std.specs.Prelude.{bytes_eq, if◌then◌else◌, IfSome}
use Rattle.std.specs.List.{filter_map}
use Rattle.std.specs.Option.{option_to_list}
use Rattle.std.proofs.lemmas.Slice.Eq.{bytes_eq-Decides}
use Rattle.directive_rules.specs.LoadCounts.{wanted_of}
use Rattle.directive_rules.specs.declared.misfit.IdWanted.{IdWanted}
use Rattle.igvm_measure.specs.Digests.{digest_of}
use Rattle.igvm_measure.specs.WantedDigest.{first_wanted, wanted_id, bad_digest_by}
use Rattle.launch_platform.specs.declared.launch.Launch as launches
use Rattle.launch_platform.specs.declared.phase.Phase.{Phase}
use Rattle.launch_platform.specs.declared.phase.Phase.TheVariants.{Done, Refused}
use Rattle.launch_platform.specs.Machine.{State, started}
use Rattle.launch_platform.specs.Commands.{ended}
use Rattle.image_loader.specs.declared.answers.LoadAnswer.{LoadAnswer}
use Rattle.image_loader.specs.declared.answers.LoadAnswer.TheVariants.{Loaded, DoesNotFit}
use Rattle.image_loader.specs.Loads.{Load, directives}
use Rattle.image_loader.specs.PlacedPages.{entry_of, placed, contexts}
use Rattle.image_loader.specs.LoadCommands.{grown}
use Rattle.image_loader.specs.Loading.{HoldsImage, EndsBy, Concludes, bad_digest_of}

-- an option is the first of its list
first_of_list : (id : Option IdWanted) → id ≡ first_wanted (option_to_list id)
first_of_list None = refl
first_of_list (Some id) = refl

-- the ID block that was counted is the one whose digest is wanted
pub id_is_wanted : (load : Load) (id : Option IdWanted) → option_to_list id ≡ filter_map wanted_of (directives load)
    → id ≡ wanted_id load.file load.platform
id_is_wanted load id counted = first_of_list id ∙ ap first_wanted counted

-- ---- the machine

-- a machine whose launch has ended with the file's digest holds the image
holds_image : (load : Load) (phase : Phase) (digest : List ℕ) (old new : State)
    → old ≡ grown (started load.platform.kind) (map entry_of (placed load)) (contexts load)
    → Some digest ≡ digest_of load.file load.platform load.options → new ≡ ended phase digest old
    → HoldsImage load new
holds_image load phase digest old new before of_file is = record {
  kind = ap (λ (s : State). s.kind) is ∙ ap (λ (s : State). s.kind) before;
  entries = ap (λ (s : State). s.entries) is ∙ ap (λ (s : State). s.entries) before;
  contexts = ap (λ (s : State). s.contexts) is ∙ ap (λ (s : State). s.contexts) before;
  digest = ap (λ (s : State). s.digest) is ∙ of_file;
}

-- ---- the answer

-- no bad digest, where no other is wanted
good_digest : (id : Option IdWanted) (digest : List ℕ) → IfSome id (λ i. i.wanted ≡ digest)
    → bad_digest_by id (Some digest) ≡ None
good_digest None digest same = refl
good_digest (Some id) digest same =
    ap (λ one. if one then None else Some (bad_digest_of id digest)) ((bytes_eq-Decides id.wanted digest).1 same)

-- a bad digest, where another is wanted
other_digest : (id : IdWanted) (digest : List ℕ) → id.wanted ≢ digest
    → bad_digest_by (Some id) (Some digest) ≡ Some (bad_digest_of id digest)
other_digest id digest other = by (bytes_eq id.wanted digest) (bytes_eq-Decides id.wanted digest)
  where
    by : (one : Bool) → Decides one (id.wanted ≡ digest)
        → (if one then None else Some (bad_digest_of id digest)) ≡ Some (bad_digest_of id digest)
    by true decides = absurd (other (decides.0 refl))
    by false decides = refl

-- what a load leaves that ends with the file's digest, where the ID block that counts may want another
pub holds_and_ends : {L : Type 0} (g : launches.Ghosts L) (load : Load) (id : Option IdWanted) (digest : List ℕ)
    (b c : L) (answer : LoadAnswer) → id ≡ wanted_id load.file load.platform
    → g.state b ≡ grown (started load.platform.kind) (map entry_of (placed load)) (contexts load)
    → Some digest ≡ digest_of load.file load.platform load.options
    → Concludes id digest (g.state b) (g.state c) (Ok answer)
    → HoldsImage load (g.state c) × EndsBy load (g.state c) answer
holds_and_ends g load id digest b c (Loaded found) is before of_file ends = (
  holds_image load Done digest (g.state b) (g.state c) before of_file ends.1,
  (
    ap (λ (s : State). s.phase) ends.1,
    ap (λ (s : State). s.digest) ends.1 ∙ ap Some (sym ends.0),
    ap₂ bad_digest_by (sym is) (sym of_file) ∙ good_digest id digest ends.2,
  ),
)
holds_and_ends g load id digest b c (DoesNotFit misfit) is before of_file ends =
    let i = ends.1.0 in (
      holds_image load Refused digest (g.state b) (g.state c) before of_file ends.0,
      (
        ap (λ (s : State). s.phase) ends.0,
        ap₂ bad_digest_by (sym is ∙ ends.1.1) (sym of_file) ∙ other_digest i digest ends.1.2 ∙ ap Some (sym ends.1.3),
      ),
    )
