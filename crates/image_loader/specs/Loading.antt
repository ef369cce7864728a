-- What a load leaves, by what it answers.
use Rattle.std.specs.Prelude.{ℕ, ◌≡◌, ◌≢◌, ◌⊎◌, List, map, Option, None, Some, IfSome, Result, Ok, Err}
use Rattle.std.specs.Option.{option_map}
use Rattle.igvm_measure.specs.Digests.{digest_of}
use Rattle.igvm_measure.specs.WantedDigest.{bad_digest}
use Rattle.directive_rules.specs.declared.misfit.IdWanted.{IdWanted}
use Rattle.directive_rules.specs.declared.misfit.Misfit.{Misfit}
use Rattle.directive_rules.specs.declared.misfit.Why.TheVariants as why
use Rattle.launch_platform.specs.declared.launch.Launch as launches
use Rattle.launch_platform.specs.declared.phase.Phase.TheVariants.{Done, Refused}
use Rattle.launch_platform.specs.declared.refusals.FinishRefusal.{FinishRefusal}
use Rattle.launch_platform.specs.declared.refusals.FinishRefusal.TheVariants.{BadDigest, Failed}
use Rattle.launch_platform.specs.Machine.{State}
use Rattle.launch_platform.specs.Commands.{ended}
use Rattle.image_loader.specs.LoadCommands.{IsAfter}
use Rattle.image_loader.specs.Loads.{Load}
use Rattle.image_loader.specs.PlacedPages.{entry_of, placed, contexts}
use Rattle.image_loader.specs.declared.answers.LoadAnswer.{LoadAnswer}
use Rattle.image_loader.specs.declared.answers.LoadAnswer.TheVariants.{Loaded, DoesNotFit}
use Rattle.image_loader.specs.declared.answers.ExecuteRefusal.{ExecuteRefusal}
use Rattle.image_loader.specs.declared.answers.ExecuteRefusal.TheVariants.{Launch, Memory}

-- A machine holds the image: exactly the pages and contexts that it places, in order, and the launch digest that is
-- computed from the file alone.
pub record HoldsImage (load : Load) (s : State) : Type 0 where
  pub kind : s.kind ≡ load.platform.kind
  pub entries : s.entries ≡ map entry_of (placed load)
  pub contexts : s.contexts ≡ contexts load
  pub digest : s.digest ≡ digest_of load.file load.platform load.options

-- How the launch ended, by the answer: done with the digest that is answered, where no ID block wants another; or
-- refused, where one does.
abbrev pub EndsBy : Load → State → LoadAnswer → Type 0
EndsBy load s (Loaded digest) =
    (s.phase ≡ Done) × (s.digest ≡ Some digest) × (bad_digest load.file load.platform load.options ≡ None)
EndsBy load s (DoesNotFit misfit) =
    (s.phase ≡ Refused) × (bad_digest load.file load.platform load.options ≡ Some misfit)

-- A load that was stopped has left the machine as it was, or as the start and a front of the commands leave it.
abbrev pub IsStopped : {L : Type 0} → launches.Ghosts L → Load → L → L → Type 0
IsStopped g load old new = (g.state new ≡ g.state old) ⊎ ((n : ℕ) × IsAfter g load n new)

-- ---- the end of a launch

-- the digest that is wanted
abbrev pub wanted_digest : Option IdWanted → Option (List ℕ)
wanted_digest id = option_map (λ i. i.wanted) id

-- this misfit says that an ID block wants another digest than the one that was found
abbrev pub bad_digest_of : IdWanted → List ℕ → Misfit
bad_digest_of id found = record { index = id.index; why = why.BadDigest id.wanted found }

-- how a launch with this digest ends, where an ID block may want one
abbrev pub Concludes : Option IdWanted → List ℕ → State → State → Result LoadAnswer ExecuteRefusal → Type 0
Concludes id digest old new (Ok (Loaded found)) =
    (found ≡ digest) × (new ≡ ended Done digest old) × IfSome id (λ i. i.wanted ≡ digest)
Concludes id digest old new (Ok (DoesNotFit misfit)) =
    (new ≡ ended Refused digest old)
    × ((i : IdWanted) × (id ≡ Some i) × (i.wanted ≢ digest) × (misfit ≡ bad_digest_of i digest))
Concludes id digest old new (Err Launch) = new ≡ old
Concludes id digest old new (Err Memory) = ⊥

-- a bad digest comes only where one is wanted
abbrev pub IsWanted : Option IdWanted → FinishRefusal → Type 0
IsWanted None (BadDigest found) = ⊥
IsWanted None Failed = Unit {0}
IsWanted (Some id) refusal = Unit {0}

-- what a refusal to end the launch is to a load
abbrev pub answer_by : Option IdWanted → FinishRefusal → Result LoadAnswer ExecuteRefusal
answer_by (Some id) (BadDigest found) = Ok (DoesNotFit (bad_digest_of id found))
answer_by None (BadDigest found) = Err Launch
answer_by id Failed = Err Launch
