-- A load from its start on: what the machine is once all commands are carried out, and how it ends.
use Rattle.std.proofs.Common.{◌≡◌, ◌≢◌, List, [], ◌++◌, length, map, take, refl, sym, ap, subst, ◌∙◌, arith, None, Some, Result, Ok, Err, inr}
use Rattle.std.specs.Prelude.{OnOk, IfOk, IsErrOf, Option}
use Rattle.std.specs.List.{filter_map}
use Rattle.std.specs.Option.{option_to_list}
use Rattle.std.proofs.lemmas.List.{take_all}
use Rattle.host_set.specs.declared.range.PlanRange.{PlanRange}
use Rattle.directive_rules.specs.FirstMisfit.{first_misfit}
use Rattle.directive_rules.specs.LoadCounts.{wanted_of}
use Rattle.directive_rules.specs.declared.misfit.IdWanted.{IdWanted}
use Rattle.igvm_measure.specs.Digests.{digest_of}
use Rattle.igvm_measure.specs.WantedDigest.{wanted_id}
use Rattle.launch_platform.specs.declared.launch.Launch as launches
use Rattle.launch_platform.specs.Machine.{State, LaunchRecord, HasDigest, launch_digest, started}
use Rattle.image_loader.specs.declared.answers.LoadAnswer.{LoadAnswer}
use Rattle.image_loader.specs.declared.answers.ExecuteRefusal.{ExecuteRefusal}
use Rattle.image_loader.specs.declared.answers.ExecuteRefusal.TheVariants.{Launch, Memory}
use Rattle.image_loader.specs.Loads.{Load, directives}
use Rattle.image_loader.specs.PlacedPages.{entry_of, placed, contexts}
use Rattle.image_loader.specs.LoadCommands.{commands, grown, records_by, state_after}
use Rattle.image_loader.specs.Preparing.{FitsAPlan}
use Rattle.image_loader.specs.Loading.{HoldsImage, EndsBy, IsStopped, Concludes}
use Rattle.image_loader.proofs.Endings.{id_is_wanted, holds_and_ends}

-- what the laws on commands say
abbrev pub CommandsAgree : Type 0
CommandsAgree =
    (load : Load) (plan : List PlanRange) → HasDigest load.platform.kind
    → first_misfit load.file load.platform plan load.host ≡ None
    → Some (launch_digest load.platform.kind (records_by (commands load) (started load.platform.kind)))
    ≡ digest_of load.file load.platform load.options

abbrev pub CommandsPlace : Type 0
CommandsPlace =
    (load : Load) → state_after (commands load) (started load.platform.kind)
    ≡ grown (started load.platform.kind) (map entry_of (placed load)) (contexts load)

-- ---- behind all commands

-- a machine has carried out all commands of a load, whose ID block is this one
pub record IsRun {L : Type 0} (g : launches.Ghosts L) (load : Load) (id : Option IdWanted) (b : L) : Type 0 where
  pub after : g.state b ≡ state_after (commands load) (started load.platform.kind)
  pub whole : g.state b ≡ grown (started load.platform.kind) (map entry_of (placed load)) (contexts load)
  pub held : g.holds b (records_by (commands load) (started load.platform.kind))
  pub digest : Some (launch_digest (g.state b).kind (records_by (commands load) (started load.platform.kind)))
      ≡ digest_of load.file load.platform load.options
  pub wanted : id ≡ wanted_id load.file load.platform

pub is_run : CommandsAgree → CommandsPlace → {L : Type 0} (g : launches.Ghosts L) (load : Load)
    (id : Option IdWanted) (a b : L)
    → HasDigest load.platform.kind → FitsAPlan load → option_to_list id ≡ filter_map wanted_of (directives load)
    → g.state a ≡ started load.platform.kind → g.holds a [] → g.state b ≡ state_after (commands load) (g.state a)
    → ((records : List LaunchRecord) → g.holds a records
    → g.holds b (records ++ records_by (commands load) (g.state a)))
    → IsRun g load id b
is_run agree place g load id a b digest fits ids begun empty state held =
    let after = state ∙ ap (state_after (commands load)) begun in
    let whole = after ∙ place load in
    let records = records_by (commands load) (started load.platform.kind) in
    record {
      after = after;
      whole = whole;
      held = subst (λ (s : State). g.holds b (records_by (commands load) s)) begun (held [] empty);
      digest = ap (λ (s : State). Some (launch_digest s.kind records)) whole ∙ agree load fits.plan digest fits.fits;
      wanted = id_is_wanted load id ids;
    }

-- ---- how it ends

pub ended_whole : {L : Type 0} (g : launches.Ghosts L) (load : Load) (id : Option IdWanted) (b c : L)
    (result : Result LoadAnswer ExecuteRefusal)
    → IsRun g load id b
    → ((records : List LaunchRecord) → g.holds b records → Concludes id (launch_digest (g.state b).kind records) (g.state b) (g.state c) result)
    → OnOk result (HoldsImage load (g.state c))
ended_whole g load id b c (Ok answer) run ends =
    (holds_and_ends g load id _ b c answer run.wanted run.whole run.digest (ends _ run.held)).0
ended_whole g load id b c (Err refusal) run ends = tt

pub ended_by : {L : Type 0} (g : launches.Ghosts L) (load : Load) (id : Option IdWanted) (b c : L)
    (result : Result LoadAnswer ExecuteRefusal)
    → IsRun g load id b
    → ((records : List LaunchRecord) → g.holds b records → Concludes id (launch_digest (g.state b).kind records) (g.state b) (g.state c) result)
    → IfOk result (EndsBy load (g.state c))
ended_by g load id b c (Ok answer) run ends =
    (holds_and_ends g load id _ b c answer run.wanted run.whole run.digest (ends _ run.held)).1
ended_by g load id b c (Err refusal) run ends = tt

-- no end of a launch wants memory
pub no_memory : {L : Type 0} (g : launches.Ghosts L) (load : Load) (id : Option IdWanted) (b c : L)
    (result : Result LoadAnswer ExecuteRefusal) (P : Type 0)
    → IsRun g load id b
    → ((records : List LaunchRecord) → g.holds b records → Concludes id (launch_digest (g.state b).kind records) (g.state b) (g.state c) result)
    → IsErrOf result Memory → P
no_memory g load id b c (Ok answer) P run ends is = absurd (cc)
no_memory g load id b c (Err Launch) P run ends is = absurd (cc)
no_memory g load id b c (Err Memory) P run ends is = absurd (ends _ run.held)

-- a fault at the end: all commands are carried out
pub stopped_at_end : {L : Type 0} (g : launches.Ghosts L) (load : Load) (id : Option IdWanted) (old b c : L)
    (result : Result LoadAnswer ExecuteRefusal)
    → IsRun g load id b
    → ((records : List LaunchRecord) → g.holds b records → Concludes id (launch_digest (g.state b).kind records) (g.state b) (g.state c) result)
    → ((records : List LaunchRecord) → g.holds b records → g.holds c records)
    → IsErrOf result Launch → IsStopped g load old c
stopped_at_end g load id old b c (Ok answer) run ends held is = absurd (cc)
stopped_at_end g load id old b c (Err Launch) run ends held is =
    let all : take (length (commands load)) (commands load) ≡ commands load = take_all (length (commands load))
    (commands load) (omega arith) in
    inr (
      length (commands load),
      record {
        some = omega arith;
        state = ends _ run.held ∙ run.after ∙ ap (λ cs. state_after cs (started load.platform.kind)) (sym all);
        held = subst (λ cs. g.holds c (records_by cs (started load.platform.kind))) (sym all) (held _ run.held);
      },
    )
stopped_at_end g load id old b c (Err Memory) run ends held is = absurd (cc)

-- ---- answers

-- one refusal in results of two types
pub err_moved : {A B E : Type 0} (e x : E) → IsErrOf {T = A} {E = E} (Err e) x → IsErrOf {T = B} {E = E} (Err e) x
err_moved e x is = let same : e ≡ x = cc in ap (λ y. Err y) same

pub not_moved : {A B E : Type 0} (e x : E) → ◌≢◌ {A = Result A E} (Err e) (Err x) → ◌≢◌ {A = Result B E} (Err e) (Err x)
not_moved e x other same = other (let is : e ≡ x = cc in ap (λ y. Err y) is)

-- an answer is no refusal
pub is_not_err : {A E : Type 0} {a : A} (e : E) → Ok a ≢ Err e
is_not_err e same = cc

-- no ID block, where there is none in the list
pub no_id : (id : Option IdWanted) → option_to_list id ≡ [] → id ≡ None
no_id None none = refl
no_id (Some id) none = absurd (cc)
