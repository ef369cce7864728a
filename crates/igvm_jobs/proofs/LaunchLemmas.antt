-- How the last step of a job ends that launches.
use Rattle.std.proofs.Common.{◌≡◌, ◌⊎◌, ◌∙◌, ℕ, refl, sym, ap, ap₂, subst, inl, inr, arith, List, map, length, Option, Some, None, Result, Ok, Err, IfSome, IfNone, IsOk, Bor}
use Rattle.std.specs.Option.{option_map}
use Rattle.std.proofs.lemmas.List.{take_all, length-map}
use Rattle.directive_rules.specs.declared.misfit.Misfit.{Misfit}
use Rattle.igvm_measure.specs.WantedDigest.{bad_digest}
use Rattle.igvm_outside.specs.Files.{Files, IsUnwritten, with_file}
use Rattle.igvm_outside.specs.JoinedBytes.{HoldsFront}
use Rattle.igvm_outside.specs.ShelfCalls.{Writes}
use Rattle.igvm_outside.specs.declared.shelf.Shelf as shelves
use Rattle.igvm_outside.specs.declared.sink.Sink as sinks
use Rattle.launch_platform.specs.declared.launch.Launch as launches
use Rattle.launch_platform.specs.declared.phase.Phase.TheVariants as phase
use Rattle.launch_platform.specs.Machine.{State}
use Rattle.image_loader.specs.Loads.{Load}
use Rattle.image_loader.specs.Loading.{HoldsImage}
use Rattle.image_loader.specs.PlacedPages.{entry_of, placed, contexts}
use Rattle.pages_file.specs.PagesFile.{pages_file}
use Rattle.igvm_jobs.specs.declared.refusal.Ended.{Ended}
use Rattle.igvm_jobs.specs.declared.refusal.Ended.TheVariants as end
use Rattle.igvm_jobs.specs.declared.refusal.Refusal.{Refusal}
use Rattle.igvm_jobs.specs.declared.refusal.Refusal.TheVariants.{Shelf}
use Rattle.igvm_jobs.specs.Texts.{load_text, misfit_text}
use Rattle.igvm_jobs.specs.Outcome.{Outcome, Launched, not_fit}
use Rattle.igvm_jobs.specs.LoadJob.{loaded, ended_outcome, checked_outcome}
use Rattle.igvm_jobs.specs.Refusals.{ended_status}
use Rattle.igvm_jobs.specs.Clauses.{FilesAreKept, HaveFront, HoldsLaunch, PutsText, with_written}
use Rattle.igvm_jobs.specs.Endings.{LaunchEnds, PutsEnd}

-- ---- the text

-- the shelf is as it is to be where the text is put, or a front of it
record IsKept {S : Type 0} (s : shelves.Ghosts S) (x : Outcome) (ended : Ended) (shelf shelf' : S) : Type 0 where
  whole : FilesAreKept x (ended_status ended) (s.told shelf) (s.told shelf')
  front : (s.told shelf' ≡ s.told shelf) ⊎ HaveFront (s.told shelf) (s.told shelf') x.written
  given : s.given shelf' ≡ s.given shelf
  unwritten : IsUnwritten (s.state shelf) → IsUnwritten (s.state shelf')

puts : (x : Outcome) (ended : Ended) → x.status ≡ ended_status ended → PutsText x
puts x end.Done same = inl same
puts x end.NotFit same = inr same

-- the text of the outcome is put, or a front of it
text_put : {S O L : Type 0} {s : shelves.Ghosts S} {o : sinks.Ghosts O} {l : launches.Ghosts L} (x : Outcome) (ended : Ended) {ending : Result Ended Refusal} {shelf shelf' : S} {out out' : O} {before machine : L}
    → x.status ≡ ended_status ended → IsKept s x ended shelf shelf' → HoldsLaunch l x.launched before machine → PutsEnd o ended x.out ending out out'
    → LaunchEnds s o l x ending shelf shelf' out out' before machine
text_put {S} {O} {L} {s} {o} {l} x ended {ending = Ok e} {shelf} {shelf'} {out} {out'} {before} {machine} status kept holds put =
    subst (λ (q : Ended). LaunchEnds s o l x (Ok q) shelf shelf' out out' before machine) (sym put.put.0)
    (record { end_is = status; output = put.put.1; files = kept.whole; given = kept.given; unwritten = kept.unwritten; leaves = holds })
text_put {S} {O} {L} {s} {o} {l} x ended {ending = Err r} {shelf} {shelf'} {out} {out'} {before} {machine} status kept holds put =
    subst (λ (q : Refusal). LaunchEnds s o l x (Err q) shelf shelf' out out' before machine) (sym put.failed.0)
    (record { end_is = (put.failed.1, puts x ended status); output = put.failed.2; files = kept.front; given = kept.given; unwritten = kept.unwritten; leaves = holds })

-- ---- an image that does not fit

-- the text says why an image does not fit
pub misfit_put : {S O L : Type 0} {s : shelves.Ghosts S} {o : sinks.Ghosts O} {l : launches.Ghosts L} (misfit : Misfit) (launched : Option Launched) {x : Outcome} {ending : Result Ended Refusal} {shelf : S} {out out' : O} {before machine : L}
    → x ≡ not_fit (misfit_text misfit) launched → HoldsLaunch l launched before machine → PutsEnd o end.NotFit (misfit_text misfit) ending out out' → LaunchEnds s o l x ending shelf shelf out out' before machine
misfit_put {S} {O} {L} {s} {o} {l} misfit launched {x} {ending} {shelf} {out} {out'} {before} {machine} is holds put =
    subst (λ (y : Outcome). LaunchEnds s o l y ending shelf shelf out out' before machine) (sym is)
    (text_put (not_fit (misfit_text misfit) launched) end.NotFit refl (record { whole = refl; front = inl refl; given = refl; unwritten = λ u. u }) holds put)

-- ---- a machine that is done

-- the name of a pages file, where one is wanted
abbrev named : Option (Bor (List ℕ)) → Option (List ℕ)
named image = option_map (λ name. name.now) image

-- the pages file of what a machine holds
pages_held : (load : Load) (state : State) → HoldsImage load state → pages_file state.entries state.contexts ≡ pages_file (map entry_of (placed load)) (contexts load)
pages_held load state holds = ap₂ pages_file holds.entries holds.contexts

-- the pages file was not written
pub not_written : {S O L : Type 0} {s : shelves.Ghosts S} {o : sinks.Ghosts O} {l : launches.Ghosts L} (A E : Type 0) (image : Option (Bor (List ℕ))) (load : Load) (digest : List ℕ) (e : E) {shelf shelf' : S} {out : O} {before machine : L}
    → HoldsImage load (l.state machine) → (l.state machine).phase ≡ phase.Done
    → IfSome image (λ name. Writes {A = A} s name.now (pages_file (l.state machine).entries (l.state machine).contexts) (Err e) shelf shelf')
    → IfNone image (IsOk {T = A} (Err e) × (shelf' ≡ shelf))
    → LaunchEnds s o l (loaded (named image) load digest) (Err Shelf) shelf shelf' out out before machine
not_written A E None load digest e holds phase written unwanted = absurd (cc unwanted.0)
not_written {S} {O} {L} {s} {o} {l} A E (Some name) load digest e {shelf} {shelf'} {out} {before} {machine} holds phase written unwanted = record {
  end_is = (_, refl, refl, written.cause);
  output = refl;
  files = subst (λ text. (s.told shelf' ≡ s.told shelf) ⊎ HoldsFront (s.told shelf) (s.told shelf') name.now text) (pages_held load (l.state machine) holds) written.front;
  given = written.only.given;
  unwritten = λ _. subst IsUnwritten (sym written.closed) tt;
  leaves = (holds, phase);
}

kept_files : (told : Option Files) → told ≡ option_map (with_written None) told
kept_files None = refl
kept_files (Some files) = refl

written_whole : (told told' : Option Files) (name bytes : List ℕ) → told' ≡ with_file told name bytes → HoldsFront told told' name bytes
written_whole told told' name bytes same = (length bytes, (omega arith), same ∙ ap (with_file told name) (sym (take_all (length bytes) bytes (omega arith))))

-- the shelf behind the pages file, where one was wanted
pages_kept : {S : Type 0} {s : shelves.Ghosts S} (A E : Type 0) (image : Option (Bor (List ℕ))) (load : Load) (digest : List ℕ) (a : A) (state : State) {shelf shelf' : S}
    → HoldsImage load state
    → IfSome image (λ name. Writes {E = E} s name.now (pages_file state.entries state.contexts) (Ok a) shelf shelf')
    → IfNone image (IsOk {E = E} (Ok a) × (shelf' ≡ shelf)) → IsKept s (loaded (named image) load digest) end.Done shelf shelf'
pages_kept {S} {s} A E None load digest a state {shelf} {shelf'} holds written unwanted =
    subst (λ (after : S). IsKept s (loaded None load digest) end.Done shelf after) (sym unwanted.1)
    (record { whole = kept_files (s.told shelf); front = inl refl; given = refl; unwritten = λ u. u })
pages_kept {S} {s} A E (Some name) load digest a state {shelf} {shelf'} holds written unwanted =
    let told = subst (λ text. s.told shelf' ≡ with_file (s.told shelf) name.now text) (pages_held load state holds) written.written in
    record {
      whole = told;
      front = inr (written_whole (s.told shelf) (s.told shelf') name.now _ told);
      given = written.only.given;
      unwritten = λ _. subst IsUnwritten (sym written.closed) tt;
    }

-- what a machine says of itself is the text of its load
machine_text : (load : Load) (digest : List ℕ) (state : State) → HoldsImage load state
    → load_text (length state.entries) (length state.contexts) digest ≡ load_text (length (placed load)) (length (contexts load)) digest
machine_text load digest state holds =
    ap₂ (λ pages added. load_text pages added digest) (ap length holds.entries ∙ length-map (placed load) entry_of) (ap length holds.contexts)

-- what a machine says of itself is put, behind the pages file where one was wanted
pub loaded_put : {S O L : Type 0} {s : shelves.Ghosts S} {o : sinks.Ghosts O} {l : launches.Ghosts L} (A E : Type 0) (image : Option (Bor (List ℕ))) (load : Load) (digest text : List ℕ) (a : A) {ending : Result Ended Refusal} {shelf shelf' : S} {out out' : O} {before machine : L}
    → HoldsImage load (l.state machine) → (l.state machine).phase ≡ phase.Done
    → IfSome image (λ name. Writes {E = E} s name.now (pages_file (l.state machine).entries (l.state machine).contexts) (Ok a) shelf shelf')
    → IfNone image (IsOk {E = E} (Ok a) × (shelf' ≡ shelf))
    → text ≡ load_text (length (l.state machine).entries) (length (l.state machine).contexts) digest → PutsEnd o end.Done text ending out out'
    → LaunchEnds s o l (loaded (named image) load digest) ending shelf shelf' out out' before machine
loaded_put {S} {O} {L} {s} {o} {l} A E image load digest text a {ending} {shelf} {shelf'} {out} {out'} {before} {machine} holds phase written unwanted same put =
    text_put (loaded (named image) load digest) end.Done refl (pages_kept A E image load digest a (l.state machine) holds written unwanted) (holds, phase)
    (subst (λ t. PutsEnd o end.Done t ending out out') (same ∙ machine_text load digest (l.state machine) holds) put)

-- ---- the outcome of a launch that ends

-- a load whose headers fit ends as its ID block says
pub ends_by : (image : Option (List ℕ)) (load : Load) (digest : List ℕ) {first bad : Option Misfit} → first ≡ None → bad_digest load.file load.platform load.options ≡ bad
    → checked_outcome image load digest first ≡ ended_outcome image load digest bad
ends_by image load digest fits is = ap (checked_outcome image load digest) fits ∙ ap (ended_outcome image load digest) is

-- how a launch ends whose outcome is known by another name
pub ends_as : {S O L : Type 0} {s : shelves.Ghosts S} {o : sinks.Ghosts O} {l : launches.Ghosts L} {x y : Outcome} {ending : Result Ended Refusal} {shelf shelf' : S} {out out' : O} {machine machine' : L}
    → x ≡ y → LaunchEnds s o l y ending shelf shelf' out out' machine machine' → LaunchEnds s o l x ending shelf shelf' out out' machine machine'
ends_as {S} {O} {L} {s} {o} {l} {x} {y} {ending} {shelf} {shelf'} {out} {out'} {machine} {machine'} same h =
    subst (λ (z : Outcome). LaunchEnds s o l z ending shelf shelf' out out' machine machine') (sym same) h
