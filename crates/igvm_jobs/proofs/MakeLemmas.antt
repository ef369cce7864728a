-- How the steps of `make` end: its image, the file that is written, and the launch.
use Rattle.std.proofs.Common.{◌≡◌, ◌∙◌, ℕ, refl, sym, ap, subst, inl, inr, List, length, Option, Some, None, Result, Ok, Err, IfSome}
use Rattle.std.proofs.lemmas.List.{length-map}
use Rattle.igvm_headers.specs.FaultCounts.{Rose}
use Rattle.igvm_measure.specs.Digests.{snp_digest, tdx_digest}
use Rattle.launch_platform.specs.Machine.{State}
use Rattle.launch_platform.specs.declared.launch.Launch as launches
use Rattle.launch_platform.specs.declared.phase.Phase.TheVariants as phase
use Rattle.image_loader.specs.Loads.{load_of}
use Rattle.image_loader.specs.Loading.{HoldsImage, IsStopped}
use Rattle.image_loader.specs.PlacedPages.{entry_of, placed, contexts}
use Rattle.made_list.specs.MadeImage.{snp_platform, tdx_platform, trial_host}
use Rattle.igvm_outside.specs.Files.{Files, IsUnwritten, with_file}
use Rattle.igvm_outside.specs.ShelfCalls.{Writes}
use Rattle.igvm_outside.specs.SinkCalls.{GainsFront}
use Rattle.igvm_outside.specs.declared.shelf.Shelf as shelves
use Rattle.igvm_outside.specs.declared.sink.Sink as sinks
use Rattle.igvm_jobs.specs.declared.refusal.Ended.{Ended}
use Rattle.igvm_jobs.specs.declared.refusal.Ended.TheVariants as end
use Rattle.igvm_jobs.specs.declared.refusal.Refusal.{Refusal}
use Rattle.igvm_jobs.specs.declared.refusal.Refusal.TheVariants.{Shelf, Machine, Memory}
use Rattle.igvm_jobs.specs.Texts.{make_text}
use Rattle.igvm_jobs.specs.Outcome.{Outcome}
use Rattle.igvm_jobs.specs.MakeJob.{plain, made_image, made_load, made_text, made_outcome, make_task}
use Rattle.igvm_jobs.specs.Clauses.{Gains}
use Rattle.igvm_jobs.specs.Endings.{EndsOn, PutsEnd}
use Rattle.igvm_jobs.proofs.WriteLemmas.{whole_front}
use Rattle.igvm_jobs.proofs.LoadLemmas.{machine_failed}

always : (told : Option Files) (x : Outcome) → IfSome told (λ files. x ≡ x)
always None x = tt
always (Some files) x = refl

-- ---- before the file is written

-- memory ran out, and nothing was touched
pub unmade_ends : {S O L : Type 0} {s : shelves.Ghosts S} {o : sinks.Ghosts O} {l : launches.Ghosts L} (n : ℕ) (target : List ℕ) {shelf : S} {out : O} {machine : L}
    → EndsOn s o l (make_task n target) (Err Memory) shelf shelf out out machine machine
unmade_ends {s = s} n target {shelf} = record {
  ends = record { outcome = made_outcome n target; told = always (s.told shelf) _; end_is = tt; output = refl; files = inl refl; unwritten = λ u. u };
  launch = refl;
}

-- the file was not written
pub unwritten_ends : {S O L : Type 0} {s : shelves.Ghosts S} {o : sinks.Ghosts O} {l : launches.Ghosts L} (A E : Type 0) (n : ℕ) (target image : List ℕ) (e : E) {shelf shelf' : S} {out : O} {machine : L}
    → image ≡ made_image n → Writes {A = A} s target image (Err e) shelf shelf' → EndsOn s o l (make_task n target) (Err Shelf) shelf shelf' out out machine machine
unwritten_ends {S} {s = s} A E n target image e {shelf} {shelf'} same written =
    let whole = subst (λ b. Writes {A = A} s target b (Err e) shelf shelf') same written in
    record {
      ends = record {
        outcome = made_outcome n target;
        told = always (s.told shelf) _;
        end_is = inr (target, refl, whole.cause, refl, refl);
        output = refl;
        files = whole.front;
        unwritten = λ u. subst IsUnwritten (sym whole.closed) tt;
      };
      launch = inl refl;
    }

-- ---- behind it

-- the file was written: it alone has changed, and nothing is open
pub record IsMade {S : Type 0} (s : shelves.Ghosts S) (n : ℕ) (target : List ℕ) (shelf shelf' : S) : Type 0 where
  pub told : s.told shelf' ≡ with_file (s.told shelf) target (made_image n)
  pub closed : IsUnwritten (s.state shelf')

-- the image of these bytes was written
pub is_made : {S : Type 0} {s : shelves.Ghosts S} (A E : Type 0) (n : ℕ) (target image : List ℕ) (a : A) {shelf shelf' : S} → image ≡ made_image n
    → Writes {E = E} s target image (Ok a) shelf shelf' → IsMade s n target shelf shelf'
is_made {S} {s} A E n target image a {shelf} {shelf'} same written =
    record { told = written.written ∙ ap (with_file (s.told shelf) target) same; closed = subst IsUnwritten (sym written.closed) tt }

-- memory ran out before the machine started
pub memory_ends : {S O L : Type 0} {s : shelves.Ghosts S} {o : sinks.Ghosts O} {l : launches.Ghosts L} (n : ℕ) (target : List ℕ) {shelf shelf' : S} {out : O} {machine machine' : L}
    → IsMade s n target shelf shelf' → l.state machine' ≡ l.state machine → EndsOn s o l (make_task n target) (Err Memory) shelf shelf' out out machine machine'
memory_ends {s = s} n target {shelf} made same = record {
  ends = record { outcome = made_outcome n target; told = always (s.told shelf) _; end_is = tt; output = refl; files = inr made.told; unwritten = λ u. made.closed };
  launch = same;
}

-- the machine failed
pub stopped_ends : {S O L : Type 0} {s : shelves.Ghosts S} {o : sinks.Ghosts O} {l : launches.Ghosts L} (n : ℕ) (target image : List ℕ) {shelf shelf' : S} {out : O} {machine machine' : L}
    → IsMade s n target shelf shelf' → image ≡ made_image n → IsStopped l (load_of image snp_platform plain trial_host) machine machine'
    → Rose (l.faults machine) (l.faults machine') → EndsOn s o l (make_task n target) (Err Machine) shelf shelf' out out machine machine'
stopped_ends {s = s} {l = l} n target image {shelf} {shelf'} {machine = machine} {machine'} made same stopped rose = record {
  ends = record {
    outcome = made_outcome n target;
    told = always (s.told shelf) _;
    end_is = (rose, refl, refl);
    output = refl;
    files = inr (whole_front (s.told shelf) (s.told shelf') target (made_image n) made.told);
    unwritten = λ u. made.closed;
  };
  launch = machine_failed l (made_outcome n target) _ machine machine' (rose, refl, refl)
      (subst (λ file. IsStopped l (load_of file snp_platform plain trial_host) machine machine') same stopped);
}

-- ---- the text

-- how many pages and contexts a machine says that it was given
counts : (n : ℕ) (state : State) → HoldsImage (made_load n) state
    → (length state.entries ≡ length (placed (made_load n))) × (length state.contexts ≡ length (contexts (made_load n)))
counts n state holds = (ap length holds.entries ∙ length-map (placed (made_load n)) entry_of, ap length holds.contexts)

-- what came out, as it was computed
pub text_is : (n : ℕ) (image : List ℕ) (bytes : ℕ) (snp tdx : List ℕ) (pages added : ℕ) (state : State) → image ≡ made_image n → HoldsImage (load_of image snp_platform plain trial_host) state
    → bytes ≡ length image → snp ≡ snp_digest plain image snp_platform.mask → tdx ≡ tdx_digest image tdx_platform.mask → pages ≡ length state.entries → added ≡ length state.contexts
    → make_text n bytes snp pages added tdx ≡ made_text n
text_is n image bytes snp tdx pages added state same holds bytes_are snp_is tdx_is pages_are added_are =
    let held = subst (λ file. HoldsImage (load_of file snp_platform plain trial_host) state) same holds in
    let both = counts n state held in
    ap (λ b. make_text n b snp pages added tdx) (bytes_are ∙ ap length same)
    ∙ ap (λ d. make_text n (length (made_image n)) d pages added tdx) (snp_is ∙ ap (λ file. snp_digest plain file snp_platform.mask) same)
    ∙ ap (λ p. make_text n (length (made_image n)) (snp_digest plain (made_image n) snp_platform.mask) p added tdx) (pages_are ∙ both.0)
    ∙ ap (λ c. make_text n (length (made_image n)) (snp_digest plain (made_image n) snp_platform.mask) (length (placed (made_load n))) c tdx) (added_are ∙ both.1)
    ∙ ap (make_text n (length (made_image n)) (snp_digest plain (made_image n) snp_platform.mask) (length (placed (made_load n))) (length (contexts (made_load n))))
    (tdx_is ∙ ap (λ file. tdx_digest file tdx_platform.mask) same)

-- what came out is put, or a front of it
pub made_ends : {S O L : Type 0} {s : shelves.Ghosts S} {o : sinks.Ghosts O} {l : launches.Ghosts L} (n : ℕ) (target image text : List ℕ) {ending : Result Ended Refusal} {shelf shelf' : S} {out out' : O} {machine machine' : L}
    → IsMade s n target shelf shelf' → image ≡ made_image n → HoldsImage (load_of image snp_platform plain trial_host) (l.state machine') → (l.state machine').phase ≡ phase.Done
    → text ≡ made_text n → PutsEnd o end.Done text ending out out' → EndsOn s o l (make_task n target) ending shelf shelf' out out' machine machine'
made_ends {S} {O} {L} {s} {o} {l} n target image text {ending = Ok e} {shelf} {shelf'} {out} {out'} {machine} {machine'} made same holds done is put =
    subst (λ (q : Ended). EndsOn s o l (make_task n target) (Ok q) shelf shelf' out out' machine machine') (sym put.put.0)
    (record {
      ends = record {
        outcome = made_outcome n target;
        told = always (s.told shelf) _;
        end_is = (refl, refl);
        output = subst (λ t. Gains o t out out') is put.put.1;
        files = made.told;
        unwritten = λ u. made.closed;
      };
      launch = (subst (λ file. HoldsImage (load_of file snp_platform plain trial_host) (l.state machine')) same holds, done);
    })
made_ends {S} {O} {L} {s} {o} {l} n target image text {ending = Err r} {shelf} {shelf'} {out} {out'} {machine} {machine'} made same holds done is put =
    subst (λ (q : Refusal). EndsOn s o l (make_task n target) (Err q) shelf shelf' out out' machine machine') (sym put.failed.0)
    (record {
      ends = record {
        outcome = made_outcome n target;
        told = always (s.told shelf) _;
        end_is = (put.failed.1, inl refl, refl);
        output = subst (λ t. GainsFront o t out out') is put.failed.2;
        files = inr (whole_front (s.told shelf) (s.told shelf') target (made_image n) made.told);
        unwritten = λ u. made.closed;
      };
      launch = inr (inr (inr (put.failed.1, inl refl, refl), (subst (λ file. HoldsImage (load_of file snp_platform plain trial_host) (l.state machine')) same holds, done)));
    })
