-- What follows from the promises of the top call after a `load` that is done.
use Rattle.std.proofs.Common.{◌≡◌, ◌≢◌, ◌∙◌, ◌⊎◌, ℕ, refl, sym, ap, subst, inl, inr, List, [], length, Option, Some, None, Result, Ok, Err, Bool, true, false}
use Rattle.std.specs.Prelude.{nat_lt, if◌then◌else◌}
use Rattle.std.proofs.lemmas.List.{length-map}
use Rattle.igvm_headers.specs.declared.fault.ReadFault.{ReadFault}
use Rattle.igvm_headers.specs.declared.options.Options.{Options}
use Rattle.platform_masks.specs.declared.platform.Platform.{Platform}
use Rattle.igvm_image.specs.FileFault.{fault_of}
use Rattle.igvm_measure.specs.Digests.{digest_of}
use Rattle.igvm_measure.specs.WantedDigest.{bad_digest}
use Rattle.directive_rules.specs.declared.misfit.Misfit.{Misfit}
use Rattle.directive_rules.specs.FirstMisfit.{first_misfit}
use Rattle.host_set.specs.declared.range.PlanRange.{PlanRange}
use Rattle.host_set.specs.declared.refusal.HostRefusal.{HostRefusal}
use Rattle.host_set.specs.declared.refusal.HostRefusal.TheVariants as reading
use Rattle.host_set.specs.Hosts.{HostValues}
use Rattle.host_set.specs.Descriptions.{host_of}
use Rattle.igvm_outside.specs.declared.shelf.Shelf as shelves
use Rattle.igvm_outside.specs.declared.sink.Sink as sinks
use Rattle.launch_platform.specs.declared.launch.Launch as launches
use Rattle.launch_platform.specs.declared.phase.Phase.TheVariants as phase
use Rattle.image_loader.specs.Loads.{Load, load_of}
use Rattle.image_loader.specs.PlacedPages.{entry_of, placed}
use Rattle.igvm_words.specs.Words.{LoadWords}
use Rattle.igvm_jobs.specs.declared.status.Status.TheVariants as is
use Rattle.igvm_jobs.specs.Texts.{memory_text, long_file_text, long_host_text, load_text}
use Rattle.igvm_jobs.specs.Outcome.{Outcome, Launched, refused}
use Rattle.igvm_jobs.specs.ImageFiles.{bytes_outcome, image_outcome, file_limit}
use Rattle.igvm_jobs.specs.MeasureJob.{wanted_platform, platform_digest, platform_outcome, digest_outcome}
use Rattle.igvm_jobs.specs.LoadJob.{Setting, loaded, ended_outcome, checked_outcome, described_outcome, host_outcome, host_limit, set_for, set, LeadsOn, IsByFile, IsByHost, load_task}
use Rattle.igvm_jobs.specs.Clauses.{Gains, HoldsLaunch, KeepsPromises}
use Rattle.igvm_jobs.specs.JobAnswers.{LoadIsTold}

-- ---- what FILE comes to

-- what FILE comes to ends the job before it is done, whatever would become of it; or it leads on, with the digest that it has
abbrev Decided : LoadWords → ((Setting → Outcome) → Outcome) → Type 0
Decided words outcome =
    ((x : Outcome) × (x.status ≢ is.Done) × ((next : Setting → Outcome) → outcome next ≡ x))
    ⊎ ((setting : Setting) × (digest_of setting.file setting.platform words.options ≡ Some setting.digest) × ((next : Setting → Outcome) → outcome next ≡ next setting))

by_digest : (words : LoadWords) (bytes : List ℕ) (platform : Platform) (digest : Option (List ℕ)) → digest_of bytes platform words.options ≡ digest
    → Decided words (λ next. digest_outcome platform.kind (λ found. next (record { file = bytes; platform = platform; digest = found })) digest)
by_digest words bytes platform None same = inl (_, (λ h. cc), λ next. refl)
by_digest words bytes platform (Some digest) same = inr (record { file = bytes; platform = platform; digest = digest }, same, λ next. refl)

by_platform : (words : LoadWords) (bytes : List ℕ) (platform : Option Platform) → Decided words (λ next. platform_outcome words.wanted (set_for words next bytes) platform)
unfolding platform_digest
by_platform words bytes None = inl (_, (λ h. cc), λ next. refl)
by_platform words bytes (Some platform) = by_digest words bytes platform (digest_of bytes platform words.options) refl

by_set : (words : LoadWords) (bytes : List ℕ) → Decided words (λ next. set words next bytes)
unfolding set
by_set words bytes = by_platform words bytes (wanted_platform bytes words.wanted)

by_fault : (words : LoadWords) (bytes : List ℕ) (fault : Option ReadFault) → Decided words (λ next. image_outcome (set words next) bytes fault)
by_fault words bytes None = by_set words bytes
by_fault words bytes (Some fault) = inl (_, (λ h. cc), λ next. refl)

by_size : (words : LoadWords) (bytes : List ℕ) (long : Bool)
    → Decided words (λ next. if long then refused is.Limit long_file_text else image_outcome (set words next) bytes (fault_of bytes))
by_size words bytes true = inl (_, (λ h. cc), λ next. refl)
by_size words bytes false = by_fault words bytes (fault_of bytes)

decided : (words : LoadWords) (bytes : List ℕ) → Decided words (λ next. bytes_outcome (set words next) bytes)
unfolding bytes_outcome
decided words bytes = by_size words bytes (nat_lt file_limit (length bytes))

-- ---- a setting that outcomes show

-- an outcome that shows a setting
abbrev showing : Options → HostValues → Setting → Outcome
showing options host setting =
    record {
      status = is.Done;
      out = setting.digest;
      err = [];
      written = None;
      launched = Some (record { load = load_of setting.file setting.platform options host; phase = phase.Done });
    }

-- the setting that an outcome shows, or another where it shows none
abbrev shown : Setting → List ℕ → Option Launched → Setting
shown other digest None = other
shown other digest (Some launched) = record { file = launched.load.file; platform = launched.load.platform; digest = digest }

one_setting : (options : Options) (host : HostValues) (a b : Setting) → ((next : Setting → Outcome) → next a ≡ next b) → a ≡ b
one_setting options host a b same = ap (λ (x : Outcome). shown a x.out x.launched) (same (showing options host))

-- ---- a job that is done

ends_before : {A : Type 0} (x y : Outcome) → y.status ≢ is.Done → x.status ≡ is.Done → x ≡ y → A
ends_before x y not_done done same = absurd (not_done (ap (λ (z : Outcome). z.status) (sym same) ∙ done))

-- some load is done, with the digest that is computed from the file
abbrev IsLoaded : LoadWords → Outcome → Type 0
IsLoaded words x =
    (load : Load) × (digest : List ℕ) × (digest_of load.file load.platform load.options ≡ Some digest) × (x ≡ loaded words.image load digest)

-- the load on some host is done, with the digest of the setting
abbrev IsLoadedOn : LoadWords → Setting → Outcome → Type 0
IsLoadedOn words setting x = (host : HostValues) × (x ≡ loaded words.image (load_of setting.file setting.platform words.options host) setting.digest)

by_ending : (image : Option (List ℕ)) (load : Load) (digest : List ℕ) (misfit : Option Misfit) (x : Outcome) → x.status ≡ is.Done → x ≡ ended_outcome image load digest misfit → x ≡ loaded image load digest
by_ending image load digest None x done same = same
by_ending image load digest (Some misfit) x done same = ends_before x _ (λ h. cc) done same

by_misfit : (image : Option (List ℕ)) (load : Load) (digest : List ℕ) (misfit : Option Misfit) (x : Outcome) → x.status ≡ is.Done → x ≡ checked_outcome image load digest misfit → x ≡ loaded image load digest
by_misfit image load digest None x done same = by_ending image load digest (bad_digest load.file load.platform load.options) x done same
by_misfit image load digest (Some misfit) x done same = ends_before x _ (λ h. cc) done same

by_description : (words : LoadWords) (setting : Setting) (host : Result (List PlanRange × HostValues) HostRefusal) (x : Outcome) → x.status ≡ is.Done → x ≡ described_outcome words setting host
    → IsLoadedOn words setting x
by_description words setting (Ok (plan, host)) x done same =
    (host, by_misfit words.image (load_of setting.file setting.platform words.options host) setting.digest (first_misfit setting.file setting.platform plan host) x done same)
by_description words setting (Err reading.NotJson) x done same = ends_before x _ (λ h. cc) done same
by_description words setting (Err (reading.Field part item)) x done same = ends_before x _ (λ h. cc) done same
by_description words setting (Err reading.Memory) x done same = ends_before x _ (λ h. cc) done same

by_length : (words : LoadWords) (setting : Setting) (text : List ℕ) (long : Bool) (x : Outcome) → x.status ≡ is.Done
    → x ≡ (if long then refused is.Limit long_host_text else described_outcome words setting (host_of text)) → IsLoadedOn words setting x
by_length words setting text true x done same = ends_before x _ (λ h. cc) done same
by_length words setting text false x done same = by_description words setting (host_of text) x done same

by_text : (words : LoadWords) (setting : Setting) (text : List ℕ) (x : Outcome) → x.status ≡ is.Done → x ≡ host_outcome words setting text → IsLoadedOn words setting x
unfolding host_outcome
by_text words setting text x done same = by_length words setting text (nat_lt host_limit (length text)) x done same

-- FILE, which leads on with a setting, has its digest
setting_digest : (words : LoadWords) (host : HostValues) (bytes : List ℕ) (setting : Setting) → LeadsOn words bytes setting → Decided words (λ next. bytes_outcome (set words next) bytes)
    → digest_of setting.file setting.platform words.options ≡ Some setting.digest
setting_digest words host bytes setting leads (inl h) = ends_before (showing words.options host setting) h.0 h.1 refl (sym (leads (showing words.options host)) ∙ h.2 (showing words.options host))
setting_digest words host bytes setting leads (inr h) =
    subst (λ (one : Setting). digest_of one.file one.platform words.options ≡ Some one.digest) (one_setting words.options host h.0 setting (λ next. sym (h.2 next) ∙ leads next)) h.1

by_host : (words : LoadWords) (given : ℕ) (x : Outcome) → x.status ≡ is.Done → IsByHost words given x → IsLoaded words x
by_host words given x done (bytes, setting, text, leads, size, same) =
    let on = by_text words setting text x done same in
    (load_of setting.file setting.platform words.options on.0, setting.digest, setting_digest words on.0 bytes setting leads (decided words bytes), on.1)

file_decides : {A : Type 0} (words : LoadWords) (bytes : List ℕ) (x : Outcome) → x.status ≡ is.Done → ((next : Setting → Outcome) → x ≡ bytes_outcome (set words next) bytes)
    → Decided words (λ next. bytes_outcome (set words next) bytes) → A
file_decides words bytes x done same (inl h) = let next = (λ (setting : Setting). x) in ends_before x h.0 h.1 done (same next ∙ h.2 next)
file_decides words bytes x done same (inr h) =
    let next = (λ (setting : Setting). refused is.Memory memory_text) in
    ends_before x (refused is.Memory memory_text) (λ q. cc) done (same next ∙ h.2 next)

is_loaded : (words : LoadWords) (given : ℕ) (x : Outcome) → x.status ≡ is.Done → IsByFile words given x ⊎ IsByHost words given x → IsLoaded words x
is_loaded words given x done (inl (bytes, size, same)) = file_decides words bytes x done same (decided words bytes)
is_loaded words given x done (inr h) = by_host words given x done h

-- ---- what is told

told_of : {O L : Type 0} (o : sinks.Ghosts O) (l : launches.Ghosts L) (words : LoadWords) (x : Outcome) (out out' : O) (machine machine' : L)
    → HoldsLaunch l x.launched machine machine' → Gains o x.out out out' → IsLoaded words x → LoadIsTold o l out out' machine'
told_of o l words x out out' machine machine' holds gains (load, digest, found, same) =
    let held = subst (λ (y : Outcome). HoldsLaunch l y.launched machine machine') same holds in
    let text = subst (λ (y : Outcome). Gains o y.out out out') same gains in
    let entries = ap (λ es. length es) held.0.entries ∙ length-map (placed load) entry_of in
    record {
      done = held.1;
      digest = digest;
      own = held.0.digest ∙ found;
      text = subst (λ n. Gains o (load_text n (length (l.state machine').contexts) digest) out out') (sym entries)
          (subst (λ cs. Gains o (load_text (length (placed load)) (length cs) digest) out out') (sym held.0.contexts) text);
    }

done_loaded : (words : LoadWords) (given : ℕ) (x : Outcome)
    → ((is.Done ≡ x.status) × (IsByFile words given x ⊎ IsByHost words given x)) ⊎ (is.Done ≡ is.Outside) ⊎ (is.Done ≡ is.Memory) → IsLoaded words x
done_loaded words given x (inl h) = is_loaded words given x (sym h.0) h.1
done_loaded words given x (inr (inl h)) = absurd cc
done_loaded words given x (inr (inr h)) = absurd cc

pub load_is_told : {S O E L : Type 0} (s : shelves.Ghosts S) (o : sinks.Ghosts O) (e : sinks.Ghosts E) (l : launches.Ghosts L) (words : LoadWords) (shelf shelf' : S) (out out' : O) (err err' : E)
    (machine machine' : L) → KeepsPromises s o e l (load_task words) is.Done shelf shelf' out out' err err' machine machine' → LoadIsTold o l out out' machine'
load_is_told s o e l words shelf shelf' out out' err err' machine machine' k =
    told_of o l words k.keeps.outcome out out' machine machine' k.launch k.keeps.output (done_loaded words (s.given shelf') k.keeps.outcome k.keeps.judged)
