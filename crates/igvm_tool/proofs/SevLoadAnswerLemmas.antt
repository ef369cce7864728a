-- What follows from the promises of the top call for `sev-load`, whatever is told.
use Rattle.std.proofs.Common.{◌≡◌, ◌≢◌, ◌∙◌, ◌⊎◌, ℕ, ◌<◌, ◌≤◌, refl, sym, ap, subst, inl, inr, List, length, Option, Some, None, Result, Ok, Err, Bool, true, false, arith}
use Rattle.std.proofs.lemmas.Bool.Decides.{nat_tests}
use Rattle.std.specs.Prelude.{nat_lt, if◌then◌else◌}
use Rattle.igvm_headers.specs.declared.fault.ReadFault.{ReadFault}
use Rattle.platform_masks.specs.declared.platform.Platform.{Platform}
use Rattle.host_set.specs.declared.range.PlanRange.{PlanRange}
use Rattle.host_set.specs.declared.refusal.HostRefusal.{HostRefusal}
use Rattle.host_set.specs.declared.refusal.HostRefusal.TheVariants as reading
use Rattle.host_set.specs.Hosts.{HostValues}
use Rattle.host_set.specs.Descriptions.{host_of}
use Rattle.igvm_image.specs.FileFault.{fault_of}
use Rattle.directive_rules.specs.declared.misfit.Misfit.{Misfit}
use Rattle.directive_rules.specs.FirstMisfit.{first_misfit}
use Rattle.image_loader.specs.Loads.{Load}
use Rattle.sev_chain.specs.SevBytes.{sev_digest_of}
use Rattle.sev_platform.specs.declared.sev_launch.SevLaunch as sevs
use Rattle.sev_loader.specs.SevPlaced.{sev_load_of, sev_placed}
use Rattle.igvm_outside.specs.declared.shelf.Shelf as shelves
use Rattle.igvm_outside.specs.declared.sink.Sink as sinks
use Rattle.igvm_words.specs.Words.{PlatformChoice}
use Rattle.further_words.specs.FurtherWords.{SevLoadWords}
use Rattle.igvm_jobs.specs.declared.status.Status.{Status}
use Rattle.igvm_jobs.specs.declared.status.Status.TheVariants as is
use Rattle.igvm_jobs.specs.Texts.{memory_text, long_file_text, fault_text, long_host_text, load_text}
use Rattle.igvm_jobs.specs.Outcome.{Outcome, refused}
use Rattle.igvm_jobs.specs.ImageFiles.{bytes_outcome, image_outcome, file_limit}
use Rattle.igvm_jobs.specs.MeasureJob.{wanted_platform, platform_outcome, digest_outcome}
use Rattle.igvm_jobs.specs.LoadJob.{Setting, host_limit}
use Rattle.igvm_jobs.specs.Clauses.{OutputIsKept, ErrorTextIsPut, Gains, IsPut, Failures}
use Rattle.igvm_jobs.specs.JobAnswers.{IsImage, IsFaulty, IsHostText, IsNoHost}
use Rattle.igvm_jobs.proofs.LoadInWords.{Seen, seen_as, seen}
use Rattle.igvm_tool.specs.SevLoadJob.{sev_loaded, sev_checked, sev_described, sev_host_outcome, sev_set_for, sev_set, SevLeadsOn, IsBySevFile, IsBySevHost, sev_load_task}
use Rattle.igvm_tool.specs.SevClauses.{HoldsSevLaunch, KeepsSevPromises}
use Rattle.igvm_tool.specs.FurtherAnswers.{HasNoSevDigest, IsSevMeasured, IsSevJudged, SevHostAnswers, SevLoadAnswers, SevLoadIsTold}

-- ---- what FILE comes to

-- what stands here, whatever would become of FILE on a host
abbrev Always : ((Setting → Outcome) → Outcome) → Outcome → Type 0
Always result x = (next : Setting → Outcome) → result next ≡ x

-- FILE is too long, or breaks a rule, or has no such digest, whatever would become of it on a host; or it has one, and
-- leads on
abbrev FileEnds : PlatformChoice → List ℕ → ((Setting → Outcome) → Outcome) → Type 0
FileEnds wanted bytes result =
    ((file_limit < length bytes) × Always result (refused is.Limit long_file_text))
    ⊎ ((fault : ReadFault) × (length bytes ≤ file_limit) × (fault_of bytes ≡ Some fault) × Always result (refused is.File (fault_text fault)))
    ⊎ ((length bytes ≤ file_limit) × (fault_of bytes ≡ None) × HasNoSevDigest wanted bytes (λ text. Always result (refused is.Platform text)))
    ⊎ ((platform : Platform) × (digest : List ℕ) × IsSevMeasured wanted bytes platform digest
    × ((next : Setting → Outcome) → result next ≡ next (record { file = bytes; platform = platform; digest = digest })))

by_digest : (wanted : PlatformChoice) (bytes : List ℕ) (platform : Platform) (digest : Option (List ℕ)) → length bytes ≤ file_limit → fault_of bytes ≡ None
    → wanted_platform bytes wanted ≡ Some platform → sev_digest_of bytes platform ≡ digest
    → FileEnds wanted bytes (λ next. digest_outcome platform.kind (λ found. next (record { file = bytes; platform = platform; digest = found })) digest)
by_digest wanted bytes platform None within accepted named found = inr (inr (inl (within, accepted, inr (platform, named, found, λ next. refl))))
by_digest wanted bytes platform (Some digest) within accepted named found =
    inr (inr (inr (platform, digest, record { within = within; accepted = accepted; named = named; found = found }, λ next. refl)))

by_platform : (wanted : PlatformChoice) (bytes : List ℕ) (platform : Option Platform) → length bytes ≤ file_limit → fault_of bytes ≡ None → wanted_platform bytes wanted ≡ platform
    → FileEnds wanted bytes (λ next. platform_outcome wanted (sev_set_for next bytes) platform)
by_platform wanted bytes None within accepted named = inr (inr (inl (within, accepted, inl (named, λ next. refl))))
by_platform wanted bytes (Some platform) within accepted named = by_digest wanted bytes platform (sev_digest_of bytes platform) within accepted named refl

by_fault : (wanted : PlatformChoice) (bytes : List ℕ) (fault : Option ReadFault) → length bytes ≤ file_limit → fault_of bytes ≡ fault
    → FileEnds wanted bytes (λ next. image_outcome (sev_set wanted next) bytes fault)
unfolding sev_set
by_fault wanted bytes None within accepted = by_platform wanted bytes (wanted_platform bytes wanted) within accepted refl
by_fault wanted bytes (Some fault) within broken = inr (inl (fault, within, broken, λ next. refl))

passed : (a b : ℕ) → nat_lt a b ≡ true → a < b
passed a b h = grind (arith, nat_tests, h)

stayed : (a b : ℕ) → nat_lt a b ≡ false → b ≤ a
stayed a b h = grind (arith, nat_tests, h)

by_size : (wanted : PlatformChoice) (bytes : List ℕ) (long : Bool) → nat_lt file_limit (length bytes) ≡ long
    → FileEnds wanted bytes (λ next. if long then refused is.Limit long_file_text else image_outcome (sev_set wanted next) bytes (fault_of bytes))
by_size wanted bytes true size = inl (passed file_limit (length bytes) size, λ next. refl)
by_size wanted bytes false size = by_fault wanted bytes (fault_of bytes) (stayed file_limit (length bytes) size) refl

file_ends : (wanted : PlatformChoice) (bytes : List ℕ) → FileEnds wanted bytes (λ next. bytes_outcome (sev_set wanted next) bytes)
unfolding bytes_outcome
file_ends wanted bytes = by_size wanted bytes (nat_lt file_limit (length bytes)) refl

-- what becomes of a setting, where it tells one from a refusal of FILE: no such refusal has this status
abbrev halted : Setting → Outcome
halted setting = refused is.Memory memory_text

-- ---- what the job can give

-- HOST is too long, or describes no host; or the image is judged on the one that it describes
abbrev HostGives : List ℕ → Platform → List ℕ → ℕ → Outcome → Type 0
HostGives bytes platform digest given x =
    ((host_limit < given) × (x ≡ refused is.Limit long_host_text)) ⊎ IsNoHost given (λ text. x ≡ refused is.Json text)
    ⊎ ((text : List ℕ) × (plan : List PlanRange) × (host : HostValues) × IsHostText text given (Ok (plan, host))
    × ((first : Option Misfit) × (first_misfit bytes platform plan host ≡ first) × (x ≡ sev_checked (sev_load_of bytes platform host) digest first)))

-- memory ran out, or FILE is refused, or its image has no such digest, or HOST decides
abbrev Gives : PlatformChoice → ℕ → Outcome → Type 0
Gives wanted given x =
    (x.status ≡ is.Memory) ⊎ ((file_limit < given) × (x ≡ refused is.Limit long_file_text))
    ⊎ ((bytes : List ℕ) × (fault : ReadFault) × IsFaulty bytes given fault × (x ≡ refused is.File (fault_text fault)))
    ⊎ ((bytes : List ℕ) × IsImage bytes given × HasNoSevDigest wanted bytes (λ text. x ≡ refused is.Platform text))
    ⊎ ((bytes : List ℕ) × (platform : Platform) × (digest : List ℕ) × IsSevMeasured wanted bytes platform digest × HostGives bytes platform digest given x)

-- FILE decides
file_gives : (wanted : PlatformChoice) (given : ℕ) (x : Outcome) (bytes : List ℕ) → length bytes ≡ given → x ≡ bytes_outcome (sev_set wanted halted) bytes
    → FileEnds wanted bytes (λ next. bytes_outcome (sev_set wanted next) bytes) → Gives wanted given x
file_gives wanted given x bytes size same (inl (long, always)) = inr (inl (subst (λ n. file_limit < n) size long, same ∙ always halted))
file_gives wanted given x bytes size same (inr (inl (fault, within, broken, always))) =
    inr (inr (inl (bytes, fault, record { size = size; within = subst (λ n. n ≤ file_limit) size within; broken = broken }, same ∙ always halted)))
file_gives wanted given x bytes size same (inr (inr (inl (within, accepted, inl (named, always))))) =
    inr (inr (inr (inl (bytes, record { size = size; within = subst (λ n. n ≤ file_limit) size within; accepted = accepted }, inl (named, same ∙ always halted)))))
file_gives wanted given x bytes size same (inr (inr (inl (within, accepted, inr (platform, named, none, always))))) =
    inr (inr (inr (inl (bytes, record { size = size; within = subst (λ n. n ≤ file_limit) size within; accepted = accepted }, inr (platform, named, none, same ∙ always halted)))))
file_gives wanted given x bytes size same (inr (inr (inr (platform, digest, measured, leads)))) = inl (ap (λ (y : Outcome). y.status) (same ∙ leads halted))

-- HOST decides, or memory runs out as its text is read
by_description : (bytes : List ℕ) (platform : Platform) (digest : List ℕ) (given : ℕ) (x : Outcome) (text : List ℕ) (read : Result (List PlanRange × HostValues) HostRefusal) → IsHostText text given read
    → x ≡ sev_described (record { file = bytes; platform = platform; digest = digest }) read → (x.status ≡ is.Memory) ⊎ HostGives bytes platform digest given x
by_description bytes platform digest given x text (Ok (plan, host)) is_text same = inr (inr (inr (text, plan, host, is_text, (first_misfit bytes platform plan host, refl, same))))
by_description bytes platform digest given x text (Err reading.NotJson) is_text same = inr (inr (inl (inl (text, is_text, same))))
by_description bytes platform digest given x text (Err (reading.Field part item)) is_text same = inr (inr (inl (inr (text, part, item, is_text, same))))
by_description bytes platform digest given x text (Err reading.Memory) is_text same = inl (ap (λ (y : Outcome). y.status) same)

by_length : (bytes : List ℕ) (platform : Platform) (digest : List ℕ) (given : ℕ) (x : Outcome) (text : List ℕ) (long : Bool) → length text ≡ given → nat_lt host_limit (length text) ≡ long
    → x ≡ (if long then refused is.Limit long_host_text else sev_described (record { file = bytes; platform = platform; digest = digest }) (host_of text))
    → (x.status ≡ is.Memory) ⊎ HostGives bytes platform digest given x
by_length bytes platform digest given x text true size long same = inr (inl (subst (λ n. host_limit < n) size (passed host_limit (length text) long), same))
by_length bytes platform digest given x text false size long same =
    let is_text : IsHostText text given (host_of text) = record { size = size; within = subst (λ n. n ≤ host_limit) size (stayed host_limit (length text) long); reads = refl } in
    by_description bytes platform digest given x text (host_of text) is_text same

by_text : (bytes : List ℕ) (platform : Platform) (digest : List ℕ) (given : ℕ) (x : Outcome) (text : List ℕ) → length text ≡ given
    → x ≡ sev_host_outcome (record { file = bytes; platform = platform; digest = digest }) text → (x.status ≡ is.Memory) ⊎ HostGives bytes platform digest given x
unfolding sev_host_outcome
by_text bytes platform digest given x text size same = by_length bytes platform digest given x text (nat_lt host_limit (length text)) size refl same

-- where FILE leads on it does not end the job
ends_before : {A : Type 0} (wanted : PlatformChoice) (bytes : List ℕ) (setting : Setting) (x : Outcome) → x.status ≢ is.Memory → SevLeadsOn wanted bytes setting
    → Always (λ next. bytes_outcome (sev_set wanted next) bytes) x → A
ends_before wanted bytes setting x other leads always = absurd (other (ap (λ (y : Outcome). y.status) (sym (always halted) ∙ leads halted)))

measured_gives : (wanted : PlatformChoice) (bytes : List ℕ) (platform : Platform) (digest : List ℕ) (given : ℕ) (x : Outcome) → IsSevMeasured wanted bytes platform digest
    → (x.status ≡ is.Memory) ⊎ HostGives bytes platform digest given x → Gives wanted given x
measured_gives wanted bytes platform digest given x measured (inl memory) = inl memory
measured_gives wanted bytes platform digest given x measured (inr gives) = inr (inr (inr (inr (bytes, platform, digest, measured, gives))))

host_gives : (wanted : PlatformChoice) (given : ℕ) (x : Outcome) (bytes : List ℕ) (setting : Setting) (text : List ℕ) → SevLeadsOn wanted bytes setting → length text ≡ given
    → x ≡ sev_host_outcome setting text → FileEnds wanted bytes (λ next. bytes_outcome (sev_set wanted next) bytes) → Gives wanted given x
host_gives wanted given x bytes setting text leads size same (inl (long, always)) = ends_before wanted bytes setting (refused is.Limit long_file_text) (λ clash. cc) leads always
host_gives wanted given x bytes setting text leads size same (inr (inl (fault, within, broken, always))) =
    ends_before wanted bytes setting (refused is.File (fault_text fault)) (λ clash. cc) leads always
host_gives wanted given x bytes setting text leads size same (inr (inr (inl (within, accepted, inl (named, always))))) =
    ends_before wanted bytes setting (refused is.Platform _) (λ clash. cc) leads always
host_gives wanted given x bytes setting text leads size same (inr (inr (inl (within, accepted, inr (platform, named, none, always))))) =
    ends_before wanted bytes setting (refused is.Platform _) (λ clash. cc) leads always
host_gives wanted given x bytes setting text leads size same (inr (inr (inr (platform, digest, measured, own)))) =
    let on_host = (λ (one : Setting). sev_host_outcome one text) in
    measured_gives wanted bytes platform digest given x measured (by_text bytes platform digest given x text size (same ∙ sym (leads on_host) ∙ own on_host))

gives : (wanted : PlatformChoice) (given : ℕ) (x : Outcome) → IsBySevFile wanted given x ⊎ IsBySevHost wanted given x → Gives wanted given x
gives wanted given x (inl (bytes, size, same)) = file_gives wanted given x bytes size (same halted) (file_ends wanted bytes)
gives wanted given x (inr (bytes, setting, text, leads, size, same)) = host_gives wanted given x bytes setting text leads size same (file_ends wanted bytes)

-- ---- what it answers

by_misfit : (bytes : List ℕ) (platform : Platform) (digest : List ℕ) (status : Status) (plan : List PlanRange) (host : HostValues) (gains put : List ℕ → Type 0) (first : Option Misfit)
    → first_misfit bytes platform plan host ≡ first → Seen status gains put (sev_checked (sev_load_of bytes platform host) digest first) → IsSevJudged bytes platform digest status plan host gains
by_misfit bytes platform digest status plan host gains put None fits h = inr (h.0, fits, h.1)
by_misfit bytes platform digest status plan host gains put (Some misfit) is h = inl (h.0, (misfit, is, h.1))

host_answers : (bytes : List ℕ) (platform : Platform) (digest : List ℕ) (status : Status) (given : ℕ) (gains put : List ℕ → Type 0) (x : Outcome) → Seen status gains put x
    → HostGives bytes platform digest given x → SevHostAnswers bytes platform digest status given gains put
host_answers bytes platform digest status given gains put x h (inl (long, same)) =
    let s = seen_as status gains put x (refused is.Limit long_host_text) same h in
    inl (inl (s.0, long, s.1))
host_answers bytes platform digest status given gains put x h (inr (inl (inl (text, is_text, same)))) =
    let s = seen_as status gains put x (refused is.Json _) same h in
    inl (inr (s.0, inl (text, is_text, s.1)))
host_answers bytes platform digest status given gains put x h (inr (inl (inr (text, part, item, is_text, same)))) =
    let s = seen_as status gains put x (refused is.Json _) same h in
    inl (inr (s.0, inr (text, part, item, is_text, s.1)))
host_answers bytes platform digest status given gains put x h (inr (inr (text, plan, host, is_text, (first, is, same)))) =
    let s = seen_as status gains put x (sev_checked (sev_load_of bytes platform host) digest first) same h in
    inr (text, plan, host, is_text, by_misfit bytes platform digest status plan host gains put first is s)

answers : (wanted : PlatformChoice) (status : Status) (given : ℕ) (gains put : List ℕ → Type 0) (x : Outcome) → Seen status gains put x → Gives wanted given x
    → SevLoadAnswers wanted status given gains put
answers wanted status given gains put x h (inl memory) = inl (inr (h.0 ∙ memory))
answers wanted status given gains put x h (inr (inl (long, same))) =
    let s = seen_as status gains put x (refused is.Limit long_file_text) same h in
    inr (inl (inl (s.0, long, s.1)))
answers wanted status given gains put x h (inr (inr (inl (bytes, fault, faulty, same)))) =
    let s = seen_as status gains put x (refused is.File (fault_text fault)) same h in
    inr (inl (inr (s.0, (bytes, fault, faulty, s.1))))
answers wanted status given gains put x h (inr (inr (inr (inl (bytes, image, inl (named, same)))))) =
    let s = seen_as status gains put x (refused is.Platform _) same h in
    inr (inr (inl (s.0, (bytes, image, inl (named, s.1)))))
answers wanted status given gains put x h (inr (inr (inr (inl (bytes, image, inr (platform, named, none, same)))))) =
    let s = seen_as status gains put x (refused is.Platform _) same h in
    inr (inr (inl (s.0, (bytes, image, inr (platform, named, none, s.1)))))
answers wanted status given gains put x h (inr (inr (inr (inr (bytes, platform, digest, measured, by_host))))) =
    inr (inr (inr (bytes, platform, digest, measured, host_answers bytes platform digest status given gains put x h by_host)))

judged : {O E : Type 0} (o : sinks.Ghosts O) (e : sinks.Ghosts E) (wanted : PlatformChoice) (status : Status) (given : ℕ) (x : Outcome) (failed : Failures) (out out' : O) (err err' : E)
    → OutputIsKept o x status out out' → ErrorTextIsPut e x status failed err err'
    → ((status ≡ x.status) × (IsBySevFile wanted given x ⊎ IsBySevHost wanted given x)) ⊎ (status ≡ is.Outside) ⊎ (status ≡ is.Memory)
    → SevLoadAnswers wanted status given (λ text. Gains o text out out') (λ text. IsPut e text err err')
judged o e wanted status given x failed out out' err err' output error (inl h) =
    answers wanted status given (λ text. Gains o text out out') (λ text. IsPut e text err err') x (seen o e x failed out out' err err' status h.0 output error) (gives wanted given x h.1)
judged o e wanted status given x failed out out' err err' output error (inr h) = inl h

pub sev_load_answers : {S O E M : Type 0} (s : shelves.Ghosts S) (o : sinks.Ghosts O) (e : sinks.Ghosts E) (m : sevs.Ghosts M) (words : SevLoadWords) (status : Status) (shelf shelf' : S) (out out' : O)
    (err err' : E) (sev sev' : M) → KeepsSevPromises s o e m (sev_load_task words) status shelf shelf' out out' err err' sev sev'
    → SevLoadAnswers words.wanted status (s.given shelf') (λ text. Gains o text out out') (λ text. IsPut e text err err')
sev_load_answers s o e m words status shelf shelf' out out' err err' sev sev' k =
    judged o e words.wanted status (s.given shelf') k.keeps.outcome _ out out' err err' k.keeps.output k.keeps.error k.keeps.judged

-- ---- what is told of a job that is done

another : {A : Type 0} (x y : Outcome) → y.status ≢ is.Done → x.status ≡ is.Done → x ≡ y → A
another x y not_done done same = absurd (not_done (ap (λ (z : Outcome). z.status) (sym same) ∙ done))

-- some load is done, with the digest that is computed from the file
abbrev IsLoaded : Outcome → Type 0
IsLoaded x = (load : Load) × (digest : List ℕ) × (sev_digest_of load.file load.platform ≡ Some digest) × (x ≡ sev_loaded load digest)

checked_loaded : (load : Load) (digest : List ℕ) (first : Option Misfit) (x : Outcome) → sev_digest_of load.file load.platform ≡ Some digest → x.status ≡ is.Done → x ≡ sev_checked load digest first → IsLoaded x
checked_loaded load digest None x found done same = (load, digest, found, same)
checked_loaded load digest (Some misfit) x found done same = another x _ (λ h. cc) done same

host_loaded : (bytes : List ℕ) (platform : Platform) (digest : List ℕ) (given : ℕ) (x : Outcome) → sev_digest_of bytes platform ≡ Some digest → x.status ≡ is.Done
    → HostGives bytes platform digest given x → IsLoaded x
host_loaded bytes platform digest given x found done (inl (long, same)) = another x _ (λ h. cc) done same
host_loaded bytes platform digest given x found done (inr (inl (inl (text, is_text, same)))) = another x _ (λ h. cc) done same
host_loaded bytes platform digest given x found done (inr (inl (inr (text, part, item, is_text, same)))) = another x _ (λ h. cc) done same
host_loaded bytes platform digest given x found done (inr (inr (text, plan, host, is_text, (first, is, same)))) =
    checked_loaded (sev_load_of bytes platform host) digest first x found done same

loaded : (wanted : PlatformChoice) (given : ℕ) (x : Outcome) → x.status ≡ is.Done → Gives wanted given x → IsLoaded x
loaded wanted given x done (inl memory) = absurd cc
loaded wanted given x done (inr (inl (long, same))) = another x _ (λ h. cc) done same
loaded wanted given x done (inr (inr (inl (bytes, fault, faulty, same)))) = another x _ (λ h. cc) done same
loaded wanted given x done (inr (inr (inr (inl (bytes, image, inl (named, same)))))) = another x _ (λ h. cc) done same
loaded wanted given x done (inr (inr (inr (inl (bytes, image, inr (platform, named, none, same)))))) = another x _ (λ h. cc) done same
loaded wanted given x done (inr (inr (inr (inr (bytes, platform, digest, measured, by_host))))) = host_loaded bytes platform digest given x measured.found done by_host

done_loaded : (wanted : PlatformChoice) (given : ℕ) (x : Outcome)
    → ((is.Done ≡ x.status) × (IsBySevFile wanted given x ⊎ IsBySevHost wanted given x)) ⊎ (is.Done ≡ is.Outside) ⊎ (is.Done ≡ is.Memory) → IsLoaded x
done_loaded wanted given x (inl h) = loaded wanted given x (sym h.0) (gives wanted given x h.1)
done_loaded wanted given x (inr (inl h)) = absurd cc
done_loaded wanted given x (inr (inr h)) = absurd cc

told_of : {O M : Type 0} (o : sinks.Ghosts O) (m : sevs.Ghosts M) (x : Outcome) (out out' : O) (sev sev' : M) → HoldsSevLaunch m x.launched sev sev' → Gains o x.out out out' → IsLoaded x
    → SevLoadIsTold o m out out' sev'
told_of o m x out out' sev sev' holds gains (load, digest, found, same) =
    let held = subst (λ (y : Outcome). HoldsSevLaunch m y.launched sev sev') same holds in
    let text = subst (λ (y : Outcome). Gains o y.out out out') same gains in
    record {
      done = held.phase;
      digest = digest;
      own = held.digest ∙ found;
      text = subst (λ es. Gains o (load_text (length es) (length (m.state sev').contexts) digest) out out') (sym held.entries)
          (subst (λ cs. Gains o (load_text (length (sev_placed load)) (length cs) digest) out out') (sym held.contexts) text);
    }

pub sev_load_is_told : {S O E M : Type 0} (s : shelves.Ghosts S) (o : sinks.Ghosts O) (e : sinks.Ghosts E) (m : sevs.Ghosts M) (words : SevLoadWords) (shelf shelf' : S) (out out' : O) (err err' : E)
    (sev sev' : M) → KeepsSevPromises s o e m (sev_load_task words) is.Done shelf shelf' out out' err err' sev sev' → SevLoadIsTold o m out out' sev'
sev_load_is_told s o e m words shelf shelf' out out' err err' sev sev' k =
    told_of o m k.keeps.outcome out out' sev sev' k.launch k.keeps.output (done_loaded words.wanted (s.given shelf') k.keeps.outcome k.keeps.judged)
