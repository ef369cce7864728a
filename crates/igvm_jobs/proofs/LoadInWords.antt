-- What follows from the promises of the top call for a `load`, whatever is told.
use Rattle.std.proofs.Common.{◌≡◌, ◌≢◌, ◌∙◌, ◌⊎◌, ℕ, ◌<◌, ◌≤◌, refl, sym, ap, subst, inl, inr, List, length, Option, Some, None, Result, Ok, Err, Bool, true, false, arith}
use Rattle.std.proofs.lemmas.Bool.Decides.{nat_tests}
use Rattle.std.specs.Prelude.{nat_lt, if◌then◌else◌}
use Rattle.std.specs.Option.{option_or}
use Rattle.igvm_headers.specs.declared.fault.ReadFault.{ReadFault}
use Rattle.platform_masks.specs.declared.platform.Platform.{Platform}
use Rattle.host_set.specs.declared.range.PlanRange.{PlanRange}
use Rattle.host_set.specs.declared.refusal.HostRefusal.{HostRefusal}
use Rattle.host_set.specs.declared.refusal.HostRefusal.TheVariants as reading
use Rattle.host_set.specs.Hosts.{HostValues}
use Rattle.host_set.specs.Descriptions.{host_of}
use Rattle.igvm_image.specs.FileFault.{fault_of}
use Rattle.directive_rules.specs.declared.misfit.Misfit.{Misfit}
use Rattle.directive_rules.specs.FirstMisfit.{first_misfit}
use Rattle.igvm_measure.specs.WantedDigest.{bad_digest, load_misfit}
use Rattle.image_loader.specs.Loads.{load_of}
use Rattle.igvm_outside.specs.declared.shelf.Shelf as shelves
use Rattle.igvm_outside.specs.declared.sink.Sink as sinks
use Rattle.launch_platform.specs.declared.launch.Launch as launches
use Rattle.igvm_words.specs.Words.{LoadWords}
use Rattle.igvm_jobs.specs.declared.status.Status.{Status}
use Rattle.igvm_jobs.specs.declared.status.Status.TheVariants as is
use Rattle.igvm_jobs.specs.Texts.{memory_text, long_file_text, fault_text, long_host_text}
use Rattle.igvm_jobs.specs.Outcome.{Outcome, refused}
use Rattle.igvm_jobs.specs.ImageFiles.{bytes_outcome, image_outcome, file_limit}
use Rattle.igvm_jobs.specs.MeasureJob.{wanted_platform, platform_digest, platform_outcome, digest_outcome}
use Rattle.igvm_jobs.specs.LoadJob.{Setting, ended_outcome, checked_outcome, described_outcome, host_outcome, host_limit, set_for, set, LeadsOn, IsByFile, IsByHost, load_task}
use Rattle.igvm_jobs.specs.Clauses.{OutputIsKept, ErrorTextIsPut, Gains, IsPut, Failures, KeepsPromises}
use Rattle.igvm_jobs.specs.JobAnswers.{measurement_of, HasNoDigest, IsMeasured, IsHostText, IsJudged, HostAnswers, LoadAnswers}

-- ---- what is seen of an outcome

-- what is put of an outcome, by its status
abbrev pub Shown : (List ℕ → Type 0) → (List ℕ → Type 0) → Outcome → Status → Type 0
Shown gains put x is.Done = gains x.out
Shown gains put x is.NotFit = gains x.out
Shown gains put x is.Usage = Unit
Shown gains put x is.Outside = Unit
Shown gains put x is.Memory = Unit
Shown gains put x _ = put x.err

-- the status is the outcome's, and what belongs to it is put
abbrev pub Seen : Status → (List ℕ → Type 0) → (List ℕ → Type 0) → Outcome → Type 0
Seen status gains put x = (status ≡ x.status) × Shown gains put x x.status

pub seen_as : (status : Status) (gains put : List ℕ → Type 0) (x y : Outcome) → x ≡ y → Seen status gains put x → Seen status gains put y
seen_as status gains put x y same seen = subst (Seen status gains put) same seen

shown : {O E : Type 0} (o : sinks.Ghosts O) (e : sinks.Ghosts E) (x : Outcome) (failed : Failures) (out out' : O) (err err' : E) (status : Status)
    → OutputIsKept o x status out out' → ErrorTextIsPut e x status failed err err' → Shown (λ text. Gains o text out out') (λ text. IsPut e text err err') x status
shown o e x failed out out' err err' is.Done output error = output
shown o e x failed out out' err err' is.NotFit output error = output
shown o e x failed out out' err err' is.Usage output error = tt
shown o e x failed out out' err err' is.Outside output error = tt
shown o e x failed out out' err err' is.Memory output error = tt
shown o e x failed out out' err err' _ output error = error

pub seen : {O E : Type 0} (o : sinks.Ghosts O) (e : sinks.Ghosts E) (x : Outcome) (failed : Failures) (out out' : O) (err err' : E) (status : Status) → status ≡ x.status
    → OutputIsKept o x status out out' → ErrorTextIsPut e x status failed err err' → Seen status (λ text. Gains o text out out') (λ text. IsPut e text err err') x
seen o e x failed out out' err err' status same output error =
    (same, subst (Shown (λ text. Gains o text out out') (λ text. IsPut e text err err') x) same (shown o e x failed out out' err err' status output error))

-- ---- what FILE comes to

-- what stands here, whatever would become of FILE on a host
abbrev Always : ((Setting → Outcome) → Outcome) → Outcome → Type 0
Always result x = (next : Setting → Outcome) → result next ≡ x

-- FILE is too long, or breaks a rule, or has no digest, whatever would become of it on a host; or it has one, and leads on
abbrev FileEnds : LoadWords → List ℕ → ((Setting → Outcome) → Outcome) → Type 0
FileEnds words bytes result =
    ((file_limit < length bytes) × Always result (refused is.Limit long_file_text))
    ⊎ ((fault : ReadFault) × (length bytes ≤ file_limit) × (fault_of bytes ≡ Some fault) × Always result (refused is.File (fault_text fault)))
    ⊎ ((length bytes ≤ file_limit) × (fault_of bytes ≡ None) × HasNoDigest (measurement_of words) bytes (λ text. Always result (refused is.Platform text)))
    ⊎ ((platform : Platform) × (digest : List ℕ) × IsMeasured words bytes platform digest
    × ((next : Setting → Outcome) → result next ≡ next (record { file = bytes; platform = platform; digest = digest })))

by_digest : (words : LoadWords) (bytes : List ℕ) (platform : Platform) (digest : Option (List ℕ)) → length bytes ≤ file_limit → fault_of bytes ≡ None
    → wanted_platform bytes words.wanted ≡ Some platform → platform_digest bytes words.options platform ≡ digest
    → FileEnds words bytes (λ next. digest_outcome platform.kind (λ found. next (record { file = bytes; platform = platform; digest = found })) digest)
by_digest words bytes platform None within accepted wanted found = inr (inr (inl (within, accepted, inr (platform, wanted, found, λ next. refl))))
by_digest words bytes platform (Some digest) within accepted wanted found =
    inr (inr (inr (platform, digest, record { within = within; accepted = accepted; wanted = wanted; found = found }, λ next. refl)))

by_platform : (words : LoadWords) (bytes : List ℕ) (platform : Option Platform) → length bytes ≤ file_limit → fault_of bytes ≡ None → wanted_platform bytes words.wanted ≡ platform
    → FileEnds words bytes (λ next. platform_outcome words.wanted (set_for words next bytes) platform)
by_platform words bytes None within accepted wanted = inr (inr (inl (within, accepted, inl (wanted, λ next. refl))))
by_platform words bytes (Some platform) within accepted wanted = by_digest words bytes platform (platform_digest bytes words.options platform) within accepted wanted refl

by_fault : (words : LoadWords) (bytes : List ℕ) (fault : Option ReadFault) → length bytes ≤ file_limit → fault_of bytes ≡ fault
    → FileEnds words bytes (λ next. image_outcome (set words next) bytes fault)
unfolding set
by_fault words bytes None within accepted = by_platform words bytes (wanted_platform bytes words.wanted) within accepted refl
by_fault words bytes (Some fault) within broken = inr (inl (fault, within, broken, λ next. refl))

passed : (a b : ℕ) → nat_lt a b ≡ true → a < b
passed a b h = grind (arith, nat_tests, h)

stayed : (a b : ℕ) → nat_lt a b ≡ false → b ≤ a
stayed a b h = grind (arith, nat_tests, h)

by_size : (words : LoadWords) (bytes : List ℕ) (long : Bool) → nat_lt file_limit (length bytes) ≡ long
    → FileEnds words bytes (λ next. if long then refused is.Limit long_file_text else image_outcome (set words next) bytes (fault_of bytes))
by_size words bytes true size = inl (passed file_limit (length bytes) size, λ next. refl)
by_size words bytes false size = by_fault words bytes (fault_of bytes) (stayed file_limit (length bytes) size) refl

file_ends : (words : LoadWords) (bytes : List ℕ) → FileEnds words bytes (λ next. bytes_outcome (set words next) bytes)
unfolding bytes_outcome
file_ends words bytes = by_size words bytes (nat_lt file_limit (length bytes)) refl

-- what becomes of a setting, where it tells one from a refusal of FILE: no such refusal has this status
abbrev halted : Setting → Outcome
halted setting = refused is.Memory memory_text

-- ---- FILE decides

by_file : (words : LoadWords) (status : Status) (given : ℕ) (gains put : List ℕ → Type 0) (x : Outcome) (bytes : List ℕ) → Seen status gains put x → length bytes ≡ given
    → x ≡ bytes_outcome (set words halted) bytes → FileEnds words bytes (λ next. bytes_outcome (set words next) bytes) → LoadAnswers words status given gains put
by_file words status given gains put x bytes h size same (inl (long, always)) =
    let s = seen_as status gains put x (refused is.Limit long_file_text) (same ∙ always halted) h in
    inr (inl (inl (s.0, subst (λ n. file_limit < n) size long, s.1)))
by_file words status given gains put x bytes h size same (inr (inl (fault, within, broken, always))) =
    let s = seen_as status gains put x (refused is.File (fault_text fault)) (same ∙ always halted) h in
    inr (inl (inr (s.0, (bytes, fault, record { size = size; within = subst (λ n. n ≤ file_limit) size within; broken = broken }, s.1))))
by_file words status given gains put x bytes h size same (inr (inr (inl (within, accepted, inl (wanted, always))))) =
    let s = seen_as status gains put x (refused is.Platform _) (same ∙ always halted) h in
    inr (inr (inl (s.0, (bytes, record { size = size; within = subst (λ n. n ≤ file_limit) size within; accepted = accepted }, inl (wanted, s.1)))))
by_file words status given gains put x bytes h size same (inr (inr (inl (within, accepted, inr (platform, wanted, none, always))))) =
    let s = seen_as status gains put x (refused is.Platform _) (same ∙ always halted) h in
    inr (inr (inl (s.0, (bytes, record { size = size; within = subst (λ n. n ≤ file_limit) size within; accepted = accepted }, inr (platform, wanted, none, s.1)))))
by_file words status given gains put x bytes h size same (inr (inr (inr (platform, digest, measured, leads)))) =
    inl (inr (h.0 ∙ ap (λ (y : Outcome). y.status) (same ∙ leads halted)))

-- ---- HOST decides

by_bad : (words : LoadWords) (bytes : List ℕ) (platform : Platform) (digest : List ℕ) (status : Status) (plan : List PlanRange) (host : HostValues) (gains put : List ℕ → Type 0) (bad : Option Misfit)
    → load_misfit bytes platform plan host words.options ≡ bad → Seen status gains put (ended_outcome words.image (load_of bytes platform words.options host) digest bad)
    → IsJudged words bytes platform digest status plan host gains
by_bad words bytes platform digest status plan host gains put None fits h = inr (h.0, fits, h.1)
by_bad words bytes platform digest status plan host gains put (Some misfit) bad h = inl (h.0, (misfit, bad, h.1))

by_misfit : (words : LoadWords) (bytes : List ℕ) (platform : Platform) (digest : List ℕ) (status : Status) (plan : List PlanRange) (host : HostValues) (gains put : List ℕ → Type 0) (first : Option Misfit)
    → load_misfit bytes platform plan host words.options ≡ option_or first (bad_digest bytes platform words.options)
    → Seen status gains put (checked_outcome words.image (load_of bytes platform words.options host) digest first)
    → IsJudged words bytes platform digest status plan host gains
by_misfit words bytes platform digest status plan host gains put None same h =
    by_bad words bytes platform digest status plan host gains put (bad_digest bytes platform words.options) same h
by_misfit words bytes platform digest status plan host gains put (Some misfit) same h = inl (h.0, (misfit, same, h.1))

-- HOST answers, or memory runs out as its text is read
by_description : (words : LoadWords) (bytes : List ℕ) (platform : Platform) (digest : List ℕ) (status : Status) (given : ℕ) (gains put : List ℕ → Type 0) (text : List ℕ)
    (read : Result (List PlanRange × HostValues) HostRefusal) → IsHostText text given read
    → Seen status gains put (described_outcome words (record { file = bytes; platform = platform; digest = digest }) read)
    → (status ≡ is.Memory) ⊎ HostAnswers words bytes platform digest status given gains put
by_description words bytes platform digest status given gains put text (Ok (plan, host)) is_text h =
    inr (inr (text, plan, host, is_text, by_misfit words bytes platform digest status plan host gains put (first_misfit bytes platform plan host) refl h))
by_description words bytes platform digest status given gains put text (Err reading.NotJson) is_text h = inr (inl (inr (h.0, inl (text, is_text, h.1))))
by_description words bytes platform digest status given gains put text (Err (reading.Field part item)) is_text h =
    inr (inl (inr (h.0, inr (text, part, item, is_text, h.1))))
by_description words bytes platform digest status given gains put text (Err reading.Memory) is_text h = inl h.0

by_length : (words : LoadWords) (bytes : List ℕ) (platform : Platform) (digest : List ℕ) (status : Status) (given : ℕ) (gains put : List ℕ → Type 0) (text : List ℕ) (long : Bool)
    → length text ≡ given → nat_lt host_limit (length text) ≡ long
    → Seen status gains put (if long then refused is.Limit long_host_text else described_outcome words (record { file = bytes; platform = platform; digest = digest }) (host_of text))
    → (status ≡ is.Memory) ⊎ HostAnswers words bytes platform digest status given gains put
by_length words bytes platform digest status given gains put text true size long h =
    inr (inl (inl (h.0, subst (λ n. host_limit < n) size (passed host_limit (length text) long), h.1)))
by_length words bytes platform digest status given gains put text false size long h =
    let is_text : IsHostText text given (host_of text) = record { size = size; within = subst (λ n. n ≤ host_limit) size (stayed host_limit (length text) long); reads = refl } in
    by_description words bytes platform digest status given gains put text (host_of text) is_text h

by_text : (words : LoadWords) (bytes : List ℕ) (platform : Platform) (digest : List ℕ) (status : Status) (given : ℕ) (gains put : List ℕ → Type 0) (text : List ℕ) → length text ≡ given
    → Seen status gains put (host_outcome words (record { file = bytes; platform = platform; digest = digest }) text)
    → (status ≡ is.Memory) ⊎ HostAnswers words bytes platform digest status given gains put
unfolding host_outcome
by_text words bytes platform digest status given gains put text size h =
    by_length words bytes platform digest status given gains put text (nat_lt host_limit (length text)) size refl h

answered : (words : LoadWords) (bytes : List ℕ) (platform : Platform) (digest : List ℕ) (status : Status) (given : ℕ) (gains put : List ℕ → Type 0) → IsMeasured words bytes platform digest
    → (status ≡ is.Memory) ⊎ HostAnswers words bytes platform digest status given gains put → LoadAnswers words status given gains put
answered words bytes platform digest status given gains put measured (inl memory) = inl (inr memory)
answered words bytes platform digest status given gains put measured (inr answers) = inr (inr (inr (bytes, platform, digest, measured, answers)))

-- where FILE leads on it does not end the job
ends_before : {A : Type 0} (words : LoadWords) (bytes : List ℕ) (setting : Setting) (x : Outcome) → x.status ≢ is.Memory → LeadsOn words bytes setting
    → Always (λ next. bytes_outcome (set words next) bytes) x → A
ends_before words bytes setting x other leads always = absurd (other (ap (λ (y : Outcome). y.status) (sym (always halted) ∙ leads halted)))

-- what FILE leads on with is the setting that it has
by_host : (words : LoadWords) (status : Status) (given : ℕ) (gains put : List ℕ → Type 0) (x : Outcome) (bytes : List ℕ) (setting : Setting) (text : List ℕ) → Seen status gains put x
    → LeadsOn words bytes setting → length text ≡ given → x ≡ host_outcome words setting text
    → FileEnds words bytes (λ next. bytes_outcome (set words next) bytes) → LoadAnswers words status given gains put
by_host words status given gains put x bytes setting text h leads size same (inl (long, always)) =
    ends_before words bytes setting (refused is.Limit long_file_text) (λ clash. cc) leads always
by_host words status given gains put x bytes setting text h leads size same (inr (inl (fault, within, broken, always))) =
    ends_before words bytes setting (refused is.File (fault_text fault)) (λ clash. cc) leads always
by_host words status given gains put x bytes setting text h leads size same (inr (inr (inl (within, accepted, inl (wanted, always))))) =
    ends_before words bytes setting (refused is.Platform _) (λ clash. cc) leads always
by_host words status given gains put x bytes setting text h leads size same (inr (inr (inl (within, accepted, inr (platform, wanted, none, always))))) =
    ends_before words bytes setting (refused is.Platform _) (λ clash. cc) leads always
by_host words status given gains put x bytes setting text h leads size same (inr (inr (inr (platform, digest, measured, own)))) =
    let on_host = (λ (one : Setting). host_outcome words one text) in
    let s = seen_as status gains put x (host_outcome words (record { file = bytes; platform = platform; digest = digest }) text) (same ∙ sym (leads on_host) ∙ own on_host) h in
    answered words bytes platform digest status given gains put measured (by_text words bytes platform digest status given gains put text size s)

-- ---- all together

decided : (words : LoadWords) (status : Status) (given : ℕ) (gains put : List ℕ → Type 0) (x : Outcome) → Seen status gains put x → IsByFile words given x ⊎ IsByHost words given x
    → LoadAnswers words status given gains put
decided words status given gains put x h (inl (bytes, size, same)) = by_file words status given gains put x bytes h size (same halted) (file_ends words bytes)
decided words status given gains put x h (inr (bytes, setting, text, leads, size, same)) =
    by_host words status given gains put x bytes setting text h leads size same (file_ends words bytes)

judged : {O E : Type 0} (o : sinks.Ghosts O) (e : sinks.Ghosts E) (words : LoadWords) (status : Status) (given : ℕ) (x : Outcome) (failed : Failures) (out out' : O) (err err' : E)
    → OutputIsKept o x status out out' → ErrorTextIsPut e x status failed err err'
    → ((status ≡ x.status) × (IsByFile words given x ⊎ IsByHost words given x)) ⊎ (status ≡ is.Outside) ⊎ (status ≡ is.Memory)
    → LoadAnswers words status given (λ text. Gains o text out out') (λ text. IsPut e text err err')
judged o e words status given x failed out out' err err' output error (inl h) =
    decided words status given (λ text. Gains o text out out') (λ text. IsPut e text err err') x (seen o e x failed out out' err err' status h.0 output error) h.1
judged o e words status given x failed out out' err err' output error (inr h) = inl h

pub load_answers : {S O E L : Type 0} (s : shelves.Ghosts S) (o : sinks.Ghosts O) (e : sinks.Ghosts E) (l : launches.Ghosts L) (words : LoadWords) (status : Status) (shelf shelf' : S) (out out' : O)
    (err err' : E) (machine machine' : L) → KeepsPromises s o e l (load_task words) status shelf shelf' out out' err err' machine machine'
    → LoadAnswers words status (s.given shelf') (λ text. Gains o text out out') (λ text. IsPut e text err err')
load_answers s o e l words status shelf shelf' out out' err err' machine machine' k =
    judged o e words status (s.given shelf') k.keeps.outcome _ out out' err err' k.keeps.output k.keeps.error k.keeps.judged
