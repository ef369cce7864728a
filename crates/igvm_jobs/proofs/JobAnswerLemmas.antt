-- What follows from the promises of the top call, for each job.
use Rattle.std.proofs.Common.{◌≡◌, ◌∙◌, ℕ, ◌<◌, ◌≤◌, refl, ap, subst, inl, inr, ◌⊎◌, List, length, Option, Some, None, IfSome, Bool, true, false, arith}
use Rattle.std.proofs.lemmas.Bool.Decides.{nat_tests}
use Rattle.std.specs.Prelude.{nat_lt, if◌then◌else◌}
use Rattle.igvm_headers.specs.declared.fault.ReadFault.{ReadFault}
use Rattle.platform_masks.specs.declared.platform.Platform.{Platform}
use Rattle.igvm_image.specs.FileFault.{fault_of}
use Rattle.dump_text.specs.Listing.{print_text}
use Rattle.component_list.specs.Lists.{ImageParts}
use Rattle.component_list.specs.declared.refusal.ListRefusal.{ListRefusal}
use Rattle.component_list.specs.declared.refusal.ListRefusal.TheVariants as reading
use Rattle.component_list.specs.declared.refusal.ExpandRefusal.{ExpandRefusal}
use Rattle.component_list.specs.declared.refusal.ExpandRefusal.TheVariants as expand
use Rattle.image_builder.specs.Layout.{layout}
use Rattle.igvm_outside.specs.Files.{Files}
use Rattle.igvm_outside.specs.declared.shelf.Shelf as shelves
use Rattle.igvm_outside.specs.declared.sink.Sink as sinks
use Rattle.launch_platform.specs.declared.launch.Launch as launches
use Rattle.igvm_jobs.specs.declared.status.Status.{Status}
use Rattle.igvm_jobs.specs.declared.status.Status.TheVariants as is
use Rattle.igvm_words.specs.Words.{MeasureWords}
use Rattle.igvm_jobs.specs.Texts.{long_file_text, fault_text, no_platform_text, no_digest_text, digest_text, large_image_text, built_text}
use Rattle.igvm_jobs.specs.Outcome.{Outcome, refused, done, done_writing}
use Rattle.igvm_jobs.specs.Tasks.{Task}
use Rattle.igvm_jobs.specs.ImageFiles.{bytes_outcome, image_outcome, file_limit, IsOfBytes}
use Rattle.igvm_jobs.specs.PrintJob.{listed, print_task}
use Rattle.igvm_jobs.specs.MeasureJob.{measured, wanted_platform, platform_digest, platform_outcome, digest_outcome, measured_for, measure_task}
use Rattle.igvm_jobs.specs.ListFiles.{list_refused, expand_refused, IsGivenTo, IsListRefused}
use Rattle.igvm_jobs.specs.BuildJob.{parts_outcome, image_limit, IsOfParts, build_task}
use Rattle.igvm_jobs.specs.MakeJob.{made_outcome, make_task}
use Rattle.igvm_jobs.specs.Clauses.{OutputIsKept, ErrorTextIsPut, FilesAreKept, FilesEndAs, Gains, IsPut, Failures, failures, FaultsHaveCauses, MachineEndsAs, KeepsPromises}
use Rattle.igvm_jobs.proofs.EndingLemmas.{late_kept}
use Rattle.igvm_jobs.specs.JobAnswers.{FollowsFiles, IsHalted, IsImage, IsFileRefused, PrintAnswers, HasDigest, MeasureAnswers, IsJsonText, IsLimitText, BuildAnswers, MakeAnswers}

-- ---- over files that are told

status_of_told : (x : Outcome) (status : Status) (can : Type 0) → ((status ≡ x.status) × can) ⊎ (status ≡ is.Outside) ⊎ (status ≡ is.Memory)
    → (status ≡ x.status) ⊎ (status ≡ is.Outside) ⊎ (status ≡ is.Memory)
status_of_told x status can (inl h) = inl h.0
status_of_told x status can (inr h) = inr h

held : {S O E L : Type 0} (s : shelves.Ghosts S) (o : sinks.Ghosts O) (e : sinks.Ghosts E) (l : launches.Ghosts L) (task : Task) (status : Status) (shelf shelf' : S) (out out' : O) (err err' : E)
    (machine machine' : L) (files : Files) (k : KeepsPromises s o e l task status shelf shelf' out out' err err' machine machine') → k.keeps.outcome ≡ task.outcome files
    → FollowsFiles s o e l task status shelf shelf' out out' err err' machine machine' files
held s o e l task status shelf shelf' out out' err err' machine machine' files k same =
    let failed = failures s o l task shelf shelf' out out' machine machine' in
    record {
      status_is = subst (λ (x : Outcome). (status ≡ x.status) ⊎ (status ≡ is.Outside) ⊎ (status ≡ is.Memory)) same (status_of_told k.keeps.outcome status _ k.keeps.judged);
      output = subst (λ (x : Outcome). OutputIsKept o x status out out') same k.keeps.output;
      error = subst (λ (x : Outcome). ErrorTextIsPut e x status (failed x) err err') same k.keeps.error;
      written = subst (λ (x : Outcome). FilesEndAs x status task.early (s.told shelf) (s.told shelf')) same k.keeps.files;
      launch = subst (λ (x : Outcome). MachineEndsAs l task.launches x status (failed x) machine machine') same k.launch;
      faults = subst (λ (x : Outcome). FaultsHaveCauses status (failed x)) same k.keeps.faults;
    }

where_told : (told : Option Files) (x : Outcome) (given : Files → Outcome) (P : Files → Type 0) → IfSome told (λ files. x ≡ given files) → ((files : Files) → x ≡ given files → P files) → IfSome told P
where_told None x given P same holds = tt
where_told (Some files) x given P same holds = holds files same

pub told_decide : {S O E L : Type 0} (s : shelves.Ghosts S) (o : sinks.Ghosts O) (e : sinks.Ghosts E) (l : launches.Ghosts L) (task : Task) (status : Status) (shelf shelf' : S) (out out' : O)
    (err err' : E) (machine machine' : L) → KeepsPromises s o e l task status shelf shelf' out out' err err' machine machine'
    → IfSome (s.told shelf) (FollowsFiles s o e l task status shelf shelf' out out' err err' machine machine')
told_decide s o e l task status shelf shelf' out out' err err' machine machine' k =
    where_told (s.told shelf) k.keeps.outcome task.outcome _ k.keeps.told
    (λ files same. held s o e l task status shelf shelf' out out' err err' machine machine' files k same)

-- ---- what is put with a status

-- a refusal's line
pub line_put : {E : Type 0} (e : sinks.Ghosts E) (x : Outcome) (status : Status) (err err' : E) (failed : Failures) (st : Status) → status ≡ st → (ErrorTextIsPut e x st failed err err' → IsPut e x.err err err')
    → ErrorTextIsPut e x status failed err err' → IsPut e x.err err err'
line_put e x status err err' failed st same put error = put (subst (λ (q : Status). ErrorTextIsPut e x q failed err err') same error)

-- the text of a job that is done
pub text_put : {O : Type 0} (o : sinks.Ghosts O) (x : Outcome) (status : Status) (out out' : O) → status ≡ is.Done → OutputIsKept o x status out out' → Gains o x.out out out'
text_put o x status out out' same output = subst (λ (q : Status). OutputIsKept o x q out out') same output

-- ---- jobs on one image file

passed : (a b : ℕ) → nat_lt a b ≡ true → a < b
passed a b h = grind (arith, nat_tests, h)

stayed : (a b : ℕ) → nat_lt a b ≡ false → b ≤ a
stayed a b h = grind (arith, nat_tests, h)

-- the bytes are too many, or break a rule, or are an image
abbrev Judged : (List ℕ → Outcome) → List ℕ → Outcome → Type 0
Judged next bytes x =
    ((file_limit < length bytes) × (x ≡ refused is.Limit long_file_text))
    ⊎ ((fault : ReadFault) × (length bytes ≤ file_limit) × (fault_of bytes ≡ Some fault) × (x ≡ refused is.File (fault_text fault)))
    ⊎ ((length bytes ≤ file_limit) × (fault_of bytes ≡ None) × (x ≡ next bytes))

by_fault : (next : List ℕ → Outcome) (bytes : List ℕ) (x : Outcome) (fault : Option ReadFault) → length bytes ≤ file_limit → fault_of bytes ≡ fault → x ≡ image_outcome next bytes fault → Judged next bytes x
by_fault next bytes x None h same is = inr (inr (h, same, is))
by_fault next bytes x (Some fault) h same is = inr (inl (fault, h, same, is))

by_size : (next : List ℕ → Outcome) (bytes : List ℕ) (x : Outcome) (long : Bool) → nat_lt file_limit (length bytes) ≡ long
    → x ≡ (if long then refused is.Limit long_file_text else image_outcome next bytes (fault_of bytes)) → Judged next bytes x
by_size next bytes x true same is = inl (passed file_limit (length bytes) same, is)
by_size next bytes x false same is = by_fault next bytes x _ (stayed file_limit (length bytes) same) refl is

judged : (next : List ℕ → Outcome) (bytes : List ℕ) (x : Outcome) → x ≡ bytes_outcome next bytes → Judged next bytes x
unfolding bytes_outcome
judged next bytes x same = by_size next bytes x _ refl same

-- the outside or memory failed, or the file is refused, or an image of as many bytes as were given decides
abbrev pub FileAnswer : (List ℕ → Outcome) → Status → ℕ → Outcome → (List ℕ → Type 0) → Type 0
FileAnswer next status given x put =
    IsHalted status ⊎ IsFileRefused status given put ⊎ ((bytes : List ℕ) × IsImage bytes given × (x ≡ next bytes) × (status ≡ x.status))

of_judged : {E : Type 0} (e : sinks.Ghosts E) (next : List ℕ → Outcome) (status : Status) (given : ℕ) (x : Outcome) (err err' : E) (failed : Failures) (bytes : List ℕ)
    → ErrorTextIsPut e x status failed err err' → status ≡ x.status → length bytes ≡ given → Judged next bytes x → FileAnswer next status given x (λ text. IsPut e text err err')
of_judged e next status given x err err' failed bytes error same size (inl h) =
    let st = same ∙ ap (λ (y : Outcome). y.status) h.1 in
    inr (inl (inl (st, subst (λ n. file_limit < n) size h.0, subst (λ (y : Outcome). IsPut e y.err err err') h.1 (line_put e x status err err' failed is.Limit st (λ p. p) error))))
of_judged e next status given x err err' failed bytes error same size (inr (inl h)) =
    let st = same ∙ ap (λ (y : Outcome). y.status) h.3 in
    inr (inl (inr (
      st,
      (
        bytes,
        h.0,
        record { size = size; within = subst (λ n. n ≤ file_limit) size h.1; broken = h.2 },
        subst (λ (y : Outcome). IsPut e y.err err err') h.3 (line_put e x status err err' failed is.File st (λ p. p) error),
      ),
    )))
of_judged e next status given x err err' failed bytes error same size (inr (inr h)) =
    inr (inr (bytes, record { size = size; within = subst (λ n. n ≤ file_limit) size h.0; accepted = h.1 }, h.2, same))

pub file_answer : {E : Type 0} (e : sinks.Ghosts E) (next : List ℕ → Outcome) (status : Status) (given : ℕ) (x : Outcome) (err err' : E) (failed : Failures)
    → ((status ≡ x.status) × IsOfBytes next given x) ⊎ (status ≡ is.Outside) ⊎ (status ≡ is.Memory) → ErrorTextIsPut e x status failed err err'
    → FileAnswer next status given x (λ text. IsPut e text err err')
file_answer e next status given x err err' failed (inl h) error = of_judged e next status given x err err' failed h.1.0 error h.0 h.1.1 (judged next h.1.0 x h.1.2)
file_answer e next status given x err err' failed (inr h) error = inl h

-- ---- `print`

listed_out : (bytes : List ℕ) → listed bytes ≡ done (print_text bytes)
unfolding listed
listed_out bytes = refl

print_of : {O E : Type 0} (o : sinks.Ghosts O) (e : sinks.Ghosts E) (status : Status) (given : ℕ) (x : Outcome) (out out' : O) (err err' : E) → OutputIsKept o x status out out'
    → FileAnswer listed status given x (λ text. IsPut e text err err') → PrintAnswers status given (λ text. Gains o text out out') (λ text. IsPut e text err err')
print_of o e status given x out out' err err' output (inl h) = inl h
print_of o e status given x out out' err err' output (inr (inl h)) = inr (inl h)
print_of o e status given x out out' err err' output (inr (inr h)) =
    let is_done = h.2 ∙ listed_out h.0 in
    let st = h.3 ∙ ap (λ (y : Outcome). y.status) is_done in
    inr (inr (st, (h.0, h.1, subst (λ (y : Outcome). Gains o y.out out out') is_done (text_put o x status out out' st output))))

pub print_answers : {S O E L : Type 0} (s : shelves.Ghosts S) (o : sinks.Ghosts O) (e : sinks.Ghosts E) (l : launches.Ghosts L) (file : List ℕ) (status : Status) (shelf shelf' : S) (out out' : O)
    (err err' : E) (machine machine' : L) → KeepsPromises s o e l (print_task file) status shelf shelf' out out' err err' machine machine'
    → PrintAnswers status (s.given shelf') (λ text. Gains o text out out') (λ text. IsPut e text err err')
print_answers s o e l file status shelf shelf' out out' err err' machine machine' k =
    print_of o e status (s.given shelf') k.keeps.outcome out out' err err' k.keeps.output (file_answer e listed status (s.given shelf') k.keeps.outcome err err' _ k.keeps.judged k.keeps.error)

-- ---- `measure`

-- an image has no digest, with its line, or has one
abbrev Measured : MeasureWords → List ℕ → Outcome → Type 0
Measured words bytes x =
    ((wanted_platform bytes words.wanted ≡ None) × (x ≡ refused is.Platform (no_platform_text words.wanted)))
    ⊎ ((platform : Platform) × (wanted_platform bytes words.wanted ≡ Some platform) × (platform_digest bytes words.options platform ≡ None)
    × (x ≡ refused is.Platform (no_digest_text platform.kind)))
    ⊎ ((digest : List ℕ) × HasDigest words bytes digest × (x ≡ done (digest_text digest)))

by_digest : (words : MeasureWords) (bytes : List ℕ) (x : Outcome) (platform : Platform) (digest : Option (List ℕ)) → wanted_platform bytes words.wanted ≡ Some platform
    → platform_digest bytes words.options platform ≡ digest → x ≡ digest_outcome platform.kind (λ found. done (digest_text found)) digest → Measured words bytes x
by_digest words bytes x platform None found same is = inr (inl (platform, found, same, is))
by_digest words bytes x platform (Some digest) found same is = inr (inr (digest, (platform, found, same), is))

by_platform : (words : MeasureWords) (bytes : List ℕ) (x : Outcome) (found : Option Platform) → wanted_platform bytes words.wanted ≡ found
    → x ≡ platform_outcome words.wanted (measured_for bytes words.options) found → Measured words bytes x
by_platform words bytes x None same is = inl (same, is)
by_platform words bytes x (Some platform) same is = by_digest words bytes x platform _ same refl is

measured_is : (words : MeasureWords) (bytes : List ℕ) (x : Outcome) → x ≡ measured words.wanted words.options bytes → Measured words bytes x
unfolding measured
measured_is words bytes x same = by_platform words bytes x _ refl same

measure_of : {O E : Type 0} (o : sinks.Ghosts O) (e : sinks.Ghosts E) (words : MeasureWords) (status : Status) (given : ℕ) (x : Outcome) (out out' : O) (err err' : E) (failed : Failures) (bytes : List ℕ)
    → OutputIsKept o x status out out' → ErrorTextIsPut e x status failed err err' → IsImage bytes given → status ≡ x.status → Measured words bytes x
    → MeasureAnswers words status given (λ text. Gains o text out out') (λ text. IsPut e text err err')
measure_of o e words status given x out out' err err' failed bytes output error image same (inl h) =
    let st = same ∙ ap (λ (y : Outcome). y.status) h.1 in
    inr (inr (inl (st, (bytes, image, inl (h.0, subst (λ (y : Outcome). IsPut e y.err err err') h.1 (line_put e x status err err' failed is.Platform st (λ p. p) error))))))
measure_of o e words status given x out out' err err' failed bytes output error image same (inr (inl h)) =
    let st = same ∙ ap (λ (y : Outcome). y.status) h.3 in
    inr (inr (inl (st, (bytes, image, inr (h.0, h.1, h.2, subst (λ (y : Outcome). IsPut e y.err err err') h.3 (line_put e x status err err' failed is.Platform st (λ p. p) error))))))
measure_of o e words status given x out out' err err' failed bytes output error image same (inr (inr h)) =
    let st = same ∙ ap (λ (y : Outcome). y.status) h.2 in
    inr (inr (inr (st, (bytes, h.0, image, h.1, subst (λ (y : Outcome). Gains o y.out out out') h.2 (text_put o x status out out' st output)))))

measure_file : {O E : Type 0} (o : sinks.Ghosts O) (e : sinks.Ghosts E) (words : MeasureWords) (status : Status) (given : ℕ) (x : Outcome) (out out' : O) (err err' : E) (failed : Failures)
    → OutputIsKept o x status out out' → ErrorTextIsPut e x status failed err err' → FileAnswer (measured words.wanted words.options) status given x (λ text. IsPut e text err err')
    → MeasureAnswers words status given (λ text. Gains o text out out') (λ text. IsPut e text err err')
measure_file o e words status given x out out' err err' failed output error (inl h) = inl h
measure_file o e words status given x out out' err err' failed output error (inr (inl h)) = inr (inl h)
measure_file o e words status given x out out' err err' failed output error (inr (inr h)) =
    measure_of o e words status given x out out' err err' failed h.0 output error h.1 h.3 (measured_is words h.0 x h.2)

pub measure_answers : {S O E L : Type 0} (s : shelves.Ghosts S) (o : sinks.Ghosts O) (e : sinks.Ghosts E) (l : launches.Ghosts L) (words : MeasureWords) (status : Status) (shelf shelf' : S) (out out' : O)
    (err err' : E) (machine machine' : L) → KeepsPromises s o e l (measure_task words) status shelf shelf' out out' err err' machine machine'
    → MeasureAnswers words status (s.given shelf') (λ text. Gains o text out out') (λ text. IsPut e text err err')
measure_answers s o e l words status shelf shelf' out out' err err' machine machine' k =
    measure_file o e words status (s.given shelf') k.keeps.outcome out out' err err' _ k.keeps.output k.keeps.error
    (file_answer e (measured words.wanted words.options) status (s.given shelf') k.keeps.outcome err err' _ k.keeps.judged k.keeps.error)

-- ---- `build`

-- a list is refused with a line of its form, or its image is written
abbrev Built : List ℕ → ℕ → Outcome → Type 0
Built target given x =
    ((text : List ℕ) × IsJsonText text × (x ≡ refused is.Json text)) ⊎ ((text : List ℕ) × IsLimitText given text × (x ≡ refused is.Limit text))
    ⊎ (x.status ≡ is.Outside) ⊎ (x.status ≡ is.Memory)
    ⊎ ((parts : ImageParts) × (given ≤ file_limit) × (length (layout parts) ≤ image_limit) × (x ≡ done_writing target (layout parts) (built_text (length (layout parts)))))

by_list : (target : List ℕ) (given : ℕ) (x : Outcome) (e : ListRefusal) → x ≡ list_refused e → Built target given x
by_list target given x reading.NotJson same = inl (_, inl refl, same)
by_list target given x (reading.Field part item) same = inl (_, inr (inl (part, item, refl)), same)
by_list target given x reading.Memory same = inr (inr (inr (inl (ap (λ (y : Outcome). y.status) same))))

by_expansion : (target : List ℕ) (given : ℕ) (x : Outcome) (e : ExpandRefusal) → IsGivenTo e given → x ≡ expand_refused e → Built target given x
by_expansion target given x (expand.Read item) long same = inr (inr (inl (ap (λ (y : Outcome). y.status) same)))
by_expansion target given x (expand.TooLong item) long same = inr (inl (_, inr (inl (refl, long)), same))
by_expansion target given x (expand.TooLarge item) long same = inr (inl (_, inr (inr (inl refl)), same))
by_expansion target given x (expand.Rule part item what) long same = inl (_, inr (inr (part, item, what, refl)), same)
by_expansion target given x expand.Memory long same = inr (inr (inr (inl (ap (λ (y : Outcome). y.status) same))))

by_image : (target : List ℕ) (given : ℕ) (x : Outcome) (parts : ImageParts) (large : Bool) → given ≤ file_limit → nat_lt image_limit (length (layout parts)) ≡ large
    → x ≡ (if large then refused is.Limit large_image_text else done_writing target (layout parts) (built_text (length (layout parts)))) → Built target given x
by_image target given x parts true within size same = inr (inl (_, inr (inr (inr refl)), same))
by_image target given x parts false within size same = inr (inr (inr (inr (parts, within, stayed image_limit (length (layout parts)) size, same))))

by_parts : (target : List ℕ) (given : ℕ) (x : Outcome) (parts : ImageParts) → given ≤ file_limit → x ≡ parts_outcome target parts → Built target given x
unfolding parts_outcome
by_parts target given x parts within same = by_image target given x parts _ within refl same

built : (target : List ℕ) (given : ℕ) (x : Outcome) → IsListRefused given x ⊎ IsOfParts target given x → Built target given x
built target given x (inl (inl h)) = inr (inl (_, inl (refl, h.0), h.1))
built target given x (inl (inr (inl h))) = by_list target given x h.3.0 h.3.2
built target given x (inl (inr (inr h))) = by_expansion target given x h.0 h.1 h.2
built target given x (inr h) = by_parts target given x h.0 h.1 h.2

build_of : {O E : Type 0} (o : sinks.Ghosts O) (e : sinks.Ghosts E) (target : List ℕ) (status : Status) (given : ℕ) (told told' : Option Files) (x : Outcome) (out out' : O) (err err' : E) (failed : Failures)
    → OutputIsKept o x status out out' → ErrorTextIsPut e x status failed err err' → FilesAreKept x status told told' → status ≡ x.status → Built target given x
    → BuildAnswers target status given told told' (λ text. Gains o text out out') (λ text. IsPut e text err err')
build_of o e target status given told told' x out out' err err' failed output error files same (inl h) =
    let st = same ∙ ap (λ (y : Outcome). y.status) h.2 in
    inr (inl (st, (h.0, h.1, subst (λ (y : Outcome). IsPut e y.err err err') h.2 (line_put e x status err err' failed is.Json st (λ p. p) error))))
build_of o e target status given told told' x out out' err err' failed output error files same (inr (inl h)) =
    let st = same ∙ ap (λ (y : Outcome). y.status) h.2 in
    inr (inr (inl (st, (h.0, h.1, subst (λ (y : Outcome). IsPut e y.err err err') h.2 (line_put e x status err err' failed is.Limit st (λ p. p) error)))))
build_of o e target status given told told' x out out' err err' failed output error files same (inr (inr (inl h))) = inl (inl (same ∙ h))
build_of o e target status given told told' x out out' err err' failed output error files same (inr (inr (inr (inl h)))) = inl (inr (same ∙ h))
build_of o e target status given told told' x out out' err err' failed output error files same (inr (inr (inr (inr h)))) =
    let st = same ∙ ap (λ (y : Outcome). y.status) h.3 in
    inr (inr (inr (
      st,
      (
        h.0,
        h.1,
        h.2,
        subst (λ (y : Outcome). FilesAreKept y is.Done told told') h.3 (subst (λ (q : Status). FilesAreKept x q told told') st files),
        subst (λ (y : Outcome). Gains o y.out out out') h.3 (text_put o x status out out' st output),
      ),
    )))

build_judged : {O E : Type 0} (o : sinks.Ghosts O) (e : sinks.Ghosts E) (target : List ℕ) (status : Status) (given : ℕ) (told told' : Option Files) (x : Outcome) (out out' : O) (err err' : E) (failed : Failures)
    → OutputIsKept o x status out out' → ErrorTextIsPut e x status failed err err' → FilesAreKept x status told told' → ((status ≡ x.status) × (IsListRefused given x ⊎ IsOfParts target given x)) ⊎ (status ≡ is.Outside) ⊎ (status ≡ is.Memory)
    → BuildAnswers target status given told told' (λ text. Gains o text out out') (λ text. IsPut e text err err')
build_judged o e target status given told told' x out out' err err' failed output error files (inl h) =
    build_of o e target status given told told' x out out' err err' failed output error files h.0 (built target given x h.1)
build_judged o e target status given told told' x out out' err err' failed output error files (inr h) = inl h

pub build_answers : {S O E L : Type 0} (s : shelves.Ghosts S) (o : sinks.Ghosts O) (e : sinks.Ghosts E) (l : launches.Ghosts L) (list target : List ℕ) (status : Status) (shelf shelf' : S) (out out' : O)
    (err err' : E) (machine machine' : L) → KeepsPromises s o e l (build_task list target) status shelf shelf' out out' err err' machine machine'
    → BuildAnswers target status (s.given shelf') (s.told shelf) (s.told shelf') (λ text. Gains o text out out') (λ text. IsPut e text err err')
build_answers s o e l list target status shelf shelf' out out' err err' machine machine' k =
    build_judged o e target status (s.given shelf') (s.told shelf) (s.told shelf') k.keeps.outcome out out' err err' _ k.keeps.output k.keeps.error (late_kept k.keeps.outcome status (s.told shelf) (s.told shelf') k.keeps.files) k.keeps.judged

-- ---- `make`

make_of : {O : Type 0} (o : sinks.Ghosts O) (n : ℕ) (target : List ℕ) (status : Status) (told told' : Option Files) (x : Outcome) (out out' : O) → OutputIsKept o x status out out'
    → FilesEndAs x status true told told' → ((status ≡ x.status) × (x ≡ made_outcome n target)) ⊎ (status ≡ is.Outside) ⊎ (status ≡ is.Memory)
    → MakeAnswers n target status told told' (λ text. Gains o text out out')
make_of o n target status told told' x out out' output files (inl h) =
    let st = h.0 ∙ ap (λ (y : Outcome). y.status) h.1 in
    inr (
      st,
      (
        subst (λ (y : Outcome). FilesEndAs y is.Done true told told') h.1 (subst (λ (q : Status). FilesEndAs x q true told told') st files),
        subst (λ (y : Outcome). Gains o y.out out out') h.1 (text_put o x status out out' st output),
      ),
    )
make_of o n target status told told' x out out' output files (inr h) = inl h

pub make_answers : {S O E L : Type 0} (s : shelves.Ghosts S) (o : sinks.Ghosts O) (e : sinks.Ghosts E) (l : launches.Ghosts L) (count : ℕ) (target : List ℕ) (status : Status) (shelf shelf' : S) (out out' : O)
    (err err' : E) (machine machine' : L) → KeepsPromises s o e l (make_task count target) status shelf shelf' out out' err err' machine machine'
    → MakeAnswers count target status (s.told shelf) (s.told shelf') (λ text. Gains o text out out')
make_answers s o e l count target status shelf shelf' out out' err err' machine machine' k =
    make_of o count target status (s.told shelf) (s.told shelf') k.keeps.outcome out out' k.keeps.output k.keeps.files k.keeps.judged
