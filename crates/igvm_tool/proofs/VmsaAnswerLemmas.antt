-- What follows from the promises of the top call for the jobs on a VMSA, whatever is told.
use Rattle.std.proofs.Common.{◌≡◌, ◌∙◌, ◌⊎◌, ℕ, ◌<◌, ◌≤◌, refl, subst, inl, inr, List, length, Option, Result, Ok, Err, Bool, true, false, arith}
use Rattle.std.proofs.lemmas.Bool.Decides.{nat_tests}
use Rattle.std.specs.Prelude.{nat_lt, if◌then◌else◌}
use Rattle.std.specs.Option.{option_map}
use Rattle.vmsa_page.specs.declared.refusal.VmsaRefusal.{VmsaRefusal}
use Rattle.vmsa_page.specs.declared.refusal.VmsaRefusal.TheVariants as reading
use Rattle.vmsa_page.specs.Pages.{vmsa_of}
use Rattle.vmsa_page.specs.Sources.{vmsa_source}
use Rattle.vmsa_page.specs.Texts.{vmsa_json}
use Rattle.vmsa_page.specs.Vmsas.{VmsaParts}
use Rattle.igvm_outside.specs.Files.{Files}
use Rattle.igvm_outside.specs.declared.shelf.Shelf as shelves
use Rattle.igvm_outside.specs.declared.sink.Sink as sinks
use Rattle.launch_platform.specs.declared.launch.Launch as launches
use Rattle.igvm_jobs.specs.declared.status.Status.{Status}
use Rattle.igvm_jobs.specs.declared.status.Status.TheVariants as is
use Rattle.igvm_jobs.specs.Texts.{long_vmsa_text}
use Rattle.igvm_jobs.specs.Outcome.{Outcome, refused, done}
use Rattle.igvm_jobs.specs.Clauses.{with_written, OutputIsKept, ErrorTextIsPut, FilesAreKept, Gains, IsPut, Failures, KeepsPromises}
use Rattle.igvm_jobs.proofs.EndingLemmas.{late_kept}
use Rattle.igvm_tool.specs.ShortFiles.{short_outcome, IsOfShort}
use Rattle.igvm_tool.specs.VmsaJobs.{text_limit, page_limit, vmsa_refused, described_outcome, text_outcome, page_outcome, vmsa_build_task, vmsa_print_task}
use Rattle.igvm_tool.proofs.VmsaTextLemmas.{page_text}
use Rattle.igvm_tool.specs.FurtherAnswers.{IsVmsaText, VmsaBuildAnswers, VmsaPrintAnswers}

-- ---- what is seen of an outcome

-- what is put of an outcome, and written, by its status
abbrev Shown : (List ℕ → Type 0) → (List ℕ → Type 0) → Option Files → Option Files → Outcome → Status → Type 0
Shown gains put told told' x is.Done = gains x.out × (told' ≡ option_map (with_written x.written) told)
Shown gains put told told' x is.Json = put x.err
Shown gains put told told' x is.Limit = put x.err
Shown gains put told told' x _ = Unit

-- the status is the outcome's, and what belongs to it is put and written
abbrev Seen : Status → (List ℕ → Type 0) → (List ℕ → Type 0) → Option Files → Option Files → Outcome → Type 0
Seen status gains put told told' x = (status ≡ x.status) × Shown gains put told told' x x.status

shown : {O E : Type 0} (o : sinks.Ghosts O) (e : sinks.Ghosts E) (x : Outcome) (failed : Failures) (told told' : Option Files) (out out' : O) (err err' : E) (status : Status)
    → OutputIsKept o x status out out' → ErrorTextIsPut e x status failed err err' → FilesAreKept x status told told'
    → Shown (λ text. Gains o text out out') (λ text. IsPut e text err err') told told' x status
shown o e x failed told told' out out' err err' is.Done output error files = (output, files)
shown o e x failed told told' out out' err err' is.Json output error files = error
shown o e x failed told told' out out' err err' is.Limit output error files = error
shown o e x failed told told' out out' err err' _ output error files = tt

seen : {O E : Type 0} (o : sinks.Ghosts O) (e : sinks.Ghosts E) (x : Outcome) (failed : Failures) (told told' : Option Files) (out out' : O) (err err' : E) (status : Status) → status ≡ x.status
    → OutputIsKept o x status out out' → ErrorTextIsPut e x status failed err err' → FilesAreKept x status told told'
    → Seen status (λ text. Gains o text out out') (λ text. IsPut e text err err') told told' x
seen o e x failed told told' out out' err err' status same output error files =
    (same, subst (Shown (λ text. Gains o text out out') (λ text. IsPut e text err err') told told' x) same (shown o e x failed told told' out out' err err' status output error files))

seen_as : (status : Status) (gains put : List ℕ → Type 0) (told told' : Option Files) (x y : Outcome) → x ≡ y → Seen status gains put told told' x → Seen status gains put told told' y
seen_as status gains put told told' x y same h = subst (Seen status gains put told told') same h

-- ---- the bytes of the file

passed : (a b : ℕ) → nat_lt a b ≡ true → a < b
passed a b h = grind (arith, nat_tests, h)

stayed : (a b : ℕ) → nat_lt a b ≡ false → b ≤ a
stayed a b h = grind (arith, nat_tests, h)

-- the bytes are too many, or something is made of them
abbrev Judged : ℕ → (List ℕ → Outcome) → ℕ → Outcome → Type 0
Judged limit next given x =
    ((limit < given) × (x ≡ refused is.Limit long_vmsa_text)) ⊎ ((bytes : List ℕ) × (length bytes ≡ given) × (given ≤ limit) × (x ≡ next bytes))

by_size : (limit : ℕ) (next : List ℕ → Outcome) (given : ℕ) (x : Outcome) (bytes : List ℕ) (long : Bool) → length bytes ≡ given → nat_lt limit (length bytes) ≡ long
    → x ≡ (if long then refused is.Limit long_vmsa_text else next bytes) → Judged limit next given x
by_size limit next given x bytes true size long same = inl (subst (λ n. limit < n) size (passed limit (length bytes) long), same)
by_size limit next given x bytes false size long same = inr (bytes, size, subst (λ n. n ≤ limit) size (stayed limit (length bytes) long), same)

judged : (limit : ℕ) (next : List ℕ → Outcome) (given : ℕ) (x : Outcome) → IsOfShort limit next given x → Judged limit next given x
unfolding short_outcome
judged limit next given x h = by_size limit next given x h.0 _ h.1 refl h.2

-- ---- `vmsa-build`

by_reading : (target : List ℕ) (status : Status) (given : ℕ) (told told' : Option Files) (gains put : List ℕ → Type 0) (text : List ℕ) (read : Result VmsaParts VmsaRefusal) → IsVmsaText text given read
    → Seen status gains put told told' (described_outcome target read) → VmsaBuildAnswers target status given told told' gains put
by_reading target status given told told' gains put text (Ok vmsa) is_text h = inr (inr (inr (h.0, (text, vmsa, is_text, h.1.1, h.1.0))))
by_reading target status given told told' gains put text (Err reading.NotJson) is_text h = inr (inr (inl (h.0, inl (text, is_text, h.1))))
by_reading target status given told told' gains put text (Err (reading.Field place)) is_text h = inr (inr (inl (h.0, inr (text, place, is_text, h.1))))
by_reading target status given told told' gains put text (Err reading.Memory) is_text h = inl (inr h.0)

by_text : (target : List ℕ) (status : Status) (given : ℕ) (told told' : Option Files) (gains put : List ℕ → Type 0) (text : List ℕ) → length text ≡ given → given ≤ text_limit
    → Seen status gains put told told' (text_outcome target text) → VmsaBuildAnswers target status given told told' gains put
unfolding text_outcome
by_text target status given told told' gains put text size within h =
    by_reading target status given told told' gains put text (vmsa_source text) (record { size = size; within = within; reads = refl }) h

build_of : (target : List ℕ) (status : Status) (given : ℕ) (told told' : Option Files) (gains put : List ℕ → Type 0) (x : Outcome) → Seen status gains put told told' x
    → Judged text_limit (text_outcome target) given x → VmsaBuildAnswers target status given told told' gains put
build_of target status given told told' gains put x h (inl (long, same)) =
    let s = seen_as status gains put told told' x (refused is.Limit long_vmsa_text) same h in
    inr (inl (s.0, long, s.1))
build_of target status given told told' gains put x h (inr (text, size, within, same)) =
    by_text target status given told told' gains put text size within (seen_as status gains put told told' x (text_outcome target text) same h)

build_judged : {O E : Type 0} (o : sinks.Ghosts O) (e : sinks.Ghosts E) (target : List ℕ) (status : Status) (given : ℕ) (told told' : Option Files) (x : Outcome) (failed : Failures) (out out' : O) (err err' : E)
    → OutputIsKept o x status out out' → ErrorTextIsPut e x status failed err err' → FilesAreKept x status told told'
    → ((status ≡ x.status) × IsOfShort text_limit (text_outcome target) given x) ⊎ (status ≡ is.Outside) ⊎ (status ≡ is.Memory)
    → VmsaBuildAnswers target status given told told' (λ text. Gains o text out out') (λ text. IsPut e text err err')
build_judged o e target status given told told' x failed out out' err err' output error files (inl h) =
    build_of target status given told told' (λ text. Gains o text out out') (λ text. IsPut e text err err') x
    (seen o e x failed told told' out out' err err' status h.0 output error files) (judged text_limit (text_outcome target) given x h.1)
build_judged o e target status given told told' x failed out out' err err' output error files (inr h) = inl h

pub vmsa_build_answers : {S O E L : Type 0} (s : shelves.Ghosts S) (o : sinks.Ghosts O) (e : sinks.Ghosts E) (l : launches.Ghosts L) (json target : List ℕ) (status : Status) (shelf shelf' : S) (out out' : O)
    (err err' : E) (machine machine' : L) → KeepsPromises s o e l (vmsa_build_task json target) status shelf shelf' out out' err err' machine machine'
    → VmsaBuildAnswers target status (s.given shelf') (s.told shelf) (s.told shelf') (λ text. Gains o text out out') (λ text. IsPut e text err err')
vmsa_build_answers s o e l json target status shelf shelf' out out' err err' machine machine' k =
    build_judged o e target status (s.given shelf') (s.told shelf) (s.told shelf') k.keeps.outcome _ out out' err err' k.keeps.output k.keeps.error
    (late_kept k.keeps.outcome status (s.told shelf) (s.told shelf') k.keeps.files) k.keeps.judged

-- ---- `vmsa-print`

print_of : (status : Status) (given : ℕ) (told told' : Option Files) (gains put : List ℕ → Type 0) (x : Outcome) → Seen status gains put told told' x
    → Judged page_limit page_outcome given x → VmsaPrintAnswers status given gains put
print_of status given told told' gains put x h (inl (long, same)) =
    let s = seen_as status gains put told told' x (refused is.Limit long_vmsa_text) same h in
    inr (inl (s.0, long, s.1))
print_of status given told told' gains put x h (inr (page, size, within, same)) =
    let s = seen_as status gains put told told' x (done (vmsa_json (vmsa_of page))) (same ∙ page_text page) h in
    inr (inr (s.0, (page, size, within, s.1.0)))

print_judged : {O E : Type 0} (o : sinks.Ghosts O) (e : sinks.Ghosts E) (status : Status) (given : ℕ) (told told' : Option Files) (x : Outcome) (failed : Failures) (out out' : O) (err err' : E)
    → OutputIsKept o x status out out' → ErrorTextIsPut e x status failed err err' → FilesAreKept x status told told'
    → ((status ≡ x.status) × IsOfShort page_limit page_outcome given x) ⊎ (status ≡ is.Outside) ⊎ (status ≡ is.Memory)
    → VmsaPrintAnswers status given (λ text. Gains o text out out') (λ text. IsPut e text err err')
print_judged o e status given told told' x failed out out' err err' output error files (inl h) =
    print_of status given told told' (λ text. Gains o text out out') (λ text. IsPut e text err err') x
    (seen o e x failed told told' out out' err err' status h.0 output error files) (judged page_limit page_outcome given x h.1)
print_judged o e status given told told' x failed out out' err err' output error files (inr h) = inl h

pub vmsa_print_answers : {S O E L : Type 0} (s : shelves.Ghosts S) (o : sinks.Ghosts O) (e : sinks.Ghosts E) (l : launches.Ghosts L) (file : List ℕ) (status : Status) (shelf shelf' : S) (out out' : O)
    (err err' : E) (machine machine' : L) → KeepsPromises s o e l (vmsa_print_task file) status shelf shelf' out out' err err' machine machine'
    → VmsaPrintAnswers status (s.given shelf') (λ text. Gains o text out out') (λ text. IsPut e text err err')
vmsa_print_answers s o e l file status shelf shelf' out out' err err' machine machine' k =
    print_judged o e status (s.given shelf') (s.told shelf) (s.told shelf') k.keeps.outcome _ out out' err err' k.keeps.output k.keeps.error
    (late_kept k.keeps.outcome status (s.told shelf) (s.told shelf') k.keeps.files) k.keeps.judged
