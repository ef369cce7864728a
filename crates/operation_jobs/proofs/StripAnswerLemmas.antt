-- What follows from the promises of the top call for `strip`, whatever is told.
use Rattle.std.proofs.Common.{◌≡◌, ℕ, ◌≤◌, refl, inl, inr, ◌⊎◌, List, length, Option, Some, None}
use Rattle.igvm_outside.specs.Files.{Files}
use Rattle.igvm_outside.specs.declared.shelf.Shelf as shelves
use Rattle.igvm_outside.specs.declared.sink.Sink as sinks
use Rattle.launch_platform.specs.declared.launch.Launch as launches
use Rattle.platform_masks.specs.declared.platform.Platform.{Platform}
use Rattle.component_list.specs.ImageList.{list_of}
use Rattle.component_list.specs.Lists.{IsList}
use Rattle.image_builder.specs.Layout.{layout}
use Rattle.further_words.specs.FurtherWords.{StripWords}
use Rattle.image_ops.specs.Stripped.{stripped}
use Rattle.igvm_jobs.specs.declared.status.Status.{Status}
use Rattle.igvm_jobs.specs.declared.status.Status.TheVariants as is
use Rattle.igvm_jobs.specs.Texts.{built_text, no_platform_text}
use Rattle.igvm_jobs.specs.Outcome.{Outcome, refused, done_writing}
use Rattle.igvm_jobs.specs.BuildJob.{image_limit, parts_outcome}
use Rattle.igvm_jobs.specs.MeasureJob.{platform_outcome, wanted_platform}
use Rattle.igvm_jobs.specs.Clauses.{OutputIsKept, ErrorTextIsPut, FilesAreKept, Failures, Gains, IsPut, KeepsPromises}
use Rattle.igvm_jobs.specs.JobAnswers.{IsImage}
use Rattle.igvm_jobs.proofs.EndingLemmas.{late_kept}
use Rattle.operation_jobs.specs.StoredData.{data_limit, stored_bytes}
use Rattle.operation_jobs.specs.StripJob.{stripped_for, stripped_outcome, strip_task}
use Rattle.operation_jobs.specs.OperationAnswers.{IsLargeText, StripAnswers}
use Rattle.operation_jobs.proofs.Outcomes.{DataAre, data_are, PartsAre, parts_are, status_is, platform_line, limit_line, written}
use Rattle.operation_jobs.proofs.ImageAnswers.{ImageAnswer, image_answer}

-- an image has no such platform, or its data or what is made of it are too large, or its list is stripped and written
abbrev Stripped : StripWords → List ℕ → Outcome → Type 0
Stripped words bytes x =
    ((wanted_platform bytes words.wanted ≡ None) × (x ≡ refused is.Platform (no_platform_text words.wanted)))
    ⊎ ((text : List ℕ) × IsLargeText text × (x ≡ refused is.Limit text))
    ⊎ ((platform : Platform) × (wanted_platform bytes words.wanted ≡ Some platform) × (stored_bytes bytes ≤ data_limit)
    × (length (layout (stripped platform.mask (list_of bytes))) ≤ image_limit)
    × (x ≡ done_writing words.target (layout (stripped platform.mask (list_of bytes))) (built_text (length (layout (stripped platform.mask (list_of bytes)))))))

by_parts : (words : StripWords) (bytes : List ℕ) (x : Outcome) (platform : Platform) → wanted_platform bytes words.wanted ≡ Some platform → stored_bytes bytes ≤ data_limit
    → PartsAre words.target (stripped platform.mask (list_of bytes)) x → Stripped words bytes x
by_parts words bytes x platform found few (inl h) = inr (inl (_, inr refl, h))
by_parts words bytes x platform found few (inr h) = inr (inr (platform, found, few, h.0, h.1))

by_data : (words : StripWords) (bytes : List ℕ) (x : Outcome) (platform : Platform) → wanted_platform bytes words.wanted ≡ Some platform
    → DataAre (λ list. parts_outcome words.target (stripped platform.mask list)) bytes x → Stripped words bytes x
by_data words bytes x platform found (inl h) = inr (inl (_, inl refl, h))
by_data words bytes x platform found (inr h) = by_parts words bytes x platform found h.0 (parts_are words.target (stripped platform.mask (list_of bytes)) x h.1)

by_platform : (words : StripWords) (bytes : List ℕ) (x : Outcome) (found : Option Platform) → wanted_platform bytes words.wanted ≡ found
    → x ≡ platform_outcome words.wanted (stripped_for words.target bytes) found → Stripped words bytes x
by_platform words bytes x None same is = inl (same, is)
by_platform words bytes x (Some platform) same is = by_data words bytes x platform same (data_are (λ list. parts_outcome words.target (stripped platform.mask list)) bytes x is)

stripped_is : (words : StripWords) (bytes : List ℕ) (x : Outcome) → x ≡ stripped_outcome words bytes → Stripped words bytes x
unfolding stripped_outcome
stripped_is words bytes x same = by_platform words bytes x _ refl same

strip_of : {O E : Type 0} (o : sinks.Ghosts O) (e : sinks.Ghosts E) (words : StripWords) (status : Status) (given : ℕ) (told told' : Option Files) (x : Outcome) (out out' : O) (err err' : E) (failed : Failures)
    (bytes : List ℕ) → OutputIsKept o x status out out' → ErrorTextIsPut e x status failed err err' → FilesAreKept x status told told' → IsImage bytes given → status ≡ x.status → (x.status ≡ is.Done → IsList (list_of bytes)) → Stripped words bytes x
    → StripAnswers words status given told told' (λ text. Gains o text out out') (λ text. IsPut e text err err')
strip_of o e words status given told told' x out out' err err' failed bytes output error files image same list (inl h) =
    let line = platform_line e x _ status err err' failed error same h.1 in
    inr (inr (inl (line.0, (bytes, image, h.0, line.1))))
strip_of o e words status given told told' x out out' err err' failed bytes output error files image same list (inr (inl h)) =
    let line = limit_line e x _ status err err' failed error same h.2 in
    inr (inr (inr (inl (line.0, (h.0, h.1, line.1)))))
strip_of o e words status given told told' x out out' err err' failed bytes output error files image same list (inr (inr h)) =
    let w = written o words.target (stripped h.0.mask (list_of bytes)) x status told told' out out' output files same h.3 h.4 in
    inr (inr (inr (inr (w.0, record { bytes = bytes; platform = h.0; from = record { image = image; named = h.1; few = h.2; list = list (status_is h.4) }; written = w.1 }))))

strip_file : {O E : Type 0} (o : sinks.Ghosts O) (e : sinks.Ghosts E) (words : StripWords) (status : Status) (given : ℕ) (told told' : Option Files) (x : Outcome) (out out' : O) (err err' : E) (failed : Failures)
    → OutputIsKept o x status out out' → ErrorTextIsPut e x status failed err err' → FilesAreKept x status told told' → ImageAnswer (stripped_outcome words) status given x (λ text. IsPut e text err err')
    → StripAnswers words status given told told' (λ text. Gains o text out out') (λ text. IsPut e text err err')
strip_file o e words status given told told' x out out' err err' failed output error files (inl (inl h)) = inl h
strip_file o e words status given told told' x out out' err err' failed output error files (inl (inr h)) = inr (inl h)
strip_file o e words status given told told' x out out' err err' failed output error files (inr h) =
    strip_of o e words status given told told' x out out' err err' failed h.0 output error files h.1 h.3 h.4 (stripped_is words h.0 x h.2)

pub strip_answers : {S O E L : Type 0} (s : shelves.Ghosts S) (o : sinks.Ghosts O) (e : sinks.Ghosts E) (l : launches.Ghosts L) (words : StripWords) (status : Status) (shelf shelf' : S) (out out' : O)
    (err err' : E) (machine machine' : L) → KeepsPromises s o e l (strip_task words) status shelf shelf' out out' err err' machine machine'
    → StripAnswers words status (s.given shelf') (s.told shelf) (s.told shelf') (λ text. Gains o text out out') (λ text. IsPut e text err err')
strip_answers s o e l words status shelf shelf' out out' err err' machine machine' k =
    strip_file o e words status (s.given shelf') (s.told shelf) (s.told shelf') k.keeps.outcome out out' err err' _ k.keeps.output k.keeps.error
    (late_kept k.keeps.outcome status (s.told shelf) (s.told shelf') k.keeps.files)
    (image_answer e (stripped_outcome words) status (s.given shelf') k.keeps.outcome err err' _ k.keeps.judged k.keeps.error)
