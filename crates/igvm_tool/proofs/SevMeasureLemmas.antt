-- What follows from the promises of the top call for `sev-measure`, whatever is told.
use Rattle.std.proofs.Common.{◌≡◌, ◌∙◌, ◌⊎◌, ℕ, refl, ap, subst, inl, inr, List, Option, Some, None}
use Rattle.platform_masks.specs.declared.platform.Platform.{Platform}
use Rattle.sev_chain.specs.SevBytes.{sev_digest_of}
use Rattle.igvm_outside.specs.declared.shelf.Shelf as shelves
use Rattle.igvm_outside.specs.declared.sink.Sink as sinks
use Rattle.launch_platform.specs.declared.launch.Launch as launches
use Rattle.igvm_words.specs.Words.{PlatformChoice}
use Rattle.igvm_jobs.specs.declared.status.Status.{Status}
use Rattle.igvm_jobs.specs.declared.status.Status.TheVariants as is
use Rattle.igvm_jobs.specs.Texts.{no_platform_text, no_digest_text, digest_text}
use Rattle.igvm_jobs.specs.Outcome.{Outcome, done, refused}
use Rattle.igvm_jobs.specs.MeasureJob.{wanted_platform, platform_outcome, digest_outcome}
use Rattle.igvm_jobs.specs.Clauses.{OutputIsKept, ErrorTextIsPut, Gains, IsPut, Failures, KeepsPromises}
use Rattle.igvm_jobs.specs.JobAnswers.{IsImage}
use Rattle.igvm_jobs.proofs.JobAnswerLemmas.{line_put, text_put, FileAnswer, file_answer}
use Rattle.igvm_tool.specs.SevMeasureJob.{sev_measured_for, sev_measured, sev_measure_task}
use Rattle.igvm_tool.specs.FurtherAnswers.{IsSevDigest, SevMeasureAnswers}

-- an image has no digest, with its line, or has one
abbrev Measured : PlatformChoice → List ℕ → Outcome → Type 0
Measured wanted bytes x =
    ((wanted_platform bytes wanted ≡ None) × (x ≡ refused is.Platform (no_platform_text wanted)))
    ⊎ ((platform : Platform) × (wanted_platform bytes wanted ≡ Some platform) × (sev_digest_of bytes platform ≡ None) × (x ≡ refused is.Platform (no_digest_text platform.kind)))
    ⊎ ((digest : List ℕ) × IsSevDigest wanted bytes digest × (x ≡ done (digest_text digest)))

by_digest : (wanted : PlatformChoice) (bytes : List ℕ) (x : Outcome) (platform : Platform) (digest : Option (List ℕ)) → wanted_platform bytes wanted ≡ Some platform
    → sev_digest_of bytes platform ≡ digest → x ≡ digest_outcome platform.kind (λ found. done (digest_text found)) digest → Measured wanted bytes x
by_digest wanted bytes x platform None found same is = inr (inl (platform, found, same, is))
by_digest wanted bytes x platform (Some digest) found same is = inr (inr (digest, (platform, found, same), is))

by_platform : (wanted : PlatformChoice) (bytes : List ℕ) (x : Outcome) (found : Option Platform) → wanted_platform bytes wanted ≡ found → x ≡ platform_outcome wanted (sev_measured_for bytes) found
    → Measured wanted bytes x
by_platform wanted bytes x None same is = inl (same, is)
by_platform wanted bytes x (Some platform) same is = by_digest wanted bytes x platform _ same refl is

measured_is : (wanted : PlatformChoice) (bytes : List ℕ) (x : Outcome) → x ≡ sev_measured wanted bytes → Measured wanted bytes x
unfolding sev_measured
measured_is wanted bytes x same = by_platform wanted bytes x _ refl same

-- the line of a refusal
platform_line : {E : Type 0} (e : sinks.Ghosts E) (x : Outcome) (text : List ℕ) (status : Status) (err err' : E) (failed : Failures) → ErrorTextIsPut e x status failed err err' → status ≡ x.status
    → x ≡ refused is.Platform text → (status ≡ is.Platform) × IsPut e text err err'
platform_line e x text status err err' failed error same gives =
    let st = same ∙ ap (λ (y : Outcome). y.status) gives in
    (st, subst (λ (y : Outcome). IsPut e y.err err err') gives (line_put e x status err err' failed is.Platform st (λ p. p) error))

measure_of : {O E : Type 0} (o : sinks.Ghosts O) (e : sinks.Ghosts E) (wanted : PlatformChoice) (status : Status) (given : ℕ) (x : Outcome) (out out' : O) (err err' : E) (failed : Failures) (bytes : List ℕ)
    → OutputIsKept o x status out out' → ErrorTextIsPut e x status failed err err' → IsImage bytes given → status ≡ x.status → Measured wanted bytes x
    → SevMeasureAnswers wanted status given (λ text. Gains o text out out') (λ text. IsPut e text err err')
measure_of o e wanted status given x out out' err err' failed bytes output error image same (inl h) =
    let line = platform_line e x _ status err err' failed error same h.1 in
    inr (inr (inl (line.0, (bytes, image, inl (h.0, line.1)))))
measure_of o e wanted status given x out out' err err' failed bytes output error image same (inr (inl h)) =
    let line = platform_line e x _ status err err' failed error same h.3 in
    inr (inr (inl (line.0, (bytes, image, inr (h.0, h.1, h.2, line.1)))))
measure_of o e wanted status given x out out' err err' failed bytes output error image same (inr (inr h)) =
    let st = same ∙ ap (λ (y : Outcome). y.status) h.2 in
    inr (inr (inr (st, (bytes, h.0, image, h.1, subst (λ (y : Outcome). Gains o y.out out out') h.2 (text_put o x status out out' st output)))))

measure_file : {O E : Type 0} (o : sinks.Ghosts O) (e : sinks.Ghosts E) (wanted : PlatformChoice) (status : Status) (given : ℕ) (x : Outcome) (out out' : O) (err err' : E) (failed : Failures)
    → OutputIsKept o x status out out' → ErrorTextIsPut e x status failed err err' → FileAnswer (sev_measured wanted) status given x (λ text. IsPut e text err err')
    → SevMeasureAnswers wanted status given (λ text. Gains o text out out') (λ text. IsPut e text err err')
measure_file o e wanted status given x out out' err err' failed output error (inl h) = inl h
measure_file o e wanted status given x out out' err err' failed output error (inr (inl h)) = inr (inl h)
measure_file o e wanted status given x out out' err err' failed output error (inr (inr h)) =
    measure_of o e wanted status given x out out' err err' failed h.0 output error h.1 h.3 (measured_is wanted h.0 x h.2)

pub sev_measure_answers : {S O E L : Type 0} (s : shelves.Ghosts S) (o : sinks.Ghosts O) (e : sinks.Ghosts E) (l : launches.Ghosts L) (file : List ℕ) (wanted : PlatformChoice) (status : Status)
    (shelf shelf' : S) (out out' : O) (err err' : E) (machine machine' : L) → KeepsPromises s o e l (sev_measure_task file wanted) status shelf shelf' out out' err err' machine machine'
    → SevMeasureAnswers wanted status (s.given shelf') (λ text. Gains o text out out') (λ text. IsPut e text err err')
sev_measure_answers s o e l file wanted status shelf shelf' out out' err err' machine machine' k =
    measure_file o e wanted status (s.given shelf') k.keeps.outcome out out' err err' _ k.keeps.output k.keeps.error
    (file_answer e (sev_measured wanted) status (s.given shelf') k.keeps.outcome err err' _ k.keeps.judged k.keeps.error)
