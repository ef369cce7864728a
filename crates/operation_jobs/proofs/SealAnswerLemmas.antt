-- What follows from the promises of the top call for `seal`, whatever is told.
use Rattle.std.proofs.Common.{◌≡◌, ℕ, inl, inr, List, Option}
use Rattle.igvm_outside.specs.Files.{Files}
use Rattle.igvm_outside.specs.declared.shelf.Shelf as shelves
use Rattle.igvm_outside.specs.declared.sink.Sink as sinks
use Rattle.launch_platform.specs.declared.launch.Launch as launches
use Rattle.component_list.specs.ImageList.{list_of}
use Rattle.component_list.specs.Lists.{IsList}
use Rattle.further_words.specs.FurtherWords.{SealWords}
use Rattle.image_ops.specs.Sealed.{sealed}
use Rattle.igvm_jobs.specs.declared.status.Status.{Status}
use Rattle.igvm_jobs.specs.declared.status.Status.TheVariants as is
use Rattle.igvm_jobs.specs.Outcome.{Outcome}
use Rattle.igvm_jobs.specs.Clauses.{OutputIsKept, ErrorTextIsPut, FilesAreKept, Failures, Gains, IsPut, KeepsPromises}
use Rattle.igvm_jobs.specs.JobAnswers.{IsImage}
use Rattle.igvm_jobs.proofs.EndingLemmas.{late_kept}
use Rattle.operation_jobs.specs.SealJob.{sealed_outcome, seal_task}
use Rattle.operation_jobs.specs.OperationAnswers.{SealAnswers}
use Rattle.operation_jobs.proofs.Outcomes.{status_is, platform_line, limit_line, written}
use Rattle.operation_jobs.proofs.ImageAnswers.{ImageAnswer, image_answer}
use Rattle.operation_jobs.proofs.SealOutcomes.{SealIs, seal_is}

seal_of : {O E : Type 0} (o : sinks.Ghosts O) (e : sinks.Ghosts E) (words : SealWords) (status : Status) (given : ℕ) (told told' : Option Files) (x : Outcome) (out out' : O) (err err' : E) (failed : Failures)
    (bytes : List ℕ) → OutputIsKept o x status out out' → ErrorTextIsPut e x status failed err err' → FilesAreKept x status told told' → IsImage bytes given → status ≡ x.status → (x.status ≡ is.Done → IsList (list_of bytes)) → SealIs words bytes x
    → SealAnswers words status given told told' (λ text. Gains o text out out') (λ text. IsPut e text err err')
seal_of o e words status given told told' x out out' err err' failed bytes output error files image same list (inl h) =
    let line = platform_line e x _ status err err' failed error same h.1 in
    inr (inr (inl (line.0, (bytes, image, inl (h.0, line.1)))))
seal_of o e words status given told told' x out out' err err' failed bytes output error files image same list (inr (inl h)) =
    let line = platform_line e x _ status err err' failed error same h.3 in
    inr (inr (inl (line.0, (bytes, image, inr (inl (h.0, h.1, h.2, line.1))))))
seal_of o e words status given told told' x out out' err err' failed bytes output error files image same list (inr (inr (inl h))) =
    let line = platform_line e x _ status err err' failed error same h.4 in
    inr (inr (inl (line.0, (bytes, image, inr (inr (h.0, h.1, h.2, h.3, line.1))))))
seal_of o e words status given told told' x out out' err err' failed bytes output error files image same list (inr (inr (inr (inl h)))) =
    let line = limit_line e x _ status err err' failed error same h.2 in
    inr (inr (inr (inl (line.0, (h.0, h.1, line.1)))))
seal_of o e words status given told told' x out out' err err' failed bytes output error files image same list (inr (inr (inr (inr h)))) =
    let made = h.2 in
    let w = written o words.target (sealed h.0.mask h.1 (list_of bytes)) x status told told' out out' output files same made.within made.outcome in
    inr (inr (inr (inr (
      w.0,
      record {
        bytes = bytes;
        platform = h.0;
        digest = h.1;
        from = record { image = image; named = made.named; few = made.few; list = list (status_is made.outcome) };
        snp = made.snp;
        block = made.block;
        found = made.found;
        written = w.1;
      },
    ))))

seal_file : {O E : Type 0} (o : sinks.Ghosts O) (e : sinks.Ghosts E) (words : SealWords) (status : Status) (given : ℕ) (told told' : Option Files) (x : Outcome) (out out' : O) (err err' : E) (failed : Failures)
    → OutputIsKept o x status out out' → ErrorTextIsPut e x status failed err err' → FilesAreKept x status told told' → ImageAnswer (sealed_outcome words) status given x (λ text. IsPut e text err err')
    → SealAnswers words status given told told' (λ text. Gains o text out out') (λ text. IsPut e text err err')
seal_file o e words status given told told' x out out' err err' failed output error files (inl (inl h)) = inl h
seal_file o e words status given told told' x out out' err err' failed output error files (inl (inr h)) = inr (inl h)
seal_file o e words status given told told' x out out' err err' failed output error files (inr h) =
    seal_of o e words status given told told' x out out' err err' failed h.0 output error files h.1 h.3 h.4 (seal_is words h.0 x h.2)

pub seal_answers : {S O E L : Type 0} (s : shelves.Ghosts S) (o : sinks.Ghosts O) (e : sinks.Ghosts E) (l : launches.Ghosts L) (words : SealWords) (status : Status) (shelf shelf' : S) (out out' : O)
    (err err' : E) (machine machine' : L) → KeepsPromises s o e l (seal_task words) status shelf shelf' out out' err err' machine machine'
    → SealAnswers words status (s.given shelf') (s.told shelf) (s.told shelf') (λ text. Gains o text out out') (λ text. IsPut e text err err')
seal_answers s o e l words status shelf shelf' out out' err err' machine machine' k =
    seal_file o e words status (s.given shelf') (s.told shelf) (s.told shelf') k.keeps.outcome out out' err err' _ k.keeps.output k.keeps.error
    (late_kept k.keeps.outcome status (s.told shelf) (s.told shelf') k.keeps.files)
    (image_answer e (sealed_outcome words) status (s.given shelf') k.keeps.outcome err err' _ k.keeps.judged k.keeps.error)
