use Rattle.std.proofs.Common.{◌∙◌, sym, ap}
use Rattle.igvm_words.specs.JobView.{choice_view}
use Rattle.igvm_jobs.specs.declared.refusal.Ended.TheVariants as end
use Rattle.igvm_jobs.specs.Outcome.{done}
use Rattle.igvm_jobs.proofs.EndingLemmas.{stopped}
use Rattle.igvm_jobs.proofs.ImageFileLemmas.{image_stops, judged_stops, refused_image, put_ends, read_as}
use Rattle.igvm_tool.specs.SevMeasureJob.{sev_measured}
use Rattle.igvm_tool.proofs.sev_measuring.put_sev_digest.Goals as goal

-- FILE was not read
pub returns-in_err-bytes : goal.returns-in_err-bytes
returns-in_err-bytes g c =
    let next = sev_measured (choice_view c.args.wanted) in
    stopped _ c.from_residual.ensures.1
    (image_stops next c.args.file.now _ c.in_err-bytes.ensures.refused c.read_image.ensures.only_reads c.read_image.ensures.unwritten)

-- it is refused
pub returns-in_err-view : goal.returns-in_err-view
returns-in_err-view g c =
    let next = sev_measured (choice_view c.args.wanted) in
    stopped _ c.from_residual-in_err-view.ensures.1
    (judged_stops next _ _ _ (read_as c.as_slice.ensures.value c.in_ok-bytes.ensures.read) (c.in_err-view.ensures.refused next))

-- its image has no such digest
pub returns-in_err-digest : goal.returns-in_err-digest
returns-in_err-digest g c =
    let next = sev_measured (choice_view c.args.wanted) in
    stopped _ c.from_residual-in_err-digest.ensures.1
    (judged_stops next _ _ _ (read_as c.as_slice.ensures.value c.in_ok-bytes.ensures.read)
    (refused_image next _ _ _ c.in_ok-view.ensures.file (c.in_ok-view.ensures.accepted next) c.in_err-digest.ensures.refused))

-- the digest is put
pub returns : goal.returns
returns g c =
    let next = sev_measured (choice_view c.args.wanted) in
    put_ends next end.Done _ _ (read_as c.as_slice.ensures.value c.in_ok-bytes.ensures.read)
    (sym (c.in_ok-view.ensures.accepted next ∙ ap next (sym c.in_ok-view.ensures.file) ∙ c.in_ok-digest.ensures.done ∙ ap done (sym c.digest_line.ensures))) c.put_end.ensures
