use Rattle.std.proofs.Common.{◌∙◌, sym, ap}
use Rattle.igvm_jobs.specs.declared.refusal.Ended.TheVariants as end
use Rattle.igvm_jobs.specs.PrintJob.{listed}
use Rattle.igvm_jobs.proofs.EndingLemmas.{stopped}
use Rattle.igvm_jobs.proofs.ImageFileLemmas.{image_stops, judged_stops, put_ends, read_as}
use Rattle.igvm_jobs.proofs.printing.put_listing.Goals as goal

pub returns-in_err-bytes : goal.returns-in_err-bytes
returns-in_err-bytes g c =
    stopped _ c.from_residual.ensures.1
    (image_stops listed c.args.file.now _ c.in_err-bytes.ensures.refused c.read_image.ensures.only_reads c.read_image.ensures.unwritten)

pub returns-in_err-view : goal.returns-in_err-view
returns-in_err-view g c =
    stopped _ c.from_residual-in_err-view.ensures.1
    (judged_stops listed _ _ _ (read_as c.as_slice.ensures.value c.in_ok-bytes.ensures.read) (c.in_err-view.ensures.refused listed))

pub returns : goal.returns
returns g c =
    put_ends listed end.Done _ _ (read_as c.as_slice.ensures.value c.in_ok-bytes.ensures.read)
    (sym (c.in_ok-view.ensures.accepted listed ∙ (ap listed (sym c.in_ok-view.ensures.file) ∙ c.list_image.ensures.text))) c.list_image.ensures.put
