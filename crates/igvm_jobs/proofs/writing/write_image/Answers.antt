use Rattle.std.proofs.Common.{◌∙◌, ap}
use Rattle.igvm_outside.specs.JoinedBytes.{lent, joined}
use Rattle.igvm_jobs.specs.declared.refusal.Refusal.TheVariants.{Memory}
use Rattle.igvm_jobs.specs.Texts.{built_text}
use Rattle.igvm_jobs.specs.BuildJob.{parts_outcome}
use Rattle.igvm_jobs.proofs.WriteLemmas.{refused_ends, ends_as, not_written, written_put}
use Rattle.igvm_jobs.proofs.writing.write_image.Goals as goal

-- the image is too large, or there was no memory for it
pub returns-in_err-image : goal.returns-in_err-image
returns-in_err-image g c = refused_ends _ _ c.from_residual.ensures.1 (c.in_err-image.ensures.refused c.args.target.now)

-- there was no memory for the line
pub returns-in_err-line : goal.returns-in_err-line
returns-in_err-line g c = refused_ends (parts_outcome c.args.target.now c.args.parts.now) Memory c.from_residual-in_err-line.ensures.1 tt

-- the image was written
pub returns-in-Ok : goal.returns-in-Ok
returns-in-Ok g c =
    ends_as (c.in_ok-image.ensures.built c.args.target.now)
    (written_put _ _ c.args.target.now _ _ _ _ _ (ap (λ front. joined front (lent c.contents.result.now)) c.front.ensures ∙ c.contents.ensures)
    (c.as_bytes.ensures.value ∙ c.in_ok-line.ensures ∙ ap built_text c.len.ensures) c.in-Ok.ensures c.put_end.ensures)

-- the image was not written
pub returns : goal.returns
returns g c =
    ends_as (c.in_ok-image.ensures.built c.args.target.now)
    (not_written _ _ c.args.target.now _ _ _ _ (ap (λ front. joined front (lent c.contents.result.now)) c.front.ensures ∙ c.contents.ensures) c.in-Err.ensures)
