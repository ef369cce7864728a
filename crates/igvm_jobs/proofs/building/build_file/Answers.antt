use Rattle.igvm_jobs.specs.BuildJob.{parts_outcome, build_task}
use Rattle.igvm_jobs.proofs.EndingLemmas.{stopped, write_ends}
use Rattle.igvm_jobs.proofs.BuildLemmas.{list_stops, parts_known, parts_named}
use Rattle.igvm_jobs.proofs.building.build_file.Goals as goal

-- the list was refused
pub returns-in_err-parts : goal.returns-in_err-parts
returns-in_err-parts g c =
    stopped _ c.from_residual.ensures.1 (list_stops c.args.list.now c.args.target.now (c.in_err-parts.ensures.refused (parts_outcome c.args.target.now)))

-- the image was written, or not
pub returns : goal.returns
returns g c =
    write_ends (build_task c.args.list.now c.args.target.now) (parts_outcome c.args.target.now _)
    (parts_known c.args.list.now c.args.target.now _ c.in_ok-parts.ensures.parts c.in_ok-parts.ensures.given) c.read_parts.ensures.only_reads c.read_parts.ensures.unwritten
    (parts_named c.args.target.now _) c.write_image.ensures
