use Rattle.std.proofs.Common.{◌∙◌, ap, sym, length, Err}
use Rattle.igvm_jobs.proofs.MakeLemmas.{unmade_ends, unwritten_ends, is_made, memory_ends, stopped_ends, text_is, made_ends}
use Rattle.igvm_jobs.proofs.making.make_file.Goals as goal

-- there was no memory for the image
pub returns-in_default : goal.returns-in_default
returns-in_default g c = unmade_ends c.args.count c.args.target.now

-- the file was not written
pub returns-in_default-write_file : goal.returns-in_default-write_file
returns-in_default-write_file g c =
    unwritten_ends _ _ c.args.count c.args.target.now _ _ (c.as_slice.ensures.value ∙ c.in-Ok.ensures) c.in_default-write_file.ensures

-- what came out is put
pub returns-in-Ok-launch_made : goal.returns-in-Ok-launch_made
returns-in-Ok-launch_made g c =
    let made = is_made _ _ c.args.count c.args.target.now _ _ (c.as_slice.ensures.value ∙ c.in-Ok.ensures) c.in-Ok-write_file.ensures in
    let same = c.made_view-view.ensures ∙ c.as_slice-2.ensures.value ∙ c.in-Ok.ensures in
    made_ends c.args.count c.args.target.now c.made_view-view.result _ made same c.in-Ok-launch_made.ensures.holds c.in-Ok-launch_made.ensures.done
    (text_is c.args.count c.made_view-view.result _ _ _ _ _ _ same c.in-Ok-launch_made.ensures.holds
    (c.len.ensures ∙ sym c.as_slice-2.ensures.len ∙ ap length (sym c.made_view-view.ensures)) c.measured-digests.ensures.snp c.measured-digests.ensures.tdx c.entries.ensures c.contexts.ensures)
    c.put_made.ensures

-- the machine failed
pub returns-in-Err-Launch : goal.returns-in-Err-Launch
returns-in-Err-Launch g c =
    let made = is_made _ _ c.args.count c.args.target.now _ _ (c.as_slice.ensures.value ∙ c.in-Ok.ensures) c.in-Ok-write_file.ensures in
    let same = c.made_view-view.ensures ∙ c.as_slice-2.ensures.value ∙ c.in-Ok.ensures in
    stopped_ends c.args.count c.args.target.now c.made_view-view.result made same (c.in-Err-Launch.ensures.stopped (ap Err c.in-Err-Launch.field-0-is)) (c.in-Err-Launch.ensures.cause (ap Err c.in-Err-Launch.field-0-is))

-- there was no memory for the launch
pub returns : goal.returns
returns g c =
    let made = is_made _ _ c.args.count c.args.target.now _ _ (c.as_slice.ensures.value ∙ c.in-Ok.ensures) c.in-Ok-write_file.ensures in
    memory_ends c.args.count c.args.target.now made (c.in-Err-Memory.ensures.idle (ap Err c.in-Err-Memory.field-0-is))
