use Rattle.std.proofs.Common.{refl}
use Rattle.igvm_jobs.proofs.WriteLemmas.{not_written, written_put}
use Rattle.igvm_jobs.proofs.writing.write_whole.Goals as goal

-- the file was not written
pub returns-in_default : goal.returns-in_default
returns-in_default g c = not_written _ _ c.args.target.now c.args.bytes.now c.args.text.now _ _ refl c.in_default.ensures

-- the file was written
pub returns : goal.returns
returns g c = written_put _ _ c.args.target.now c.args.bytes.now c.args.text.now _ _ _ refl refl c.in-Ok.ensures c.put_end.ensures
