use Rattle.std.proofs.lemmas.Result.{IfErr-weaker}
use Rattle.igvm_jobs.proofs.ListLemmas.{list_stops}
use Rattle.igvm_jobs.proofs.list_file.read_text.Goals as goal

pub returns-clause-refused : goal.returns-clause-refused
returns-clause-refused g c = λ next.
    IfErr-weaker c.read_file.result _ _ (λ r h. list_stops c.args.list.now next r h c.read_file.ensures.only_reads c.read_file.ensures.unwritten) c.read_file.ensures.refused
