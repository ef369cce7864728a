use Rattle.igvm_jobs.proofs.ListLemmas.{unread_stops, unexpanded_stops}
use Rattle.igvm_jobs.proofs.list_file.text_parts.Goals as goal

-- a text that is not read
pub returns-in-Err-clause-refused : goal.returns-in-Err-clause-refused
returns-in-Err-clause-refused g c = λ list next before read.
    unread_stops c.in-Err.refusal c.list_refusal.result list c.args.bytes.now next read c.in-Err.ensures.refused c.list_refusal.ensures

-- entries that are not expanded
pub returns-clause-refused : goal.returns-clause-refused
returns-clause-refused g c = λ list next before read.
    unexpanded_stops c.in-Err-expand.refusal c.expand_refusal.result list c.args.bytes.now next _ read c.in-Ok.ensures.source
    (record { kept = c.expand.ensures.kept; reads = c.expand.ensures.reads; writes = c.expand.ensures.writes; unwritten = c.expand.ensures.unwritten })
    c.in-Err-expand.ensures.refused c.in-Err-expand.ensures.cause c.in-Err-expand.ensures.reached c.in-Err-expand.ensures.given c.expand_refusal.ensures
