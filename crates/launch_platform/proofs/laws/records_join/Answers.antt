use Rattle.launch_platform.proofs.JoinedRecords.{infos_append, streams_append, infos_of, streams_of}
use Rattle.launch_platform.proofs.laws.records_join.Goals as goal

pub returns-clause-infos : goal.returns-clause-infos
returns-clause-infos c = infos_append

pub returns-clause-streams : goal.returns-clause-streams
returns-clause-streams c = streams_append

pub returns-clause-pages : goal.returns-clause-pages
returns-clause-pages c = infos_of

pub returns-clause-rows : goal.returns-clause-rows
returns-clause-rows c = streams_of
