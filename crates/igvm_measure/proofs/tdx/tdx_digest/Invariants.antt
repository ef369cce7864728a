use Rattle.std.proofs.Common.{length}
use Rattle.tdx_chain.specs.Held.{Holds}
use Rattle.igvm_measure.specs.Measured.{on_tdx, tdx_measured}
use Rattle.igvm_measure.specs.Records.{tdx_records_of}
use Rattle.igvm_measure.specs.Walks.{IsWalk, walk_left}
use Rattle.igvm_measure.proofs.Adding.{Adding}
use Rattle.igvm_measure.proofs.tdx.tdx_digest.Given as goal

abbrev pub invariant-pages : goal.invariant-pages
invariant-pages l = record {
  walk : IsWalk l.walk;
  added : Adding on_tdx tdx_records_of (tdx_measured l.fn.view l.fn.platform.mask) (walk_left l.walk) (Holds l.chain);
}

abbrev pub decreases-pages : goal.decreases-pages
decreases-pages l = length (walk_left l.walk)
