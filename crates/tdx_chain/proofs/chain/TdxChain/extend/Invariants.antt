use Rattle.std.proofs.Common.{◌≡◌, ℕ, ◌++◌, List}
use Rattle.tdx_chain.specs.Stream.{chunk_records, mr_extend, record_front}
use Rattle.tdx_chain.specs.Held.{Holds}
use Rattle.tdx_chain.proofs.chain.TdxChain.extend.Given as goal

-- the front is one of an extend record, and the chunks so far are measured
abbrev pub invariant-chunks : goal.invariant-chunks
invariant-chunks l = record {
  front : (gpa : ℕ) × (l.front ≡ record_front mr_extend gpa);
  chunks : (records : List (List ℕ)) → Holds l.fn.self records → Holds l.self (records ++ chunk_records l.gpa l.fn.page l.k);
}
