-- The records that a chain holds.
use Rattle.std.specs.Prelude.{ℕ, List}
use Rattle.std.specs.List.{concat}
use Rattle.sha2.specs.Hashers.{Holds384}
use Rattle.tdx_chain.specs.declared.chain.TdxChain.{TdxChain}

-- the chain's hasher holds these records, joined
abbrev pub Holds : TdxChain → List (List ℕ) → Type 0
Holds chain records = Holds384 chain.hasher (concat records)
