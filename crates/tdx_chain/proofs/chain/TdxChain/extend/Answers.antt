use Rattle.std.proofs.Common.{◌≡◌, arith, List, ℕ, ◌++◌, ap, subst, sym, refl, ◌*◌}
use Rattle.sha2.specs.Hashers.{Holds384}
use Rattle.igvm_headers.specs.Numbers.{slice}
use Rattle.tdx_chain.specs.Stream.{chunk_records, mr_extend, extend_records}
use Rattle.tdx_chain.specs.Held.{Holds}
use Rattle.tdx_chain.proofs.Records.{chunk_more}
use Rattle.tdx_chain.proofs.chain.TdxChain.extend.Goals as goal

-- one chunk more
pub chunks-preserved : goal.chunks-preserved
chunks-preserved c =
    let is = c.set_address.ensures mr_extend c.chunks.invariant.front.0 refl c.chunks.invariant.front.1 in
    record {
      front = (_, is);
      chunks = λ records held.
          subst (λ (bytes : List ℕ). Holds384 c.add_chunk.new.hasher bytes)
          (chunk_more records c.args.gpa c.chunks.k c.args.page _ _ is (ap (λ (page : List ℕ). slice page (256 * c.chunks.k) 256) (sym c.lent-lent.ensures.page)))
          (c.add_chunk.ensures _ (c.update.ensures _ (c.chunks.invariant.chunks records held)));
    }

-- all 16
pub returns : goal.returns
unfolding extend_records
returns c = λ records held.
    let all : c.chunks.k ≡ 16 = omega arith in
    subst (λ (n : ℕ). Holds c.chunks.self (records ++ chunk_records c.args.gpa c.args.page n)) all (c.chunks.invariant.chunks records held)
