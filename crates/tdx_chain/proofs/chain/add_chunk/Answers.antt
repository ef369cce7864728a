use Rattle.std.proofs.Common.{◌++◌, subst, arith}
use Rattle.sha2.specs.Hashers.{Holds384}
use Rattle.tdx_chain.proofs.PageChunks.{then_chunk, then_whole_chunk}
use Rattle.tdx_chain.proofs.chain.add_chunk.Goals as goal

pub returns-then-chunk-lt256 : goal.returns-then-chunk-lt256
returns-then-chunk-lt256 c = λ m held.
    subst (Holds384 c.update-then-chunk-lt256.new.self)
    (then_chunk m c.args.lent.now c.lent_chunk-chunk.result.now c.zeros.result.now c.args.k c.requires.size c.requires.within c.lent_chunk-chunk.ensures.value c.zeros.ensures)
    (c.update-then-chunk-lt256.ensures (m ++ c.lent_chunk-chunk.result.now) (c.update.ensures m held))

pub returns-else-chunk-lt256 : goal.returns-else-chunk-lt256
returns-else-chunk-lt256 c = λ m held.
    subst (Holds384 c.update.new.self)
    (then_whole_chunk m c.args.lent.now c.lent_chunk-chunk.result.now c.args.k c.requires.size c.requires.within c.lent_chunk-chunk.ensures.value (omega (arith, c.if-chunk-lt256)))
    (c.update.ensures m held)
