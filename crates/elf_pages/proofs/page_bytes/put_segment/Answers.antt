use Rattle.std.proofs.Common.{refl, arith}
use Rattle.elf_pages.proofs.FilledBytes.{put_byte}
use Rattle.elf_pages.proofs.page_bytes.put_segment.Goals as goal

pub returns-clause-bytes : goal.returns-clause-bytes
returns-clause-bytes c = λ i low high.
    put_byte c.args.file.now c.args.segment c.args.page c.args.done c.max-start.result c.min-end.result _ _ _ _ i c.put_zeros.new.out c.put_bytes.new.out
    c.max-start.ensures c.min-end.ensures c.if-end-start.false refl refl refl (omega arith) (let inside = c.requires.sound.inside in let a = c.max-start.ensures in let b = c.min-end.ensures in omega arith) c.put_zeros.ensures.zeros c.put_bytes.ensures.below c.put_bytes.ensures.bytes low high
