use Rattle.std.proofs.Common.{[], ◌∷◌, replicate, refl, arith}
use Rattle.igvm_headers.specs.Endian.{little_bytes}
use Rattle.pages_file.specs.PagesFile.{record_bytes}
use Rattle.pages_file.proofs.Records.{put_behind, in_a_row}
use Rattle.pages_file.proofs.record.Record.set.Goals as goal

pub returns : goal.returns
unfolding record_bytes
returns c =
    in_a_row c.put.new.out c.put-2.new.out c.put-3.new.out c.put-4.new.out c.put-5.new.out
    (little_bytes 8 c.args.gpa) (c.args.kind ∷ 0 ∷ []) (little_bytes 2 c.args.vp) (replicate 4 0) c.args.page.now
    (omega (arith, c.put.ensures.size, c.put-2.ensures.size, c.put-3.ensures.size, c.put-4.ensures.size, c.put-5.ensures.size))
    (put_behind 0 8 [] _ _ _ c.to_le_bytes.ensures refl c.put.ensures.front)
    c.put-2.ensures.front
    (put_behind 10 2 _ _ _ _ c.to_le_bytes-2.ensures refl c.put-3.ensures.front)
    c.put-4.ensures.front
    (put_behind 16 4096 _ _ _ _ refl c.requires c.put-5.ensures.front)
