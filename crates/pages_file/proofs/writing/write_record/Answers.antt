use Rattle.std.proofs.Common.{subst}
use Rattle.std.specs.Prelude.{OnErr}
use Rattle.pages_file.specs.Added.{IsBrokenOff}
use Rattle.pages_file.proofs.AddedBytes.{broken_by}
use Rattle.pages_file.proofs.writing.write_record.Goals as goal

pub returns-clause-broken : goal.returns-clause-broken
returns-clause-broken g c =
    subst (λ more. OnErr c.write_piece.result (IsBrokenOff g.S.Shelf c.args.name.now more c.args.shelf.now c.write_piece.new.shelf)) c.bytes.ensures
    (broken_by g.S.Shelf _ _ _ _ _ c.write_piece.ensures.front c.write_piece.ensures.dropped c.write_piece.ensures.cause c.write_piece.ensures.only_writes)
