use Rattle.std.proofs.Common.{[], rules, ◌∙◌, ◌<◌, ap, sym, inl, inr, length, take, arith, append-nil}
use Rattle.std.specs.List.{concat}
use Rattle.igvm_outside.specs.Files.{with_file}
use Rattle.igvm_outside.specs.JoinedBytes.{lent, joined}
use Rattle.igvm_outside.proofs.Refused.{on_ok, on_err, rose_later, rose_of, no_fault_more}
use Rattle.igvm_outside.proofs.Written.{longer, joined_more, broken_piece, all_written, all_held}
use Rattle.igvm_outside.proofs.Composed.{only_writes_more, created}
use Rattle.igvm_outside.proofs.file_writing.write_pieces.Goals as goal

pub returns-in_err-create : goal.returns-in_err-create
returns-in_err-create g c = record {
  written = search rules;
  front = on_err c.from_residual.result (inl c.in_err-create.ensures.kept);
  cause = on_err c.from_residual.result c.in_err-create.ensures.cause;
  no_fault = search rules;
  closed = c.in_err-create.ensures.dropped;
  only = record {
    others = inl c.in_err-create.ensures.kept;
    reads = c.create.ensures.reads;
    writes = c.create.ensures.writes;
    given = c.create.ensures.given_kept;
  };
}

pub returns-in_err-write_piece : goal.returns-in_err-write_piece
returns-in_err-write_piece g c =
    let told = g.S.Shelf.told c.args.shelf.now in
    let broken = c.in_err-write_piece.ensures.front told [] c.in_ok-create.ensures.emptied in
    record {
      written = search rules;
      front = on_err c.from_residual-in_err-write_piece.result (inr (longer told _ c.args.name.now c.args.front.now (concat (lent c.args.pieces.now)) broken));
      cause = on_err c.from_residual-in_err-write_piece.result
          (rose_later _ _ _ (c.create.ensures.writes c.args.name.now) c.in_err-write_piece.ensures.cause);
      no_fault = search rules;
      closed = c.in_err-write_piece.ensures.dropped;
      only = only_writes_more g.S.Shelf _ _ _ _ (created g.S.Shelf _ _ _ c.in_ok-create.ensures.emptied c.create.ensures.reads c.create.ensures.writes c.create.ensures.given_kept) c.write_piece.ensures.only_writes;
    }

pub returns-in_err-write_piece-2 : goal.returns-in_err-write_piece-2
returns-in_err-write_piece-2 g c =
    let told = g.S.Shelf.told c.args.shelf.now in
    let broken = c.in_err-write_piece-2.ensures.front told (joined c.args.front.now (lent (take c.pieces.piece-index c.args.pieces.now))) c.pieces.invariant.written in
    record {
      written = search rules;
      front = on_err c.from_residual-in_err-write_piece-2.result
          (inr (broken_piece told _ c.args.name.now c.args.front.now c.args.pieces.now c.pieces.piece-index _ (omega arith) broken));
      cause = on_err c.from_residual-in_err-write_piece-2.result
          (rose_later _ _ _ (c.pieces.invariant.only.writes c.args.name.now) c.in_err-write_piece-2.ensures.cause);
      no_fault = search rules;
      closed = c.in_err-write_piece-2.ensures.dropped;
      only = only_writes_more g.S.Shelf _ _ _ _ c.pieces.invariant.only c.write_piece-in-pieces.ensures.only_writes;
    }

pub pieces-init : goal.pieces-init
pieces-init g c =
    record {
      open_still = c.in_ok-write_piece.ensures.open_still;
      written = c.in_ok-write_piece.ensures.written (g.S.Shelf.told c.args.shelf.now) [] c.in_ok-create.ensures.emptied
          ∙ ap (with_file (g.S.Shelf.told c.args.shelf.now) c.args.name.now) (sym (append-nil c.args.front.now));
      no_fault = c.in_ok-write_piece.ensures.no_fault ∙ c.in_ok-create.ensures.no_fault;
      only = only_writes_more g.S.Shelf _ _ _ _ (created g.S.Shelf _ _ _ c.in_ok-create.ensures.emptied c.create.ensures.reads c.create.ensures.writes c.create.ensures.given_kept) c.write_piece.ensures.only_writes;
    }

pub pieces-preserved : goal.pieces-preserved
pieces-preserved g c =
    let at = c.pieces.piece-index in
    let within : at < length c.args.pieces.now = omega arith in
    let told = g.S.Shelf.told c.args.shelf.now in
    record {
      open_still = c.in_ok-write_piece-2.ensures.open_still;
      written = c.in_ok-write_piece-2.ensures.written told _ c.pieces.invariant.written
          ∙ ap (with_file told c.args.name.now) (sym (joined_more c.args.front.now c.args.pieces.now at _ within));
      no_fault = c.in_ok-write_piece-2.ensures.no_fault ∙ c.pieces.invariant.no_fault;
      only = only_writes_more g.S.Shelf _ _ _ _ c.pieces.invariant.only c.write_piece-in-pieces.ensures.only_writes;
    }

-- after the last piece the file holds all
pub returns : goal.returns
returns g c =
    let all = c.close.ensures.kept ∙ all_written _ _ c.args.name.now c.args.front.now c.args.pieces.now c.pieces.piece-index c.pieces-test.false c.pieces.invariant.written in
    record {
      written = on_ok c.close.result all;
      front = on_err c.close.result (inr (all_held _ _ c.args.name.now (joined c.args.front.now (lent c.args.pieces.now)) all));
      cause = rose_of _ _ _ c.close.result (c.pieces.invariant.only.writes c.args.name.now) c.close.ensures.cause;
      no_fault = no_fault_more _ _ _ c.close.result c.pieces.invariant.no_fault c.close.ensures.no_fault;
      closed = c.close.ensures.closed;
      only = only_writes_more g.S.Shelf _ _ _ _ c.pieces.invariant.only (record {
        others = inl c.close.ensures.kept;
        reads = c.close.ensures.reads;
        writes = c.close.ensures.writes;
        given = c.close.ensures.given_kept;
      });
    }
