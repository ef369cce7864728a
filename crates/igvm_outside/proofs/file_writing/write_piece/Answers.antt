use Rattle.std.proofs.Common.{ℕ, arith, length-take, length-drop, ◌∙◌, inl}
use Rattle.igvm_outside.proofs.Refused.{on_err}
use Rattle.igvm_outside.proofs.Written.{write_more, broken_off}
use Rattle.igvm_outside.proofs.Composed.{only_writes_more, more_changes}
use Rattle.igvm_outside.proofs.file_writing.write_piece.Goals as goal

pub writes-preserved : goal.writes-preserved
writes-preserved g c = record {
  within = omega (arith, c.in_ok-at.ensures.within, length-take {A = ℕ}, length-drop {A = ℕ});
  open_still = c.in_ok-at.ensures.open_still;
  written = λ told text before. write_more _ _ _ _ _ _ _ _ (c.writes.invariant.written told text before) c.in_ok-at.ensures.written;
  no_fault = c.in_ok-at.ensures.no_fault ∙ c.writes.invariant.no_fault;
  only = only_writes_more g.S.Shelf _ _ _ _ c.writes.invariant.only (record {
    others = more_changes _ _ _ _ c.in_ok-at.ensures.written;
    reads = c.write.ensures.reads;
    writes = c.write.ensures.writes;
    given = c.write.ensures.given_kept;
  });
}

-- the call that failed has changed nothing
pub returns-in_err-at-clause-front : goal.returns-in_err-at-clause-front
returns-in_err-at-clause-front g c told text before =
    on_err c.from_residual.result
    (broken_off told _ _ text c.args.piece.now c.writes.at c.writes.invariant.within (c.in_err-at.ensures.kept ∙ c.writes.invariant.written told text before))

pub returns-in_err-at-clause-only_writes : goal.returns-in_err-at-clause-only_writes
returns-in_err-at-clause-only_writes g c = only_writes_more g.S.Shelf _ _ _ _ c.writes.invariant.only (record {
  others = inl c.in_err-at.ensures.kept;
  reads = c.write.ensures.reads;
  writes = c.write.ensures.writes;
  given = c.write.ensures.given_kept;
})
