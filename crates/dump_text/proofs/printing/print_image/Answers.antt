use Rattle.std.proofs.Common.{◌∙◌, ◌++◌, ◌+◌, ◌^◌, ◌<◌, List, length, arith, ap, subst}
use Rattle.std.proofs.lemmas.Result.{IfOk-from_err}
use Rattle.igvm_image.specs.Headers.{PlacedHeader, placed_headers}
use Rattle.dump_text.specs.Listing.{first_line}
use Rattle.dump_text.proofs.Results.{ok_then, err_then, err_anyway, rose_since}
use Rattle.dump_text.proofs.Progress.{printing_none, printing_more, number_fits, printing_all, printing_front}
use Rattle.dump_text.proofs.printing.print_image.Goals as goal

pub push_first_line-requires : goal.push_first_line-requires
push_first_line-requires g c = rw c.new-text.ensures (omega arith)

pub headers-init : goal.headers-init
headers-init g c = record {
  printing = printing_none _ _ _ _
      (c.into_iter-placed-iterator.ensures.into_iter_gives ∙ c.headers-placed-items.ensures.placed)
      (c.push_first_line.ensures ∙ ap (λ t. t ++ first_line c.args.view.now) c.new-text.ensures)
      c.platforms_of_more.ensures.none;
  counted = omega arith;
}

pub push_line-requires : goal.push_line-requires
push_line-requires g c = c.in_ok-make_room.ensures.room

pub overflow_add-number : goal.overflow_add-number
overflow_add-number g c =
    let few : length (placed_headers c.args.view.now) < 2 ^ 32 =
    subst (λ (ps : List PlacedHeader). length ps < 2 ^ 32) c.headers-placed-items.ensures.placed c.headers-placed-items.ensures.few in
    let small : c.headers.number + c.platforms_in-number.result < 2 ^ 32 =
    number_fits _ _ _ _ _ _ _ _ _ c.headers.invariant.printing c.in-Some.ensures.steps c.platforms_in-number.ensures.one few in
    omega arith

pub headers-preserved : goal.headers-preserved
headers-preserved g c = record {
  printing = printing_more _ _ _ _ _ _ _ _ _ _ _ _ c.headers.invariant.printing c.in-Some.ensures.steps
      c.in_ok-make_room.ensures.put c.push_line.ensures c.platforms_of_more.ensures.more
      c.platforms_in-number.ensures.count c.platforms_in-number.ensures.one;
  counted = omega (arith, c.headers.invariant.counted, c.make_room.ensures.counted);
}

-- no room could be made
pub returns-in_err-make_room-clause-printed : goal.returns-in_err-make_room-clause-printed
returns-in_err-make_room-clause-printed g c = IfOk-from_err c.from_residual.result _ c.from_residual.ensures.0

pub returns-in_err-make_room-clause-front : goal.returns-in_err-make_room-clause-front
returns-in_err-make_room-clause-front g c =
    err_anyway c.from_residual.result _ (printing_front _ _ _ _ _ _ _ c.headers.invariant.printing c.in_err-make_room.ensures.front)

pub returns-in_err-make_room-clause-cause : goal.returns-in_err-make_room-clause-cause
returns-in_err-make_room-clause-cause g c =
    err_anyway c.from_residual.result _ (rose_since _ _ _ c.headers.invariant.counted c.in_err-make_room.ensures.cause)

pub returns-in_err-make_room-clause-counted : goal.returns-in_err-make_room-clause-counted
returns-in_err-make_room-clause-counted g c = omega (arith, c.headers.invariant.counted, c.make_room.ensures.counted)

-- the last text is put
pub returns-clause-printed : goal.returns-clause-printed
returns-clause-printed g c =
    ok_then c.put.result _ _ (λ put. printing_all _ _ _ _ _ _ _ c.headers.invariant.printing c.in-None.ensures.steps.0 put) c.put.ensures.put

pub returns-clause-front : goal.returns-clause-front
returns-clause-front g c =
    err_then c.put.result _ _ (λ front. printing_front _ _ _ _ _ _ _ c.headers.invariant.printing front) c.put.ensures.front

pub returns-clause-cause : goal.returns-clause-cause
returns-clause-cause g c =
    err_then c.put.result _ _ (λ rose. rose_since _ _ _ c.headers.invariant.counted rose) c.put.ensures.cause

pub returns-clause-counted : goal.returns-clause-counted
returns-clause-counted g c = omega (arith, c.headers.invariant.counted, c.put.ensures.counted)
