use Rattle.std.proofs.Common.{◌≡◌, ◌%◌, ◌∙◌, ap, map, arith, ℕ}
use Rattle.std.specs.List.{range_with_len}
use Rattle.std.proofs.lemmas.List.FromFn.{map-range_with_len_more}
use Rattle.made_list.specs.MadeList.{context_bytes}
use Rattle.made_list.proofs.context.context_bytes.Goals as goal

pub bytes-preserved : goal.bytes-preserved
bytes-preserved c =
    let j = c.bytes.j in
    let more = map-range_with_len_more (λ (j : ℕ). j % 256) 0 j j (omega arith) in
    let pushed = c.in_ok-push.ensures.items in
    grind arith

pub returns : goal.returns
unfolding context_bytes
returns c =
    let all : c.bytes.j ≡ 4096 = omega arith in
    c.bytes.invariant ∙ ap (λ n. map (λ j. j % 256) (range_with_len 0 n)) all
