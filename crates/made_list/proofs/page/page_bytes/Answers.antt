use Rattle.std.proofs.Common.{◌≡◌, ◌+◌, ◌-◌, ◌++◌, [], ◌∷◌, ◌∙◌, sym, ap, map, arith}
use Rattle.std.specs.List.{range_with_len}
use Rattle.std.proofs.lemmas.List.FromFn.{map-range_with_len_more}
use Rattle.byteorder.specs.Endian.{little_bytes}
use Rattle.made_list.specs.MadeList.{page_byte, page_bytes}
use Rattle.made_list.proofs.page.page_bytes.Goals as goal

pub bytes-preserved : goal.bytes-preserved
bytes-preserved c =
    let j = c.bytes.j in
    let k = c.args.k in
    let next : j + 1 - 4 ≡ j - 4 + 1 = omega arith in
    let more = map-range_with_len_more (page_byte k) 4 (j - 4) j (omega arith) in
    let longer = ap (λ n. map (page_byte k) (range_with_len 4 n)) next ∙ more in
    let pushed = c.in_ok-push.ensures.items in
    pushed ∙ ap (λ xs. xs ++ page_byte k j ∷ []) c.bytes.invariant ∙ ap (λ xs. little_bytes 4 k ++ xs) (sym longer)

pub returns : goal.returns
unfolding page_bytes
returns c =
    let all : c.bytes.j ≡ 4096 = omega arith in
    c.bytes.invariant ∙ ap (λ n. little_bytes 4 c.args.k ++ map (page_byte c.args.k) (range_with_len 4 (n - 4))) all
