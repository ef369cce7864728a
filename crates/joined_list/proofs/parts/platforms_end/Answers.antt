use Rattle.std.proofs.Common.{rules}
use Rattle.joined_list.specs.Parts.{is_platform}
use Rattle.joined_list.proofs.CutPlaces.{Cuts, IsEnd, cuts_at}
use Rattle.joined_list.proofs.parts.platforms_end.Goals as goal

pub returns : goal.returns
returns c =
    let end : IsEnd is_platform c.args.parts.now c.map_or.result = record { before = λ k d same. search rules; behind = λ k d past less. search rules } in
    let cuts : Cuts is_platform c.args.parts.now c.map_or.result = cuts_at is_platform c.args.parts.now c.map_or.result (search rules) end in
    record { front = cuts.front; back = cuts.back; within = search rules }
