use Rattle.std.proofs.Common.{[], ◌++◌, ◌-◌, length, ap, ◌∙◌, take, drop, replicate}
use Rattle.std.proofs.lemmas.List.{take_rest}
use Rattle.igvm_headers.specs.Checksum.{crc}
use Rattle.igvm_image.proofs.file_rules.checksum.Goals as goal

-- the pieces fed are the message
pub returns : goal.returns
returns c =
    let front = take 20 c.args.fixed.now in
    let zeros = replicate 4 0 in
    let rest = take (length c.args.fixed.now - 24) (drop 24 c.args.fixed.now) in
    c.crc_end.ensures (front ++ zeros ++ rest ++ c.args.section.now)
    (c.crc_more.ensures (front ++ zeros ++ rest) (c.crc_more-state-3.ensures (front ++ zeros) (c.crc_more-state-2.ensures front (c.crc_more-state.ensures [] c.crc_begin.ensures))))
    ∙ ap (λ added. crc (front ++ zeros ++ added ++ c.args.section.now)) (take_rest c.args.fixed.now 24)
