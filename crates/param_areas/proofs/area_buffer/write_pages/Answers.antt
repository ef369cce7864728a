use Rattle.std.proofs.Common.{◌+◌, ◌-◌, ◌*◌, ◌∙◌, ap, length, arith}
use Rattle.param_areas.specs.AreaBytes.{written}
use Rattle.param_areas.proofs.Written.{put_mid_written}
use Rattle.param_areas.proofs.Histories.{length_content_bytes}
use Rattle.param_areas.proofs.area_buffer.write_pages.Goals as goal

pub returns : goal.returns
returns c =
    put_mid_written c.args.place (c.args.place + 4096 * c.pages.result - c.args.place) c.args.bytes.now c.fill_pages.new.out
    (omega (arith, length_content_bytes c.args.content.now, ap length c.fill_pages.ensures))
    ∙ ap (λ value. written c.args.place value c.args.bytes.now) c.fill_pages.ensures
