-- the row begins behind the section, and both are saturated
use Rattle.std.proofs.Common.{◌+◌, ap, ◌∙◌}
use Rattle.image_builder.specs.ContentIndex.{saturated}
use Rattle.image_builder.specs.Layout.{data_start, kept_contents}
use Rattle.image_builder.specs.Plans.{in_version, offsets_in}
use Rattle.image_builder.proofs.Saturated.{offsets_twice, starts_saturated}
use Rattle.image_builder.proofs.plan.Plan.of.Goals as goal

pub returns-clause-planned : goal.returns-clause-planned
returns-clause-planned c =
    let parts = c.args.parts.now in
    let list = in_version c.args.version parts in
    let start = c.new-contents.ensures.start ∙ starts_saturated c.section_size-section.result c.saturating_add-start.result list c.section_size-section.ensures
    (c.saturating_add-start.ensures ∙ ap (λ n. saturated (c.section_size-section.result + n)) (c.from.ensures ∙ c.fixed_size.ensures.value)) in
    record {
      sized = c.section_size-section.ensures;
      placed = c.in_ok-offsets.ensures.offsets
          ∙ ap (λ s. offsets_in s (kept_contents parts) parts) start
          ∙ offsets_twice (data_start list) (kept_contents parts) parts;
      begins = c.in_ok-offsets.ensures.start ∙ start;
      holds = c.in_ok-offsets.ensures.kept;
    }
