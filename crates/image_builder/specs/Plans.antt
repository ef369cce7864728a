-- What is planned before a file is written.
use Rattle.std.specs.Prelude.{◌≡◌, ℕ, List, map}
use Rattle.component_list.specs.declared.component.Component.{Component}
use Rattle.component_list.specs.Lists.{ImageParts}
use Rattle.image_builder.specs.ContentIndex.{Row, saturated}
use Rattle.image_builder.specs.Layout.{section_size, data_start, kept_contents, offset_among}

-- the file offsets of these components' contents in a row that begins there
abbrev pub offsets_in : ℕ → List (List ℕ) → List Component → List ℕ
offsets_in start kept parts = map (λ c. saturated (offset_among start kept c.content)) parts

-- these components in a version of the format
abbrev pub in_version : ℕ → List Component → ImageParts
in_version version parts = record { version = version; parts = parts }

-- the section's size, the components' file offsets and the row of their contents, as numbers of 64 bits
pub record IsPlan (section : ℕ) (offsets : List ℕ) (row : Row) (list : ImageParts) : Type 0 where
  pub sized : section ≡ saturated (section_size list.parts)
  pub placed : offsets ≡ offsets_in (data_start list) (kept_contents list.parts) list.parts
  pub begins : row.start ≡ saturated (data_start list)
  pub holds : row.kept ≡ kept_contents list.parts
