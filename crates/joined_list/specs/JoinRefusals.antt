-- When two lists aren't joined: by the first limit that they pass together.
use Rattle.std.specs.Prelude.{◌<◌, ◌≤◌, List, ⊤}
use Rattle.component_list.specs.declared.component.Component.{Component}
use Rattle.joined_list.specs.Joined.{all_areas, all_pages, all_platforms}
use Rattle.joined_list.specs.declared.refusal.JoinRefusal.{JoinRefusal}
use Rattle.joined_list.specs.declared.refusal.JoinRefusal.TheVariants.{TooManyPlatforms, TooManyAreas, TooManyPages, Memory}

abbrev pub IsJoinRefusal : List Component → List Component → JoinRefusal → Type 0
IsJoinRefusal a b TooManyPlatforms = 32 < all_platforms a b
IsJoinRefusal a b TooManyAreas = (all_platforms a b ≤ 32) × (256 < all_areas a b)
IsJoinRefusal a b TooManyPages = (all_platforms a b ≤ 32) × (all_areas a b ≤ 256) × (4194304 < all_pages a b)
IsJoinRefusal a b Memory = ⊤
