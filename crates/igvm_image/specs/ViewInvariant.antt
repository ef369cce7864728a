-- What a view keeps of its file.
use Rattle.std.specs.Prelude.{◌≡◌, ◌≤◌, ◌+◌, length}
use Rattle.igvm_headers.specs.Fixed.{fixed_fields}
use Rattle.igvm_image.specs.HeaderRules.{seen_of}
use Rattle.igvm_image.specs.Headers.{IsAccepted, headers_of, placed_headers}
use Rattle.igvm_image.specs.declared.view.ImageView.TheInside.{Inside}

pub record IsView (s : Inside) : Type 0 where
  pub accepted : IsAccepted s.file.now
  pub fixed : s.fixed ≡ fixed_fields s.file.now
  pub seen : s.seen ≡ seen_of (headers_of s.file.now)
  pub count : s.count ≡ length (placed_headers s.file.now)
  pub section : s.fixed.var_offset + s.fixed.var_size ≤ s.fixed.total
  pub total : s.fixed.total ≤ length s.file.now
  pub limit : length s.file.now ≤ 536870912
