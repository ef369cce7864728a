-- What a view keeps of its file: the loadable segments, sorted, and how many pages there are.
use Rattle.std.specs.Prelude.{◌≡◌, ◌≤◌, length, None}
use Rattle.elf_pages.specs.SegmentTables.{AreSorted, HasSame}
use Rattle.elf_pages.specs.Segments.{segments_of}
use Rattle.elf_pages.specs.Pages.{pages_of}
use Rattle.elf_pages.specs.Limits.{page_limit}
use Rattle.elf_pages.specs.Faults.{elf_fault}
use Rattle.elf_pages.specs.declared.view.ElfView.TheInside.{Inside}

-- the view of an accepted file
pub record IsElfView (s : Inside) : Type 0 where
  pub accepted : elf_fault s.file.now ≡ None
  pub sorted : AreSorted (length s.file.now) s.table
  pub same : HasSame s.file.now (segments_of s.file.now) s.table
  pub count : s.pages ≡ length (pages_of s.file.now)
  pub few : s.pages ≤ page_limit
