-- The words of a page's line: its size, and whether it is measured.
use Rattle.std.specs.Prelude.{ℕ, List, Bool, true, false, codes}

-- the size of a page in bytes
abbrev pub size_text : Bool → List ℕ
size_text true = codes "2097152"
size_text false = codes "4096"

-- whether a page is measured
abbrev pub measured_text : Bool → List ℕ
measured_text true = codes "unmeasured"
measured_text false = codes "measured"
