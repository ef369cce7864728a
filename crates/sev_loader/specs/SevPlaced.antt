-- What an image places in a SEV or SEV-ES guest.
use Rattle.std.specs.Prelude.{ℕ, List, map, Bool, true, false, is_some}
use Rattle.igvm_headers.specs.declared.header.Header.{Header}
use Rattle.igvm_headers.specs.declared.header.Header.TheVariants.{Page}
use Rattle.platform_masks.specs.declared.platform.Platform.{Platform}
use Rattle.host_set.specs.Hosts.{HostValues}
use Rattle.image_loader.specs.Loads.{Load, load_of}
use Rattle.image_loader.specs.PlacedPages.{PlacedPage, placed}
use Rattle.sev_platform.specs.SevMachine.{SevPage}

-- the load of a file for one of its platforms, with the values of a host: options have no say in it
abbrev pub sev_load_of : List ℕ → Platform → HostValues → Load
sev_load_of file platform host = load_of file platform (record { native_zero = false }) host

-- a page that is placed, as an entry of a SEV machine: its bytes are measured where it is added to the launch
abbrev pub sev_page : PlacedPage → SevPage
sev_page q = record { gpa = q.gpa; page = q.page; measured = is_some q.tag }

-- the pages that the image places, in the order of their headers and addresses
abbrev pub sev_placed : Load → List SevPage
sev_placed load = map sev_page (placed load)

-- a header's pages are measured: it is a page without the unmeasured flag
abbrev pub is_measured_page : Header → Bool
is_measured_page (Page gpa mask offset large true kind) = false
is_measured_page (Page gpa mask offset large false kind) = true
is_measured_page _ = false
