use Rattle.std.proofs.Common.{arith}
use Rattle.component_list.specs.ImageList.{data_bytes}
use Rattle.component_list.proofs.ImageLists.{pages_more}
use Rattle.component_list.proofs.image_list.data_bytes.Goals as goal

pub pages-preserved : goal.pages-preserved
pages-preserved c =
    let more = pages_more c.args.view.now c.pages.k in
    grind arith

pub returns : goal.returns
unfolding data_bytes
returns c = grind arith
