-- what was appended field by field is the record
use Rattle.std.proofs.Common.{append_assoc}
use Rattle.igvm_headers.specs.Records.Page.{page_fields}
use Rattle.igvm_headers.proofs.records.page.append_fields.Goals as goal

pub returns-clause-items : goal.returns-clause-items
unfolding page_fields
returns-clause-items c =
    rw (c.append.ensures.items, c.append_u16.ensures.items, c.append_u32-3.ensures.items, c.append_u32-2.ensures.items, c.append_u32.ensures.items, c.append_u64.ensures.items, c.flags_of.ensures, c.data_type.ensures)
    (simp append_assoc)
