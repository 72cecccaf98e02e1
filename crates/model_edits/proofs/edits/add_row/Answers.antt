use Rattle.std.proofs.Common.{refl, inl}
use Rattle.model_edits.proofs.edits.add_row.Goals as goal

pub insert_row-requires : goal.insert_row-requires
insert_row-requires c = c.in-Ok.ensures

pub returns-in-Err : goal.returns-in-Err
returns-in-Err c = (c.in-Err.ensures, refl)

pub returns-in-Ok-insert_row : goal.returns-in-Ok-insert_row
returns-in-Ok-insert_row c = (c.in-Ok.ensures, c.in-Ok-insert_row.ensures.edited)

pub returns-in-Err-insert_row : goal.returns-in-Err-insert_row
returns-in-Err-insert_row c = (inl refl, c.in-Err-insert_row.ensures.kept)
