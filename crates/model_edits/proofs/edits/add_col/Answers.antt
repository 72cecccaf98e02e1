use Rattle.std.proofs.Common.{refl, inl}
use Rattle.model_edits.proofs.edits.add_col.Goals as goal

pub insert_col-requires : goal.insert_col-requires
insert_col-requires c = c.in-Ok.ensures

pub returns-in-Err : goal.returns-in-Err
returns-in-Err c = (c.in-Err.ensures, refl)

pub returns-in-Ok-insert_col : goal.returns-in-Ok-insert_col
returns-in-Ok-insert_col c = (c.in-Ok.ensures, c.in-Ok-insert_col.ensures.edited)

pub returns-in-Err-insert_col : goal.returns-in-Err-insert_col
returns-in-Err-insert_col c = (inl refl, c.in-Err-insert_col.ensures.kept)
