use Rattle.std.proofs.Common.{◌∙◌, sym, ap}
use Rattle.serde_json.specs.View.{view}
use Rattle.warm_file.specs.Rising.{col_entry_of}
use Rattle.warm_file.specs.Values.{list_of}
use Rattle.warm_file.proofs.Saying.{says-first, ok-next, ok-is}
use Rattle.warm_file.specs.Searches.{dense_numbers_from, point_of}
use Rattle.warm_file.proofs.searches.read_point.Goals as goal

pub returns-in-Err : goal.returns-in-Err
unfolding point_of
returns-in-Err c = says-first (list_of (col_entry_of c.args.columns) (view c.args.value.now)) _ c.in-Err.fault c.in-Err.ensures

pub returns-in-Ok-point : goal.returns-in-Ok-point
unfolding point_of
returns-in-Ok-point c =
    ok-next (list_of (col_entry_of c.args.columns) (view c.args.value.now)) _ c.in-Ok.entries _ c.in-Ok.ensures
    (ok-is _ _ (sym (c.in-Ok-point.ensures ∙ ap (λ es. dense_numbers_from 0 c.args.columns es) c.as_slice.ensures)))
