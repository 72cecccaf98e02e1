use Rattle.std.proofs.Common.{◌∙◌, ap, sym, subst, codes, length, Err}
use Rattle.serde_json.specs.View.{view}
use Rattle.warm_file.specs.private.Faults.{SaysFault}
use Rattle.warm_file.specs.Values.{member}
use Rattle.warm_file.proofs.Saying.{says-first, says-next}
use Rattle.warm_file.specs.Searches.{cuts_of}
use Rattle.warm_file.proofs.SearchLaws.{few-cuts}
use Rattle.warm_file.proofs.reading.read_behind_model.Goals as goal

pub read_tree-requires : goal.read_tree-requires
read_tree-requires c = few-cuts c.row_count.result c.col_count.result (view c.args.value.now) c.in-Ok.cuts c.in-Ok.ensures

pub returns-in-Ok : goal.returns-in-Ok
returns-in-Ok c =
    let d = view c.args.value.now in
    let M = c.args.model in
    let cuts = ap (λ n. member (codes "cuts") (cuts_of n (length M.cols)) d) (sym c.row_count.ensures) ∙ ap (λ n. member (codes "cuts") (cuts_of c.row_count.result n) d) (sym c.col_count.ensures) ∙ c.in-Ok.ensures in
    says-next (member (codes "cuts") (cuts_of (length M.rows) (length M.cols)) d) _ c.in-Ok.cuts c.read_tree.result cuts c.read_tree.ensures

pub returns-in-Err : goal.returns-in-Err
returns-in-Err c =
    let d = view c.args.value.now in
    let M = c.args.model in
    let cuts = subst (λ n. SaysFault (member (codes "cuts") (cuts_of n (length M.cols)) d) (Err c.in-Err.fault)) c.row_count.ensures (subst (λ n. SaysFault (member (codes "cuts") (cuts_of c.row_count.result n) d) (Err c.in-Err.fault)) c.col_count.ensures c.in-Err.ensures) in
    says-first (member (codes "cuts") (cuts_of (length M.rows) (length M.cols)) d) _ c.in-Err.fault cuts
