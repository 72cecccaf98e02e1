use Rattle.std.proofs.Common.{◌∙◌, ap, ◌^◌, ◌-◌, min}
use Rattle.search_counting.specs.Work.{whole_points_of}
use Rattle.search_counting.proofs.CountLemmas.{cap-saturated}
use Rattle.search_counting.proofs.counting.cap.Goals as goal

pub returns : goal.returns
returns c =
    cap-saturated c.most_results.result c.whole_points_of.result (whole_points_of c.args.model.now.cols)
    (c.whole_points_of.ensures ∙ ap (λ cs. min (whole_points_of cs) (2 ^ 64 - 1)) c.cols.ensures.items) c.most_results.ensures
