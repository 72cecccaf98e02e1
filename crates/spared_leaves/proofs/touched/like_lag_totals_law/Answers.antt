use Rattle.spared_leaves.proofs.LikeAnswers.{like_lag_totals}
use Rattle.spared_leaves.proofs.touched.like_lag_totals_law.Goals as goal

pub returns : goal.returns
returns c = like_lag_totals
