use Rattle.spared_leaves.proofs.LikeAnswers.{like_cost_totals}
use Rattle.spared_leaves.proofs.touched.like_cost_totals_law.Goals as goal

pub returns : goal.returns
returns c = like_cost_totals
