use Rattle.spared_leaves.proofs.LikeAnswers.{like_farkas_totals}
use Rattle.spared_leaves.proofs.touched.like_farkas_totals_law.Goals as goal

pub returns : goal.returns
returns c = like_farkas_totals
