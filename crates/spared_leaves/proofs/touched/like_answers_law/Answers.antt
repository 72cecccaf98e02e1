use Rattle.spared_leaves.proofs.LikeAnswers.{like_answers}
use Rattle.spared_leaves.proofs.touched.like_answers_law.Goals as goal

pub returns : goal.returns
returns c = like_answers
