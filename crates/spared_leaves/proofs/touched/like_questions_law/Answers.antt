use Rattle.spared_leaves.proofs.LikeQuestions.{like_questions}
use Rattle.spared_leaves.proofs.touched.like_questions_law.Goals as goal

pub returns : goal.returns
returns c = like_questions
