use Rattle.spared_leaves.proofs.LikeAnswers.{like_regions}
use Rattle.spared_leaves.proofs.touched.like_regions_law.Goals as goal

pub returns : goal.returns
returns c = like_regions
