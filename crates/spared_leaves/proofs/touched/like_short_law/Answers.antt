use Rattle.spared_leaves.proofs.LikeShort.{like_short}
use Rattle.spared_leaves.proofs.touched.like_short_law.Goals as goal

pub returns : goal.returns
returns c = like_short
