use Rattle.spared_leaves.proofs.LikePools.{like_pools}
use Rattle.spared_leaves.proofs.touched.like_pools_law.Goals as goal

pub returns : goal.returns
returns c = like_pools
