use Rattle.spared_leaves.proofs.LikeEdits.{like_edits}
use Rattle.spared_leaves.proofs.touched.like_edits_law.Goals as goal

pub returns : goal.returns
returns c = like_edits
