use Rattle.std.proofs.Common.{length}
use Rattle.model_texts.proofs.lists.+is_narrow_region.Given as goal

abbrev pub decreases-is_narrow_region : goal.decreases-is_narrow_region
decreases-is_narrow_region l = length l.region.now
