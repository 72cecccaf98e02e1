use Rattle.table_entries.proofs.Ray.{ray_below}
use Rattle.table_entries.proofs.laws.ray_law.Goals as goal

pub returns : goal.returns
returns c = λ p x solves within below. ray_below p x solves within below
