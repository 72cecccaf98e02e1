use Rattle.table_entries.proofs.NoRay.{no_ray}
use Rattle.table_entries.proofs.laws.no_ray_law.Goals as goal

pub returns : goal.returns
returns c = λ p parts costs st good x ray. no_ray p parts costs st good x ray
