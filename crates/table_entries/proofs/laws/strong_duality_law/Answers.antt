use Rattle.table_entries.proofs.Lag.{lag-point, point_least}
use Rattle.table_entries.proofs.laws.strong_duality_law.Goals as goal

pub returns : goal.returns
returns c = λ p parts st good. record { lag = lag-point p parts st good.arranged good.lawful; least = λ x solves within. point_least p parts st good.arranged good.lawful good.table x solves within }
