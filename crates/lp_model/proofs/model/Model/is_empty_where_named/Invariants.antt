use Rattle.std.proofs.Common.{ℕ, drop}
use Rattle.lp_model.specs.private.EmptyRegions.{IsNamed, IsEmptyColumn}
use Rattle.lp_model.proofs.model.Model.is_empty_where_named.Given as goal

-- each column without a number that the region names is named by what is left of it
abbrev pub invariant-loop-change : goal.invariant-loop-change
invariant-loop-change l = (j : ℕ) → IsEmptyColumn l.self l.region j → IsNamed j l.region → IsNamed j (drop l.change-index l.region)
