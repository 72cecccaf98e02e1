-- The order of the variables in the lists of a node: columns, then rows, then cuts, each by its place.
use Rattle.std.specs.Prelude.{Bool, true, false, ◌&&◌, nat_lt, List, [], ◌∷◌}
use Rattle.lp_model.specs.declared.types.Var.{Var}
use Rattle.lp_model.specs.declared.types.Var.TheVariants.{Col, Row, Cut}

abbrev pub stands_before : Var → Var → Bool
stands_before (Col j) (Col k) = nat_lt j.0 k.0
stands_before (Col j) (Row k) = true
stands_before (Col j) (Cut k) = true
stands_before (Row i) (Col k) = false
stands_before (Row i) (Row k) = nat_lt i.0 k.0
stands_before (Row i) (Cut k) = true
stands_before (Cut i) (Col k) = false
stands_before (Cut i) (Row k) = false
stands_before (Cut i) (Cut k) = nat_lt i.0 k.0

-- each variable is before the next one
abbrev pub are_rising : List Var → Bool
are_rising [] = true
are_rising (u ∷ []) = true
are_rising (u ∷ v ∷ vs) = stands_before u v && are_rising (v ∷ vs)
