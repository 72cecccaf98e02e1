-- What contracts of private functions alone cite, beside specs/Solves.
use Rattle.std.specs.Prelude.{◌≡◌, List, Result, Ok, Err}
use Rattle.std.specs.declared.alloc.AllocError.{AllocError}
use Rattle.frac128.specs.Rational.{ℚ}
use Rattle.lp_model.specs.declared.types.Var.{Var}
use Rattle.lp_model.specs.declared.types.WideStep.{WideStep}
use Rattle.lp_model.specs.declared.types.Basis.{Basis}
use Rattle.dual_simplex.specs.declared.solve.Lp.{Lp}
use Rattle.dual_simplex.specs.declared.solve.Lp.TheVariants.{Infeasible, Wide}

-- the answer where none may enter has these lists, or the step of the multipliers that has no room
abbrev pub HasBlockedLists : Result (List (Var × ℚ)) AllocError → Result (Result (List (Var × ℚ)) WideStep) AllocError → Basis → Lp → Type 0
HasBlockedLists farkas mult basis (Infeasible f m b) = (farkas ≡ Ok f) × ((mult ≡ Ok (Ok m)) × (b ≡ basis))
HasBlockedLists farkas mult basis (Wide step b) = (mult ≡ Ok (Err step)) × (b ≡ basis)
HasBlockedLists farkas mult basis other = ⊥
