-- What the work on a leaf answers stands in order.
use Rattle.std.specs.Prelude.{ℕ, List, Option}
use Rattle.frac128.specs.Rational.{ℚ}
use Rattle.lp_model.specs.Formulations.{Formulation, formulation}
use Rattle.lp_model.specs.Program.{Program, Point}
use Rattle.lp_model.specs.Regions.{Path}
use Rattle.lp_model.specs.declared.types.CutRow.{CutRow}
use Rattle.lp_model.specs.declared.types.Derivation.{Derivation}
use Rattle.cut_find.specs.Separation.{IsSeparation}
use Rattle.branch_tree.specs.declared.node.NodeResult.{NodeResult}
use Rattle.basic_solution.specs.Held.{Held}
use Rattle.list_order.specs.Order.{IsBasisInOrder, IsResultInOrder}
use Rattle.list_order.specs.Ordered.{AreCutsInOrder}
use Rattle.node_solve.specs.Laws.{AreAt, HasResultLists}
use Rattle.node_solve.specs.Places.{result_in_pool}
use Rattle.node_solve.specs.Rounds.{Work, IsWorked}
use Rattle.node_solve.specs.Works.{IsDone}
use Rattle.node_solve.specs.declared.working.Worked.{Worked}
use Rattle.node_solve.specs.declared.working.Worked.TheVariants.{Done, Pivots, Wide, Memory}

pub record ResultOrderLaw : Type 0 where
  -- what a last state gives stands in order
  pub done : (F : Formulation) (path : Path) (target : Option ℚ) (s : Held) (result : NodeResult) → IsDone F path target s result → IsResultInOrder result
  -- and what stands in order still does by the names of the pool, where its lists name what is there in the relaxation
  pub in_pool : (M : Program) (pool cuts : List CutRow) (places : List ℕ) → AreAt pool cuts places → (result : NodeResult) → HasResultLists (formulation M cuts) result → IsResultInOrder result
      → IsResultInOrder (result_in_pool places result)

-- each cut that is found names what is there, by literals that rise: separation goes along the columns
abbrev pub CutOrderLaw : Type 0
CutOrderLaw = (M : Program) (x : Point) (max : ℕ) (found : List Derivation) → IsSeparation M x max found → AreCutsInOrder M found

-- the lists that are answered, a stop's in its relaxation, and the cuts that were found
abbrev pub IsWorkedInOrder : Program → Worked → Type 0
IsWorkedInOrder M (Done result found) = IsResultInOrder result × AreCutsInOrder M found.items
IsWorkedInOrder M (Pivots basis found) = IsBasisInOrder basis × AreCutsInOrder M found.items
IsWorkedInOrder M (Wide at found) = IsBasisInOrder at.basis × AreCutsInOrder M found.items
IsWorkedInOrder M Memory = Unit {0}

abbrev pub WorkedOrderLaw : Type 0
WorkedOrderLaw = (W : Work) (worked : Worked) → IsWorked W worked → IsWorkedInOrder W.model worked
