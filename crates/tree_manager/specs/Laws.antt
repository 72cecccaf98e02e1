-- What holds after any list of events, and what a manager without an open leaf has shown.
use Rattle.std.specs.Prelude.{◌≡◌, List, [], Some}
use Rattle.lp_model.specs.Program.{Point, IsOptimum, IsEmpty}
use Rattle.search_parts.specs.Points.{target, IsIncumbent}
use Rattle.sound_searches.specs.Sound.{PlainSearch}
use Rattle.sound_searches.specs.Laws.{HasNoOpenLeaf}
use Rattle.tree_manager.specs.Managers.{PlainManager, IsManager}
use Rattle.tree_manager.specs.Events.{Event, IsHistory}

-- after any events the search is sound, no two workers hold one leaf, and a leaf that is not open is held by nobody
abbrev pub AnyEventsLaw : Type 0
AnyEventsLaw = (P Q : PlainManager) (es : List Event) → IsManager P → IsHistory P es Q → IsManager Q

-- without a kept point no point is feasible; else the best kept one is an optimum
pub record ShowsEnd (S : PlainSearch) : Type 0 where
  pub none : S.points ≡ [] → IsEmpty S.model
  pub best : (x : Point) → IsIncumbent S.model S.points (Some x) → IsOptimum S.model x

abbrev pub FinishedLaw : Type 0
FinishedLaw = (P : PlainManager) → IsManager P → HasNoOpenLeaf P.search → ShowsEnd P.search

-- two managers that are finished on one model show the same: no point both, or points of one value
abbrev pub SameEndLaw : Type 0
SameEndLaw =
    (P Q : PlainManager) → IsManager P → IsManager Q → P.search.model ≡ Q.search.model → HasNoOpenLeaf P.search → HasNoOpenLeaf Q.search → target P.search.model P.search.points ≡ target Q.search.model Q.search.points
