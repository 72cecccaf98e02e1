-- A leaf that closes by its data, and is marked so, is judged. What is answered where it does not close, or a basis does not fit.
use Rattle.std.specs.Prelude.{◌≡◌, ℕ, Option, Some, None, Result, Ok, Err, OnOk, OnErr}
use Rattle.std.proofs.Common.{refl, sym, subst}
use Rattle.frac128.specs.Rational.{ℚ}
use Rattle.lp_model.specs.Program.{Point}
use Rattle.lp_model.specs.Regions.{Path}
use Rattle.lp_model.specs.Formulations.{Formulation}
use Rattle.branch_tree.specs.declared.node.LeafData.{LeafData}
use Rattle.branch_tree.specs.declared.node.LeafState.{LeafState}
use Rattle.branch_tree.specs.declared.node.LeafState.TheVariants.{IsClosed}
use Rattle.leaf_judging.specs.Closing.{NumberCloses, ClosesBy, StateSays, IsJudgedLeaf}
use Rattle.search_parts.specs.Lists.{IsBasis}
use Rattle.search_parts.specs.Points.{target}
use Rattle.search_parts.specs.declared.points.Joined.{Joined}
use Rattle.sound_searches.specs.declared.taken.Taken.{Taken}
use Rattle.sound_searches.specs.declared.taken.Taken.TheVariants.{Stale, Refused, Reopened, Full, Closed, Split, Kept}
use Rattle.sound_searches.specs.Sound.{PlainSearch, formulation_of}
use Rattle.sound_searches.specs.Placing.{TakesClose, TakesPointClose, TakesBasis}
use Rattle.tree_edit.specs.private.PlacingSteps.{JoinsPoint, StaysOpen}
use Rattle.tree_edit.proofs.PointTaken.{not-closes_with}

pub judged-closed : (F : Formulation) (t : Option ℚ) (path : Path) (kept : LeafData) → ClosesBy F t path kept → kept.state ≡ IsClosed → IsJudgedLeaf F t path kept
judged-closed F t path kept h closed = record { number = h.0; number_is = h.1.0; says = subst (λ (s : LeafState). StateSays s (NumberCloses F.model t h.0)) (sym closed) h.1.1 }

-- ---- what is answered, where nothing has changed

module _ (S : PlainSearch) (id : ℕ) (path : Path) (kept : LeafData) where
  pub stays-open : (taken : Taken) → StaysOpen (formulation_of S) (target S.model S.points) path kept taken → TakesClose S id path kept S taken
  stays-open Stale h = h
  stays-open Refused h = (h, refl)
  stays-open Reopened h = (h.0, h.1, refl)
  stays-open Full h = h
  stays-open Closed h = absurd h
  stays-open Split h = h
  stays-open Kept h = h

  pub stays-open_with : (x : Point) (joined : Joined) → JoinsPoint S x joined → (taken : Taken) → StaysOpen (formulation_of S) joined.target path kept taken → TakesPointClose S id path x kept S taken
  stays-open_with x joined joins Stale h = h
  stays-open_with x joined joins Refused h = ((λ k. h k.1), refl)
  stays-open_with x joined joins Reopened h = (joins.keepable, h.0, not-closes_with S x path kept joined joins h.1, refl)
  stays-open_with x joined joins Full h = h
  stays-open_with x joined joins Closed h = absurd h
  stays-open_with x joined joins Split h = h
  stays-open_with x joined joins Kept h = h

  pub basis-refused : (point : Option Point) → ¬ IsBasis (formulation_of S) kept.basis → TakesBasis S id path point kept S Refused
  basis-refused None not = (not, refl)
  basis-refused (Some x) not = ((λ k. not k.1), refl)

-- what holds anyway, on either outcome
pub on-ok : {T E P : Type 0} (r : Result T E) → P → OnOk r P
on-ok (Ok x) p = p
on-ok (Err e) p = tt

pub on-err : {T E P : Type 0} (r : Result T E) → P → OnErr r P
on-err (Ok x) p = tt
on-err (Err e) p = p
