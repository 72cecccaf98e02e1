-- A leaf is spared whose lists name nothing that is touched, and in which a column that is touched makes no step.
use Rattle.std.specs.Prelude.{◌≡◌, Bool, true, false, ◌&&◌, List}
use Rattle.std.proofs.Common.{refl, sym, true≢false}
use Rattle.lp_model.specs.Program.{Program}
use Rattle.lp_model.specs.Regions.{Path}
use Rattle.lp_model.specs.Formulations.{formulation}
use Rattle.lp_model.specs.declared.types.CutRow.{CutRow}
use Rattle.leaf_dual.specs.Dual.{Multipliers}
use Rattle.spared_leaves.specs.declared.touched.Touched.{Touched}
use Rattle.spared_leaves.specs.Touched.{cost_touched, column_touched, leaves_list}
use Rattle.spared_leaves.specs.Alike.{AreAlikeBut, AreAlikeCuts}
use Rattle.spared_leaves.specs.Spared.{IsQuietLag, IsQuietFarkas, HasInEach, KeepsCrossing, IsSpared}
use Rattle.spared_leaves.proofs.LikeAnswers.{like_answers, like_lag_totals, like_farkas_totals, like_regions, lag-short, farkas-short}

-- two words that are true together
pub both-true : (a b : Bool) → (a && b) ≡ true → (a ≡ true) × (b ≡ true)
both-true true true h = (refl, refl)
both-true true false h = absurd (true≢false (sym h))
both-true false b h = absurd (true≢false (sym h))

module _ (t : Touched) (M N : Program) (cuts others : List CutRow) (path : Path) (mult farkas : Multipliers) (left : leaves_list t cuts others mult ≡ true) (left_farkas : leaves_list t cuts others farkas ≡ true) where
  pub is-spared : KeepsCrossing path (column_touched t) M N → HasInEach (IsQuietLag path mult) (cost_touched t) (formulation M cuts) (formulation N others) → HasInEach (IsQuietFarkas path farkas) (column_touched t) (formulation M cuts) (formulation N others)
      → AreAlikeBut t M N → AreAlikeCuts cuts others → IsSpared (formulation M cuts) (formulation N others) path mult farkas
  is-spared crossing lag quiet alike alike_cuts = record {
    empty = like_regions t M N path alike crossing;
    lag = λ r. (like_answers t M N cuts others alike alike_cuts path mult left r).0 lag;
    refuting = λ r. (like_answers t M N cuts others alike alike_cuts path farkas left_farkas r).1 quiet;
    lag_totals = λ more. like_lag_totals t M N cuts others alike alike_cuts path mult left lag more;
    farkas_totals = λ more. like_farkas_totals t M N cuts others alike alike_cuts path farkas left_farkas quiet more;
    lag_short = lag-short t M N cuts others alike alike_cuts path mult left lag;
    farkas_short = farkas-short t M N cuts others alike alike_cuts path farkas left_farkas quiet;
  }
