-- Each variable that has a side in the relaxation has a tilt and a part.
use Rattle.std.specs.Prelude.{◌≡◌, ℕ, ◌+◌, ◌-◌, ◌<◌, ◌≤◌, if◌then◌else◌, not, Bool, true, false, pos, negsuc, length, Option, Some, None}
use Rattle.std.specs.List.{range_with_len}
use Rattle.std.proofs.Common.{refl, sym, ap, subst, ◌∙◌, arith, ⊎_elim}
use Rattle.std.proofs.lemmas.Bool.{false≢true, cases_lt, lt-ltb, le-ltb}
use Rattle.frac128.specs.Rational.{ℚ, int}
use Rattle.lp_model.specs.Program.{lower, upper}
use Rattle.lp_model.specs.Formulations.{Formulation}
use Rattle.lp_model.specs.Regions.{Path, region_low, region_high}
use Rattle.table_entries.specs.declared.stand.Stand.{Stand}
use Rattle.table_entries.specs.declared.stand.Stand.TheVariants.{Low, Free}
use Rattle.table_entries.specs.Bases.{Lists}
use Rattle.table_entries.specs.States.{IsFree}
use Rattle.table_entries.specs.Directions.{direction_side}
use Rattle.row_tableau.specs.declared.relax.RelaxKind.{RelaxKind}
use Rattle.row_tableau.specs.declared.relax.RelaxKind.TheVariants.{Plain, CostsZero, Directions}
use Rattle.row_tableau.specs.Activities.{activity_count, activity_low, activity_high}
use Rattle.row_tableau.specs.Relaxations.{plain, of_kind, by_variable}
use Rattle.row_tableau.specs.Tilts.{model_low, model_high, stand_by_sides, free_tilt, tilt_of, has_side, is_sided, sided, unsided, order_of, KeepsFree}
use Rattle.row_tableau.proofs.SignLemmas.{low_not_free, high_not_free}
use Rattle.row_tableau.proofs.OrderLemmas.{filter_has, filter_from, range_has, range_from, left_has, right_has, append_from}

pub by_column : {A : Type 0} (n : ℕ) (f g : ℕ → A) (v : ℕ) → v < n → by_variable n f g v ≡ f v
by_column n f g v within = ap (λ b. if b then f v else g (v - n)) (lt-ltb v n within)

pub by_activity : {A : Type 0} (n : ℕ) (f g : ℕ → A) (v : ℕ) → n ≤ v → by_variable n f g v ≡ g (v - n)
by_activity n f g v past = ap (λ b. if b then f v else g (v - n)) (le-ltb v n past)

side_tilted : (none : Stand) (lo hi : Option ℚ) → has_side lo hi ≡ true → ¬ (stand_by_sides none lo hi ≡ Free)
side_tilted none (Some x) hi t e = low_not_free e
side_tilted none None (Some x) t e = high_not_free e
side_tilted none None None t e = false≢true t

always_tilted : (lo hi : Option ℚ) → ¬ (stand_by_sides Low lo hi ≡ Free)
always_tilted (Some x) hi e = low_not_free e
always_tilted None (Some x) e = high_not_free e
always_tilted None None e = low_not_free e

no_side : (lo hi : Option ℚ) → has_side lo hi ≡ false → (lo ≡ None) × (hi ≡ None)
no_side (Some x) hi e = absurd (false≢true (sym e))
no_side None (Some x) e = absurd (false≢true (sym e))
no_side None None e = (refl, refl)

module _ (F : Formulation) (path : Path) where
  abbrev count : ℕ
  count = length F.model.cols + activity_count F

  -- ---- which variables have parts

  pub sided_listed : (kind : RelaxKind) (v : ℕ) → is_sided F v ≡ true → v < count → Lists (order_of kind F) v
  sided_listed Plain v t w = filter_has (is_sided F) (range_with_len 0 count) v t (range_has count v w)
  sided_listed CostsZero v t w = filter_has (is_sided F) (range_with_len 0 count) v t (range_has count v w)
  sided_listed Directions v t w = left_has (sided F) (unsided F) v (filter_has (is_sided F) (range_with_len 0 count) v t (range_has count v w))

  unsided_listed : (v : ℕ) → is_sided F v ≡ false → v < length F.model.cols → Lists (order_of Directions F) v
  unsided_listed v f w = right_has (sided F) (unsided F) v (filter_has (λ u. not (is_sided F u)) (range_with_len 0 (length F.model.cols)) v (ap not f) (range_has (length F.model.cols) v w))

  sided_there : (v : ℕ) → Lists (sided F) v → v < count
  sided_there v h = range_from count v (filter_from (is_sided F) (range_with_len 0 count) v h).0

  unsided_there : (v : ℕ) → Lists (unsided F) v → v < length F.model.cols
  unsided_there v h = range_from (length F.model.cols) v (filter_from (λ u. not (is_sided F u)) (range_with_len 0 (length F.model.cols)) v h).0

  pub listed_there : (kind : RelaxKind) (v : ℕ) → Lists (order_of kind F) v → v < count
  listed_there Plain v h = sided_there v h
  listed_there CostsZero v h = sided_there v h
  listed_there Directions v h = ⊎_elim (λ f. sided_there v f) (λ f. let w = unsided_there v f in omega (arith, w)) (append_from (sided F) (unsided F) v h)

  -- ---- a variable without sides in the model has none in the region

  module _ (keeps : KeepsFree F.model path) where
    pub free_in_region : (v : ℕ) → is_sided F v ≡ false → IsFree (plain F path) v
    free_in_region v f = ⊎_elim
        (λ w. let h = keeps v w (sym (by_column (length F.model.cols) (lower F.model) (activity_low F) v w) ∙ none.0) (sym (by_column (length F.model.cols) (upper F.model) (activity_high F) v w) ∙ none.1) in
        (by_column (length F.model.cols) (region_low F.model path) (activity_low F) v w ∙ h.0, by_column (length F.model.cols) (region_high F.model path) (activity_high F) v w ∙ h.1))
        (λ w. (
          by_activity (length F.model.cols) (region_low F.model path) (activity_low F) v w ∙ sym (by_activity (length F.model.cols) (lower F.model) (activity_low F) v w) ∙ none.0,
          by_activity (length F.model.cols) (region_high F.model path) (activity_high F) v w ∙ sym (by_activity (length F.model.cols) (upper F.model) (activity_high F) v w) ∙ none.1,
        ))
        (cases_lt v (length F.model.cols))
      where
        none : (model_low F v ≡ None) × (model_high F v ≡ None)
        none = no_side (model_low F v) (model_high F v) f

    free_activity : (v : ℕ) → is_sided F v ≡ false → length F.model.cols ≤ v → IsFree (of_kind Directions (plain F path)) v
    free_activity v f past =
        let free = free_in_region v f in
        let row = le-ltb v (length F.model.cols) past in (
          ap (λ b. direction_side b (int (negsuc 0)) ((plain F path).low v)) row ∙ ap (direction_side false (int (negsuc 0))) free.0,
          ap (λ b. direction_side b (int (pos 1)) ((plain F path).high v)) row ∙ ap (direction_side false (int (pos 1))) free.1,
        )

    pub tilted : (kind : RelaxKind) (v : ℕ) → v < count → ¬ (IsFree (of_kind kind (plain F path)) v) → Lists (order_of kind F) v × (¬ (tilt_of kind F v ≡ Free))
    tilted kind v w some = go kind (is_sided F v) refl some
      where
        go : (kind : RelaxKind) (b : Bool) → is_sided F v ≡ b → ¬ (IsFree (of_kind kind (plain F path)) v) → Lists (order_of kind F) v × (¬ (tilt_of kind F v ≡ Free))
        go kind true e some = (sided_listed kind v e w, side_tilted (free_tilt kind (length F.model.cols) v) (model_low F v) (model_high F v) e)
        go Plain false e some = absurd (some (free_in_region v e))
        go CostsZero false e some = absurd (some (free_in_region v e))
        go Directions false e some = ⊎_elim
            (λ less. (unsided_listed v e less, λ h. always_tilted (model_low F v) (model_high F v) (subst (λ b. stand_by_sides (if b then Low else Free) (model_low F v) (model_high F v) ≡ Free) (lt-ltb v (length F.model.cols) less) h)))
            (λ past. absurd (some (free_activity v e past)))
            (cases_lt v (length F.model.cols))
