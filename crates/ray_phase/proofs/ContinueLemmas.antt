-- The perturbed costs of the directions go on where those of the model end.
use Rattle.std.specs.Prelude.{◌≡◌, ◌≢◌, ℕ, zero, suc, ◌+◌, ◌-◌, ◌<◌, ◌≤◌, ◌++◌, ◌==◌, if◌then◌else◌, is_none, Bool, true, false, pos, negsuc, [], length, get_or, Option, Some, None}
use Rattle.std.specs.Option.{option_map}
use Rattle.std.specs.List.{range_with_len}
use Rattle.std.proofs.Common.{refl, sym, ap, subst, ◌∙◌, arith, ⊎_elim}
use Rattle.std.proofs.lemmas.Bool.{false≢true, cases_eq, cases_lt, lt-ltb, le-ltb}
use Rattle.std.proofs.lemmas.List.{length-append, get_or_append_left}
use Rattle.frac128.specs.Rational.{ℚ, int, ◌≤ℚ◌, ◌<ℚ◌, floor, ceil}
use Rattle.frac128.specs.RationalOrder.{<ℚ_irrefl, not_both_ℚ, ≤ℚ_of_<ℚ, zero-<ℚ-one}
use Rattle.frac128.specs.RationalRing.{reads_ℚ}
use Rattle.lp_model.specs.Program.{Program, lower, upper, is_integer}
use Rattle.lp_model.specs.Formulations.{Formulation}
use Rattle.lp_model.specs.Regions.{region_low, region_high}
use Rattle.table_entries.specs.declared.stand.Stand.{Stand}
use Rattle.table_entries.specs.declared.stand.Stand.TheVariants.{Free}
use Rattle.table_entries.specs.Bases.{listed}
use Rattle.table_entries.specs.Relaxation.{Relaxation}
use Rattle.table_entries.specs.States.{IsFree, Separates, sign}
use Rattle.table_entries.specs.Directions.{Continues}
use Rattle.table_entries.proofs.SumBelowLaws.{if_same, if_other}
use Rattle.row_tableau.specs.declared.relax.RelaxKind.TheVariants.{Plain, Directions}
use Rattle.row_tableau.specs.Activities.{activity_count, activity_low, activity_high}
use Rattle.row_tableau.specs.Relaxations.{plain}
use Rattle.row_tableau.specs.Tilts.{model_low, model_high, stand_by_sides, free_tilt, tilt_of, has_side, is_sided, sided, unsided, order_of, KeepsFree, tilted_cost, parts_of}
use Rattle.row_tableau.proofs.TiltLemmas.{by_column, by_activity, tilted}
use Rattle.row_tableau.proofs.OrderLemmas.{filter_from, separated}
use Rattle.dual_simplex.proofs.OneStateLemmas.{low_past, high_past}

pub none_not_some : {x : ℚ} → ¬ (Some x ≡ None)
none_not_some e = false≢true (ap (λ o. is_none o) e)

pub minus_one : int (negsuc 0) ≤ℚ int (pos 0)
unfolding int
minus_one = search reads_ℚ

-- ---- bounds of the empty region are there where the model's are

pub rounded_none : (b : Bool) (f : ℚ → ℚ) (o : Option ℚ) → o ≡ None → (if b then option_map f o else o) ≡ None
rounded_none true f o e = ap (option_map f) e
rounded_none false f o e = e

pub rounded_some : (b : Bool) (f : ℚ → ℚ) (o : Option ℚ) → o ≢ None → (if b then option_map f o else o) ≢ None
rounded_some b f None some = absurd (some refl)
rounded_some true f (Some x) some = λ e. none_not_some e
rounded_some false f (Some x) some = some

pub keeps_free : (M : Program) → KeepsFree M []
keeps_free M j within lo up = (rounded_none (is_integer M j) (λ l. int (ceil l)) (lower M j) lo, rounded_none (is_integer M j) (λ h. int (floor h)) (upper M j) up)

module _ (F : Formulation) where
  abbrev p : Relaxation
  p = plain F []

  -- a side of the model is one of its relaxation
  pub low_there : (v : ℕ) → model_low F v ≢ None → p.low v ≢ None
  low_there v some = ⊎_elim
      (λ w. λ e. rounded_some (is_integer F.model v) (λ l. int (ceil l)) (lower F.model v) (λ h. some (by_column (length F.model.cols) (lower F.model) (activity_low F) v w ∙ h)) (sym (by_column (length F.model.cols) (region_low F.model []) (activity_low F) v w) ∙ e))
      (λ w. λ e. some (by_activity (length F.model.cols) (lower F.model) (activity_low F) v w ∙ sym (by_activity (length F.model.cols) (region_low F.model []) (activity_low F) v w) ∙ e))
      (cases_lt v (length F.model.cols))

  pub high_there : (v : ℕ) → model_high F v ≢ None → p.high v ≢ None
  high_there v some = ⊎_elim
      (λ w. λ e. rounded_some (is_integer F.model v) (λ h. int (floor h)) (upper F.model v) (λ h. some (by_column (length F.model.cols) (upper F.model) (activity_high F) v w ∙ h)) (sym (by_column (length F.model.cols) (region_high F.model []) (activity_high F) v w) ∙ e))
      (λ w. λ e. some (by_activity (length F.model.cols) (upper F.model) (activity_high F) v w ∙ sym (by_activity (length F.model.cols) (region_high F.model []) (activity_high F) v w) ∙ e))
      (cases_lt v (length F.model.cols))

  pub low_back : (v : ℕ) → model_low F v ≡ None → p.low v ≡ None
  low_back v none = ⊎_elim
      (λ w. by_column (length F.model.cols) (region_low F.model []) (activity_low F) v w ∙ rounded_none (is_integer F.model v) (λ l. int (ceil l)) (lower F.model v) (sym (by_column (length F.model.cols) (lower F.model) (activity_low F) v w) ∙ none))
      (λ w. by_activity (length F.model.cols) (region_low F.model []) (activity_low F) v w ∙ sym (by_activity (length F.model.cols) (lower F.model) (activity_low F) v w) ∙ none)
      (cases_lt v (length F.model.cols))

  pub high_back : (v : ℕ) → model_high F v ≡ None → p.high v ≡ None
  high_back v none = ⊎_elim
      (λ w. by_column (length F.model.cols) (region_high F.model []) (activity_high F) v w ∙ rounded_none (is_integer F.model v) (λ h. int (floor h)) (upper F.model v) (sym (by_column (length F.model.cols) (upper F.model) (activity_high F) v w) ∙ none))
      (λ w. by_activity (length F.model.cols) (region_high F.model []) (activity_high F) v w ∙ sym (by_activity (length F.model.cols) (upper F.model) (activity_high F) v w) ∙ none)
      (cases_lt v (length F.model.cols))

  -- what is past the last activity has no side
  past_free : (v : ℕ) → length F.model.cols + activity_count F ≤ v → IsFree p v
  past_free v past = (
    by_activity (length F.model.cols) (region_low F.model []) (activity_low F) v (omega (arith, past)) ∙ low_past F (v - length F.model.cols) (omega (arith, past)),
    by_activity (length F.model.cols) (region_high F.model []) (activity_high F) v (omega (arith, past)) ∙ high_past F (v - length F.model.cols) (omega (arith, past)),
  )

  pub separates_plain : Separates p (parts_of Plain F [])
  separates_plain = separated p (parts_of Plain F []) (order_of Plain F) (tilt_of Plain F)
      (λ q w v. ap (λ b. if b then tilted_cost (tilt_of Plain F) (get_or (order_of Plain F) q 0) v else int (pos 0)) (lt-ltb q (length (order_of Plain F)) w))
      (λ v some. tilted F [] (keeps_free F.model) Plain v (⊎_elim (λ w. w) (λ past. absurd (some (past_free v past))) (cases_lt v (length F.model.cols + activity_count F))) some)

  -- ---- the parts after the costs

  abbrev ends : ℕ
  ends = length (sided F)

  -- a variable with a side has one tilt
  same_tilt : (a b : Stand) (lo hi : Option ℚ) → has_side lo hi ≡ true → stand_by_sides a lo hi ≡ stand_by_sides b lo hi
  same_tilt a b (Some x) hi t = refl
  same_tilt a b None (Some x) t = refl
  same_tilt a b None None t = absurd (false≢true t)

  own_sided : (q : ℕ) → q < ends → is_sided F (listed (sided F) q) ≡ true
  own_sided q w = (filter_from (is_sided F) (range_with_len 0 (length F.model.cols + activity_count F)) (listed (sided F) q) (q, w, refl)).1

  same_part : (q v : ℕ) → q < suc ends → parts_of Directions F [] q v ≡ parts_of Plain F [] q v
  same_part zero v w = refl
  same_part (suc q) v w =
      let less : q < ends = omega (arith, w) in
      let longer : q < length (sided F ++ unsided F) = let e = length-append (sided F) (unsided F) in omega (arith, e, less) in
      ap (λ b. if b then tilted_cost (tilt_of Directions F) (get_or (sided F ++ unsided F) q 0) v else int (pos 0)) (lt-ltb q (length (sided F ++ unsided F)) longer)
      ∙ ap (λ u. tilted_cost (tilt_of Directions F) u v) (get_or_append_left (sided F) (unsided F) 0 q less)
      ∙ ap (λ x. if v == listed (sided F) q then sign x else int (pos 0))
      (same_tilt (free_tilt Directions (length F.model.cols) (listed (sided F) q)) (free_tilt Plain (length F.model.cols) (listed (sided F) q)) (model_low F (listed (sided F) q)) (model_high F (listed (sided F) q)) (own_sided q less))
      ∙ sym (ap (λ b. if b then tilted_cost (tilt_of Plain F) (get_or (sided F) q 0) v else int (pos 0)) (lt-ltb q (length (sided F)) less))

  over_part : (q v : ℕ) → suc ends ≤ q → parts_of Plain F [] q v ≡ int (pos 0)
  over_part zero v w = absurd (omega (arith, w))
  over_part (suc q) v w = ap (λ b. if b then tilted_cost (tilt_of Plain F) (get_or (sided F) q 0) v else int (pos 0)) (le-ltb q (length (sided F)) (omega (arith, w)))

  up_low : (lo hi : Option ℚ) → int (pos 0) <ℚ sign (stand_by_sides Free lo hi) → lo ≢ None
  up_low (Some x) hi h = λ e. none_not_some e
  up_low None (Some x) h = absurd (not_both_ℚ minus_one h)
  up_low None None h = absurd (<ℚ_irrefl h)

  down_high : (lo hi : Option ℚ) → sign (stand_by_sides Free lo hi) <ℚ int (pos 0) → hi ≢ None
  down_high (Some x) hi h = absurd (not_both_ℚ (≤ℚ_of_<ℚ zero-<ℚ-one) h)
  down_high None (Some x) h = λ e. none_not_some e
  down_high None None h = absurd (<ℚ_irrefl h)

  -- a part that is not 0 is the tilt of the variable itself
  lower_part : (q v : ℕ) → 0 < q → int (pos 0) <ℚ parts_of Plain F [] q v → p.low v ≢ None
  lower_part zero v some above = absurd (omega (arith, some))
  lower_part (suc q) v some above = ⊎_elim
      (λ less. let here = subst (λ x. int (pos 0) <ℚ x) (ap (λ b. if b then tilted_cost (tilt_of Plain F) (get_or (sided F) q 0) v else int (pos 0)) (lt-ltb q ends less)) above in
      ⊎_elim
      (λ e. low_there v (up_low (model_low F v) (model_high F v)
      (subst (λ x. int (pos 0) <ℚ x) (ap (λ u. tilted_cost (tilt_of Plain F) u v) (sym e) ∙ if_same v (sign (tilt_of Plain F v)) (int (pos 0))) here)))
      (λ other. absurd (<ℚ_irrefl (subst (λ x. int (pos 0) <ℚ x) (if_other v (get_or (sided F) q 0) (sign (tilt_of Plain F (get_or (sided F) q 0))) (int (pos 0)) other) here)))
      (cases_eq v (get_or (sided F) q 0)))
      (λ past. absurd (<ℚ_irrefl (subst (λ x. int (pos 0) <ℚ x) (ap (λ b. if b then tilted_cost (tilt_of Plain F) (get_or (sided F) q 0) v else int (pos 0)) (le-ltb q ends past)) above)))
      (cases_lt q ends)

  upper_part : (q v : ℕ) → 0 < q → parts_of Plain F [] q v <ℚ int (pos 0) → p.high v ≢ None
  upper_part zero v some below = absurd (omega (arith, some))
  upper_part (suc q) v some below = ⊎_elim
      (λ less. let here = subst (λ x. x <ℚ int (pos 0)) (ap (λ b. if b then tilted_cost (tilt_of Plain F) (get_or (sided F) q 0) v else int (pos 0)) (lt-ltb q ends less)) below in
      ⊎_elim
      (λ e. high_there v (down_high (model_low F v) (model_high F v)
      (subst (λ x. x <ℚ int (pos 0)) (ap (λ u. tilted_cost (tilt_of Plain F) u v) (sym e) ∙ if_same v (sign (tilt_of Plain F v)) (int (pos 0))) here)))
      (λ other. absurd (<ℚ_irrefl (subst (λ x. x <ℚ int (pos 0)) (if_other v (get_or (sided F) q 0) (sign (tilt_of Plain F (get_or (sided F) q 0))) (int (pos 0)) other) here)))
      (cases_eq v (get_or (sided F) q 0)))
      (λ past. absurd (<ℚ_irrefl (subst (λ x. x <ℚ int (pos 0)) (ap (λ b. if b then tilted_cost (tilt_of Plain F) (get_or (sided F) q 0) v else int (pos 0)) (le-ltb q ends past)) below)))
      (cases_lt q ends)

  pub continues : Continues p (parts_of Plain F []) (parts_of Directions F [])
  continues = record { ends = suc ends; some = omega arith; same = same_part; over = over_part; lower = lower_part; upper = upper_part }
