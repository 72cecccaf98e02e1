-- The perturbed costs of a relaxation, and those of its directions, which go on where they end.
use Rattle.std.specs.Prelude.{◌≡◌, ◌≢◌, ℕ, zero, suc, ◌+◌, ◌<◌, ◌≤◌, ◌==◌, nat_eq, if◌then◌else◌, Bool, true, false, pos, [], ◌∷◌, ◌++◌, length, get_or, Option, Some, None}
use Rattle.std.specs.Option.{option_map}
use Rattle.std.specs.List.{range_with_len}
use Rattle.std.proofs.Common.{refl, sym, ap, subst, ◌∙◌, arith, ⊎_elim}
use Rattle.std.proofs.lemmas.Bool.{cases_eq, cases_lt, lt-ltb, le-ltb}
use Rattle.std.proofs.lemmas.List.{length-append, get_or_append_left}
use Rattle.frac128.specs.Rational.{ℚ, int, ceil, floor, max_ℚ, min_ℚ, ◌<ℚ◌}
use Rattle.frac128.specs.RationalRing.{reads_ℚ}
use Rattle.frac128.specs.RationalOrder.{zero-<ℚ-one, <ℚ_trans, <ℚ_irrefl, linear_strict}
use Rattle.lp_model.specs.Program.{lower, upper, is_integer}
use Rattle.lp_model.specs.Formulations.{Formulation}
use Rattle.lp_model.specs.Regions.{Path, low_after, high_after, low_along, high_along, region_low, region_high}
use Rattle.lp_model.specs.declared.types.Side.{Side}
use Rattle.lp_model.specs.declared.types.Side.TheVariants.{Lo, Hi}
use Rattle.table_entries.specs.declared.stand.Stand.{Stand}
use Rattle.table_entries.specs.declared.stand.Stand.TheVariants.{High, Free}
use Rattle.table_entries.specs.States.{sign}
use Rattle.table_entries.specs.Directions.{Continues}
use Rattle.table_entries.proofs.SumBelowLaws.{if_same, if_other}
use Rattle.row_tableau.specs.declared.relax.RelaxKind.TheVariants.{Plain, Directions}
use Rattle.row_tableau.specs.Activities.{activity_count, activity_low, activity_high}
use Rattle.row_tableau.specs.Relaxations.{plain}
use Rattle.row_tableau.specs.Tilts.{model_low, model_high, stand_by_sides, free_tilt, tilt_of, has_side, is_sided, sided, unsided, tilted_cost, parts_of}
use Rattle.row_tableau.proofs.OrderLemmas.{filter_from}
use Rattle.row_tableau.proofs.TiltLemmas.{by_column, by_activity}

-- ---- a side of the model stays in every region

abbrev pub There : Option ℚ → Type 0
There o = (x : ℚ) × (o ≡ Some x)

gone : (o : Option ℚ) → There o → o ≢ None
gone o (x, e) none = cc

low_kept : (side : Side) (o : Option ℚ) (v : ℚ) → There o → There (low_after side o v)
low_kept Lo None v (x, e) = absurd cc
low_kept Lo (Some l) v h = (max_ℚ l v, refl)
low_kept Hi o v h = h

high_kept : (side : Side) (o : Option ℚ) (v : ℚ) → There o → There (high_after side o v)
high_kept Lo o v h = h
high_kept Hi None v (x, e) = absurd cc
high_kept Hi (Some l) v h = (min_ℚ l v, refl)

either : (b : Bool) (o p : Option ℚ) → There o → There p → There (if b then o else p)
either true o p h g = h
either false o p h g = g

low_stays : (path : Path) (j : ℕ) (o : Option ℚ) → There o → There (low_along path j o)
low_stays [] j o h = h
low_stays (c ∷ path) j o h = low_stays path j (if nat_eq c.col.0 j then low_after c.side o (int c.v) else o) (either (nat_eq c.col.0 j) (low_after c.side o (int c.v)) o (low_kept c.side o (int c.v) h) h)

high_stays : (path : Path) (j : ℕ) (o : Option ℚ) → There o → There (high_along path j o)
high_stays [] j o h = h
high_stays (c ∷ path) j o h = high_stays path j (if nat_eq c.col.0 j then high_after c.side o (int c.v) else o) (either (nat_eq c.col.0 j) (high_after c.side o (int c.v)) o (high_kept c.side o (int c.v) h) h)

mapped : (f : ℚ → ℚ) (o : Option ℚ) → There o → There (option_map f o)
mapped f (Some x) h = (f x, refl)
mapped f None (x, e) = absurd cc

module _ (F : Formulation) (path : Path) where
  pub low_there : (v : ℕ) → There (model_low F v) → There ((plain F path).low v)
  low_there v h = ⊎_elim
      (λ w. subst There (sym (by_column (length F.model.cols) (region_low F.model path) (activity_low F) v w)) (let g = subst There (by_column (length F.model.cols) (lower F.model) (activity_low F) v w) h in
      low_stays path v (if is_integer F.model v then option_map (λ l. int (ceil l)) (lower F.model v) else lower F.model v) (either (is_integer F.model v) (option_map (λ l. int (ceil l)) (lower F.model v)) (lower F.model v) (mapped (λ l. int (ceil l)) (lower F.model v) g) g)))
      (λ w. subst There (sym (by_activity (length F.model.cols) (region_low F.model path) (activity_low F) v w)) (subst There (by_activity (length F.model.cols) (lower F.model) (activity_low F) v w) h))
      (cases_lt v (length F.model.cols))

  pub high_there : (v : ℕ) → There (model_high F v) → There ((plain F path).high v)
  high_there v h = ⊎_elim
      (λ w. subst There (sym (by_column (length F.model.cols) (region_high F.model path) (activity_high F) v w)) (let g = subst There (by_column (length F.model.cols) (upper F.model) (activity_high F) v w) h in
      high_stays path v (if is_integer F.model v then option_map (λ l. int (floor l)) (upper F.model v) else upper F.model v) (either (is_integer F.model v) (option_map (λ l. int (floor l)) (upper F.model v)) (upper F.model v) (mapped (λ l. int (floor l)) (upper F.model v) g) g)))
      (λ w. subst There (sym (by_activity (length F.model.cols) (region_high F.model path) (activity_high F) v w)) (subst There (by_activity (length F.model.cols) (upper F.model) (activity_high F) v w) h))
      (cases_lt v (length F.model.cols))

-- ---- signs of tilts

minus_below : sign High <ℚ int (pos 0)
minus_below = linear_strict [] zero-<ℚ-one (search reads_ℚ depth 9) tt

positive_low : (lo hi : Option ℚ) → int (pos 0) <ℚ sign (stand_by_sides Free lo hi) → There lo
positive_low (Some x) hi h = (x, refl)
positive_low None (Some x) h = absurd (<ℚ_irrefl (<ℚ_trans h minus_below))
positive_low None None h = absurd (<ℚ_irrefl h)

negative_high : (lo hi : Option ℚ) → sign (stand_by_sides Free lo hi) <ℚ int (pos 0) → There hi
negative_high (Some x) hi h = absurd (<ℚ_irrefl (<ℚ_trans h zero-<ℚ-one))
negative_high None (Some x) h = (x, refl)
negative_high None None h = absurd (<ℚ_irrefl h)

-- that of a variable with a side is the same in each relaxation
sided_tilt : (a b : Stand) (lo hi : Option ℚ) → has_side lo hi ≡ true → stand_by_sides a lo hi ≡ stand_by_sides b lo hi
sided_tilt a b (Some x) hi t = refl
sided_tilt a b None (Some x) t = refl
sided_tilt a b None None t = absurd cc

-- ---- the directions' parts go on

module _ (F : Formulation) (path : Path) where
  abbrev short : ℕ → ℕ → ℚ
  short = parts_of Plain F path

  abbrev long : ℕ → ℕ → ℚ
  long = parts_of Directions F path

  short_is : (q v : ℕ) → q < length (sided F) → short (suc q) v ≡ tilted_cost (tilt_of Plain F) (get_or (sided F) q 0) v
  short_is q v w = ap (λ b. if b then tilted_cost (tilt_of Plain F) (get_or (sided F) q 0) v else int (pos 0)) (lt-ltb q (length (sided F)) w)

  short_over : (q v : ℕ) → suc (length (sided F)) ≤ q → short q v ≡ int (pos 0)
  short_over zero v w = absurd (omega (arith, w))
  short_over (suc q) v w = ap (λ b. if b then tilted_cost (tilt_of Plain F) (get_or (sided F) q 0) v else int (pos 0)) (le-ltb q (length (sided F)) (omega (arith, w)))

  long_is : (q v : ℕ) → q < length (sided F) → long (suc q) v ≡ tilted_cost (tilt_of Directions F) (get_or (sided F) q 0) v
  long_is q v w =
      ap (λ b. if b then tilted_cost (tilt_of Directions F) (get_or (sided F ++ unsided F) q 0) v else int (pos 0))
      (lt-ltb q (length (sided F ++ unsided F)) (let e = length-append (sided F) (unsided F) in omega (arith, e, w)))
      ∙ ap (λ u. tilted_cost (tilt_of Directions F) u v) (get_or_append_left (sided F) (unsided F) 0 q w)

  tilt_here : (q : ℕ) → q < length (sided F) → tilt_of Directions F (get_or (sided F) q 0) ≡ tilt_of Plain F (get_or (sided F) q 0)
  tilt_here q w =
      let u = get_or (sided F) q 0 in
      sided_tilt (free_tilt Directions (length F.model.cols) u) Free (model_low F u) (model_high F u) (filter_from (is_sided F) (range_with_len 0 (length F.model.cols + activity_count F)) u (q, w, refl)).1

  same_part : (q v : ℕ) → q < suc (length (sided F)) → long q v ≡ short q v
  same_part zero v w = refl
  same_part (suc q) v w =
      let less : q < length (sided F) = omega (arith, w) in
      long_is q v less ∙ ap (λ t. if v == get_or (sided F) q 0 then sign t else int (pos 0)) (tilt_here q less) ∙ sym (short_is q v less)

  -- a part that is not 0 is the sign of the variable's own tilt
  part_sign : (q v : ℕ) → (P : ℚ → Type 0) → ¬ P (int (pos 0)) → P (short (suc q) v) → P (sign (tilt_of Plain F v))
  part_sign q v P none h = ⊎_elim
      (λ w. ⊎_elim
      (λ e. subst (λ u. P (sign (tilt_of Plain F u))) (sym e) (subst P (if_same (get_or (sided F) q 0) (sign (tilt_of Plain F (get_or (sided F) q 0))) (int (pos 0)))
      (subst (λ u. P (tilted_cost (tilt_of Plain F) (get_or (sided F) q 0) u)) e (subst P (short_is q v w) h))))
      (λ other. absurd (none (subst P (if_other v (get_or (sided F) q 0) (sign (tilt_of Plain F (get_or (sided F) q 0))) (int (pos 0)) other) (subst P (short_is q v w) h))))
      (cases_eq v (get_or (sided F) q 0)))
      (λ past. absurd (none (subst P (short_over (suc q) v (omega (arith, past))) h)))
      (cases_lt q (length (sided F)))

  lower_part : (q v : ℕ) → 0 < q → int (pos 0) <ℚ short q v → (plain F path).low v ≢ None
  lower_part zero v w h = absurd (omega (arith, w))
  lower_part (suc q) v w h = gone ((plain F path).low v) (low_there F path v (positive_low (model_low F v) (model_high F v) (part_sign q v (λ x. int (pos 0) <ℚ x) (λ g. <ℚ_irrefl g) h)))

  upper_part : (q v : ℕ) → 0 < q → short q v <ℚ int (pos 0) → (plain F path).high v ≢ None
  upper_part zero v w h = absurd (omega (arith, w))
  upper_part (suc q) v w h = gone ((plain F path).high v) (high_there F path v (negative_high (model_low F v) (model_high F v) (part_sign q v (λ x. x <ℚ int (pos 0)) (λ g. <ℚ_irrefl g) h)))

  pub continues : Continues (plain F path) short long
  continues = record {
    ends = suc (length (sided F));
    some = omega arith;
    same = same_part;
    over = short_over;
    lower = lower_part;
    upper = upper_part;
  }
