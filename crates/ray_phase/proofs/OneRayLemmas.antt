-- The ray phase has one answer: it starts at one state, its moves lead to one state, and what is answered there is one.
use Rattle.std.specs.Prelude.{◌≡◌, ◌≢◌, ℕ, ◌<◌, ◌≤◌, true, [], length, pos, Ok}
use Rattle.std.proofs.Common.{refl, sym, ap, subst, ◌∙◌, arith, inl, inr}
use Rattle.std.proofs.lemmas.Bool.{cases_order}
use Rattle.frac128.specs.Rational.{int, ◌<ℚ◌}
use Rattle.frac128.specs.RationalOrder.{not_both_ℚ}
use Rattle.checked_sum.specs.Steps.{IsFirstWide}
use Rattle.checked_sum.proofs.AnswerLaws.{first_wide_unique}
use Rattle.lp_model.specs.Program.{Program, Point, coordinate, cost, coefficient}
use Rattle.lp_model.specs.Formulations.{without_cuts}
use Rattle.lp_model.specs.declared.types.Basis.{Basis}
use Rattle.lp_model.specs.declared.types.WideStep.{WideStep}
use Rattle.lp_model.specs.declared.answers.WideAt.{WideAt}
use Rattle.model_points.specs.Answers.{activity_step, value_step}
use Rattle.model_points.specs.Rays.{DirectionCostFits, direction_cost, IsFirstWideCost, IsFirstWideSum, IsRayJudged}
use Rattle.table_entries.specs.Relaxation.{HasNoCrossedSides}
use Rattle.row_tableau.specs.declared.relax.Relax.{Relax}
use Rattle.row_tableau.specs.Relaxations.{plain, of_kind, relaxation_of}
use Rattle.row_tableau.specs.Answers.{IsBasic}
use Rattle.row_tableau.proofs.OrderedLemmas.{directions_ordered}
use Rattle.basic_solution.specs.Held.{Held, IsSided, IsLawfulHeld, relaxation}
use Rattle.basic_solution.proofs.ExchangeLemmas.{sided_of}
use Rattle.dual_simplex.specs.Answers.{HasLeaving}
use Rattle.dual_simplex.specs.Moves.{IsMoved}
use Rattle.dual_simplex.specs.Solves.{IsWide}
use Rattle.dual_simplex.specs.Walks.{Moves}
use Rattle.dual_simplex.proofs.OneEndLemmas.{one_names, one_point, one_basis}
use Rattle.dual_simplex.proofs.OneMoveLemmas.{inside_not_out, wide_one, wide_not_moved, wide_not_out, wide_not_inside}
use Rattle.dual_simplex.proofs.OneSlackLemmas.{slack_one}
use Rattle.dual_simplex.proofs.OneWalkLemmas.{moved_kept, uncrossed_at, moves_one, goes_on}
use Rattle.dual_simplex.proofs.SameRelaxLemmas.{AreSame, slack_other}
use Rattle.dual_simplex.proofs.SolveLemmas.{of_after}
use Rattle.ray_phase.specs.Answers.{AreDirections, IsStart, IsDirectionsOptimum, GainsNothing, IsLastBasis, IsModelHigh, IsWideSum, IsWideAt, IsRayEnd, IsRayRun, IsRayAnswer}
use Rattle.ray_phase.specs.Laws.{OneRayLaw}
use Rattle.ray_phase.specs.declared.phase.RayAnswer.{RayAnswer}
use Rattle.ray_phase.specs.declared.phase.RayAnswer.TheVariants.{Ray, DualBasis, Pivots, Wide, Memory}

-- ---- the sums of a direction

module _ (M : Program) (d : Point) where
  one_cost_step : (e f : WideStep) → IsFirstWideCost M d e → IsFirstWideCost M d f → e ≡ f
  one_cost_step e f (k, (first, is)) (l, (second, also)) =
      is ∙ ap value_step (first_wide_unique (int (pos 0)) (λ j. cost M 1 j) (λ j. coordinate d j) (length M.cols) k l first second) ∙ sym also

  cost_fits : (e : WideStep) → DirectionCostFits M d → ¬ IsFirstWideCost M d e
  cost_fits e fits (k, (wide, is)) = wide.here (fits k wide.within)

  abbrev WideIn : ℕ → ℕ → Type 0
  WideIn k i = IsFirstWide (int (pos 0)) (λ j. coefficient M i j) (λ j. coordinate d j) (length M.cols) k

  one_row_step : (e f : WideStep) → IsFirstWideSum M d e → IsFirstWideSum M d f → e ≡ f
  one_row_step e f h g =
      elim (cases_order h.row g.row) [
        | inl same ↦
            h.is
            ∙ (λ t. activity_step (same t) (first_wide_unique (int (pos 0)) (λ c. coefficient M g.row c) (λ c. coordinate d c) (length M.cols) h.col g.col (subst (WideIn h.col) same h.here) g.here t))
            ∙ sym g.is
        | inr apart ↦ elim apart [
          | inl before ↦ absurd (h.here.here ((g.before h.row before).fits h.col h.here.within))
          | inr past ↦ absurd (g.here.here ((h.before g.row past).fits g.col g.here.within))
        ]
      ]

  one_sum : (e f : WideStep) → IsWideSum M d e → IsWideSum M d f → e ≡ f
  one_sum e f (inl wide) (inl also) = one_cost_step e f wide also
  one_sum e f (inl wide) (inr ((fits, _), _)) = absurd (cost_fits e fits wide)
  one_sum e f (inr ((fits, _), _)) (inl wide) = absurd (cost_fits f fits wide)
  one_sum e f (inr (_, (_, inl (_, wide)))) (inr (_, (_, inl (_, also)))) = one_row_step e f wide also
  one_sum e f (inr (_, (_, inl _))) (inr ((fits, _), (_, inr (_, wide)))) = absurd (cost_fits f fits wide)
  one_sum e f (inr ((fits, _), (_, inr (_, wide)))) (inr _) = absurd (cost_fits e fits wide)

  ray_fits : (e : WideStep) → IsRayJudged M d (Ok true) → ¬ IsWideSum M d e
  ray_fits e (_, (_, fits)) (inl wide) = cost_fits e fits wide
  ray_fits e (_, (rows, _)) (inr (_, (_, inl (_, wide)))) = wide.here.here ((rows wide.row wide.within).fits wide.col wide.here.within)
  ray_fits e (_, (_, fits)) (inr (_, (_, inr (_, wide)))) = cost_fits e fits wide

  gain_fits : (e : WideStep) → GainsNothing M d → ¬ IsWideSum M d e
  gain_fits e (fits, _) (inl wide) = cost_fits e fits wide
  gain_fits e (_, not_below) (inr ((_, below), _)) = not_both_ℚ not_below below

-- ---- where a run ends

module _ (M : Program) (s : Held) (sided : IsSided s) (uncrossed : HasNoCrossedSides (relaxation s)) where
  optimum_not_out : (d : Point) → IsDirectionsOptimum s d → ¬ HasLeaving s
  optimum_not_out d best out = inside_not_out s sided uncrossed best.inside out.row out.side out.out

  one_direction : (d e : Point) → IsDirectionsOptimum s d → IsDirectionsOptimum s e → d ≡ e
  one_direction d e best other = one_point s d e best.point other.point

  one_last : (b c : Basis) → IsLastBasis M s b → IsLastBasis M s c → b ≡ c
  one_last b c b_is c_is =
      let basic : b.basic ≡ c.basic = one_names s (IsBasic s.tableau) b.basic c.basic b_is.basic c_is.basic in
      let high : b.high ≡ c.high = one_names s (IsModelHigh M s) b.high c.high b_is.high c_is.high in
      λ i. record { basic = basic i; high = high i }

  ray_gains : (d e : Point) → IsDirectionsOptimum s d → IsRayJudged M d (Ok true) → IsDirectionsOptimum s e → ¬ GainsNothing M e
  ray_gains d e best judged other gains = not_both_ℚ gains.1 (subst (λ x. direction_cost M x <ℚ int (pos 0)) (one_direction d e best other) judged.0.improves)

  module _ (n limit : ℕ) where
    one_step : (e f : WideStep) → IsWideAt M n limit s e → IsWideAt M n limit s f → e ≡ f
    one_step e f (inl h) (inl g) = wide_one s sided uncrossed n limit e f h g
    one_step e f (inl h) (inr (d, (best, _))) = absurd (wide_not_inside s sided uncrossed n limit e h best.inside best.multipliers)
    one_step e f (inr (d, (best, _))) (inl g) = absurd (wide_not_inside s sided uncrossed n limit f g best.inside best.multipliers)
    one_step e f (inr (d, (best, wide))) (inr (x, (other, also))) = one_sum M x e f (subst (λ y. IsWideSum M y e) (one_direction d x best other) wide) also

    one_wide : (a b : WideAt) → IsRayEnd M n limit s (Wide a) → IsRayEnd M n limit s (Wide b) → a ≡ b
    one_wide a b (a_is, (a_wide, a_basis)) (b_is, (b_wide, b_basis)) =
        let basis : a.basis ≡ b.basis = one_basis s a.basis b.basis a_basis b_basis in
        let step : a.step ≡ b.step = one_step a.step b.step a_wide b_wide in
        λ i. record { path = (a_is.path ∙ sym b_is.path) i; cuts = (a_is.cuts ∙ sym b_is.cuts) i; basis = basis i; step = step i }

    ray_not_wide : (d : Point) (e : WideStep) → IsDirectionsOptimum s d → IsRayJudged M d (Ok true) → ¬ IsWideAt M n limit s e
    ray_not_wide d e best judged (inl h) = wide_not_inside s sided uncrossed n limit e h best.inside best.multipliers
    ray_not_wide d e best judged (inr (x, (other, wide))) = ray_fits M d e judged (subst (λ y. IsWideSum M y e) (one_direction x d other best) wide)

    gain_not_wide : (d : Point) (e : WideStep) → IsDirectionsOptimum s d → GainsNothing M d → ¬ IsWideAt M n limit s e
    gain_not_wide d e best gains (inl h) = wide_not_inside s sided uncrossed n limit e h best.inside best.multipliers
    gain_not_wide d e best gains (inr (x, (other, wide))) = gain_fits M d e gains (subst (λ y. IsWideSum M y e) (one_direction x d other best) wide)

    out_not_wide : (e : WideStep) → n ≡ limit → HasLeaving s → ¬ IsWideAt M n limit s e
    out_not_wide e all out (inl h) = wide_not_out s sided uncrossed limit e (subst (λ k. IsWide k limit s e) all h) out
    out_not_wide e all out (inr (d, (best, _))) = optimum_not_out d best out

    one_end : (a b : RayAnswer) → a ≢ Memory → b ≢ Memory → IsRayEnd M n limit s a → IsRayEnd M n limit s b → a ≡ b
    one_end Memory b some other h g = absurd (some refl)
    one_end (Ray d) Memory some other h g = absurd (other refl)
    one_end (Ray d) (Ray e) some other h g = ap Ray (one_direction d e h.0 g.0)
    one_end (Ray d) (DualBasis c) some other h g = absurd (ray_gains d g.0.0 h.0 h.1 g.0.1.0 g.0.1.1)
    one_end (Ray d) (Pivots c) some other h g = absurd (optimum_not_out d h.0 g.1.0)
    one_end (Ray d) (Wide at) some other h g = absurd (ray_not_wide d at.step h.0 h.1 g.1.0)
    one_end (DualBasis b) Memory some other h g = absurd (other refl)
    one_end (DualBasis b) (Ray e) some other h g = absurd (ray_gains e h.0.0 g.0 g.1 h.0.1.0 h.0.1.1)
    one_end (DualBasis b) (DualBasis c) some other h g = ap DualBasis (one_last b c h.1.0 g.1.0)
    one_end (DualBasis b) (Pivots c) some other h g = absurd (optimum_not_out h.0.0 h.0.1.0 g.1.0)
    one_end (DualBasis b) (Wide at) some other h g = absurd (gain_not_wide h.0.0 at.step h.0.1.0 h.0.1.1 g.1.0)
    one_end (Pivots b) Memory some other h g = absurd (other refl)
    one_end (Pivots b) (Ray e) some other h g = absurd (optimum_not_out e g.0 h.1.0)
    one_end (Pivots b) (DualBasis c) some other h g = absurd (optimum_not_out g.0.0 g.0.1.0 h.1.0)
    one_end (Pivots b) (Pivots c) some other h g = ap Pivots (one_basis s b c h.1.1 g.1.1)
    one_end (Pivots b) (Wide at) some other h g = absurd (out_not_wide at.step h.0 h.1.0 g.1.0)
    one_end (Wide at) Memory some other h g = absurd (other refl)
    one_end (Wide at) (Ray e) some other h g = absurd (ray_not_wide e at.step g.0 g.1 h.1.0)
    one_end (Wide at) (DualBasis c) some other h g = absurd (gain_not_wide g.0.0 at.step g.0.1.0 g.0.1.1 h.1.0)
    one_end (Wide at) (Pivots c) some other h g = absurd (out_not_wide at.step g.0 g.1.0 h.1.0)
    one_end (Wide a) (Wide b) some other h g = ap Wide (one_wide a b h g)

    -- a run that ends does not go on
    end_not_moved : (a : RayAnswer) → a ≢ Memory → IsRayEnd M n limit s a → n < limit → (next : Held) → ¬ IsMoved s next
    end_not_moved Memory some h less next moved = some refl
    end_not_moved (Ray d) some h less next moved = inside_not_out s sided uncrossed h.0.inside moved.row moved.side moved.out
    end_not_moved (DualBasis b) some h less next moved = inside_not_out s sided uncrossed h.0.1.0.inside moved.row moved.side moved.out
    end_not_moved (Pivots b) some h less next moved = let all = h.0 in omega (arith, all, less)
    end_not_moved (Wide at) some h less next moved = elim h.1.0 [
      | inl wide ↦ wide_not_moved s sided uncrossed n limit at.step next wide moved
      | inr best ↦ inside_not_out s sided uncrossed best.1.0.inside moved.row moved.side moved.out
    ]

-- ---- runs

module _ (M : Program) where
  same_directions : (r t : Relax) → AreDirections M r → AreDirections M t → AreSame r t
  same_directions r t r_is t_is = record { form = r_is.form ∙ sym t_is.form; region = r_is.region ∙ sym t_is.region; kind = r_is.kind ∙ sym t_is.kind }

  ordered : (r : Relax) → AreDirections M r → HasNoCrossedSides (relaxation_of r)
  ordered r is = subst HasNoCrossedSides (λ i. of_kind (sym is.kind i) (plain (sym is.form i) (sym is.region i))) (directions_ordered (plain (without_cuts M) []))

  start_one : (s t : Held) → IsStart M s → IsStart M t → s ≡ t
  start_one s t (r, (r_is, (s_is, (s_kept, s_full)))) (u, (u_is, (t_is, (t_kept, t_full)))) =
      slack_one r s t s_is (slack_other u r (same_directions u r u_is r_is) t t_is) s_kept t_kept s_full t_full

  module _ (s : Held) (start : IsStart M s) where
    after_one : (n : ℕ) (a b : Held) → Moves n s a → Moves n s b → a ≡ b
    after_one n a b here there = moves_one start.0 (ordered start.0 start.1.0) s start.1.1.0.is start.1.1.1.0 n a b here there

    after_kept : (n : ℕ) (a : Held) → Moves n s a → IsLawfulHeld a
    after_kept n a moves = moved_kept n s a start.1.1.1.0 moves

    after_uncrossed : (n : ℕ) (a : Held) → Moves n s a → HasNoCrossedSides (relaxation a)
    after_uncrossed n a moves = uncrossed_at start.0 (ordered start.0 start.1.0) a (of_after start.0 n s a moves start.1.1.0.is) (after_kept n a moves)

    -- an end is where no longer run passes
    none_longer : (limit n m : ℕ) (after last : Held) → n < m → m ≤ limit → Moves n s after → Moves m s last → (a : RayAnswer) → a ≢ Memory → IsRayEnd M n limit after a → ⊥
    none_longer limit n m after last less within moves more a some end =
        let on = goes_on n m s last less more in
        let same : on.mid ≡ after = after_one n on.mid after on.moves moves in
        end_not_moved M after (sided_of after (after_kept n after moves)) (after_uncrossed n after moves) n limit a some end (omega (arith, less, within)) on.next (subst (λ u. IsMoved u on.next) same on.move)

    runs_one : (limit n m : ℕ) (after last : Held) → n ≤ limit → m ≤ limit → Moves n s after → Moves m s last → (a b : RayAnswer) → a ≢ Memory → b ≢ Memory → IsRayEnd M n limit after a → IsRayEnd M m limit last b → a ≡ b
    runs_one limit n m after last within also moves more a b some other h g =
        elim (cases_order n m) [
          | inl same ↦
              let alike : last ≡ after = after_one n last after (subst (λ k. Moves k s last) (sym same) more) moves in
              one_end M after (sided_of after (after_kept n after moves)) (after_uncrossed n after moves) n limit a b some other h (subst (λ X. X) (λ i. IsRayEnd M (sym same i) limit (alike i) b) g)
          | inr apart ↦ elim apart [
            | inl less ↦ absurd (none_longer limit n m after last less also moves more a some h)
            | inr past ↦ absurd (none_longer limit m n last after past within more moves b other g)
          ]
        ]

  run_of : (limit : ℕ) (a : RayAnswer) → a ≢ Memory → IsRayAnswer M limit a → IsRayRun M limit a
  run_of limit (Ray d) some h = h
  run_of limit (DualBasis basis) some h = h
  run_of limit (Pivots basis) some h = h
  run_of limit (Wide at) some h = h
  run_of limit Memory some h = absurd (some refl)

  one_run : (limit : ℕ) (a b : RayAnswer) → a ≢ Memory → b ≢ Memory → IsRayRun M limit a → IsRayRun M limit b → a ≡ b
  one_run limit a b some other (s, (after, (start, (n, (within, (moves, end)))))) (t, (last, (begin, (m, (also, (more, close)))))) =
      runs_one s start limit n m after last within also moves (subst (λ u. Moves m u last) (start_one t s begin start) more) a b some other end close

pub one_ray : OneRayLaw
one_ray M limit a b some other h g = one_run M limit a b some other (run_of M limit a some h) (run_of M limit b other g)
