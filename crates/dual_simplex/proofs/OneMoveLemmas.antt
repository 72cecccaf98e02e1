-- A state has one step: one variable leaves, one enters, one step of arithmetic is the first without room, and one state is next.
use Rattle.std.specs.Prelude.{◌≡◌, ◌⊎◌, ℕ, ◌+◌, ◌<◌, ◌≤◌, length, set, Some, Ok}
use Rattle.std.specs.declared.cmp.Ordering.{Ordering}
use Rattle.std.specs.declared.cmp.Ordering.TheVariants.{Less, Equal, Greater}
use Rattle.std.proofs.Common.{refl, sym, subst, ◌∙◌, arith, inl, inr, ⊎_elim}
use Rattle.std.proofs.lemmas.Bool.{cases_lt, cases_order}
use Rattle.frac128.specs.Rational.{ℚ, ◌<ℚ◌}
use Rattle.frac128.specs.RationalOrder.{<ℚ_trans, <ℚ_irrefl, not_both_ℚ}
use Rattle.lp_model.specs.declared.types.WideStep.{WideStep}
use Rattle.table_entries.specs.declared.stand.Stand.{Stand}
use Rattle.table_entries.specs.declared.stand.Stand.TheVariants.{Low, High, Free}
use Rattle.table_entries.specs.Relaxation.{Relaxation, Table, HasNoCrossedSides, Agree, pivoted}
use Rattle.table_entries.specs.States.{State, IsOutside}
use Rattle.table_entries.proofs.CostParts.{less_trans, not_less_self}
use Rattle.table_entries.proofs.Least.{less_from_same, enters_once}
use Rattle.row_tableau.specs.Answers.{IsWidePivot}
use Rattle.basic_solution.specs.Held.{Held, IsSided, relaxation, parts, state, table}
use Rattle.basic_solution.specs.Numbers.{IsWideBasicValue, IsWideCost}
use Rattle.basic_solution.specs.Lists.{IsWideActivity}
use Rattle.dual_simplex.specs.Answers.{IsFirstOut, May, AreAllInside, HasLeaving, IsWideLeaving, ratios, PartFits, AreSameParts, IsWideOrder, IsRatioOrder, IsLeastBelow, IsCompared, AreCompared, IsWideEntering, IsEntered, IsWideMove, IsWidePart}
use Rattle.dual_simplex.specs.Moves.{IsMoved, IsBlocked}
use Rattle.dual_simplex.specs.Solves.{HaveMultipliers, IsWide}
use Rattle.dual_simplex.proofs.StepLemmas.{value_not_wide}
use Rattle.dual_simplex.proofs.NameLemmas.{one_value, one_cost, one_pivot, one_part, cost_within, cost_not_wide, pivot_not_wide, part_not_wide}
use Rattle.dual_simplex.proofs.HeldLemmas.{dense_one}

-- tables that agree with a third agree
both : {n m : ℕ} (d e f : Table) → Agree n m d f → Agree n m e f → Agree n m d e
both d e f a b = record { basic = λ i q. a.basic i q ∙ sym (b.basic i q); nonbasic = λ k q. a.nonbasic k q ∙ sym (b.nonbasic k q); entry = λ i k q w. a.entry i k q w ∙ sym (b.entry i k q w) }

-- a number is outside one side, where none is crossed
pub one_side : (p : Relaxation) → HasNoCrossedSides p → (st : State) (r : ℕ) (x y : Stand) (a b : ℚ) → IsOutside p st r x a → IsOutside p st r y b → x ≡ y
one_side p uncrossed st r Low Low a b h k = refl
one_side p uncrossed st r High High a b h k = refl
one_side p uncrossed st r Low High a b h k = absurd (not_both_ℚ (uncrossed (st.table.basic r) a b h.0 k.0) (<ℚ_trans k.1 h.1))
one_side p uncrossed st r High Low a b h k = absurd (not_both_ℚ (uncrossed (st.table.basic r) b a k.0 h.0) (<ℚ_trans h.1 k.1))
one_side p uncrossed st r Free y a b h k = absurd h
one_side p uncrossed st r Low Free a b h k = absurd k
one_side p uncrossed st r High Free a b h k = absurd k

module _ (s : Held) (sided : IsSided s) (uncrossed : HasNoCrossedSides (relaxation s)) where
  abbrev name : ℕ → ℕ
  name i = (table s).basic i

  -- ---- who leaves

  pub record IsOneOut (row other : ℕ) (side also : Stand) : Type 0 where
    pub row_is : row ≡ other
    pub side_is : side ≡ also

  pub out_one : (row other : ℕ) (side also : Stand) → IsFirstOut s row side → IsFirstOut s other also → IsOneOut row other side also
  out_one row other side also f g =
      let before : name row ≤ name other = f.first other also g.out.0 g.within g.out.1 in
      let past : name other ≤ name row = g.first row side f.out.0 f.within f.out.1 in
      let same : row ≡ other = sided.table.arranged.basic_once row other f.within g.within (omega (arith, before, past)) in
      record { row_is = same; side_is = one_side (relaxation s) uncrossed (state s) other side also f.out.0 g.out.0 (subst (λ r. IsOutside (relaxation s) (state s) r side f.out.0) same f.out.1) g.out.1 }

  pub inside_not_out : AreAllInside s → (row : ℕ) (side : Stand) → ¬ IsFirstOut s row side
  inside_not_out all row side out = all.inside row out.within side out.out.0 out.out.1

  leaving_not_inside : (step : WideStep) → IsWideLeaving s step → ¬ AreAllInside s
  leaving_not_inside step wide all = value_not_wide s wide.row step (all.values wide.row) wide.wide

  leaving_not_out : (step : WideStep) → IsWideLeaving s step → ¬ HasLeaving s
  leaving_not_out step wide h = ⊎_elim
      (λ less. wide.inside h.row h.out.within less h.side h.out.out.0 h.out.out.1)
      (λ most. value_not_wide s wide.row step (λ within. h.values wide.row within most) wide.wide)
      (cases_lt (name h.row) (name wide.row))

  leaving_one : (e f : WideStep) → IsWideLeaving s e → IsWideLeaving s f → e ≡ f
  leaving_one e f h g =
      elim (cases_order (name h.row) (name g.row)) [
        | inl same ↦ one_value s sided g.row e f (subst (λ r. IsWideBasicValue s r e) (sided.table.arranged.basic_once h.row g.row h.within g.within same) h.wide) g.wide
        | inr apart ↦ elim apart [
          | inl before ↦ absurd (value_not_wide s h.row e (λ within. g.values h.row within before) h.wide)
          | inr past ↦ absurd (value_not_wide s g.row f (λ within. h.values g.row within past) g.wide)
        ]
      ]

  -- ---- the order of two ratios

  module _ (row : ℕ) (side : Stand) where
    -- a part that has room in both is not one without
    parts_not_wide : (a b : ℕ) (step : WideStep) (wide : IsWideOrder s row side a b step) → PartFits s row a wide.part → PartFits s row b wide.part → ⊥
    parts_not_wide a b step wide first second = elim wide.wide [
      | inl h ↦ part_not_wide s sided row a wide.part step first h
      | inr h ↦ part_not_wide s sided row b wide.part step second h.1
    ]

    less_not_wide : (a b : ℕ) (step : WideStep) (wide : IsWideOrder s row side a b step) (n : ℕ) → AreSameParts s row side a b n → PartFits s row a n → PartFits s row b n → ¬ (ratios s row side a n ≡ ratios s row side b n) → ⊥
    less_not_wide a b step wide n before first second differs =
        elim (cases_order n wide.part) [
          | inl same ↦ parts_not_wide a b step wide (subst (PartFits s row a) same first) (subst (PartFits s row b) same second)
          | inr apart ↦ elim apart [
            | inl less ↦ differs (wide.before.same n less)
            | inr more ↦ parts_not_wide a b step wide (before.first wide.part more) (before.second wide.part more)
          ]
        ]

    order_not_wide : (a b : ℕ) (step : WideStep) (o : Ordering) → IsRatioOrder s row side a b (Ok o) → ¬ IsWideOrder s row side a b step
    order_not_wide a b step Less h wide = less_not_wide a b step wide h.part h.before h.first h.second (λ e. <ℚ_irrefl (subst (λ t. ratios s row side a h.part <ℚ t) (sym e) h.less))
    order_not_wide a b step Equal h wide = parts_not_wide a b step wide (h.first wide.part wide.within) (h.second wide.part wide.within)
    order_not_wide a b step Greater h wide =
        less_not_wide a b step wide h.part (record { same = λ q w. sym (h.before.same q w); first = h.before.second; second = h.before.first }) h.second h.first
        (λ e. <ℚ_irrefl (subst (λ t. ratios s row side b h.part <ℚ t) e h.less))

    abbrev IsWideAt : ℕ → ℕ → ℕ → WideStep → Type 0
    IsWideAt a b q step = IsWidePart s row a q step ⊎ (PartFits s row a q × IsWidePart s row b q step)

    part_one : (a b q : ℕ) (e f : WideStep) → q < length s.order + 1 → IsWideAt a b q e → IsWideAt a b q f → e ≡ f
    part_one a b q e f within (inl x) (inl y) = one_part s sided row a q e f within x y
    part_one a b q e f within (inl x) (inr y) = absurd (part_not_wide s sided row a q e y.0 x)
    part_one a b q e f within (inr x) (inl y) = absurd (part_not_wide s sided row a q f x.0 y)
    part_one a b q e f within (inr x) (inr y) = one_part s sided row b q e f within x.1 y.1

    order_one : (a b : ℕ) (e f : WideStep) → IsWideOrder s row side a b e → IsWideOrder s row side a b f → e ≡ f
    order_one a b e f h g =
        elim (cases_order h.part g.part) [
          | inl same ↦ part_one a b g.part e f g.within (subst (λ q. IsWideAt a b q e) same h.wide) g.wide
          | inr apart ↦ elim apart [
            | inl less ↦ absurd (parts_not_wide a b e h (g.before.first h.part less) (g.before.second h.part less))
            | inr more ↦ absurd (parts_not_wide a b f g (h.before.first g.part more) (h.before.second g.part more))
          ]
        ]

    -- ---- who enters

    least_one : (n : ℕ) → n ≤ s.tableau.columns → (a b : ℕ) → IsLeastBelow s row side n (Some a) → IsLeastBelow s row side n (Some b) → a ≡ b
    least_one n most a b f g = ⊎_elim
        (λ l. ⊎_elim (λ m. absurd (not_less_self _ (less_trans _ _ _ l m))) (λ e. absurd (not_less_self _ (less_from_same _ _ _ l e.0))) (g.1.1 a f.0 f.1.0))
        (λ e. ⊎_elim
        (λ m. absurd (not_less_self _ (less_from_same _ _ _ m e.0)))
        (λ d.
        let a_within : a < s.tableau.columns = let w = f.0 in omega (arith, w, most) in
        let b_within : b < s.tableau.columns = let w = g.0 in omega (arith, w, most) in
        sided.table.arranged.nonbasic_once a b a_within b_within (let x = e.1 in let y = d.1 in omega (arith, x, y)))
        (g.1.1 a f.0 f.1.0))
        (f.1.1 b g.0 g.1.0)

    compared_not_wide : (k best : ℕ) (step : WideStep) → k ≤ s.tableau.columns → IsLeastBelow s row side k (Some best) → IsWideOrder s row side best k step → ¬ IsCompared s row side k
    compared_not_wide k best step most least wide (inl none) = none best least.0 least.1.0
    compared_not_wide k best step most least wide (inr (other, (also, (o, order)))) =
        order_not_wide best k step o (subst (λ b. IsRatioOrder s row side b k (Ok o)) (least_one k most other best also least) order) wide

    entering_not_compared : (step : WideStep) → IsWideEntering s row side s.tableau.columns step → ¬ AreCompared s row side s.tableau.columns
    entering_not_compared step h all =
        let most : h.place ≤ s.tableau.columns = let w = h.within in omega (arith, w) in
        compared_not_wide h.place h.best step most h.least h.wide (all h.place h.within h.may)

    entering_one : (e f : WideStep) → IsWideEntering s row side s.tableau.columns e → IsWideEntering s row side s.tableau.columns f → e ≡ f
    entering_one e f h g =
        elim (cases_order h.place g.place) [
          | inl same ↦
              let least : IsLeastBelow s row side g.place (Some h.best) = subst (λ k. IsLeastBelow s row side k (Some h.best)) same h.least in
              let best : h.best ≡ g.best = least_one g.place (let w = g.within in omega (arith, w)) h.best g.best least g.least in
              order_one g.best g.place e f (subst (λ X. X) (λ i. IsWideOrder s row side (best i) (same i) e) h.wide) g.wide
          | inr apart ↦ elim apart [
            | inl less ↦ absurd (compared_not_wide h.place h.best e (let w = h.within in omega (arith, w)) h.least h.wide (g.before h.place less h.may))
            | inr more ↦ absurd (compared_not_wide g.place g.best f (let w = g.within in omega (arith, w)) g.least g.wide (h.before g.place more g.may))
          ]
        ]

    abbrev pub WideFrom : WideStep → Type 0
    WideFrom step = IsWideEntering s row side s.tableau.columns step ⊎ ((place : ℕ) × (IsEntered s row side place × (AreCompared s row side s.tableau.columns × IsWidePivot s.tableau row place step)))

    enters_one : (place other : ℕ) → IsEntered s row side place → IsEntered s row side other → place ≡ other
    enters_one place other a b = enters_once (relaxation s) (parts s) (state s) sided.table.arranged row side place other a b

    from_one : (e f : WideStep) → WideFrom e → WideFrom f → e ≡ f
    from_one e f (inl h) (inl g) = entering_one e f h g
    from_one e f (inl h) (inr (place, (_, (compared, _)))) = absurd (entering_not_compared e h compared)
    from_one e f (inr (place, (_, (compared, _)))) (inl g) = absurd (entering_not_compared f g compared)
    from_one e f (inr (place, (a, (_, h)))) (inr (other, (b, (_, g)))) = one_pivot s sided row other e f (subst (λ k. IsWidePivot s.tableau row k e) (enters_one place other a b) h) g

    -- a step without room in the exchange is not one of a move that has room
    from_not_moved : (step : WideStep) → WideFrom step → (place : ℕ) → IsEntered s row side place → AreCompared s row side s.tableau.columns → (IsWidePivot s.tableau row place step → ⊥) → ⊥
    from_not_moved step (inl h) place enters compared fits = entering_not_compared step h compared
    from_not_moved step (inr (other, (also, (_, wide)))) place enters compared fits = fits (subst (λ k. IsWidePivot s.tableau row k step) (enters_one other place also enters) wide)

    -- some place may enter
    from_may : (step : WideStep) → WideFrom step → ((k : ℕ) → k < s.tableau.columns → ¬ (May s row side k)) → ⊥
    from_may step (inl h) none = none h.place h.within h.may
    from_may step (inr (place, (enters, _))) none = none place enters.within enters.may

  -- ---- moves

  pub move_one : (e f : WideStep) → IsWideMove s e → IsWideMove s f → e ≡ f
  move_one e f h g =
      let one = out_one g.leaving.row h.leaving.row g.leaving.side h.leaving.side g.leaving.out h.leaving.out in
      from_one h.leaving.row h.leaving.side e f h.wide (subst (λ X. X) (λ i. WideFrom (one.row_is i) (one.side_is i) f) g.wide)

  pub moved_leaving : (after : Held) → IsMoved s after → HasLeaving s
  moved_leaving after moved = record { row = moved.row; side = moved.side; out = moved.out; values = moved.values }

  pub blocked_leaving : IsBlocked s → HasLeaving s
  blocked_leaving blocked = record { row = blocked.row; side = blocked.side; out = blocked.out; values = blocked.values }

  pub move_not_moved : (step : WideStep) (after : Held) → IsWideMove s step → ¬ IsMoved s after
  move_not_moved step after h moved =
      let one = out_one h.leaving.row moved.row h.leaving.side moved.side h.leaving.out moved.out in
      from_not_moved moved.row moved.side step (subst (λ X. X) (λ i. WideFrom (one.row_is i) (one.side_is i) step) h.wide) moved.place moved.enters moved.compared (pivot_not_wide s sided moved.row moved.place step moved.fits)

  pub move_not_blocked : (step : WideStep) → IsWideMove s step → ¬ IsBlocked s
  move_not_blocked step h blocked =
      let one = out_one h.leaving.row blocked.row h.leaving.side blocked.side h.leaving.out blocked.out in
      from_may blocked.row blocked.side step (subst (λ X. X) (λ i. WideFrom (one.row_is i) (one.side_is i) step) h.wide) blocked.none

  pub blocked_not_moved : (after : Held) → IsBlocked s → ¬ IsMoved s after
  blocked_not_moved after blocked moved =
      let one = out_one blocked.row moved.row blocked.side moved.side blocked.out moved.out in
      subst (λ X. X) (λ i. (k : ℕ) → k < s.tableau.columns → ¬ (May s (one.row_is i) (one.side_is i) k)) blocked.none moved.place moved.enters.within moved.enters.may

  -- one state is next
  pub moved_one : (a b : Held) → IsMoved s a → IsMoved s b → a ≡ b
  moved_one a b x y =
      let one = out_one x.row y.row x.side y.side x.out y.out in
      let place : x.place ≡ y.place = enters_one y.row y.side x.place y.place (subst (λ X. X) (λ i. IsEntered s (one.row_is i) (one.side_is i) x.place) x.enters) y.enters in
      let agree : Agree s.tableau.columns s.tableau.activities (table a) (table b) = both (table a) (table b) (pivoted (table s) y.row y.place)
      (subst (λ X. X) (λ i. Agree s.tableau.columns s.tableau.activities (table a) (pivoted (table s) (one.row_is i) (place i))) x.move.exchanged) y.move.exchanged in
      let tableau : a.tableau ≡ b.tableau = dense_one a.tableau b.tableau x.full y.full (x.move.columns ∙ sym y.move.columns) (x.move.rows ∙ sym y.move.rows) (x.move.activities ∙ sym y.move.activities)
      (subst (λ X. X) (λ i. Agree (sym x.move.columns i) (sym x.move.activities i) (table a) (table b)) agree) in
      let stands : a.stands ≡ b.stands = x.move.stands ∙ (λ i. set s.stands (place i) (one.side_is i)) ∙ sym y.move.stands in
      λ i. record {
        form = (x.move.form ∙ sym y.move.form) i;
        low = (x.move.low ∙ sym y.move.low) i;
        high = (x.move.high ∙ sym y.move.high) i;
        cost = (x.move.cost ∙ sym y.move.cost) i;
        tilt = (x.move.tilt ∙ sym y.move.tilt) i;
        order = (x.move.order ∙ sym y.move.order) i;
        tableau = tableau i;
        stands = stands i;
      }

  -- ---- at a last state

  activity_not_fit : (step : WideStep) → IsWideActivity s step → ¬ HaveMultipliers s
  activity_not_fit step h fits = cost_not_wide s sided h.wide.0 step (λ within. fits h.activity h.behind h.within h.wide.0 within h.wide.1.0) h.wide.1.1

  cost_at_one : (k l : ℕ) (e f : WideStep) → (table s).nonbasic k ≡ (table s).nonbasic l → IsWideCost s k e → IsWideCost s l f → e ≡ f
  cost_at_one k l e f same h g =
      let place : k ≡ l = sided.table.arranged.nonbasic_once k l (cost_within s sided k e h) (cost_within s sided l f g) same in
      one_cost s sided l e f (subst (λ n. IsWideCost s n e) place h) g

  activity_one : (e f : WideStep) → IsWideActivity s e → IsWideActivity s f → e ≡ f
  activity_one e f h g =
      elim (cases_order h.activity g.activity) [
        | inl same ↦ cost_at_one h.wide.0 g.wide.0 e f (h.wide.1.0 ∙ same ∙ sym g.wide.1.0) h.wide.1.1 g.wide.1.1
        | inr apart ↦ elim apart [
          | inl less ↦ absurd (cost_not_wide s sided h.wide.0 e (λ within. g.before h.activity h.behind less h.wide.0 within h.wide.1.0) h.wide.1.1)
          | inr more ↦ absurd (cost_not_wide s sided g.wide.0 f (λ within. h.before g.activity g.behind more g.wide.0 within g.wide.1.0) g.wide.1.1)
        ]
      ]

  -- ---- where a run ends

  -- the step is one alone
  pub wide_one : (n limit : ℕ) (e f : WideStep) → IsWide n limit s e → IsWide n limit s f → e ≡ f
  wide_one n limit e f (inl h) (inl g) = leaving_one e f h g
  wide_one n limit e f (inl h) (inr (inl g)) = absurd (leaving_not_out e h g.1.leaving)
  wide_one n limit e f (inl h) (inr (inr (inl all, _))) = absurd (leaving_not_inside e h all)
  wide_one n limit e f (inl h) (inr (inr (inr blocked, _))) = absurd (leaving_not_out e h (blocked_leaving blocked.1))
  wide_one n limit e f (inr (inl h)) (inl g) = absurd (leaving_not_out f g h.1.leaving)
  wide_one n limit e f (inr (inl h)) (inr (inl g)) = move_one e f h.1 g.1
  wide_one n limit e f (inr (inl h)) (inr (inr (inl all, _))) = absurd (inside_not_out all h.1.leaving.row h.1.leaving.side h.1.leaving.out)
  wide_one n limit e f (inr (inl h)) (inr (inr (inr blocked, _))) = absurd (move_not_blocked e h.1 blocked.1)
  wide_one n limit e f (inr (inr (inl all, _))) (inl g) = absurd (leaving_not_inside f g all)
  wide_one n limit e f (inr (inr (inr blocked, _))) (inl g) = absurd (leaving_not_out f g (blocked_leaving blocked.1))
  wide_one n limit e f (inr (inr (inl all, _))) (inr (inl g)) = absurd (inside_not_out all g.1.leaving.row g.1.leaving.side g.1.leaving.out)
  wide_one n limit e f (inr (inr (inr blocked, _))) (inr (inl g)) = absurd (move_not_blocked f g.1 blocked.1)
  wide_one n limit e f (inr (inr (_, h))) (inr (inr (_, g))) = activity_one e f h g

  -- no move goes on from it
  pub wide_not_moved : (n limit : ℕ) (step : WideStep) (after : Held) → IsWide n limit s step → ¬ IsMoved s after
  wide_not_moved n limit step after (inl h) moved = leaving_not_out step h (moved_leaving after moved)
  wide_not_moved n limit step after (inr (inl h)) moved = move_not_moved step after h.1 moved
  wide_not_moved n limit step after (inr (inr (inl all, _))) moved = inside_not_out all moved.row moved.side moved.out
  wide_not_moved n limit step after (inr (inr (inr blocked, _))) moved = blocked_not_moved after blocked.1 moved

  -- and at the limit no basic variable is found to be outside a side
  pub wide_not_out : (limit : ℕ) (step : WideStep) → IsWide limit limit s step → ¬ HasLeaving s
  wide_not_out limit step (inl h) out = leaving_not_out step h out
  wide_not_out limit step (inr (inl h)) out = let less = h.0 in omega (arith, less)
  wide_not_out limit step (inr (inr (inl all, _))) out = inside_not_out all out.row out.side out.out
  wide_not_out limit step (inr (inr (inr blocked, _))) out = let less = blocked.0 in omega (arith, less)

  -- nor is it one where each number has room
  pub wide_not_inside : (n limit : ℕ) (step : WideStep) → IsWide n limit s step → AreAllInside s → ¬ HaveMultipliers s
  wide_not_inside n limit step (inl h) all fits = leaving_not_inside step h all
  wide_not_inside n limit step (inr (inl h)) all fits = inside_not_out all h.1.leaving.row h.1.leaving.side h.1.leaving.out
  wide_not_inside n limit step (inr (inr (_, h))) all fits = activity_not_fit step h fits

  pub wide_not_blocked : (n limit : ℕ) (step : WideStep) → IsWide n limit s step → IsBlocked s → ¬ HaveMultipliers s
  wide_not_blocked n limit step (inl h) blocked fits = leaving_not_out step h (blocked_leaving blocked)
  wide_not_blocked n limit step (inr (inl h)) blocked fits = move_not_blocked step h.1 blocked
  wide_not_blocked n limit step (inr (inr (_, h))) blocked fits = activity_not_fit step h fits
