-- The work on a leaf has one answer.
-- Idea: a run ends at one state (`one_last`), so a round is followed by one round (`one_rounds`), and a round that is the last
-- is not followed (`never_on`).
use Rattle.std.specs.Prelude.{◌≡◌, ◌≢◌, ◌⊎◌, ℕ, zero, suc, ◌-◌, ◌<◌, ◌≤◌, List, length, Option, Err}
use Rattle.std.proofs.Common.{refl, sym, ap, ap₂, subst, ◌∙◌, arith, inl, inr, ⊎_elim}
use Rattle.std.proofs.lemmas.Bool.{cases_order}
use Rattle.frac128.specs.Rational.{ℚ, floor}
use Rattle.lp_model.specs.Program.{Program, Point, coordinate}
use Rattle.lp_model.specs.Lawful.{IsLawful}
use Rattle.lp_model.specs.Regions.{Path, IsEmptyRegion}
use Rattle.lp_model.specs.Formulations.{Formulation}
use Rattle.lp_model.specs.declared.types.CutRow.{CutRow}
use Rattle.lp_model.specs.declared.types.Derivation.{Derivation}
use Rattle.lp_model.specs.declared.types.Basis.{Basis}
use Rattle.lp_model.specs.declared.types.WideStep.{WideStep}
use Rattle.lp_model.specs.declared.answers.WideAt.{WideAt}
use Rattle.table_entries.specs.Relaxation.{HasNoCrossedSides, multipliers}
use Rattle.row_tableau.specs.declared.relax.Relax.{Relax}
use Rattle.row_tableau.specs.declared.relax.RelaxKind.TheVariants.{Plain}
use Rattle.row_tableau.specs.Relaxations.{plain}
use Rattle.row_tableau.proofs.OrderedLemmas.{region_ordered}
use Rattle.leaf_dual.specs.Dual.{Multipliers}
use Rattle.leaf_dual.specs.Answers.{IsFarkasAnswer}
use Rattle.leaf_judging.specs.Closing.{IsRefuted}
use Rattle.branch_tree.specs.declared.node.NodeResult.{NodeResult}
use Rattle.branch_tree.specs.declared.node.NodeResult.TheVariants.{Close, Split, PointAndClose, Keep}
use Rattle.basic_solution.specs.Held.{Held, IsSided, relaxation, table}
use Rattle.basic_solution.specs.Lists.{IsBasisOf, IsPointOfHeld, AreListedMultipliers}
use Rattle.basic_solution.proofs.ExchangeLemmas.{sided_of}
use Rattle.dual_simplex.specs.Answers.{AreAllInside, HasLeaving}
use Rattle.dual_simplex.specs.Moves.{IsMoved, IsBlocked}
use Rattle.dual_simplex.specs.Solves.{HaveMultipliers, IsLpOptimum, IsWide}
use Rattle.dual_simplex.specs.Starts.{IsWideStart}
use Rattle.dual_simplex.proofs.OneMoveLemmas.{inside_not_out, blocked_not_moved, wide_one, wide_not_moved, wide_not_out, wide_not_inside, wide_not_blocked}
use Rattle.dual_simplex.proofs.OneStartLemmas.{start_not_wide, wide_start_one}
use Rattle.node_solve.specs.Runs.{IsPlainOf}
use Rattle.node_solve.specs.Works.{IsFractionalAt, IsWholeAt, IsFirstFractional, IsFound, IsRefutedAt, ClosesAt, IsDone, IsWideAtOptimum, IsWideAtEnd, IsOfLeaf, IsAllowedBy, IsRunWide}
use Rattle.node_solve.specs.Places.{result_in_pool, with_cut_variables}
use Rattle.node_solve.specs.Rounds.{Work, Round, form_in, first_in, RunsTo, AddsCovers, MakesRound, MakesRounds, EndsRounds, IsLastAt, IsDoneAfter, IsPivotsAfter, IsWorked}
use Rattle.node_solve.specs.Laws.{IsSameWorked, OneWorkLaw}
use Rattle.node_solve.specs.declared.working.Worked.{Worked}
use Rattle.node_solve.specs.declared.working.Worked.TheVariants.{Done, Pivots, Wide, Memory}
use Rattle.node_solve.proofs.EndLemmas.{not_whole}
use Rattle.node_solve.proofs.OneStepLemmas.{refuted_fits, one_farkas_step, fractional_fits, keepable_fits, one_optimum_step}
use Rattle.node_solve.proofs.OneRunLemmas.{wide_start_other, run_kept, run_uncrossed, run_one, run_longer}
use Rattle.dual_simplex.proofs.OneEndLemmas.{one_point, one_multipliers, one_basis, one_farkas}
use Rattle.node_solve.proofs.OneCutsLemmas.{one_separates}

-- one column is the first that is fractional
one_fractional : (M : Program) (x y : Point) (j k : ℕ) → x ≡ y → IsFirstFractional M x j → IsFirstFractional M y k → j ≡ k
one_fractional M x y j k same a b = ⊎_elim (λ e. e)
    (λ apart. ⊎_elim
    (λ less. absurd (b.before j less (subst (λ z. IsFractionalAt M z j) same a.fractional)))
    (λ more. absurd (a.before k more (subst (λ z. IsFractionalAt M z k) (sym same) b.fractional))) apart)
    (cases_order j k)

-- one place of a leaf
one_place : (path : Path) (cuts : List CutRow) (a b : WideAt) → IsOfLeaf path cuts a → IsOfLeaf path cuts b → a.step ≡ b.step → a.basis ≡ b.basis → a ≡ b
one_place path cuts a b a_of b_of step basis = λ i. record { path = (a_of.path_is ∙ sym b_of.path_is) i; cuts = (a_of.cuts_are ∙ sym b_of.cuts_are) i; basis = basis i; step = step i }

-- ---- where a run ends

-- no basic variable is outside a side, or none may enter for the first that is; each multiplier has room
abbrev IsJudged : Held → Type 0
IsJudged s = (AreAllInside s ⊎ IsBlocked s) × HaveMultipliers s

-- a run ends there after n moves of at most so many: at what is judged, at the limit, or where a step has no room
abbrev EndsThere : Held → ℕ → ℕ → Type 0
EndsThere s n limit = (IsAllowedBy limit n s × IsJudged s) ⊎ (((n ≡ limit) × HasLeaving s) ⊎ ((n ≤ limit) × ((step : WideStep) × IsWide n limit s step)))

ends_within : (s : Held) (n limit : ℕ) → EndsThere s n limit → n ≤ limit
ends_within s n limit (inl (allowed, _)) = allowed.within
ends_within s n limit (inr (inl (all, _))) = omega (arith, all)
ends_within s n limit (inr (inr (within, _))) = within

-- ---- at one state

module _ (F : Formulation) (path : Path) (target : Option ℚ) (s : Held) (sided : IsSided s) (uncrossed : HasNoCrossedSides (relaxation s)) where
  pub record IsOneOptimum (x y : Point) (m n : Multipliers) (b c : Basis) : Type 0 where
    pub point : x ≡ y
    pub mult : m ≡ n
    pub basis : b ≡ c

  mult_one : (m n : Multipliers) → AreListedMultipliers s (multipliers (relaxation s) (table s) (relaxation s).cost) m → AreListedMultipliers s (multipliers (relaxation s) (table s) (relaxation s).cost) n → m ≡ n
  mult_one m n f g = one_multipliers s (multipliers (relaxation s) (table s) (relaxation s).cost) m n f g

  found_one : (x y : Point) (m n : Multipliers) (b c : Basis) → IsFound F path s x m b → IsFound F path s y n c → IsOneOptimum x y m n b c
  found_one x y m n b c f g = record { point = one_point s x y f.optimum.point g.optimum.point; mult = mult_one m n f.optimum.mult g.optimum.mult; basis = one_basis s b c f.basis_is g.basis_is }

  -- an optimum is not blocked
  inside_not_blocked : AreAllInside s → ¬ IsBlocked s
  inside_not_blocked all blocked = inside_not_out s sided uncrossed all blocked.row blocked.side blocked.out

  refuted_one : (w u m n : Multipliers) (b c : Basis) → IsRefutedAt F path s w m b → IsRefutedAt F path s u n c → Close m w b ≡ Close n u c
  refuted_one w u m n b c r q =
      let mult = mult_one m n r.infeasible.mult q.infeasible.mult in
      let farkas = one_farkas s sided uncrossed w u m n r.infeasible q.infeasible in
      let basis = one_basis s b c r.basis_is q.basis_is in
      λ i. Close (mult i) (farkas i) (basis i)

  done_one : (a b : NodeResult) → IsDone F path target s a → IsDone F path target s b → a ≡ b
  done_one (PointAndClose x m b) (PointAndClose y n c) (f, _) (g, _) = let e = found_one x y m n b c f g in λ i. PointAndClose (e.point i) (e.mult i) (e.basis i)
  done_one (PointAndClose x m b) (Split col v n c) (f, (whole, _)) (y, (g, (first, _))) = absurd (not_whole F.model y col.0 first (subst (IsWholeAt F.model) (found_one x y m n b c f g).point whole))
  done_one (PointAndClose x m b) (Close n w c) (f, _) (inl r) = absurd (inside_not_blocked f.optimum.inside r.infeasible.blocked)
  done_one (PointAndClose x m b) (Close n w c) (f, (whole, _)) (inr (y, (g, (_, (not, _))))) = absurd (not (subst (IsWholeAt F.model) (found_one x y m n b c f g).point whole))
  done_one (PointAndClose x m b) (Keep kept c) f none = absurd none
  done_one (Split col v m b) (PointAndClose y n c) (x, (f, (first, _))) (g, (whole, _)) = absurd (not_whole F.model x col.0 first (subst (IsWholeAt F.model) (sym (found_one x y m n b c f g).point) whole))
  done_one (Split col v m b) (Split other u n c) (x, (f, (first, (v_is, _)))) (y, (g, (also, (u_is, _)))) =
      let e = found_one x y m n b c f g in
      let place = one_fractional F.model x y col.0 other.0 e.point first also in
      let value = v_is ∙ (λ i. floor (coordinate (e.point i) (place i))) ∙ sym u_is in
      λ i. Split (record { 0 = place i }) (value i) (e.mult i) (e.basis i)
  done_one (Split col v m b) (Close n w c) (x, (f, _)) (inl r) = absurd (inside_not_blocked f.optimum.inside r.infeasible.blocked)
  done_one (Split col v m b) (Close n w c) (x, (f, (_, (_, unclosed)))) (inr (y, (g, (_, (_, closes))))) = absurd (unclosed (subst (ClosesAt F.model target) (sym (found_one x y m n b c f g).point) closes))
  done_one (Split col v m b) (Keep kept c) f none = absurd none
  done_one (Close m w b) (PointAndClose y n c) (inl r) (g, _) = absurd (inside_not_blocked g.optimum.inside r.infeasible.blocked)
  done_one (Close m w b) (PointAndClose y n c) (inr (x, (f, (_, (not, _))))) (g, (whole, _)) = absurd (not (subst (IsWholeAt F.model) (sym (found_one x y m n b c f g).point) whole))
  done_one (Close m w b) (Split col v n c) (inl r) (y, (g, _)) = absurd (inside_not_blocked g.optimum.inside r.infeasible.blocked)
  done_one (Close m w b) (Split col v n c) (inr (x, (f, (_, (_, closes))))) (y, (g, (_, (_, unclosed)))) = absurd (unclosed (subst (ClosesAt F.model target) (found_one x y m n b c f g).point closes))
  done_one (Close m w b) (Close n u c) (inl r) (inl q) = refuted_one w u m n b c r q
  done_one (Close m w b) (Close n u c) (inl r) (inr (y, (g, _))) = absurd (inside_not_blocked g.optimum.inside r.infeasible.blocked)
  done_one (Close m w b) (Close n u c) (inr (x, (f, _))) (inl q) = absurd (inside_not_blocked f.optimum.inside q.infeasible.blocked)
  done_one (Close m w b) (Close n u c) (inr (x, (f, (w_is, _)))) (inr (y, (g, (u_is, _)))) = let e = found_one x y m n b c f g in λ i. Close (e.mult i) ((w_is ∙ sym u_is) i) (e.basis i)
  done_one (Close m w b) (Keep kept c) f none = absurd none
  done_one (Keep kept c) b none g = absurd none

  -- ---- steps without room of what is judged

  -- a step of an optimum is one of each
  wide_there : (x y : Point) (m n : Multipliers) → IsLpOptimum s x m → IsLpOptimum s y n → (step : WideStep) → IsWideAtOptimum F path y n step → IsWideAtOptimum F path x m step
  wide_there x y m n o p step wide =
      let point : x ≡ y = one_point s x y o.point p.point in
      let mult : m ≡ n = mult_one m n o.mult p.mult in
      subst (λ X. X) (λ i. IsWideAtOptimum F path (sym point i) (sym mult i) step) wide

  steps_one : (a b : WideStep) → IsWideAtEnd F path s a → IsWideAtEnd F path s b → a ≡ b
  steps_one a b (inl (x, (m, (o, wide)))) (inl (y, (n, (p, also)))) = one_optimum_step F path x m a b wide (wide_there x y m n o p b also)
  steps_one a b (inl (x, (m, (o, _)))) (inr (u, (n, (p, _)))) = absurd (inside_not_blocked o.inside p.blocked)
  steps_one a b (inr (w, (m, (o, _)))) (inl (y, (n, (p, _)))) = absurd (inside_not_blocked p.inside o.blocked)
  steps_one a b (inr (w, (m, (o, wide)))) (inr (u, (n, (p, also)))) =
      one_farkas_step F path u a b (subst (λ l. IsFarkasAnswer F path l (Err a)) (one_farkas s sided uncrossed w u m n o p) wide) also

  -- where a result is found each step has room
  done_fits : (a : NodeResult) (step : WideStep) → IsDone F path target s a → ¬ IsWideAtEnd F path s step
  done_fits (PointAndClose x m b) step (f, (_, keep)) (inl (y, (n, (o, wide)))) = keepable_fits F path x m step f.number keep (wide_there x y m n f.optimum o step wide)
  done_fits (PointAndClose x m b) step (f, _) (inr (u, (n, (o, _)))) = inside_not_blocked f.optimum.inside o.blocked
  done_fits (Split col v m b) step (x, (f, (first, _))) (inl (y, (n, (o, wide)))) = fractional_fits F path x m step f.number (not_whole F.model x col.0 first) (wide_there x y m n f.optimum o step wide)
  done_fits (Split col v m b) step (x, (f, _)) (inr (u, (n, (o, _)))) = inside_not_blocked f.optimum.inside o.blocked
  done_fits (Close m w b) step (inl r) (inl (y, (n, (o, _)))) = inside_not_blocked o.inside r.infeasible.blocked
  done_fits (Close m w b) step (inl r) (inr (u, (n, (o, wide)))) = refuted_fits F path u step (subst (IsRefuted F path) (one_farkas s sided uncrossed w u m n r.infeasible o) r.refuted) wide
  done_fits (Close m w b) step (inr (x, (f, (_, (not, _))))) (inl (y, (n, (o, wide)))) = fractional_fits F path x m step f.number not (wide_there x y m n f.optimum o step wide)
  done_fits (Close m w b) step (inr (x, (f, _))) (inr (u, (n, (o, _)))) = inside_not_blocked f.optimum.inside o.blocked
  done_fits (Keep kept b) step none wide = none

  -- ---- what is judged is a last state

  done_judged : (a : NodeResult) → IsDone F path target s a → IsJudged s
  done_judged (PointAndClose x m b) (f, _) = (inl f.optimum.inside, f.optimum.fits)
  done_judged (Split col v m b) (x, (f, _)) = (inl f.optimum.inside, f.optimum.fits)
  done_judged (Close m w b) (inl r) = (inr r.infeasible.blocked, r.infeasible.fits)
  done_judged (Close m w b) (inr (x, (f, _))) = (inl f.optimum.inside, f.optimum.fits)
  done_judged (Keep kept b) none = absurd none

  wide_judged : (step : WideStep) → IsWideAtEnd F path s step → IsJudged s
  wide_judged step (inl (x, (m, (o, _)))) = (inl o.inside, o.fits)
  wide_judged step (inr (w, (m, (o, _)))) = (inr o.blocked, o.fits)

  judged_not_moved : IsJudged s → (next : Held) → ¬ IsMoved s next
  judged_not_moved (inl all, _) next moved = inside_not_out s sided uncrossed all moved.row moved.side moved.out
  judged_not_moved (inr blocked, _) next moved = blocked_not_moved s sided uncrossed next blocked moved

  judged_not_wide : IsJudged s → (n limit : ℕ) (step : WideStep) → ¬ IsWide n limit s step
  judged_not_wide (inl all, fits) n limit step wide = wide_not_inside s sided uncrossed n limit step wide all fits
  judged_not_wide (inr blocked, fits) n limit step wide = wide_not_blocked s sided uncrossed n limit step wide blocked fits

  judged_not_out : (limit : ℕ) → IsAllowedBy limit limit s → IsJudged s → ¬ HasLeaving s
  judged_not_out limit allowed (inl all, _) out = inside_not_out s sided uncrossed all out.row out.side out.out
  judged_not_out limit allowed (inr blocked, _) out = let less = allowed.further blocked.row blocked.side blocked.out in omega (arith, less)

  -- no run goes on from it
  ends_stay : (n m limit : ℕ) → EndsThere s n limit → n < m → m ≤ limit → (next : Held) → ¬ IsMoved s next
  ends_stay n m limit (inl (_, judged)) less within next moved = judged_not_moved judged next moved
  ends_stay n m limit (inr (inl (all, _))) less within next moved = omega (arith, all, less, within)
  ends_stay n m limit (inr (inr (_, (step, wide)))) less within next moved = wide_not_moved s sided uncrossed n limit step next wide moved

  judged_not_pivots : (n limit : ℕ) → n ≡ limit → IsAllowedBy limit n s → IsJudged s → ¬ HasLeaving s
  judged_not_pivots n limit all allowed judged out = judged_not_out limit (subst (λ k. IsAllowedBy limit k s) all allowed) judged out

  wide_not_pivots : (n limit : ℕ) → n ≡ limit → (step : WideStep) → IsWide n limit s step → ¬ HasLeaving s
  wide_not_pivots n limit all step wide out = wide_not_out s sided uncrossed limit step (subst (λ k. IsWide k limit s step) all wide) out

-- ---- one round

module _ (W : Work) (lawful : IsLawful W.model) (some : ¬ IsEmptyRegion W.model W.job.region) where
  module _ (r : Round) where
    abbrev F : Formulation
    F = form_in W r

    abbrev path : Path
    path = W.job.region

    abbrev first : Basis
    first = first_in W r

    abbrev Run : ℕ → Held → Type 0
    Run n s = RunsTo W r n s

    ordered : HasNoCrossedSides (plain F path)
    ordered = region_ordered F path lawful some Plain

    run_sided : (n : ℕ) (s : Held) → Run n s → IsSided s
    run_sided n s run = sided_of s (run_kept F path r.list first ordered n s run)

    sides : (n : ℕ) (s : Held) → Run n s → HasNoCrossedSides (relaxation s)
    sides n s run = run_uncrossed F path r.list first ordered n s run

    -- where its run ends
    pub record IsSameEnd (n m : ℕ) (s t : Held) : Type 0 where
      pub moves : n ≡ m
      pub state : s ≡ t

    longer_none : (n m : ℕ) (s t : Held) → n < m → m ≤ W.pivots → Run n s → EndsThere s n W.pivots → Run m t → ⊥
    longer_none n m s t less within run end other =
        let on = run_longer F path r.list first ordered n m s t less run other in
        ends_stay F path W.job.target s (run_sided n s run) (sides n s run) n m W.pivots end less within on.0 on.1

    one_last : (n m : ℕ) (s t : Held) → Run n s → EndsThere s n W.pivots → Run m t → EndsThere t m W.pivots → IsSameEnd n m s t
    one_last n m s t run end other also = elim (cases_order n m) [
      | inl equal ↦ record { moves = equal; state = run_one F path r.list first ordered n s t run (subst (λ c. Run c t) (sym equal) other) }
      | inr apart ↦ elim apart [
        | inl less ↦ absurd (longer_none n m s t less (ends_within t m W.pivots also) run end other)
        | inr more ↦ absurd (longer_none m n t s more (ends_within s n W.pivots end) other also run)
      ]
    ]

    -- ---- what is answered in it

    abbrev AnswersIn : ℕ → Worked → Type 0
    AnswersIn made (Done a found) = IsDoneAfter W made r a found.items
    AnswersIn made (Pivots b found) = IsPivotsAfter W r b found.items
    AnswersIn made (Wide at found) = IsOfLeaf path r.cuts at × (IsRunWide F path r.list first W.pivots (EndsRounds W made r) at.basis at.step × (found.items ≡ r.added))
    AnswersIn made Memory = ⊥

    -- a step without room of its start; or of the method; or of what is judged
    record StopsAtStart (step : WideStep) (basis : Basis) : Type 0 where
      pub relax : Relax
      pub relax_is : IsPlainOf F path relax
      pub wide : IsWideStart relax r.list first step basis

    stops_one : (a b : WideStep) (c d : Basis) → StopsAtStart a c → StopsAtStart b d → (a ≡ b) × (c ≡ d)
    stops_one a b c d h k =
        let there = wide_start_other F path k.relax h.relax k.relax_is h.relax_is r.list first b d k.wide in
        let one = wide_start_one h.relax r.list first a b c d h.wide there in
        (one.step, one_basis there.state c d (subst (λ s. IsBasisOf s c) one.state h.wide.basis_is) there.basis_is)

    stop_not_run : (step : WideStep) (basis : Basis) → StopsAtStart step basis → (n : ℕ) (s : Held) → ¬ Run n s
    stop_not_run step basis h n s run =
        start_not_wide run.relax r.list first run.began step basis run.started (wide_start_other F path h.relax run.relax h.relax_is run.relax_is r.list first step basis h.wide)

    -- where a run stops at a step without room
    abbrev Step : ℕ → ℕ → Held → WideStep → Type 0
    Step made n s step = ((n ≤ W.pivots) × IsWide n W.pivots s step) ⊎ (IsAllowedBy W.pivots n s × (EndsRounds W made r s × IsWideAtEnd F path s step))

    record StopsOn (made n : ℕ) (s : Held) (step : WideStep) (basis : Basis) : Type 0 where
      pub run : Run n s
      pub at : Step made n s step
      pub basis_is : IsBasisOf s basis

    abbrev Stops : ℕ → WideStep → Basis → Type 0
    Stops made step basis = StopsAtStart step basis ⊎ ((n : ℕ) × ((s : Held) × StopsOn made n s step basis))

    stops : (made : ℕ) (step : WideStep) (basis : Basis) → IsRunWide F path r.list first W.pivots (EndsRounds W made r) basis step → Stops made step basis
    stops made step basis (inl (relax, (is, wide))) = inl (record { relax = relax; relax_is = is; wide = wide })
    stops made step basis (inr (n, (s, (run, (at, is))))) = inr (n, (s, record { run = run; at = at; basis_is = is }))

    stop_ends : (made n : ℕ) (s : Held) (step : WideStep) (basis : Basis) → StopsOn made n s step basis → EndsThere s n W.pivots
    stop_ends made n s step basis h = by h.at
      where
        by : Step made n s step → EndsThere s n W.pivots
        by (inl (within, wide)) = inr (inr (within, (step, wide)))
        by (inr (allowed, (_, wide))) = inl (allowed, wide_judged F path W.job.target s (run_sided n s h.run) (sides n s h.run) step wide)

    done_ends : (made : ℕ) (a : NodeResult) (found : List Derivation) (d : IsDoneAfter W made r a found) → EndsThere d.state d.moves W.pivots
    done_ends made a found d = inl (d.allowed, done_judged F path W.job.target d.state (run_sided d.moves d.state d.run) (sides d.moves d.state d.run) d.own_result d.done)

    pivots_ends : (b : Basis) (found : List Derivation) (d : IsPivotsAfter W r b found) → EndsThere d.state W.pivots W.pivots
    pivots_ends b found d = inr (inl (refl, d.leaving))

    -- ---- two answers

    two_done : (made : ℕ) (a b : NodeResult) (f g : List Derivation) → IsDoneAfter W made r a f → IsDoneAfter W made r b g → (a ≡ b) × (f ≡ g)
    two_done made a b f g d e =
        let one = one_last d.moves e.moves d.state e.state d.run (done_ends made a f d) e.run (done_ends made b g e) in
        let other : IsDone F path W.job.target d.state e.own_result = subst (λ s. IsDone F path W.job.target s e.own_result) (sym one.state) e.done in
        let own = done_one F path W.job.target d.state (run_sided d.moves d.state d.run) (sides d.moves d.state d.run) d.own_result e.own_result d.done other in
        (d.result_is ∙ ap (result_in_pool r.places) own ∙ sym e.result_is, d.found_are ∙ sym e.found_are)

    two_pivots : (b c : Basis) (f g : List Derivation) → IsPivotsAfter W r b f → IsPivotsAfter W r c g → (b ≡ c) × (f ≡ g)
    two_pivots b c f g d e =
        let one = one_last W.pivots W.pivots d.state e.state d.run (pivots_ends b f d) e.run (pivots_ends c g e) in
        (one_basis d.state b c d.basis_is (subst (λ s. IsBasisOf s c) (sym one.state) e.basis_is), d.found_are ∙ sym e.found_are)

    done_and_pivots : (made : ℕ) (a : NodeResult) (b : Basis) (f g : List Derivation) → IsDoneAfter W made r a f → IsPivotsAfter W r b g → ⊥
    done_and_pivots made a b f g d e =
        let one = one_last d.moves W.pivots d.state e.state d.run (done_ends made a f d) e.run (pivots_ends b g e) in
        let sided = run_sided d.moves d.state d.run in
        let even = sides d.moves d.state d.run in
        judged_not_pivots F path W.job.target d.state sided even d.moves W.pivots one.moves d.allowed (done_judged F path W.job.target d.state sided even d.own_result d.done) (subst HasLeaving (sym one.state) e.leaving)

    done_and_wide : (made : ℕ) (a : NodeResult) (f : List Derivation) (step : WideStep) (basis : Basis) → IsDoneAfter W made r a f → Stops made step basis → ⊥
    done_and_wide made a f step basis d (inl stop) = stop_not_run step basis stop d.moves d.state d.run
    done_and_wide made a f step basis d (inr (n, (s, e))) =
        let one = one_last n d.moves s d.state e.run (stop_ends made n s step basis e) d.run (done_ends made a f d) in
        by (subst (λ t. IsDone F path W.job.target t d.own_result) (sym one.state) d.done) e.at
      where
        by : IsDone F path W.job.target s d.own_result → Step made n s step → ⊥
        by done (inl (_, wide)) =
            judged_not_wide F path W.job.target s (run_sided n s e.run) (sides n s e.run) (done_judged F path W.job.target s (run_sided n s e.run) (sides n s e.run) d.own_result done) n W.pivots step wide
        by done (inr (_, (_, wide))) = done_fits F path W.job.target s (run_sided n s e.run) (sides n s e.run) d.own_result step done wide

    pivots_and_wide : (made : ℕ) (b : Basis) (f : List Derivation) (step : WideStep) (basis : Basis) → IsPivotsAfter W r b f → Stops made step basis → ⊥
    pivots_and_wide made b f step basis d (inl stop) = stop_not_run step basis stop W.pivots d.state d.run
    pivots_and_wide made b f step basis d (inr (n, (s, e))) =
        let one = one_last n W.pivots s d.state e.run (stop_ends made n s step basis e) d.run (pivots_ends b f d) in
        by one.moves (subst HasLeaving (sym one.state) d.leaving) e.at
      where
        by : n ≡ W.pivots → HasLeaving s → Step made n s step → ⊥
        by all out (inl (_, wide)) = wide_not_pivots F path W.job.target s (run_sided n s e.run) (sides n s e.run) n W.pivots all step wide out
        by all out (inr (allowed, (_, wide))) =
            judged_not_pivots F path W.job.target s (run_sided n s e.run) (sides n s e.run) n W.pivots all allowed (wide_judged F path W.job.target s (run_sided n s e.run) (sides n s e.run) step wide) out

    -- the steps at one state
    module _ (made n : ℕ) (s : Held) (run : Run n s) where
      one_step : (a b : WideStep) → Step made n s a → Step made n s b → a ≡ b
      one_step a b (inl (_, h)) (inl (_, k)) = wide_one s (run_sided n s run) (sides n s run) n W.pivots a b h k
      one_step a b (inl (_, h)) (inr (_, (_, k))) =
          absurd (judged_not_wide F path W.job.target s (run_sided n s run) (sides n s run) (wide_judged F path W.job.target s (run_sided n s run) (sides n s run) b k) n W.pivots a h)
      one_step a b (inr (_, (_, h))) (inl (_, k)) =
          absurd (judged_not_wide F path W.job.target s (run_sided n s run) (sides n s run) (wide_judged F path W.job.target s (run_sided n s run) (sides n s run) a h) n W.pivots b k)
      one_step a b (inr (_, (_, h))) (inr (_, (_, k))) = steps_one F path W.job.target s (run_sided n s run) (sides n s run) a b h k

    two_stops : (made : ℕ) (a b : WideStep) (c d : Basis) → Stops made a c → Stops made b d → (a ≡ b) × (c ≡ d)
    two_stops made a b c d (inl h) (inl k) = stops_one a b c d h k
    two_stops made a b c d (inl h) (inr (n, (s, k))) = absurd (stop_not_run a c h n s k.run)
    two_stops made a b c d (inr (n, (s, h))) (inl k) = absurd (stop_not_run b d k n s h.run)
    two_stops made a b c d (inr (n, (s, h))) (inr (m, (t, k))) =
        let one = one_last n m s t h.run (stop_ends made n s a c h) k.run (stop_ends made m t b d k) in
        let also : Step made n s b = subst (λ X. X) (λ i. Step made (sym one.moves i) (sym one.state i) b) k.at in
        (one_step made n s h.run a b h.at also, one_basis s c d h.basis_is (subst (λ u. IsBasisOf u d) (sym one.state) k.basis_is))

    two_wide : (made : ℕ) (a b : WideAt) → IsOfLeaf path r.cuts a → IsRunWide F path r.list first W.pivots (EndsRounds W made r) a.basis a.step → IsOfLeaf path r.cuts b → IsRunWide F path r.list first W.pivots (EndsRounds W made r) b.basis b.step → a ≡ b
    two_wide made a b leaf wide other also =
        let one = two_stops made a.step b.step a.basis b.basis (stops made a.step a.basis wide) (stops made b.step b.basis also) in
        one_place path r.cuts a b leaf other one.0 one.1

    pub two_in : (made : ℕ) (a b : Worked) → AnswersIn made a → AnswersIn made b → IsSameWorked a b
    two_in made (Done a f) (Done b g) h k = two_done made a b f.items g.items h k
    two_in made (Done a f) (Pivots c g) h k = absurd (done_and_pivots made a c f.items g.items h k)
    two_in made (Done a f) (Wide at g) h (_, (wide, _)) = absurd (done_and_wide made a f.items at.step at.basis h (stops made at.step at.basis wide))
    two_in made (Pivots b f) (Done c g) h k = absurd (done_and_pivots made c b g.items f.items k h)
    two_in made (Pivots b f) (Pivots c g) h k = two_pivots b c f.items g.items h k
    two_in made (Pivots b f) (Wide at g) h (_, (wide, _)) = absurd (pivots_and_wide made b f.items at.step at.basis h (stops made at.step at.basis wide))
    two_in made (Wide at f) (Done c g) (_, (wide, _)) k = absurd (done_and_wide made c g.items at.step at.basis k (stops made at.step at.basis wide))
    two_in made (Wide at f) (Pivots c g) (_, (wide, _)) k = absurd (pivots_and_wide made c g.items at.step at.basis k (stops made at.step at.basis wide))
    two_in made (Wide a f) (Wide b g) (leaf, (wide, found)) (other, (also, more)) = (two_wide made a b leaf wide other also, found ∙ sym more)
    two_in made Memory b h k = absurd h
    two_in made (Done a f) Memory h k = absurd k
    two_in made (Pivots b f) Memory h k = absurd k
    two_in made (Wide at f) Memory h k = absurd k

    -- ---- the next round

    round_ends : (made : ℕ) (next : Round) (m : MakesRound W made r next) → EndsThere m.state m.moves W.pivots
    round_ends made next m = inl (m.allowed, (inl m.optimum.inside, m.optimum.fits))

    pub one_next : (made : ℕ) (a b : Round) → MakesRound W made r a → MakesRound W made r b → a ≡ b
    one_next made a b m k =
        let one = one_last m.moves k.moves m.state k.state m.run (round_ends made a m) k.run (round_ends made b k) in
        let point : m.point ≡ k.point = one_point m.state m.point k.point m.optimum.point (subst (λ s. IsPointOfHeld s k.point) (sym one.state) k.optimum.point) in
        let basis : m.basis ≡ k.basis = one_basis m.state m.basis k.basis m.basis_is (subst (λ s. IsBasisOf s k.basis) (sym one.state) k.basis_is) in
        let after : m.after ≡ k.after = one_separates W r k.point m.after k.after (subst (λ x. AddsCovers W r x m.after) point m.separates) k.separates in
        m.next_is ∙ ap₂ (λ (q : Round) (b : Basis). record q { list = with_cut_variables b (length r.cuts) (length q.cuts - length r.cuts) }) after basis ∙ sym k.next_is

    -- a last round has no next one
    not_last : (made : ℕ) (next : Round) (m : MakesRound W made r next) (s : Held) → m.state ≡ s → EndsRounds W made r s → ⊥
    not_last made next m s same last = by (last m.point m.mult (subst (λ t. IsLpOptimum t m.point m.mult) same m.optimum))
      where
        by : IsLastAt W made r m.point → ⊥
        by (inl not) = not m.may
        by (inr none) =
            let e : m.after ≡ r = one_separates W r m.point m.after r m.separates none in
            let more : length r.cuts < length m.after.cuts = m.more in
            let n = ap (λ (q : Round). length q.cuts) e in
            omega (arith, more, n)

    wide_never_on : (made : ℕ) (next : Round) (m : MakesRound W made r next) (step : WideStep) (basis : Basis) → Stops made step basis → ⊥
    wide_never_on made next m step basis (inl stop) = stop_not_run step basis stop m.moves m.state m.run
    wide_never_on made next m step basis (inr (n, (s, e))) =
        let one = one_last m.moves n m.state s m.run (round_ends made next m) e.run (stop_ends made n s step basis e) in
        by one.state e.at
      where
        by : m.state ≡ s → Step made n s step → ⊥
        by same (inl (_, wide)) =
            judged_not_wide F path W.job.target s (run_sided n s e.run) (sides n s e.run) (subst IsJudged same (inl m.optimum.inside, m.optimum.fits)) n W.pivots step wide
        by same (inr (_, (last, _))) = not_last made next m s same last

    pub never_on : (made : ℕ) (next : Round) → MakesRound W made r next → (w : Worked) → AnswersIn made w → ⊥
    never_on made next m (Done a f) d =
        let one = one_last m.moves d.moves m.state d.state m.run (round_ends made next m) d.run (done_ends made a f.items d) in
        not_last made next m d.state one.state d.last
    never_on made next m (Pivots b f) d =
        let one = one_last m.moves W.pivots m.state d.state m.run (round_ends made next m) d.run (pivots_ends b f.items d) in
        judged_not_pivots F path W.job.target m.state (run_sided m.moves m.state m.run) (sides m.moves m.state m.run) m.moves W.pivots one.moves m.allowed (inl m.optimum.inside, m.optimum.fits) (subst HasLeaving (sym one.state) d.leaving)
    never_on made next m (Wide at f) (_, (wide, _)) = wide_never_on made next m at.step at.basis (stops made at.step at.basis wide)
    never_on made next m Memory d = d

  -- ---- rounds

  one_rounds : (n : ℕ) (a b : Round) → MakesRounds W n a → MakesRounds W n b → a ≡ b
  one_rounds zero a b h k = h ∙ sym k
  one_rounds (suc n) a b (p, (h, m)) (q, (k, l)) =
      let same : p ≡ q = one_rounds n p q h k in
      one_next p n a b m (subst (λ r. MakesRound W n r b) (sym same) l)

  -- more rounds go on from a round
  followed : (n m : ℕ) (a b : Round) → n < m → MakesRounds W n a → MakesRounds W m b → (next : Round) × MakesRound W n a next
  followed n zero a b less h k = absurd (omega (arith, less))
  followed n (suc m) a b less h (q, (k, l)) = elim (cases_order n m) [
    | inl same ↦
        let own : MakesRounds W n q = subst (λ c. MakesRounds W c q) (sym same) k in
        let e : a ≡ q = one_rounds n a q h own in
        (b, subst (λ X. X) (λ i. MakesRound W (sym same i) (sym e i) b) l)
    | inr apart ↦ elim apart [ inl earlier ↦ followed n m a q earlier h k | inr later ↦ absurd (omega (arith, less, later)) ]
  ]

  -- ---- the work

  record EndsIn (w : Worked) : Type 0 where
    pub made : ℕ
    pub round : Round
    pub makes : MakesRounds W made round
    pub answers : AnswersIn round made w

  ends_in : (w : Worked) → w ≢ Memory → IsWorked W w → EndsIn w
  ends_in (Done a f) not (n, (r, (h, d))) = record { made = n; round = r; makes = h; answers = d }
  ends_in (Pivots b f) not (n, (r, (h, d))) = record { made = n; round = r; makes = h; answers = d }
  ends_in (Wide at f) not (n, (r, (h, d))) = record { made = n; round = r; makes = h; answers = d }
  ends_in Memory not h = absurd (not refl)

  ended_one : (a b : Worked) → EndsIn a → EndsIn b → IsSameWorked a b
  ended_one a b h k = elim (cases_order h.made k.made) [
    | inl same ↦
        let round : h.round ≡ k.round = one_rounds k.made h.round k.round (subst (λ n. MakesRounds W n h.round) same h.makes) k.makes in
        two_in k.round k.made a b (subst (λ X. X) (λ i. AnswersIn (round i) (same i) a) h.answers) k.answers
    | inr apart ↦ elim apart [
      | inl less ↦ let on = followed h.made k.made h.round k.round less h.makes k.makes in absurd (never_on h.round h.made on.0 on.1 a h.answers)
      | inr more ↦ let on = followed k.made h.made k.round h.round more k.makes h.makes in absurd (never_on k.round k.made on.0 on.1 b k.answers)
    ]
  ]

pub one_work : OneWorkLaw
one_work W lawful some a b some_a some_b h k = ended_one W lawful some a b (ends_in W lawful some a some_a h) (ends_in W lawful some b some_b k)
