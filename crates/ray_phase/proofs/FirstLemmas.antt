-- A basis that the ray phase answers is one to fall back to in each region that leaves columns free.
use Rattle.std.specs.Prelude.{◌≡◌, ℕ, ◌+◌, ◌<◌, true, false, Option, Some, None, IsSome, length, List, []}
use Rattle.std.proofs.Common.{refl, sym, ap, subst, ◌∙◌}
use Rattle.frac128.specs.Rational.{ℚ}
use Rattle.lp_model.specs.Program.{Program}
use Rattle.lp_model.specs.Formulations.{without_cuts}
use Rattle.lp_model.specs.Regions.{Path}
use Rattle.lp_model.specs.declared.types.Basis.{Basis}
use Rattle.lp_model.specs.declared.types.Var.{Var}
use Rattle.table_entries.specs.declared.stand.Stand.{Stand}
use Rattle.table_entries.specs.declared.stand.Stand.TheVariants.{Low, High, Free}
use Rattle.table_entries.specs.Bases.{Found, Lists, IsNamedBy}
use Rattle.table_entries.specs.States.{State, IsGood}
use Rattle.table_entries.specs.Relaxation.{Relaxation}
use Rattle.table_entries.specs.Directions.{stand_number}
use Rattle.table_entries.proofs.BringIn.{basic_within, nonbasic_within}
use Rattle.row_tableau.specs.declared.relax.Relax.{Relax}
use Rattle.row_tableau.specs.declared.relax.RelaxKind.TheVariants.{Plain}
use Rattle.row_tableau.specs.Relaxations.{form_of, plain, of_kind, relaxation_of}
use Rattle.row_tableau.specs.Activities.{activity_count}
use Rattle.row_tableau.specs.Variables.{numbers}
use Rattle.row_tableau.proofs.CutLemmas.{rows_alone}
use Rattle.basic_solution.specs.Held.{Held}
use Rattle.row_tableau.specs.Tilts.{parts_of, KeepsFree}
use Rattle.basic_solution.specs.Slack.{IsStateOfRelax, CanStand}
use Rattle.basic_solution.specs.Lists.{AreRising}
use Rattle.basic_solution.specs.ListedStates.{IsStandBy, IsLawfulBasis}
use Rattle.dual_simplex.specs.Laws.{StandsAt}
use Rattle.basic_solution.proofs.SlackLemmas.{columns_is, activities_is}
use Rattle.basic_solution.proofs.ListedLemmas.{numbers_same}
use Rattle.dual_simplex.proofs.BasisLemmas.{named_by_all, rising_once, can_there, good_in}
use Rattle.dual_simplex.proofs.OneStateLemmas.{lawful_list}
use Rattle.dual_simplex.specs.SlackBases.{no_entries}
use Rattle.ray_phase.specs.Answers.{IsDualBasis}

none_some : (o : Option ℚ) → IsSome o → ¬ (o ≡ None)
none_some (Some x) h e = cc
none_some None h e = absurd (let f : false ≡ true = h in cc)

module _ (M : Program) (basis : Basis) (dual : IsDualBasis M basis) where
  abbrev st : State
  st = dual.state

  basics : AreRising (Found (activity_count (without_cuts M)) st.table.basic) (length M.cols + activity_count (without_cuts M)) (numbers (no_entries M) basis.basic)
  basics = subst (λ m. AreRising (Found m st.table.basic) (length M.cols + m) (numbers (no_entries M) basis.basic)) (sym (rows_alone M)) dual.basic

  pub named : IsNamedBy (activity_count (without_cuts M)) (numbers (no_entries M) basis.basic) st.table
  named = named_by_all (activity_count (without_cuts M)) (numbers (no_entries M) basis.basic) st.table dual.good.arranged.basic_once (rising_once (numbers (no_entries M) basis.basic) basics) basics.holds
      (λ i w. basics.all (st.table.basic i) (basic_within (plain (without_cuts M) []) st.table dual.good.arranged i w) (i, w, refl))

  pub nonbasic_there : (k : ℕ) → k < length M.cols → st.table.nonbasic k < length M.cols + length M.rows
  nonbasic_there k w = subst (λ m. st.table.nonbasic k < length M.cols + m) (rows_alone M) (nonbasic_within (plain (without_cuts M) []) st.table dual.good.arranged k w)

  pub high_stands : (k : ℕ) → k < length M.cols → Lists (numbers (no_entries M) basis.high) (st.table.nonbasic k) → st.stand k ≡ High
  high_stands k w (t, within, is) =
      let h = dual.high.holds t within in
      let same : h.0 ≡ k = dual.good.arranged.nonbasic_once h.0 k h.1.0 w (h.1.1.0 ∙ sym is) in
      subst (λ m. st.stand m ≡ High) same h.1.1.1

  stand_by : (p : Relaxation) (k : ℕ) → k < length M.cols → CanStand (st.stand k) (p.low (st.table.nonbasic k)) (p.high (st.table.nonbasic k)) → IsStandBy p (numbers (no_entries M) basis.high) (st.table.nonbasic k) (st.stand k)
  stand_by p k w can = go (st.stand k) refl can
    where
      go : (stand : Stand) → st.stand k ≡ stand → CanStand stand (p.low (st.table.nonbasic k)) (p.high (st.table.nonbasic k)) → IsStandBy p (numbers (no_entries M) basis.high) (st.table.nonbasic k) stand
      go Low e h = ((λ l. let high = high_stands k w l in cc), (λ free. none_some (p.low (st.table.nonbasic k)) h free.0))
      go High e h = dual.high.all (st.table.nonbasic k) (nonbasic_there k w) (k, (w, (refl, e)))
      go Free e h = ((λ l. let high = high_stands k w l in cc), h)

  module _ (relax : Relax) (same : form_of relax ≡ without_cuts M) (plain_kind : relax.kind ≡ Plain) (keeps : KeepsFree M relax.region.now) where
    abbrev path : Path
    path = relax.region.now

    abbrev there : State
    there = record { table = st.table; stand = st.stand; at = λ k. stand_number (st.stand k) ((plain (without_cuts M) path).low (st.table.nonbasic k)) ((plain (without_cuts M) path).high (st.table.nonbasic k)) }

    relaxation_is : plain (without_cuts M) path ≡ relaxation_of relax
    relaxation_is = λ i. of_kind (sym plain_kind i) (plain (sym same i) path)

    good_there : IsGood (relaxation_of relax) (parts_of relax.kind (form_of relax) path) there
    good_there = subst (λ X. X) (λ i. IsGood (relaxation_is i) (parts_of (sym plain_kind i) (sym same i) path) there) (good_in (without_cuts M) path keeps st dual.good)

    alike : (t : Held) → IsStateOfRelax relax t → (list : List Var) → numbers (no_entries M) list ≡ numbers t.tableau list
    alike t t_is list = numbers_same (no_entries M) t.tableau
        (ap (λ F. length F.model.cols) (sym same) ∙ sym (columns_is relax t t_is))
        (ap (λ F. length F.model.rows) (sym same) ∙ sym t_is.rows)
        (sym (rows_alone M) ∙ ap activity_count (sym same) ∙ sym (activities_is relax t t_is))
        list

    stands_there : StandsAt relax basis there
    stands_there = record {
      named = λ t t_is. subst (λ X. X) (λ i. IsNamedBy ((ap (λ p. p.activities) relaxation_is) i) (alike t t_is basis.basic i) st.table) named;
      stands = λ t t_is k w.
          let here : k < length M.cols = subst (λ n. k < n) (ap (λ p. p.columns) (sym relaxation_is)) w in
          subst (λ X. X) (λ i. IsStandBy (relaxation_is i) (alike t t_is basis.high i) (st.table.nonbasic k) (st.stand k)) (stand_by (plain (without_cuts M) path) k here (can_there (without_cuts M) path keeps st dual.good k here));
    }

    pub first : IsLawfulBasis relax basis
    first = lawful_list relax basis there good_there stands_there
