-- A basis that the ray phase answers, and the lists of a lawful slack state, are ones to fall back to.
use Rattle.std.specs.Prelude.{◌≡◌, ℕ, ◌+◌, ◌<◌, [], length, List}
use Rattle.std.proofs.Common.{refl, sym, ap, subst, ◌∙◌, inl, inr}
use Rattle.lp_model.specs.Program.{Program}
use Rattle.lp_model.specs.declared.types.Basis.{Basis}
use Rattle.lp_model.specs.declared.types.Var.{Var}
use Rattle.table_entries.specs.Bases.{IsNamedBy, Lists}
use Rattle.table_entries.specs.States.{IsGood}
use Rattle.table_entries.proofs.BringIn.{nonbasic_within}
use Rattle.row_tableau.specs.Activities.{activity_count}
use Rattle.row_tableau.specs.Relaxations.{plain, of_kind}
use Rattle.row_tableau.specs.Variables.{numbers}
use Rattle.row_tableau.proofs.CutLemmas.{rows_alone}
use Rattle.basic_solution.specs.Held.{Held, state, table}
use Rattle.row_tableau.specs.Tilts.{parts_of}
use Rattle.basic_solution.proofs.ListedLemmas.{numbers_same}
use Rattle.basic_solution.proofs.SlackLemmas.{columns_is, activities_is}
use Rattle.dual_simplex.specs.SlackBases.{IsLawfulSlackBasis, no_entries, IsRootBasis}
use Rattle.dual_simplex.proofs.BasisLemmas.{lists_named, high_stands as slack_stands}
use Rattle.dual_simplex.proofs.OneStateLemmas.{good_of}
use Rattle.ray_phase.specs.Answers.{IsDualBasis}
use Rattle.ray_phase.specs.Laws.{RootBasisLaw}
use Rattle.ray_phase.proofs.FirstLemmas.{named, nonbasic_there, high_stands}

root_dual : (M : Program) (basis : Basis) → IsDualBasis M basis → IsRootBasis M basis
root_dual M basis dual = record {
  state = dual.state;
  good = dual.good;
  named = subst (λ k. IsNamedBy k (numbers (no_entries M) basis.basic) dual.state.table) (rows_alone M) (named M basis dual);
  highs = λ k w. (
    (λ l. high_stands M basis dual k w l),
    (λ e. dual.high.all (dual.state.table.nonbasic k) (nonbasic_there M basis dual k w) (k, (w, (refl, e)))),
  );
}

module _ (M : Program) (basis : Basis) (slack : IsLawfulSlackBasis M basis) where
  abbrev s : Held
  s = slack.state

  columns : s.tableau.columns ≡ length M.cols
  columns = columns_is slack.root s slack.slack.is ∙ ap (λ F. length F.model.cols) slack.root_is.form

  rows : s.tableau.rows ≡ length M.rows
  rows = slack.slack.is.rows ∙ ap (λ F. length F.model.rows) slack.root_is.form

  activities : s.tableau.activities ≡ length M.rows
  activities = activities_is slack.root s slack.slack.is ∙ ap activity_count slack.root_is.form ∙ rows_alone M

  alike : (list : List Var) → numbers s.tableau list ≡ numbers (no_entries M) list
  alike list = numbers_same s.tableau (no_entries M) columns rows activities list

  below : (k : ℕ) → k < s.tableau.columns → (table s).nonbasic k < s.tableau.columns + s.tableau.activities
  below k w = nonbasic_within _ (table s) slack.kept.good.arranged k w

  root_slack : IsRootBasis M basis
  root_slack = record {
    state = state s;
    good = subst (λ X. X)
        (λ i. IsGood (of_kind (slack.root_is.kind i) (plain (slack.root_is.form i) (slack.root_is.region i))) (parts_of (slack.root_is.kind i) (slack.root_is.form i) (slack.root_is.region i)) (state s))
        (good_of slack.root s slack.slack.is slack.kept);
    named = subst (λ X. X) (λ i. IsNamedBy (activities i) (alike basis.basic i) (table s)) (lists_named s slack.kept.good.arranged basis slack.lists);
    highs = λ k w.
        let here : k < s.tableau.columns = subst (λ c. k < c) (sym columns) w in (
          (λ l. slack_stands s slack.kept.good.arranged basis slack.lists k here (subst (λ l. Lists l ((table s).nonbasic k)) (sym (alike basis.high)) l)),
          (λ e. subst (λ l. Lists l ((table s).nonbasic k)) (alike basis.high) (slack.lists.high.all ((table s).nonbasic k) (below k here) (k, (here, (refl, e))))),
        );
  }

pub root_basis_of : RootBasisLaw
root_basis_of M basis (inl dual) = root_dual M basis dual
root_basis_of M basis (inr slack) = root_slack M basis slack
