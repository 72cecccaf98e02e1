-- The first basic variable that is outside a side, by values in the order of the variables.
use Rattle.std.specs.Prelude.{◌≡◌, ℕ, ◌+◌, ◌<◌, ◌≤◌, Some, None, Ok, Err}
use Rattle.std.proofs.Common.{refl, sym, subst, arith, ⊎_elim, below_more}
use Rattle.std.proofs.lemmas.Bool.{cases_lt}
use Rattle.lp_model.specs.declared.types.WideStep.{WideStep}
use Rattle.table_entries.proofs.BringIn.{basic_within}
use Rattle.basic_solution.specs.Held.{Held, IsSided, relaxation, table, variables}
use Rattle.basic_solution.specs.Numbers.{ValueFits, IsInside}
use Rattle.dual_simplex.specs.private.Answers.{AreInside, IsVisited, IsLeaving}
use Rattle.dual_simplex.specs.declared.leaving.Leaving.{Leaving}

pub inside_more : (s : Held) (v : ℕ) → AreInside s v → IsVisited s v (Ok None) → AreInside s (v + 1)
inside_more s v before here = below_more (λ u. (row : ℕ) → row < s.tableau.activities → (table s).basic row ≡ u → ValueFits s row (variables s) × IsInside s row) v before here

module _ (s : Held) (sided : IsSided s) where
  basic_there : (i : ℕ) → i < s.tableau.activities → (table s).basic i < variables s
  basic_there i q = basic_within (relaxation s) (table s) sided.table.arranged i q

  pub all_inside : (n : ℕ) → variables s ≤ n → AreInside s n → IsLeaving s (Ok None)
  all_inside n past before =
      let here : (i : ℕ) → i < s.tableau.activities → ValueFits s i (variables s) × IsInside s i = λ i q. let w = basic_there i q in before ((table s).basic i) (omega (arith, w, past)) i q refl in
      record { inside = λ i q. (here i q).1; values = λ i q. (here i q).0 }

  module _ (v : ℕ) (before : AreInside s v) where
    pub first_out : (leaving : Leaving) → IsVisited s v (Ok (Some leaving)) → IsLeaving s (Ok (Some leaving))
    first_out leaving h = (
      record {
        within = h.0;
        out = h.1.1.1;
        first = λ i other b q outside. ⊎_elim
            (λ less. absurd ((before ((table s).basic i) less i q refl).1 other b outside))
            (λ more. let e = h.1.0 in omega (arith, e, more))
            (cases_lt ((table s).basic i) v);
      },
      λ i q most. ⊎_elim
          (λ less. (before ((table s).basic i) less i q refl).0)
          (λ more.
          let e : (table s).basic leaving.row ≡ v = h.1.0 in
          let same : i ≡ leaving.row = sided.table.arranged.basic_once i leaving.row q h.0 (omega (arith, e, more, most)) in
          subst (λ r. ValueFits s r (variables s)) (sym same) h.1.1.0)
          (cases_lt ((table s).basic i) v),
    )

    pub wide_out : (step : WideStep) → IsVisited s v (Err step) → IsLeaving s (Err step)
    wide_out step h = record {
      row = h.0;
      within = h.1.0;
      inside = λ i q less. (before ((table s).basic i) (subst (λ u. (table s).basic i < u) h.1.1.0 less) i q refl).1;
      values = λ i q less. (before ((table s).basic i) (subst (λ u. (table s).basic i < u) h.1.1.0 less) i q refl).0;
      wide = h.1.1.1;
    }
