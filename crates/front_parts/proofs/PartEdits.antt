-- Each inner model is its base, edited so.
use Rattle.std.specs.Prelude.{◌≡◌, ℤ, ◌*ℤ◌, pos, All}
use Rattle.std.proofs.Common.{sym, ap, subst, ◌∙◌}
use Rattle.frac128.specs.Rational.{ℚ, int, ◌+ℚ◌, ◌*ℚ◌}
use Rattle.lp_model.specs.Program.{Program}
use Rattle.lp_model.specs.Edits.{edited, EditFits}
use Rattle.lp_model.specs.declared.types.Col.{Col}
use Rattle.inner_models.specs.Inner.{with_objective, row_terms, row_terms_less_z, capped, g1_name, g2_name, left_model, right_model, pull_model, gap_model}
use Rattle.inner_models.specs.Room.{HasFittingEdits}
use Rattle.gap_models.specs.declared.gaps.Gap.{Gap}
use Rattle.gap_models.specs.Gaps.{HasTerms, IsGapOf, FitsGap}
use Rattle.front_solver.specs.declared.editing.Cap.{Cap}
use Rattle.front_solver.specs.declared.solved.Extension.{Extension}
use Rattle.front_parts.specs.private.Caps.{IsCapNamed, IsExtensionOf}
use Rattle.front_solver.specs.Columns.{whole_column}
use Rattle.front_solver.proofs.Costs.{own_objective}

pub least1_is : (N P : Program) → P ≡ with_objective (λ c. c.cost) N → P ≡ N
least1_is N P is = is ∙ own_objective N

pub left_is : (N P : Program) (cap : Cap) (hi : ℚ) (i1 : ℤ) → P ≡ with_objective (λ c. c.cost2) N → IsCapNamed (g1_name N) hi (row_terms (λ c. c.cost) N) cap → hi ≡ int i1
    → edited P (capped cap.name cap.hi cap.entries) ≡ left_model N i1
left_is N P cap hi i1 is h same = (λ t. edited (is t) (capped (h.name_is t) ((h.hi_is ∙ same) t) (h.terms_are t)))

pub right_is : (N P : Program) (cap : Cap) (hi : ℚ) (i2 : ℤ) → P ≡ with_objective (λ c. c.cost) N → IsCapNamed (g1_name N) hi (row_terms (λ c. c.cost2) N) cap → hi ≡ int i2
    → edited P (capped cap.name cap.hi cap.entries) ≡ right_model N i2
right_is N P cap hi i2 is h same = (λ t. edited ((is ∙ own_objective N) t) (capped (h.name_is t) ((h.hi_is ∙ same) t) (h.terms_are t)))

pub pull_is : (N P : Program) (first second : Cap) (most1 most2 : ℚ) (r1 r2 : ℤ) → P ≡ with_objective (λ c. c.cost +ℚ c.cost2) N
    → IsCapNamed (g1_name N) most1 (row_terms (λ c. c.cost) N) first → IsCapNamed (g2_name N) most2 (row_terms (λ c. c.cost2) N) second → most1 ≡ int r1 → most2 ≡ int r2
    → edited (edited P (capped first.name first.hi first.entries)) (capped second.name second.hi second.entries) ≡ pull_model N r1 r2
pull_is N P first second most1 most2 r1 r2 is h k same1 same2 =
    (λ t. edited (edited (is t) (capped (h.name_is t) ((h.hi_is ∙ same1) t) (h.terms_are t))) (capped (k.name_is t) ((k.hi_is ∙ same2) t) (k.terms_are t)))

pub gap_is : (N P : Program) (g : Gap) (more : Extension) (a b i1 i2 : ℤ) → P ≡ with_objective (λ c. int (pos 0)) N → IsExtensionOf N g more → IsGapOf a b i1 i2 g
    → edited (edited (edited P (whole_column more.column more.up)) (capped more.first.name more.first.hi more.first.entries)) (capped more.second.name more.second.hi more.second.entries) ≡ gap_model N a b i1 i2
gap_is N P g more a b i1 i2 is h are =
    let width = h.width ∙ are.width in
    let side1 = h.first.hi_is ∙ are.first_side in
    let side2 = h.second.hi_is ∙ are.second_side in
    let first = h.first.terms_are ∙ ap (λ (q : ℚ). row_terms_less_z (λ c. q *ℚ c.cost) N) are.first_weight in
    let second = h.second.terms_are ∙ ap (λ (q : ℚ). row_terms_less_z (λ c. q *ℚ c.cost2) N) are.second_weight in
    (λ t. edited (edited (edited (is t) (whole_column (h.column t) (width t))) (capped (h.first.name_is t) (side1 t) (first t))) (capped (h.second.name_is t) (side2 t) (second t)))

-- ---- nothing is wrong with the edits

pub cap_fits : (N P : Program) (g f : Col → ℚ) (hi : ℚ) (cap : Cap) → HasFittingEdits N → P ≡ with_objective g N → IsCapNamed (g1_name N) hi (row_terms f N) cap → EditFits P (capped cap.name cap.hi cap.entries)
cap_fits N P g f hi cap fits is h = subst (λ (Q : Type 0). Q) (sym (λ t. EditFits (is t) (capped (h.name_is t) (h.hi_is t) (h.terms_are t)))) (fits.row g hi f)

pub second_cap_fits : (N P : Program) (g f f2 : Col → ℚ) (hi hi2 : ℚ) (first second : Cap) → HasFittingEdits N → P ≡ with_objective g N
    → IsCapNamed (g1_name N) hi (row_terms f N) first → IsCapNamed (g2_name N) hi2 (row_terms f2 N) second
    → EditFits (edited P (capped first.name first.hi first.entries)) (capped second.name second.hi second.entries)
second_cap_fits N P g f f2 hi hi2 first second fits is h k =
    subst (λ (Q : Type 0). Q)
    (sym (λ t. EditFits (edited (is t) (capped (h.name_is t) (h.hi_is t) (h.terms_are t))) (capped (k.name_is t) (k.hi_is t) (k.terms_are t))))
    (fits.second g hi hi2 f f2)

module _ (N P : Program) (g : Col → ℚ) (gap : Gap) (more : Extension) (a b i1 i2 : ℤ) (fits : HasFittingEdits N) (is : P ≡ with_objective g N) (h : IsExtensionOf N gap more) (are : IsGapOf a b i1 i2 gap) where
  width_is : more.up ≡ int (a *ℤ b)
  width_is = h.width ∙ are.width

  pub column_fits : EditFits P (whole_column more.column more.up)
  column_fits = subst (λ (Q : Type 0). Q) (sym (λ t. EditFits (is t) (whole_column (h.column t) (width_is t)))) (fits.column g (a *ℤ b))

  pub first_gap_fits : EditFits (edited P (whole_column more.column more.up)) (capped more.first.name more.first.hi more.first.entries)
  first_gap_fits =
      subst (λ (Q : Type 0). Q)
      (sym (λ t. EditFits (edited (is t) (whole_column (h.column t) (width_is t))) (capped (h.first.name_is t) (h.first.hi_is t) (h.first.terms_are t))))
      (fits.gap_row g (a *ℤ b) gap.side1 (λ c. gap.a *ℚ c.cost))

  pub second_gap_fits : EditFits (edited (edited P (whole_column more.column more.up)) (capped more.first.name more.first.hi more.first.entries)) (capped more.second.name more.second.hi more.second.entries)
  second_gap_fits =
      subst (λ (Q : Type 0). Q)
      (sym (λ t.
      EditFits (edited (edited (is t) (whole_column (h.column t) (width_is t))) (capped (h.first.name_is t) (h.first.hi_is t) (h.first.terms_are t)))
      (capped (h.second.name_is t) (h.second.hi_is t) (h.second.terms_are t))))
      (fits.second_gap g (a *ℤ b) gap.side1 gap.side2 (λ c. gap.a *ℚ c.cost) (λ c. gap.b *ℚ c.cost2))

-- the terms of a gap that fits have room by its own numbers
pub terms_back : (N : Program) (g : Gap) (a b i1 i2 : ℤ) → IsGapOf a b i1 i2 g → FitsGap N a b i1 i2 → All (HasTerms g.a g.b) N.cols
terms_back N g a b i1 i2 are fits = subst (λ (q : ℚ). All (HasTerms q g.b) N.cols) (sym are.first_weight) (subst (λ (q : ℚ). All (HasTerms (int a) q) N.cols) (sym are.second_weight) fits.columns)
