-- The numbers of a gap as steps of fractions: a step that has room gives the whole number, and one without tells that it has none.
use Rattle.std.specs.Prelude.{◌≡◌, ℤ, ◌-ℤ◌, ◌*ℤ◌, neg_ℤ, All}
use Rattle.std.specs.Int.{w128}
use Rattle.std.proofs.Common.{sym, ap, subst, ◌∙◌, to_z, of_z}
use Rattle.frac128.specs.Rational.{ℚ, int, ◌-ℚ◌, ◌*ℚ◌, neg_ℚ}
use Rattle.frac128.specs.RationalRing.{int-*ℤ, int-neg_ℤ}
use Rattle.frac128.specs.Range.{IsNarrow, Fits, SumFits}
use Rattle.frac128.proofs.ReadLemmas.{narrow_read}
use Rattle.frac128.proofs.Whole.{IsNarrow-from_SumFits, SumFits-difference_int, Fits-product_int, IsNarrow-from_product}
use Rattle.lp_model.specs.Program.{Program}
use Rattle.lp_model.specs.declared.types.ColId.{ColId}
use Rattle.inner_models.proofs.GapModels.{int-difference}
use Rattle.gap_models.specs.declared.gaps.Weights.{Weights}
use Rattle.gap_models.specs.declared.gaps.Sides.{Sides}
use Rattle.gap_models.specs.Gaps.{HasWidth, HasTerms, HasSides, FitsGap, IsGapOf, IsFirstWideColumn}
use Rattle.gap_models.specs.private.Parts.{IsWeighed, AreSidesOf}

-- ---- a number as it is read

pub narrow_again : (n : ℤ) → IsNarrow n → IsNarrow (to_z w128 (of_z w128 n))
narrow_again n h = subst IsNarrow (sym (narrow_read n h)) h

-- ---- a difference

module _ (l r : ℤ) (x y : ℚ) (x_is : x ≡ int l) (y_is : y ≡ int r) where
  pub difference_fits : (d : ℚ) → SumFits x (neg_ℚ y) × (d ≡ x -ℚ y) → IsNarrow (l -ℤ r) × (d ≡ int (l -ℤ r))
  difference_fits d step =
      let whole : SumFits (int l) (neg_ℚ (int r)) = subst (λ t. SumFits (int l) (neg_ℚ t)) y_is (subst (λ t. SumFits t (neg_ℚ y)) x_is step.0) in (
        IsNarrow-from_SumFits l (neg_ℤ r) (subst (SumFits (int l)) (sym (int-neg_ℤ r)) whole),
        step.1 ∙ (λ i. x_is i -ℚ y_is i) ∙ sym (int-difference l r),
      )

  pub difference_wide : IsNarrow l → IsNarrow r → ¬ SumFits x (neg_ℚ y) → ¬ IsNarrow (l -ℤ r)
  difference_wide left right wide = λ narrow.
      wide (subst (λ t. SumFits t (neg_ℚ y)) (sym x_is) (subst (λ t. SumFits (int l) (neg_ℚ t)) (sym y_is) (SumFits-difference_int l r left right narrow)))

-- ---- a product

module _ (a b : ℤ) (x y : ℚ) (x_is : x ≡ int a) (y_is : y ≡ int b) where
  product_is : x *ℚ y ≡ int a *ℚ int b
  product_is i = x_is i *ℚ y_is i

  pub product_fits : (w : ℚ) → Fits (x *ℚ y) × (w ≡ x *ℚ y) → IsNarrow (a *ℤ b) × (w ≡ int (a *ℤ b))
  product_fits w step = (IsNarrow-from_product a b (subst Fits product_is step.0), step.1 ∙ product_is ∙ sym (int-*ℤ a b))

  pub product_wide : ¬ Fits (x *ℚ y) → ¬ IsNarrow (a *ℤ b)
  product_wide wide = λ narrow. wide (subst Fits (sym product_is) (Fits-product_int a b narrow))

-- ---- the gap

module _ (a b i1 i2 : ℤ) (w : Weights) (is : IsWeighed a b w) where
  pub gap_of : (s : Sides) → AreSidesOf w.a w.b i1 i2 s → IsGapOf a b i1 i2 (record { a = w.a; b = w.b; width = w.width; side1 = s.first; side2 = s.second })
  gap_of s sides = record {
    first_weight = is.first;
    second_weight = is.second;
    width = is.width;
    first_side = sides.first ∙ ap (λ t. t *ℚ int i1) is.first ∙ sym (int-*ℤ a i1);
    second_side = sides.second ∙ ap (λ t. t *ℚ int i2) is.second ∙ sym (int-*ℤ b i2);
  }

  pub terms_of : (N : Program) → All (HasTerms w.a w.b) N.cols → All (HasTerms (int a) (int b)) N.cols
  terms_of N all = subst (λ t. All (HasTerms t (int b)) N.cols) is.first (subst (λ t. All (HasTerms w.a t) N.cols) is.second all)

  pub wide_of : (N : Program) (col : ColId) → IsFirstWideColumn w.a w.b N.cols col → IsFirstWideColumn (int a) (int b) N.cols col
  wide_of N col wide = subst (λ t. IsFirstWideColumn t (int b) N.cols col) is.first (subst (λ t. IsFirstWideColumn w.a t N.cols col) is.second wide)

  pub sides_of : HasSides w.a w.b i1 i2 → HasSides (int a) (int b) i1 i2
  sides_of sides = subst (λ t. HasSides t (int b) i1 i2) is.first (subst (λ t. HasSides w.a t i1 i2) is.second sides)

  pub sides_back : HasSides (int a) (int b) i1 i2 → HasSides w.a w.b i1 i2
  sides_back sides = subst (λ t. HasSides w.a t i1 i2) (sym is.second) (subst (λ t. HasSides t (int b) i1 i2) (sym is.first) sides)

  pub fits_of : (N : Program) → HasWidth a b → All (HasTerms w.a w.b) N.cols → HasSides w.a w.b i1 i2 → FitsGap N a b i1 i2
  fits_of N width all sides = record { width = width; columns = terms_of N all; sides = sides_of sides }
