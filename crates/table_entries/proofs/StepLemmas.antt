-- One more entry written.
use Rattle.std.specs.Prelude.{◌≡◌, ℕ, ◌+◌, ◌/◌, ◌%◌, ◌<◌, ◌==◌, List, get_or, set, length, pos}
use Rattle.std.proofs.Common.{sym, ap, subst, ◌∙◌, below_more, arith}
use Rattle.std.proofs.lemmas.List.{get_or-set_same, get_or-set_other, get_or_default}
use Rattle.frac128.specs.Rational.{ℚ, int}
use Rattle.table_entries.specs.Steps.{PivotStepFits, step_value}
use Rattle.table_entries.specs.FlatSteps.{dense_entry, FlatFits, flat_value}

module _ (columns row place : ℕ) (entries next : List ℚ) (at : ℕ) (pivot in_row in_place entry written : ℚ)
    (pivot_is : pivot ≡ dense_entry columns entries row place) (row_is : in_row ≡ dense_entry columns entries row (at % columns))
    (place_is : in_place ≡ dense_entry columns entries (at / columns) place) (entry_is : entry ≡ get_or entries at (int (pos 0)))
    (step : PivotStepFits (at / columns == row) (at % columns == place) pivot in_row in_place entry × (written ≡ step_value (at / columns == row) (at % columns == place) pivot in_row in_place entry)) where
  pub fits-here : FlatFits columns row place entries at
  fits-here = coe_by (λ i. PivotStepFits (at / columns == row) (at % columns == place) (pivot_is i) (row_is i) (place_is i) (entry_is i)) step.0
    where
      coe_by : {A B : Type 0} → A ≡ B → A → B
      coe_by {A} {B} e a = subst (λ X. X) e a

  value-here : written ≡ flat_value columns row place entries at
  value-here = step.1 ∙ (λ i. step_value (at / columns == row) (at % columns == place) (pivot_is i) (row_is i) (place_is i) (entry_is i))

  pub fits-more : ((k : ℕ) → k < at → FlatFits columns row place entries k) → (k : ℕ) → k < at + 1 → FlatFits columns row place entries k
  fits-more earlier = below_more (FlatFits columns row place entries) at earlier fits-here

  pub written-more : at < length next → ((k : ℕ) → k < at → get_or next k (int (pos 0)) ≡ flat_value columns row place entries k)
      → (k : ℕ) → k < at + 1 → get_or (set next at written) k (int (pos 0)) ≡ flat_value columns row place entries k
  written-more within earlier =
      below_more (λ k. get_or (set next at written) k (int (pos 0)) ≡ flat_value columns row place entries k) at
      (λ k less. get_or-set_other next at k written (int (pos 0)) (λ e. omega (arith, e, less)) ∙ earlier k less)
      (get_or-set_same next at written (int (pos 0)) within ∙ value-here)

-- back from the list's entries to those that were read
pub fits-back : (columns row place : ℕ) (entries : List ℚ) (at : ℕ) (pivot in_row in_place entry : ℚ) → pivot ≡ dense_entry columns entries row place → in_row ≡ dense_entry columns entries row (at % columns)
    → in_place ≡ dense_entry columns entries (at / columns) place → entry ≡ get_or entries at (int (pos 0)) → FlatFits columns row place entries at → PivotStepFits (at / columns == row) (at % columns == place) pivot in_row in_place entry
fits-back columns row place entries at pivot in_row in_place entry pivot_is row_is place_is entry_is h =
    subst (λ X. X) (λ i. PivotStepFits (at / columns == row) (at % columns == place) (sym pivot_is i) (sym row_is i) (sym place_is i) (sym entry_is i)) h

-- an element read at i, which is j
pub read_at : (xs : List ℚ) (i j : ℕ) (x : ℚ) → i ≡ j → i < length xs → x ≡ get_or xs i x → x ≡ get_or xs j (int (pos 0))
read_at xs i j x e within is = is ∙ get_or_default xs i x (int (pos 0)) within ∙ ap (λ k. get_or xs k (int (pos 0))) e
