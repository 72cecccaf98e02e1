-- The reduced cost of a variable is the same in all tables of a basis.
use Rattle.std.specs.Prelude.{◌≡◌, ℕ, ◌<◌, [], ◌∷◌, pos}
use Rattle.std.proofs.Common.{sym, ap, ◌∙◌, ⊎_elim}
use Rattle.std.proofs.lemmas.Bool.{cases_eq}
use Rattle.frac128.specs.Rational.{ℚ, int, ◌*ℚ◌}
use Rattle.frac128.specs.RationalRing.{ring, reads_ℚ}
use Rattle.frac128.specs.Sums.{sum_below}
use Rattle.checked_sum.proofs.SumLaws.{sum_below-same}
use Rattle.table_entries.specs.Relaxation.{Relaxation, Table, reduced_cost, point}
use Rattle.table_entries.specs.Bases.{Found, IsTableOf}
use Rattle.table_entries.proofs.SumBelowLaws.{if_same, if_other}
use Rattle.table_entries.proofs.Pivot.{unit, sum_unit}
use Rattle.table_entries.proofs.Arranged.{assigned-nonbasic, Rows-point}
use Rattle.table_entries.proofs.Duality.{value-reduced}
use Rattle.table_entries.proofs.OneTable.{same_nonbasic}

module _ (p : Relaxation) (d e : Table) (d_is : IsTableOf p d) (e_is : IsTableOf p e) (basics : (i : ℕ) → i < p.activities → Found p.activities e.basic (d.basic i))
    (c : ℕ → ℚ) (k l : ℕ) (k_within : k < p.columns) (l_within : l < p.columns) (same_place : d.nonbasic k ≡ e.nonbasic l) where
  x : ℕ → ℚ
  x = point p d (unit k)

  at_own : (h : ℕ) → h < p.columns → x (d.nonbasic h) ≡ unit k h
  unfolding x
  at_own h q = assigned-nonbasic p d d_is.arranged _ (unit k) h q

  at_place : (h : ℕ) → h < p.columns → x (e.nonbasic h) ≡ unit l h
  at_place h q =
      let f = same_nonbasic p d e d_is.arranged e_is.arranged basics h q in
      ap x f.2 ∙ at_own f.0 f.1
      ∙ ⊎_elim
      (λ w. ap (unit k) (d_is.arranged.nonbasic_once f.0 k f.1 k_within (sym f.2 ∙ ap e.nonbasic w ∙ sym same_place)) ∙ if_same k (int (pos 1)) (int (pos 0))
      ∙ sym (ap (unit l) w ∙ if_same l (int (pos 1)) (int (pos 0))))
      (λ other. if_other f.0 k (int (pos 1)) (int (pos 0)) (λ w. other (e_is.arranged.nonbasic_once h l q l_within (f.2 ∙ ap d.nonbasic w ∙ same_place)))
      ∙ sym (if_other h l (int (pos 1)) (int (pos 0)) other))
      (cases_eq h l)

  picked : (f g : ℕ → ℚ) (s : ℕ) → s < p.columns → ((h : ℕ) → h < p.columns → g h ≡ unit s h) → sum_below p.columns (λ h. f h *ℚ g h) ≡ f s
  picked f g s w is = sum_below-same p.columns _ (λ h. unit s h *ℚ f h) (λ h q. ap (λ t. f h *ℚ t) (is h q) ∙ ring (f h ∷ unit s h ∷ []) (search reads_ℚ) tt) ∙ sum_unit p.columns s f w

  pub one_reduced : reduced_cost p d c k ≡ reduced_cost p e c l
  unfolding x
  one_reduced =
      let d_rows = Rows-point p d d_is.arranged (unit k) in
      sym (picked (reduced_cost p d c) (λ h. x (d.nonbasic h)) k k_within at_own)
      ∙ sym (value-reduced p d d_is.arranged x d_rows c)
      ∙ value-reduced p e e_is.arranged x (e_is.table.holds x (d_is.table.suffices x d_rows)) c
      ∙ picked (reduced_cost p e c) (λ h. x (e.nonbasic h)) l l_within at_place
