-- What of a leaf's totals stands under another question: those before the first term that is another one.
--     AreLikeTo j q r          the terms of both questions are alike before column j
--     IsBackBefore j old new   back at the last total before column j, and where the walk ended before that column, all as it was
use Rattle.std.specs.Prelude.{◌≡◌, ◌≢◌, ◌<◌, ◌≤◌, ◌+◌, ◌-◌, ◌/◌, ℕ, Bool, true, false, nat_lt, length, Option, Some, None}
use Rattle.frac128.specs.Rational.{ℚ}
use Rattle.lp_model.specs.Regions.{Path}
use Rattle.lp_model.specs.Formulations.{Formulation}
use Rattle.lp_model.specs.declared.types.Var.{Var}
use Rattle.lp_model.specs.declared.types.Var.TheVariants.{Col, Row, Cut}
use Rattle.leaf_totals.specs.declared.end.End.{End}
use Rattle.leaf_totals.specs.declared.end.End.TheVariants.{Missing, Wide, WideEntry}
use Rattle.leaf_totals.specs.declared.keeping.LeafTotals.{LeafTotals}
use Rattle.leaf_totals.specs.Keeping.{Question, cuts_start, columns_start, AreRowsReached, AreCutsReached, IsBeforeColumn, IsTermsEnd, AreTrueTotals, AreComplete, AreCutTo, steps_left}

-- the term of the variable stands before that of column j
abbrev pub is_term_before : ℕ → Var → Bool
is_term_before j (Row row) = true
is_term_before j (Cut cut) = true
is_term_before j (Col col) = nat_lt col.0 j

abbrev pub ends_before : ℕ → End → Bool
ends_before j (Missing of) = is_term_before j of
ends_before j (Wide of) = is_term_before j of
ends_before j (WideEntry col by) = nat_lt col.0 j

-- what is true of the one before column j is true of the other
pub record AreLikeTo (j : ℕ) (q r : Question) : Type 0 where
  pub before : j ≤ length q.form.model.cols
  pub within : j ≤ length r.form.model.cols
  pub rows : AreRowsReached q → AreRowsReached r
  pub rows_total : cuts_start q ≡ cuts_start r
  pub cuts : AreCutsReached q → AreCutsReached r
  pub cuts_total : columns_start q ≡ columns_start r
  pub columns : (k : ℕ) (v : ℚ) → k ≤ j → IsBeforeColumn q k v → IsBeforeColumn r k v
  pub ends : (e : End) → ends_before j e ≡ true → IsTermsEnd q e → IsTermsEnd r e

-- where the walk is known to have ended before the column
abbrev pub has_ended : ℕ → Option End → Bool
has_ended j None = false
has_ended j (Some end) = ends_before j end

-- all is as it was then
abbrev pub IsBackWhere : Bool → ℕ → LeafTotals → LeafTotals → Type 0
IsBackWhere true j old new = new ≡ old
IsBackWhere false j old new = AreCutTo (j / 64 + 2) old new

abbrev pub IsBackBefore : ℕ → LeafTotals → LeafTotals → Type 0
IsBackBefore j old new = IsBackWhere (has_ended j old.ending) j old new

-- the totals are those of the question, and can be gone on with from there
pub record CanGoOn (q : Question) (t : LeafTotals) : Type 0 where
  pub are : AreTrueTotals q t
  pub ended : t.ending ≢ None → AreComplete q t

-- ---- the law

-- back before column j: what is kept is so under a question that is alike up to there, and at most n - j + 63 terms are left
pub record IsBack (j : ℕ) (r : Question) (t : LeafTotals) : Type 0 where
  pub ready : CanGoOn r t
  pub steps : steps_left r t ≤ length r.form.model.cols - j + 63

abbrev pub KeptBackLaw : Type 0
KeptBackLaw = (j : ℕ) (q r : Question) (old new : LeafTotals) → AreLikeTo j q r → AreTrueTotals q old → AreComplete q old → IsBackBefore j old new → IsBack j r new

-- ---- likeness

abbrev pub question_with : Formulation → Path → (ℕ → ℚ) → (ℕ → ℚ) → ℚ → (ℕ → ℚ) → Question
question_with F path y z c₀ c = record { form = F; path = path; row_weights = y; live_weights = z; constant = c₀; costs = c }

-- other costs from column p on leave what is before it
abbrev pub CostsLaw : Type 0
CostsLaw =
    (F : Formulation) (path : Path) (y z : ℕ → ℚ) (c₀ : ℚ) (c d : ℕ → ℚ) (p : ℕ) → p ≤ length F.model.cols → ((j : ℕ) → j < p → c j ≡ d j)
    → AreLikeTo p (question_with F path y z c₀ c) (question_with F path y z c₀ d)

-- from one question to another, and from there to a third
abbrev pub LikenessLaw : Type 0
LikenessLaw = (j k : ℕ) (q r s : Question) → j ≤ k → AreLikeTo j q r → AreLikeTo k r s → AreLikeTo j q s
