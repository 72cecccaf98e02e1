-- Each question about a leaf's multipliers has one answer: one step is the first without room, and it leaves no number.
use Rattle.std.specs.Prelude.{◌≡◌, ℕ, length, pos, Result, Ok, Err}
use Rattle.std.proofs.Common.{refl, sym, ap, subst, ◌∙◌, inl, inr}
use Rattle.std.proofs.lemmas.Bool.{cases_order}
use Rattle.frac128.specs.Rational.{ℚ, int}
use Rattle.checked_sum.proofs.AnswerLaws.{first_wide_unique}
use Rattle.lp_model.specs.Regions.{Path}
use Rattle.lp_model.specs.Formulations.{Formulation}
use Rattle.lp_model.specs.declared.types.ColId.{ColId}
use Rattle.lp_model.specs.declared.types.Var.{Var}
use Rattle.lp_model.specs.declared.types.Var.TheVariants.{Col, Row, Cut}
use Rattle.lp_model.specs.declared.types.WideStep.{WideStep}
use Rattle.lp_model.specs.declared.types.WideStep.TheVariants.{LagEntry, LagTerm}
use Rattle.leaf_dual.specs.declared.dual.LagValue.{LagValue}
use Rattle.leaf_dual.specs.declared.dual.LagValue.TheVariants.{Minus, Num}
use Rattle.leaf_dual.specs.Dual.{Multipliers, multiplier, cut_weight, least_constant, least_cost}
use Rattle.leaf_dual.specs.Answers.{RowsFit, CutsFit, cuts_total, EntriesFit, IsFirstWideEntry, ColumnTermFits, ColumnsFit, IsReachedColumn, IsFirstWideStep, IsDualAnswer, IsLagAnswer, IsFarkasAnswer}

module _ (F : Formulation) (path : Path) (y z : ℕ → ℚ) (c₀ : ℚ) (c : ℕ → ℚ) where
  abbrev pub Reached : ℕ → Type 0
  Reached j = IsReachedColumn F path y z c₀ c j

  abbrev pub Entry : ℕ → Var → Type 0
  Entry j of = IsFirstWideEntry F y z c j of

  abbrev pub TermFits : ℕ → Type 0
  TermFits j = ColumnTermFits F path y z c (cuts_total F y z c₀) j

  -- ---- one column

  pub entry-wide : (j : ℕ) (of : Var) → Entry j of → ¬ EntriesFit F y z c j
  entry-wide j (Row row) wide fits = wide.here (fits.of_rows row.0 wide.within)
  entry-wide j (Cut cut) wide fits = wide.1.here (fits.of_cuts cut.0 wide.1.within)
  entry-wide j (Col col) wide fits = wide

  entry_one : (j : ℕ) (a b : Var) → Entry j a → Entry j b → a ≡ b
  entry_one j (Row i) (Row l) first second = (λ t. Row (record { 0 = first_wide_unique _ _ _ _ i.0 l.0 first second t }))
  entry_one j (Row i) (Cut l) first second = absurd (first.here (second.0 i.0 first.within))
  entry_one j (Row i) (Col l) first second = absurd second
  entry_one j (Cut i) (Row l) first second = absurd (second.here (first.0 l.0 second.within))
  entry_one j (Cut i) (Cut l) first second = (λ t. Cut (record { 0 = first_wide_unique _ _ _ _ i.0 l.0 first.1 second.1 t }))
  entry_one j (Cut i) (Col l) first second = absurd second
  entry_one j (Col i) b first second = absurd first

  -- ---- the columns

  entries_one : (j k : ColId) (a b : Var) → Reached j.0 → Entry j.0 a → Reached k.0 → Entry k.0 b → LagEntry j a ≡ LagEntry k b
  entries_one j k a b here wide there other =
      elim (cases_order j.0 k.0) [
        | inl same ↦ (λ t. LagEntry (record { 0 = same t }) (entry_one k.0 a b (subst (λ n. Entry n a) same wide) other t))
        | inr apart ↦ elim apart [
          | inl before ↦ absurd (entry-wide j.0 a wide ((there.before j.0 before).entries))
          | inr past ↦ absurd (entry-wide k.0 b other ((here.before k.0 past).entries))
        ]
      ]

  -- a column's entry and a column's term
  entry-term : (j k : ℕ) (a : Var) → Reached j → Entry j a → Reached k → EntriesFit F y z c k → ¬ TermFits k → ⊥
  entry-term j k a here wide there entries none =
      elim (cases_order j k) [
        | inl same ↦ entry-wide j a wide (subst (EntriesFit F y z c) (sym same) entries)
        | inr apart ↦ elim apart [
          | inl before ↦ entry-wide j a wide ((there.before j before).entries)
          | inr past ↦ none ((here.before k past).term)
        ]
      ]

  terms_one : (j k : ColId) → Reached j.0 → ¬ TermFits j.0 → Reached k.0 → ¬ TermFits k.0 → LagTerm (Col j) ≡ LagTerm (Col k)
  terms_one j k here wide there other =
      elim (cases_order j.0 k.0) [
        | inl same ↦ (λ t. LagTerm (Col (record { 0 = same t })))
        | inr apart ↦ elim apart [
          | inl before ↦ absurd (wide ((there.before j.0 before).term))
          | inr past ↦ absurd (other ((here.before k.0 past).term))
        ]
      ]

  -- ---- the steps

  step_one : (s t : WideStep) → IsFirstWideStep F path y z c₀ c s → IsFirstWideStep F path y z c₀ c t → s ≡ t
  step_one (LagEntry j a) (LagEntry k b) first second = entries_one j k a b first.0 first.1 second.0 second.1
  step_one (LagEntry j a) (LagTerm (Row l)) first second = absurd (second.here (first.0.rows l.0 second.within))
  step_one (LagEntry j a) (LagTerm (Cut l)) first second = absurd (second.1.here (first.0.cuts l.0 second.1.within))
  step_one (LagEntry j a) (LagTerm (Col k)) first second = absurd (entry-term j.0 k.0 a first.0 first.1 second.0 second.1 second.2)
  step_one (LagTerm (Row i)) (LagEntry k b) first second = absurd (first.here (second.0.rows i.0 first.within))
  step_one (LagTerm (Row i)) (LagTerm (Row l)) first second = (λ t. LagTerm (Row (record { 0 = first_wide_unique _ _ _ _ i.0 l.0 first second t })))
  step_one (LagTerm (Row i)) (LagTerm (Cut l)) first second = absurd (first.here (second.0 i.0 first.within))
  step_one (LagTerm (Row i)) (LagTerm (Col k)) first second = absurd (first.here (second.0.rows i.0 first.within))
  step_one (LagTerm (Cut i)) (LagEntry k b) first second = absurd (first.1.here (second.0.cuts i.0 first.1.within))
  step_one (LagTerm (Cut i)) (LagTerm (Row l)) first second = absurd (second.here (first.0 l.0 second.within))
  step_one (LagTerm (Cut i)) (LagTerm (Cut l)) first second = (λ t. LagTerm (Cut (record { 0 = first_wide_unique _ _ _ _ i.0 l.0 first.1 second.1 t })))
  step_one (LagTerm (Cut i)) (LagTerm (Col k)) first second = absurd (first.1.here (second.0.cuts i.0 first.1.within))
  step_one (LagTerm (Col j)) (LagEntry k b) first second = absurd (entry-term k.0 j.0 b second.0 second.1 first.0 first.1 first.2)
  step_one (LagTerm (Col j)) (LagTerm (Row l)) first second = absurd (second.here (first.0.rows l.0 second.within))
  step_one (LagTerm (Col j)) (LagTerm (Cut l)) first second = absurd (second.1.here (first.0.cuts l.0 second.1.within))
  step_one (LagTerm (Col j)) (LagTerm (Col k)) first second = terms_one j k first.0 first.2 second.0 second.2
  step_one (LagEntry j a) _ first second = absurd second
  step_one (LagTerm (Row i)) _ first second = absurd second
  step_one (LagTerm (Cut i)) _ first second = absurd second
  step_one (LagTerm (Col j)) _ first second = absurd second
  step_one _ t first second = absurd first

  -- a step without room leaves no number
  wide_alone : (step : WideStep) → IsFirstWideStep F path y z c₀ c step → RowsFit F.model y c₀ → CutsFit F y z c₀ → ColumnsFit F path y z c (cuts_total F y z c₀) (length F.model.cols) → ⊥
  wide_alone (LagEntry col of) wide rows cuts columns = entry-wide col.0 of wide.1 ((columns col.0 wide.0.within).entries)
  wide_alone (LagTerm (Row row)) wide rows cuts columns = wide.here (rows row.0 wide.within)
  wide_alone (LagTerm (Cut cut)) wide rows cuts columns = wide.1.here (cuts cut.0 wide.1.within)
  wide_alone (LagTerm (Col col)) wide rows cuts columns = wide.2 ((columns col.0 wide.0.within).term)
  wide_alone _ wide rows cuts columns = wide

  pub dual_one : (r s : Result LagValue WideStep) → IsDualAnswer F path y z c₀ c r → IsDualAnswer F path y z c₀ c s → r ≡ s
  dual_one (Ok Minus) (Ok Minus) first second = refl
  dual_one (Ok Minus) (Ok (Num q)) first second = absurd (second.0 first)
  dual_one (Ok Minus) (Err e) first second = absurd (second.0 first)
  dual_one (Ok (Num p)) (Ok Minus) first second = absurd (first.0 second)
  dual_one (Ok (Num p)) (Ok (Num q)) first second = ap Ok (first.4 ∙ sym second.4)
  dual_one (Ok (Num p)) (Err e) first second = absurd (wide_alone e second.1 first.1 first.2 first.3)
  dual_one (Err e) (Ok Minus) first second = absurd (first.0 second)
  dual_one (Err e) (Ok (Num q)) first second = absurd (wide_alone e first.1 second.1 second.2 second.3)
  dual_one (Err e) (Err f) first second = ap Err (step_one e f first.1 second.1)

module _ (F : Formulation) (path : Path) (mult : Multipliers) (r s : Result LagValue WideStep) where
  pub lag_one : IsLagAnswer F path mult r → IsLagAnswer F path mult s → r ≡ s
  lag_one = dual_one F path (multiplier mult) (cut_weight F.cuts mult) (least_constant F.model) (least_cost F.model) r s

  pub farkas_one : IsFarkasAnswer F path mult r → IsFarkasAnswer F path mult s → r ≡ s
  farkas_one = dual_one F path (multiplier mult) (cut_weight F.cuts mult) (int (pos 0)) (λ j. int (pos 0)) r s
