-- A number names one variable.
use Rattle.std.specs.Prelude.{◌≡◌, ℕ, ◌+◌, ◌-◌, ◌<◌, ltb, if◌then◌else◌}
use Rattle.std.proofs.Common.{sym, ap, subst, ◌∙◌, arith, ⊎_elim}
use Rattle.std.proofs.lemmas.Bool.{cases_lt, lt-ltb, le-ltb}
use Rattle.lp_model.specs.declared.types.Var.{Var}
use Rattle.lp_model.specs.declared.types.Var.TheVariants.{Col, Row, Cut}
use Rattle.row_tableau.specs.Dense.{Dense}
use Rattle.row_tableau.specs.Variables.{variable_number}

module _ (t : Dense) where
  abbrev last : ℕ
  last = t.columns + t.activities

  abbrev activity_of : ℕ → Var
  activity_of i = if ltb i t.rows then Row (record { 0 = i }) else Cut (record { 0 = i - t.rows })

  abbrev pub variable_of : ℕ → Var
  variable_of n = if ltb n t.columns then Col (record { 0 = n }) else activity_of (n - t.columns)

  at_activity : (i : ℕ) → variable_of (t.columns + i) ≡ activity_of i
  at_activity i =
      let back : t.columns + i - t.columns ≡ i = omega arith in
      ap (λ b. if b then Col (record { 0 = t.columns + i }) else activity_of (t.columns + i - t.columns)) (le-ltb (t.columns + i) t.columns (omega arith)) ∙ ap activity_of back

  pub variable_is : (v : Var) → variable_number t v < last → variable_of (variable_number t v) ≡ v
  variable_is (Col c) below = ⊎_elim
      (λ w. ap variable_of (ap (λ b. if b then c.0 else last) (lt-ltb c.0 t.columns w)) ∙ ap (λ b. if b then Col (record { 0 = c.0 }) else activity_of (c.0 - t.columns)) (lt-ltb c.0 t.columns w))
      (λ past. let e : variable_number t (Col c) ≡ last = ap (λ b. if b then c.0 else last) (le-ltb c.0 t.columns past) in absurd (omega (arith, below, e)))
      (cases_lt c.0 t.columns)
  variable_is (Row r) below = ⊎_elim
      (λ w. ap variable_of (ap (λ b. if b then t.columns + r.0 else last) (lt-ltb r.0 t.rows w)) ∙ at_activity r.0 ∙ ap (λ b. if b then Row (record { 0 = r.0 }) else Cut (record { 0 = r.0 - t.rows })) (lt-ltb r.0 t.rows w))
      (λ past. let e : variable_number t (Row r) ≡ last = ap (λ b. if b then t.columns + r.0 else last) (le-ltb r.0 t.rows past) in absurd (omega (arith, below, e)))
      (cases_lt r.0 t.rows)
  variable_is (Cut k) below = ⊎_elim
      (λ w.
      let back : t.rows + k.0 - t.rows ≡ k.0 = omega arith in
      ap variable_of (ap (λ b. if b then t.columns + (t.rows + k.0) else last) (lt-ltb (t.rows + k.0) t.activities w)) ∙ at_activity (t.rows + k.0)
      ∙ ap (λ b. if b then Row (record { 0 = t.rows + k.0 }) else Cut (record { 0 = t.rows + k.0 - t.rows })) (le-ltb (t.rows + k.0) t.rows (omega arith)) ∙ ap (λ n. Cut (record { 0 = n })) back)
      (λ past. let e : variable_number t (Cut k) ≡ last = ap (λ b. if b then t.columns + (t.rows + k.0) else last) (le-ltb (t.rows + k.0) t.activities past) in absurd (omega (arith, below, e)))
      (cases_lt (t.rows + k.0) t.activities)

  pub one_variable : (v w : Var) → variable_number t v < last → variable_number t v ≡ variable_number t w → v ≡ w
  one_variable v w below same = sym (variable_is v below) ∙ ap variable_of same ∙ variable_is w (subst (λ n. n < last) same below)
