-- Numbers and sides.
use Rattle.std.specs.Prelude.{◌≡◌, ◌↔◌, ℕ, ◌<◌, [], ◌∷◌, pos, get_or, Bool, false, IsTrue, Option, Some, None, Ok}
use Rattle.std.proofs.Common.{sym, ap, subst, ◌∙◌}
use Rattle.std.proofs.lemmas.Bool.{false≢true}
use Rattle.std.proofs.lemmas.List.{get_or_default}
use Rattle.frac128.specs.Rational.{ℚ, int, ◌*ℚ◌, neg_ℚ, ◌<ℚ◌}
use Rattle.frac128.specs.RationalRing.{ring, reads_ℚ}
use Rattle.table_entries.specs.declared.stand.Stand.{Stand}
use Rattle.table_entries.specs.declared.stand.Stand.TheVariants.{Low, High, Free}
use Rattle.table_entries.specs.States.{sign, IsOutside, basic_value}
use Rattle.table_entries.specs.Directions.{stand_number}
use Rattle.table_entries.proofs.BringIn.{basic_within}
use Rattle.basic_solution.specs.Held.{Held, IsSided, relaxation, state, table, variables}
use Rattle.basic_solution.specs.Breach.{IsBelowSide, IsAboveSide, IsBreach}
use Rattle.basic_solution.specs.Numbers.{ValueFits, IsRowBreach}

same_some : (o : Option ℚ) (b d : ℚ) → o ≡ Some b → o ≡ Some d → b ≡ d
same_some o b d e f = ap (λ x. stand_number Low x None) (sym e ∙ f)

pub under_decided : (low : Option ℚ) (b x : ℚ) (r : Bool) → low ≡ Some b → IsTrue r ↔ (x <ℚ b) → IsTrue r ↔ IsBelowSide low x
under_decided low b x r is h = ((λ t. (b, (is, h.0 t))), (λ u. h.1 (subst (λ d. x <ℚ d) (same_some low u.0 b u.1.0 is) u.1.1)))

pub over_decided : (high : Option ℚ) (b x : ℚ) (r : Bool) → high ≡ Some b → IsTrue r ↔ (b <ℚ x) → IsTrue r ↔ IsAboveSide high x
over_decided high b x r is h = ((λ t. (b, (is, h.0 t))), (λ u. h.1 (subst (λ d. d <ℚ x) (same_some high u.0 b u.1.0 is) u.1.1)))

pub under_none : (low : Option ℚ) (x : ℚ) → low ≡ None → IsTrue false ↔ IsBelowSide low x
under_none low x is = ((λ t. absurd (false≢true t)), (λ u. absurd (let f : None ≡ Some u.0 = sym is ∙ u.1.0 in cc)))

pub over_none : (high : Option ℚ) (x : ℚ) → high ≡ None → IsTrue false ↔ IsAboveSide high x
over_none high x is = ((λ t. absurd (false≢true t)), (λ u. absurd (let f : None ≡ Some u.0 = sym is ∙ u.1.0 in cc)))

pub sign_low : (stand : Stand) (x : ℚ) → stand ≡ Low → x ≡ sign stand *ℚ x
sign_low stand x e = subst (λ s. x ≡ sign s *ℚ x) (sym e) (ring (x ∷ []) (search reads_ℚ) tt)

pub sign_high : (stand : Stand) (x : ℚ) → stand ≡ High → neg_ℚ x ≡ sign stand *ℚ x
sign_high stand x e = subst (λ s. neg_ℚ x ≡ sign s *ℚ x) (sym e) (ring (x ∷ []) (search reads_ℚ depth 9) tt)

pub sign_free : (stand : Stand) (x : ℚ) → stand ≡ Free → int (pos 0) ≡ sign stand *ℚ x
sign_free stand x e = subst (λ s. int (pos 0) ≡ sign s *ℚ x) (sym e) (ring (x ∷ []) (search reads_ℚ) tt)

-- ---- the variable of a row

module _ (s : Held) (row : ℕ) where
  pub row_breach_of : ValueFits s row (variables s) → (r : Option Stand) → IsBreach ((relaxation s).low ((table s).basic row)) ((relaxation s).high ((table s).basic row)) (basic_value (relaxation s) (state s) row) r → IsRowBreach s row (Ok r)
  row_breach_of fits (Some Low) h = (fits, h)
  row_breach_of fits (Some High) h = (fits, h)
  row_breach_of fits (Some Free) h = absurd h
  row_breach_of fits None h = (fits, inside)
    where
      inside : (side : Stand) (b : ℚ) → ¬ (IsOutside (relaxation s) (state s) row side b)
      inside Low b out = h.0 (b, out)
      inside High b out = h.1 (b, out)
      inside Free b out = out

-- the sides that were read are those of the row's variable
pub breach_at : (s : Held) → IsSided s → (row v : ℕ) → row < s.tableau.activities → v ≡ (table s).basic row → (low high : Option ℚ) → low ≡ get_or s.low v low → high ≡ get_or s.high v high
    → (x : ℚ) (r : Option Stand) → IsBreach low high x r → IsBreach ((relaxation s).low ((table s).basic row)) ((relaxation s).high ((table s).basic row)) x r
breach_at s sided row v within is low high low_is high_is x r h =
    let there : v < variables s = subst (λ u. u < variables s) (sym is) (basic_within (relaxation s) (table s) sided.table.arranged row within) in
    let low_read : low ≡ get_or s.low ((table s).basic row) None = low_is ∙ get_or_default s.low v low None (let e = sided.shape.low_length in subst (λ n. v < n) (sym e) there) ∙ ap (λ u. get_or s.low u None) is in
    let high_read : high ≡ get_or s.high ((table s).basic row) None = high_is ∙ get_or_default s.high v high None (let e = sided.shape.high_length in subst (λ n. v < n) (sym e) there) ∙ ap (λ u. get_or s.high u None) is in
    subst (λ l. IsBreach l (get_or s.high ((table s).basic row) None) x r) low_read (subst (λ m. IsBreach low m x r) high_read h)
