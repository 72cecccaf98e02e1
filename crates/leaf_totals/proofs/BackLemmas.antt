-- What stands of a leaf's totals under another question.
use Rattle.std.specs.Prelude.{◌≡◌, ℕ, zero, suc, ◌+◌, ◌-◌, ◌*◌, ◌/◌, ◌≤◌, ◌<◌, Bool, true, false, nat_lt, ℤ, List, length, take, Option, Some, None, IfSome}
use Rattle.std.proofs.Common.{refl, sym, ap, subst, ◌∙◌, arith, true≢false, ltb-true, ltb-false, lt-ltb}
use Rattle.std.proofs.lemmas.List.{length-take-le}
use Rattle.frac128.specs.Rational.{ℚ}
use Rattle.kept_totals.proofs.WalkLemmas.{all_taken, all_like}
use Rattle.lp_model.specs.declared.types.Var.{Var}
use Rattle.lp_model.specs.declared.types.Var.TheVariants.{Col, Row, Cut}
use Rattle.leaf_totals.specs.declared.end.End.{End}
use Rattle.leaf_totals.specs.declared.end.End.TheVariants.{Missing, Wide, WideEntry}
use Rattle.leaf_totals.specs.declared.keeping.LeafTotals.{LeafTotals}
use Rattle.leaf_totals.specs.Keeping.{Question, IsKeptTotal, AreKeptTotals, IsTermsEnd, IsEnding, IsSumOfShortTerms, AreTrueTotals, AreComplete, AreCutTo, kept_before, kept_at, kept_to, kept_most, terms_behind, left_behind}
use Rattle.leaf_totals.specs.Likeness.{is_term_before, ends_before, has_ended, AreLikeTo, IsBackWhere, IsBack, KeptBackLaw, LikenessLaw}

module _ (j : ℕ) (q r : Question) (like : AreLikeTo j q r) where
  kept-like : (k : ℕ) (v : ℚ) → k < j / 64 + 2 → IsKeptTotal q k v → IsKeptTotal r k v
  kept-like zero v below at = record { reached = like.rows at.reached; is = at.is ∙ like.rows_total }
  kept-like (suc b) v below at = let w : 64 * b ≤ j = omega arith in (like.rows at.0, (like.cuts at.1.0, like.columns (64 * b) v w at.1.1))

  all-like : (kept : List ℚ) → length kept ≤ j / 64 + 2 → AreKeptTotals q kept → AreKeptTotals r kept
  all-like kept few are = all_like (IsKeptTotal q) (IsKeptTotal r) (j / 64 + 2) 0 kept kept-like (let w : 0 + length kept ≤ j / 64 + 2 = omega (arith, few) in w) are

-- the count before an end that stands before column j
before-few : (j : ℕ) (of : Var) → is_term_before j of ≡ true → kept_before of ≤ j / 64 + 2
before-few j (Row row) e = omega arith
before-few j (Cut cut) e = omega arith
before-few j (Col col) e = let below : col.0 < j = ltb-true col.0 j e in omega (arith, below)

end-few : (j : ℕ) (end : End) → ends_before j end ≡ true → kept_at end ≤ j / 64 + 2
end-few j (Missing of) e = before-few j of e
end-few j (Wide of) e = before-few j of e
end-few j (WideEntry col by) e = let below : col.0 < j = ltb-true col.0 j e in omega (arith, below)

-- and before one that does not
variable-many : (j : ℕ) (of : Var) → is_term_before j of ≡ false → j / 64 + 2 ≤ kept_before of
variable-many j (Row row) e = absurd (true≢false e)
variable-many j (Cut cut) e = absurd (true≢false e)
variable-many j (Col col) e = let above : j ≤ col.0 = ltb-false col.0 j e in omega (arith, above)

end-many : (j : ℕ) (end : End) → ends_before j end ≡ false → j / 64 + 2 ≤ kept_at end
end-many j (Missing of) e = variable-many j of e
end-many j (Wide of) e = variable-many j of e
end-many j (WideEntry col by) e = let above : j ≤ col.0 = ltb-false col.0 j e in omega (arith, above)

-- no totals that ended are those of a number whose terms are known to be short
pub ended-over : (q r : Question) (t : LeafTotals) (end : End) → t.ending ≡ Some end → (o : Option ℤ) → IfSome o (IsSumOfShortTerms q t) → IfSome o (IsSumOfShortTerms r t)
ended-over q r t end is None h = h
ended-over q r t end is (Some d) h = let none = h.ended in cc

module _ (j : ℕ) (q r : Question) (like : AreLikeTo j q r) (old new : LeafTotals) (are : AreTrueTotals q old) where
  -- cut to those before the column
  cut-back : j / 64 + 2 ≤ length old.totals.kept → AreCutTo (j / 64 + 2) old new → IsBack j r new
  cut-back many cut =
      let within = like.within in
      let front : length (take (j / 64 + 2) old.totals.kept) ≡ j / 64 + 2 = length-take-le (j / 64 + 2) old.totals.kept many in
      let count : length new.totals.kept ≡ j / 64 + 2 = ap length cut.kept ∙ front in
      let two : j / 64 + 2 ≡ suc (suc (j / 64)) = omega arith in
      let taken : AreKeptTotals q (take (j / 64 + 2) old.totals.kept) = all_taken (IsKeptTotal q) (j / 64 + 2) 0 old.totals.kept are.kept in
      let few : length (take (j / 64 + 2) old.totals.kept) ≤ j / 64 + 2 = omega (arith, front) in
      let bound : length r.form.model.cols - 64 * (j / 64) ≤ length r.form.model.cols - j + 63 = omega (arith, within) in
      record {
        ready = record {
          are = record {
            kept = subst (AreKeptTotals r) (sym cut.kept) (all-like j q r like (take (j / 64 + 2) old.totals.kept) few taken);
            few = omega (arith, count, within);
            ending = subst (IsEnding r) (sym cut.ending) tt;
            over = subst (λ o. IfSome o (IsSumOfShortTerms r new)) (sym cut.over) tt;
          };
          ended = λ some. absurd (some cut.ending);
        };
        steps = subst (λ e. left_behind r (length new.totals.kept) e ≤ length r.form.model.cols - j + 63) (sym cut.ending)
            (subst (λ n. terms_behind r n ≤ length r.form.model.cols - j + 63) (sym (count ∙ two)) bound);
      }

  -- ended before it
  same-back : (end : End) → old.ending ≡ Some end → ends_before j end ≡ true → AreComplete q old → new ≡ old → IsBack j r new
  same-back end is before complete same =
      let within = like.within in
      let few = end-few j end before in
      let count : length old.totals.kept ≡ kept_at end = complete ∙ ap (kept_to q) is in
      let ends : IsTermsEnd q end = subst (IsEnding q) is are.ending in
      subst (IsBack j r) (sym same)
      (record {
        ready = record {
          are = record {
            kept = all-like j q r like old.totals.kept (omega (arith, few, count)) are.kept;
            few = omega (arith, few, count, within);
            ending = subst (IsEnding r) (sym is) (like.ends end before ends);
            over = ended-over q r old end is old.over are.over;
          };
          ended = λ some. count ∙ sym (ap (kept_to r) is);
        };
        steps = subst (λ e. left_behind r (length old.totals.kept) e ≤ length r.form.model.cols - j + 63) (sym is) (omega arith);
      })

  back : (ending : Option End) → old.ending ≡ ending → AreComplete q old → IsBackWhere (has_ended j ending) j old new → IsBack j r new
  back None is complete cut =
      let before = like.before in
      let count : length old.totals.kept ≡ kept_most q = complete ∙ ap (kept_to q) is in
      cut-back (omega (arith, before, count)) cut
  back (Some end) is complete now = by (ends_before j end) refl now
    where
      by : (b : Bool) → ends_before j end ≡ b → IsBackWhere b j old new → IsBack j r new
      by true e same = same-back end is e complete same
      by false e cut =
          let count : length old.totals.kept ≡ kept_at end = complete ∙ ap (kept_to q) is in
          let many = end-many j end e in
          cut-back (omega (arith, count, many)) cut

pub back_totals : KeptBackLaw
back_totals j q r old new like are complete is = back j q r like old new are old.ending refl complete is

-- ---- likeness

later : (a j k : ℕ) → j ≤ k → nat_lt a j ≡ true → nat_lt a k ≡ true
later a j k within before = let below : a < j = ltb-true a j before in lt-ltb a k (omega (arith, within, below))

before-later : (j k : ℕ) (e : End) → j ≤ k → ends_before j e ≡ true → ends_before k e ≡ true
before-later j k (Missing (Row row)) within before = refl
before-later j k (Missing (Cut cut)) within before = refl
before-later j k (Missing (Col col)) within before = later col.0 j k within before
before-later j k (Wide (Row row)) within before = refl
before-later j k (Wide (Cut cut)) within before = refl
before-later j k (Wide (Col col)) within before = later col.0 j k within before
before-later j k (WideEntry col by) within before = later col.0 j k within before

pub on_to_third : LikenessLaw
on_to_third j k q r s within one two = record {
  before = one.before;
  within = let far = two.within in omega (arith, within, far);
  rows = λ h. two.rows (one.rows h);
  rows_total = one.rows_total ∙ two.rows_total;
  cuts = λ h. two.cuts (one.cuts h);
  cuts_total = one.cuts_total ∙ two.cuts_total;
  columns = λ n v below at. two.columns n v (omega (arith, within, below)) (one.columns n v below at);
  ends = λ e before h. two.ends e (before-later j k e within before) (one.ends e before h);
}
