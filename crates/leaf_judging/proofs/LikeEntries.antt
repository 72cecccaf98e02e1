-- Totals that are kept, under another question that is alike; and the questions of a leaf that are: with the cuts up to the last one
-- that its list names.
use Rattle.std.specs.Prelude.{◌≡◌, ◌⊎◌, ℕ, zero, suc, ◌+◌, ◌*◌, ◌/◌, ◌<◌, ◌≤◌, ℤ, Bool, true, false, if◌then◌else◌, not, ◌&&◌, IsTrue, List, [], ◌∷◌, length, take, Option, Some, None, pos, Result}
use Rattle.std.proofs.Common.{refl, sym, ap, subst, ◌∙◌, arith, inl, inr, true≢false, eq-eqb, lt-ltb}
use Rattle.std.proofs.lemmas.Bool.{cases_lt}
use Rattle.std.proofs.lemmas.List.Elements.{All-head, All-tail}
use Rattle.frac128.specs.Rational.{ℚ, int}
use Rattle.kept_totals.proofs.WalkLemmas.{all_like}
use Rattle.lp_model.specs.Elements.{of_element}
use Rattle.lp_model.specs.Program.{Program}
use Rattle.lp_model.specs.Regions.{Path}
use Rattle.lp_model.specs.Cuts.{is_live}
use Rattle.lp_model.specs.CutTerms.{term_of}
use Rattle.lp_model.specs.Formulations.{formulation}
use Rattle.lp_model.specs.declared.types.CutRow.{CutRow}
use Rattle.lp_model.specs.declared.types.Var.{Var}
use Rattle.lp_model.specs.declared.types.Var.TheVariants.{Col, Row, Cut}
use Rattle.lp_model.specs.declared.types.WideStep.{WideStep}
use Rattle.lp_model.proofs.ElementLemmas.{of_element-past}
use Rattle.leaf_dual.specs.declared.dual.LagValue.{LagValue}
use Rattle.leaf_dual.specs.Dual.{Multipliers, is_cut}
use Rattle.leaf_dual.specs.Laws.{NamesNoCut}
use Rattle.leaf_dual.proofs.NamedFront.{lag-front, farkas-front}
use Rattle.leaf_totals.specs.declared.end.End.{End}
use Rattle.leaf_totals.specs.declared.end.End.TheVariants.{Missing, Wide, WideEntry}
use Rattle.leaf_totals.specs.declared.keeping.LeafTotals.{LeafTotals}
use Rattle.leaf_totals.specs.Keeping.{Question, list_question, AnswersQuestion, IsKeptTotal, AreKeptTotals, IsTermsEnd, IsEnding, IsSumOfShortTerms, AreTrueTotals, AreComplete, kept_most, kept_to, left_behind}
use Rattle.leaf_totals.specs.Likeness.{ends_before, AreLikeTo, CanGoOn}
use Rattle.spared_leaves.specs.declared.touched.Touched.TheVariants.{Nothing}
use Rattle.spared_leaves.specs.Touched.{leaves_cut, leaves_variable, leaves_list}
use Rattle.spared_leaves.specs.Alike.{IsSameCut, AreAlikeBut, AreAlikeCuts}
use Rattle.spared_leaves.specs.Spared.{KeepsShort}
use Rattle.spared_leaves.proofs.ColumnLemmas.{some-too}
use Rattle.spared_leaves.proofs.LikeAnswers.{like_lag_totals, like_farkas_totals, lag-short, farkas-short}

-- what a walk ends in stands before the last column's end
ends-within : (q : Question) (e : End) → IsTermsEnd q e → ends_before (length q.form.model.cols) e ≡ true
ends-within q (Missing (Row row)) h = refl
ends-within q (Missing (Cut cut)) h = refl
ends-within q (Missing (Col col)) h = lt-ltb col.0 (length q.form.model.cols) h.0
ends-within q (Wide (Row row)) h = refl
ends-within q (Wide (Cut cut)) h = refl
ends-within q (Wide (Col col)) h = lt-ltb col.0 (length q.form.model.cols) h.0.within
ends-within q (WideEntry col by) h = lt-ltb col.0 (length q.form.model.cols) h.0.within

-- ---- another question, of as many blocks of columns

module _ (q r : Question) (blocks : length q.form.model.cols / 64 ≡ length r.form.model.cols / 64) (like : AreLikeTo (length q.form.model.cols) q r) where
  kept-like : (k : ℕ) (v : ℚ) → k < length q.form.model.cols / 64 + 2 → IsKeptTotal q k v → IsKeptTotal r k v
  kept-like zero v below at = record { reached = like.rows at.reached; is = at.is ∙ like.rows_total }
  kept-like (suc b) v below at = let w : 64 * b ≤ length q.form.model.cols = omega (arith, below) in (like.rows at.0, (like.cuts at.1.0, like.columns (64 * b) v w at.1.1))

  all-like : (kept : List ℚ) → length kept ≤ kept_most q → AreKeptTotals q kept → AreKeptTotals r kept
  all-like kept few are = all_like (IsKeptTotal q) (IsKeptTotal r) (length q.form.model.cols / 64 + 2) 0 kept kept-like (let w : 0 + length kept ≤ length q.form.model.cols / 64 + 2 = omega (arith, few) in w) are

  ending-like : (o : Option End) → IsEnding q o → IsEnding r o
  ending-like None h = tt
  ending-like (Some e) h = like.ends e (ends-within q e h) h

  most-like : kept_most q ≡ kept_most r
  most-like = ap (λ n. n + 2) blocks

  to-like : (o : Option End) → kept_to q o ≡ kept_to r o
  to-like None = most-like
  to-like (Some e) = refl

  pub complete-like : (t : LeafTotals) → AreComplete q t → AreComplete r t
  complete-like t complete = complete ∙ to-like t.ending

  pub ready-like : (t : LeafTotals) → ((over : ℤ) → IsSumOfShortTerms q t over → IsSumOfShortTerms r t over) → CanGoOn q t → CanGoOn r t
  ready-like t short go = record {
    are = record {
      kept = all-like t.totals.kept go.are.few go.are.kept;
      few = subst (λ n. length t.totals.kept ≤ n) most-like go.are.few;
      ending = ending-like t.ending go.are.ending;
      over = some-too t.over (IsSumOfShortTerms q t) (IsSumOfShortTerms r t) short go.are.over;
    };
    ended = λ some. complete-like t (go.ended some);
  }

-- ---- of as many columns

pub like-ready : (q r : Question) → length q.form.model.cols ≡ length r.form.model.cols → AreLikeTo (length q.form.model.cols) q r → (t : LeafTotals) → ((over : ℤ) → IsSumOfShortTerms q t over → IsSumOfShortTerms r t over) → CanGoOn q t → CanGoOn r t
like-ready q r same like = ready-like q r (ap (λ n. n / 64) same) like

pub like-complete : (q r : Question) → length q.form.model.cols ≡ length r.form.model.cols → AreLikeTo (length q.form.model.cols) q r → (t : LeafTotals) → AreComplete q t → AreComplete r t
like-complete q r same like = complete-like q r (ap (λ n. n / 64) same) like

-- ---- the first cuts

element-take : {A B : Type 0} (z : B) (g : A → B) (xs : List A) (n k : ℕ) → k < n → of_element z g (take n xs) k ≡ of_element z g xs k
element-take z g xs zero k h = absurd (omega (arith, h))
element-take z g [] (suc n) k h = refl
element-take z g (x ∷ xs) (suc n) zero h = refl
element-take z g (x ∷ xs) (suc n) (suc k) h = element-take z g xs n k (omega (arith, h))

alike-self : (M : Program) → AreAlikeBut Nothing M M
alike-self M = record {
  sense = refl;
  constant_is = refl;
  cost_is = λ j left. refl;
  columns = λ j left. record { there = ((λ h. h), (λ h. h)); low = refl; up = refl; integer = refl };
  rows = λ i left. record { there = ((λ h. h), (λ h. h)); low = refl; high = refl };
  entry = λ i j left kept. refl;
}

same-word : (b : Bool) → (if b then b else not b) ≡ true
same-word true = refl
same-word false = refl

module _ (cuts front : List CutRow) (is : front ≡ take (length front) cuts) (few : length front ≤ length cuts) where
  -- a cut of the first ones is that of all
  first-is : {B : Type 0} (z : B) (g : CutRow → B) (k : ℕ) → k < length front → of_element z g front k ≡ of_element z g cuts k
  first-is z g k below = ap (λ (cs : List CutRow). of_element z g cs k) is ∙ element-take z g cuts (length front) k below

  live-front : (k : ℕ) → k < length front → is_live front k ≡ is_live cuts k
  live-front k below = first-is false (λ (c : CutRow). c.live) k below

  past-front : (k : ℕ) → length front ≤ k → is_live front k ≡ false
  past-front k past = of_element-past false (λ (c : CutRow). c.live) front k past

  same-cut : (k : ℕ) → k < length front → IsSameCut cuts front k
  same-cut k below = record {
    there = ((λ h. below), (λ h. omega (arith, below, few)));
    high = sym (first-is None (λ (c : CutRow). Some c.hi) k below);
    entry = λ j. sym (first-is (int (pos 0)) (λ (c : CutRow). term_of j c.terms) k below);
  }

  alike-front : AreAlikeCuts cuts front
  alike-front k live live_front = elim (cases_lt k (length front)) [
    | inl below ↦ same-cut k below
    | inr past ↦ absurd (true≢false (sym live_front ∙ past-front k past))
  ]

  front-alike : AreAlikeCuts front cuts
  front-alike k live_front live = elim (cases_lt k (length front)) [
    | inl below ↦ let s = same-cut k below in record { there = (s.there.1, s.there.0); high = sym s.high; entry = λ j. sym (s.entry j) }
    | inr past ↦ absurd (true≢false (sym live_front ∙ past-front k past))
  ]

  module _ (k : ℕ) where
    -- a cut that counts in both, or in none
    cut-left : (length cuts ≤ k) ⊎ (k < length front) → (leaves_cut cuts front k ≡ true) × (leaves_cut front cuts k ≡ true)
    cut-left (inl past) =
        let none : is_live cuts k ≡ false = of_element-past false (λ (c : CutRow). c.live) cuts k past in
        let none_front = past-front k (omega (arith, past, few)) in
        ((λ i. if none i then none_front i else not (none_front i)), (λ i. if none_front i then none i else not (none i)))
    cut-left (inr below) =
        let same = live-front k below in
        ((λ i. if is_live cuts k then same i else not (same i)) ∙ same-word (is_live cuts k), (λ i. if same i then is_live cuts k else not (is_live cuts k)) ∙ same-word (is_live cuts k))

-- no multiplier is of a cut behind the first ones
abbrev AreBehind : Multipliers → ℕ → ℕ → Type 0
AreBehind mult from to = (k : ℕ) → from ≤ k → k < to → NamesNoCut mult k

module _ (cuts front : List CutRow) (is : front ≡ take (length front) cuts) (few : length front ≤ length cuts) where
  variable-left : (of : Var) → ((k : ℕ) → length front ≤ k → k < length cuts → ¬ IsTrue (is_cut of k)) → (leaves_variable Nothing cuts front of ≡ true) × (leaves_variable Nothing front cuts of ≡ true)
  variable-left (Col col) none = (refl, refl)
  variable-left (Row row) none = (refl, refl)
  variable-left (Cut cut) none = elim (cases_lt cut.0 (length front)) [
    | inl below ↦ cut-left cuts front is few cut.0 (inr below)
    | inr past ↦ elim (cases_lt cut.0 (length cuts)) [
      | inl there ↦ absurd (none cut.0 past there (eq-eqb cut.0 cut.0 refl))
      | inr beyond ↦ cut-left cuts front is few cut.0 (inl beyond)
    ]
  ]

  list-left : (mult : Multipliers) → AreBehind mult (length front) (length cuts) → (leaves_list Nothing cuts front mult ≡ true) × (leaves_list Nothing front cuts mult ≡ true)
  list-left [] behind = (refl, refl)
  list-left (m ∷ ms) behind =
      let head = variable-left m.0 (λ k past there. All-head (λ (n : Var × ℚ). ¬ IsTrue (is_cut n.0 k)) m ms (behind k past there)) in
      let tail = list-left ms (λ k past there. All-tail (λ (n : Var × ℚ). ¬ IsTrue (is_cut n.0 k)) m ms (behind k past there)) in
      ((λ i. head.0 i && tail.0 i), (λ i. head.1 i && tail.1 i))

module _ (M : Program) (path : Path) (mult : Multipliers) (cuts front : List CutRow) (is : front ≡ take (length front) cuts) (few : length front ≤ length cuts) (behind : AreBehind mult (length front) (length cuts)) where
  abbrev all_cuts : Bool → Question
  all_cuts costed = list_question (formulation M cuts) path mult costed

  abbrev first_cuts : Bool → Question
  first_cuts costed = list_question (formulation M front) path mult costed

  to-front : (costed : Bool) → AreLikeTo (length M.cols) (all_cuts costed) (first_cuts costed)
  to-front true = like_lag_totals Nothing M M cuts front (alike-self M) (alike-front cuts front is few) path mult (list-left cuts front is few mult behind).0 (λ j touched. absurd (true≢false touched)) (omega arith)
  to-front false = like_farkas_totals Nothing M M cuts front (alike-self M) (alike-front cuts front is few) path mult (list-left cuts front is few mult behind).0 (λ j touched. absurd (true≢false touched)) (omega arith)

  from-front : (costed : Bool) → AreLikeTo (length M.cols) (first_cuts costed) (all_cuts costed)
  from-front true = like_lag_totals Nothing M M front cuts (alike-self M) (front-alike cuts front is few) path mult (list-left cuts front is few mult behind).1 (λ j touched. absurd (true≢false touched)) (omega arith)
  from-front false = like_farkas_totals Nothing M M front cuts (alike-self M) (front-alike cuts front is few) path mult (list-left cuts front is few mult behind).1 (λ j touched. absurd (true≢false touched)) (omega arith)

  short-to-front : (costed : Bool) → KeepsShort (formulation M cuts) (formulation M front) (all_cuts costed) (first_cuts costed)
  short-to-front true = lag-short Nothing M M cuts front (alike-self M) (alike-front cuts front is few) path mult (list-left cuts front is few mult behind).0 (λ j touched. absurd (true≢false touched))
  short-to-front false = farkas-short Nothing M M cuts front (alike-self M) (alike-front cuts front is few) path mult (list-left cuts front is few mult behind).0 (λ j touched. absurd (true≢false touched))

  short-from-front : (costed : Bool) → KeepsShort (formulation M front) (formulation M cuts) (first_cuts costed) (all_cuts costed)
  short-from-front true = lag-short Nothing M M front cuts (alike-self M) (front-alike cuts front is few) path mult (list-left cuts front is few mult behind).1 (λ j touched. absurd (true≢false touched))
  short-from-front false = farkas-short Nothing M M front cuts (alike-self M) (front-alike cuts front is few) path mult (list-left cuts front is few mult behind).1 (λ j touched. absurd (true≢false touched))

  -- ---- what is kept with all cuts is kept with the first ones, and the other way round

  pub front-ready : (costed : Bool) (t : LeafTotals) → CanGoOn (all_cuts costed) t → CanGoOn (first_cuts costed) t
  front-ready costed t = like-ready (all_cuts costed) (first_cuts costed) refl (to-front costed) t (short-to-front costed (omega arith) refl t)

  pub all-ready : (costed : Bool) (t : LeafTotals) → AreTrueTotals (first_cuts costed) t → AreComplete (first_cuts costed) t → CanGoOn (all_cuts costed) t
  all-ready costed t are complete = like-ready (first_cuts costed) (all_cuts costed) refl (from-front costed) t (short-from-front costed (omega arith) refl t) (record { are = are; ended = λ some. complete })

  pub all-complete : (costed : Bool) (t : LeafTotals) → AreComplete (first_cuts costed) t → AreComplete (all_cuts costed) t
  all-complete costed t = like-complete (first_cuts costed) (all_cuts costed) refl (from-front costed) t

  pub all-answer : (costed : Bool) (r : Result LagValue WideStep) → AnswersQuestion (first_cuts costed) r → AnswersQuestion (all_cuts costed) r
  all-answer true r h = lag-front M path mult r cuts front is few behind h
  all-answer false r h = farkas-front M path mult r cuts front is few behind h

  -- and fewer terms stand behind
  pub front-left : (costed : Bool) (count : ℕ) (o : Option End) → left_behind (first_cuts costed) count o ≤ left_behind (all_cuts costed) count o
  front-left costed zero None = omega (arith, few)
  front-left costed (suc zero) None = omega (arith, few)
  front-left costed (suc (suc b)) None = omega arith
  front-left costed count (Some e) = omega arith
