-- A leaf that is spared keeps its number at a model with other numbers.
-- Idea: with other sides, first the cuts go over at the search's own model, where they are alike; then the sides, with the same cuts,
-- where the multiplier of each row with other sides is 0. One other cost touches one column.
use Rattle.std.specs.Prelude.{◌≡◌, ◌⊎◌, ℕ, ◌<◌, ◌/◌, Bool, true, false, if◌then◌else◌, nat_eq, List, [], ◌∷◌, length, get_or, pos, All, None}
use Rattle.std.specs.Option.{option_map}
use Rattle.std.proofs.Common.{refl, sym, ap, subst, ◌∙◌, arith, inl, inr, true≢false}
use Rattle.std.proofs.lemmas.Bool.{eqb-true, eqb-false, not-true}
use Rattle.frac128.specs.Rational.{ℚ, int}
use Rattle.lp_model.specs.Elements.{of_element, changed_at}
use Rattle.lp_model.specs.Program.{Program, entry_of}
use Rattle.lp_model.specs.Regions.{Path}
use Rattle.lp_model.specs.Formulations.{Formulation, formulation}
use Rattle.lp_model.specs.declared.types.Col.{Col}
use Rattle.lp_model.specs.declared.types.ColId.{ColId}
use Rattle.lp_model.specs.declared.types.CutRow.{CutRow}
use Rattle.lp_model.specs.declared.types.Row.{Row}
use Rattle.lp_model.specs.declared.types.RowId.{RowId}
use Rattle.lp_model.specs.declared.types.Var.{Var}
use Rattle.lp_model.specs.declared.types.Var.TheVariants.{Col as ColActivity, Row as RowActivity, Cut}
use Rattle.lp_model.proofs.ChangedLaws.{length-changed_at, of_element-changed_at, of_element-changed_other}
use Rattle.leaf_dual.proofs.SameRegion.{other_way}
use Rattle.leaf_dual.specs.Dual.{Multipliers, multiplier, is_row_variable, cut_weight, least_constant, least_cost}
use Rattle.branch_tree.specs.Leaves.{region_leaves}
use Rattle.branch_tree.specs.declared.node.LeafData.{LeafData}
use Rattle.branch_tree.specs.declared.node.RegionLeaf.{RegionLeaf}
use Rattle.spared_leaves.specs.declared.touched.Touched.TheVariants.{Nothing, OneCost}
use Rattle.spared_leaves.specs.Alike.{IsSameSides, AreAlikeBut, AreAlikeCuts}
use Rattle.spared_leaves.specs.Questions.{IsLikeQuestion}
use Rattle.spared_leaves.specs.Spared.{IsSpared}
use Rattle.spared_leaves.proofs.LikePools.{like_pools}
use Rattle.spared_leaves.proofs.LikeQuestions.{like_questions}
use Rattle.spared_leaves.proofs.LikeTotals.{like_totals}
use Rattle.spared_leaves.proofs.LikeShort.{like_short}
use Rattle.spared_leaves.proofs.SparedLeaf.{is-spared}
use Rattle.leaf_judging.specs.declared.closing.LeafNumber.{LeafNumber}
use Rattle.leaf_judging.specs.declared.entry.LeafEntry.{LeafEntry}
use Rattle.leaf_judging.specs.declared.numbers.LeafNumbers.{LeafNumbers}
use Rattle.leaf_judging.specs.Closing.{IsNumber}
use Rattle.leaf_judging.specs.Numbers.{HasKept, AreNumbersOf}
use Rattle.leaf_judging.specs.Totals.{IsLeafEntry}
use Rattle.leaf_judging.proofs.MarkLemmas.{all-kept}
use Rattle.leaf_judging.proofs.SameEntry.{entry-same}
use Rattle.leaf_judging.proofs.SparedEntry.{entry-spared}
use Rattle.sound_searches.specs.Sound.{PlainSearch, formulation_of, IsSound}
use Rattle.dual_bounds.specs.NewNumbers.{with_cost, with_new_sides, with_new_costs, with_new_numbers}
use Rattle.dual_bounds.specs.TreeBounds.{AreDerivedAgain}
use Rattle.dual_bounds.specs.declared.new_numbers.OtherNumbers.{OtherNumbers}
use Rattle.dual_bounds.specs.declared.new_numbers.OtherNumbers.TheVariants.{Sides, Costs}
use Rattle.dual_bounds.specs.private.Spared.{IsSameVariable, NamesSameSides, IsSparedList, HasQuietCost, IsSparedLeaf, IsKeptNumber}

-- ---- other rows, with the same cuts

module _ (M : Program) (others : List Row) (cuts : List CutRow) (path : Path) where
  abbrev N : Program
  N = record M { rows = others }

  rows-same : (mult : Multipliers) → NamesSameSides M N mult → (i : ℕ) → (multiplier mult i ≡ int (pos 0)) ⊎ IsSameSides M N i
  rows-same [] own i = inl refl
  rows-same (m ∷ ms) own i = by m.0 own.0 (rows-same ms own.1 i)
    where
      here : (row : RowId) (b : Bool) → nat_eq row.0 i ≡ b → IsSameSides M N row.0 → (multiplier ms i ≡ int (pos 0)) ⊎ IsSameSides M N i → ((if b then m.1 else multiplier ms i) ≡ int (pos 0)) ⊎ IsSameSides M N i
      here row true e same rest = inr (subst (IsSameSides M N) (eqb-true row.0 i e) same)
      here row false e same rest = rest

      by : (v : Var) → IsSameVariable M N v → (multiplier ms i ≡ int (pos 0)) ⊎ IsSameSides M N i → ((if is_row_variable v i then m.1 else multiplier ms i) ≡ int (pos 0)) ⊎ IsSameSides M N i
      by (ColActivity col) same rest = rest
      by (RowActivity row) same rest = here row (nat_eq row.0 i) refl same rest
      by (Cut cut) same rest = rest

  question : (mult : Multipliers) → NamesSameSides M N mult → (c : ℕ → ℚ) → IsLikeQuestion M N path cuts cuts (multiplier mult) (cut_weight cuts mult) c c
  question mult own c = record {
    rows_are = rows-same mult own;
    cuts_are = λ k. inr (record { there = ((λ h. h), (λ h. h)); high = refl });
    columns_are = λ j. inl (record {
      there = ((λ h. h), (λ h. h));
      cost_is = refl;
      low = refl;
      high = refl;
      entry = λ i. elim (rows-same mult own i) [ inl none ↦ inl none | inr same ↦ inr (refl, same.there) ];
      cut_entry = λ k. inr (refl, ((λ h. h), (λ h. h)));
    });
  }

  rows-spared : (mult farkas : Multipliers) → NamesSameSides M N mult → NamesSameSides M N farkas → IsSpared (formulation M cuts) (formulation N cuts) path mult farkas
  rows-spared mult farkas own other = record {
    empty = ((λ h. h), (λ h. h));
    lag = λ r. like_questions M N path cuts cuts (multiplier mult) (cut_weight cuts mult) (least_cost M) (least_cost M) (least_constant M) (question mult own (least_cost M)) r;
    refuting = λ r. like_questions M N path cuts cuts (multiplier farkas) (cut_weight cuts farkas) (λ j. int (pos 0)) (λ j. int (pos 0)) (int (pos 0)) (question farkas other (λ j. int (pos 0))) r;
    lag_totals = λ more. like_totals M N path cuts cuts (multiplier mult) (cut_weight cuts mult) (least_cost M) (least_cost M) (least_constant M) (question mult own (least_cost M)) more;
    farkas_totals = λ more. like_totals M N path cuts cuts (multiplier farkas) (cut_weight cuts farkas) (λ j. int (pos 0)) (λ j. int (pos 0)) (int (pos 0)) (question farkas other (λ j. int (pos 0))) more;
    lag_short = like_short M N path cuts cuts (multiplier mult) (cut_weight cuts mult) (least_cost M) (least_cost M) (least_constant M) (question mult own (least_cost M));
    farkas_short = like_short M N path cuts cuts (multiplier farkas) (cut_weight cuts farkas) (λ j. int (pos 0)) (λ j. int (pos 0)) (int (pos 0)) (question farkas other (λ j. int (pos 0)));
  }

-- ---- what is alike

alike-itself : (M : Program) → AreAlikeBut Nothing M M
alike-itself M = record {
  sense = refl;
  constant_is = refl;
  cost_is = λ j left. refl;
  columns = λ j left. record { there = ((λ h. h), (λ h. h)); low = refl; up = refl; integer = refl };
  rows = λ i left. record { there = ((λ h. h), (λ h. h)); low = refl; high = refl };
  entry = λ i j left there. refl;
}

one-cost : (M : Program) (col : ColId) (v : ℚ) → AreAlikeBut (OneCost col) M (with_new_costs M ((col, v) ∷ []))
one-cost M col v = record {
  sense = refl;
  constant_is = refl;
  cost_is = λ j left. sym (of_element-changed_other f (int (pos 0)) (λ (c : Col). c.cost) M.cols k j (λ same. eqb-false k j (not-true (nat_eq k j) left) (sym same)));
  columns = λ j left. record { there = ((λ h. subst (λ n. j < n) (sym count) h), (λ h. subst (λ n. j < n) count h)); low = at None (λ (c : Col). c.lo) (λ c. refl) j; up = at None (λ (c : Col). c.up) (λ c. refl) j; integer = at false (λ (c : Col). c.int) (λ c. refl) j };
  rows = λ i left. record { there = ((λ h. h), (λ h. h)); low = refl; high = refl };
  entry = λ i j left there. at (int (pos 0)) (λ (c : Col). entry_of i c.rows) (λ c. refl) j;
}
  where
    f : Col → Col
    f = with_cost v

    k : ℕ
    k = col.0

    count : length (changed_at f M.cols k) ≡ length M.cols
    count = length-changed_at f M.cols k

    at : {B : Type 0} (z : B) (g : Col → B) → ((c : Col) → g (f c) ≡ g c) → (j : ℕ) → of_element z g M.cols j ≡ of_element z g (changed_at f M.cols k) j
    at z g kept j = sym (of_element-changed_at f z g kept M.cols k j)

-- ---- a leaf of the search

module _ (S : PlainSearch) (sound : IsSound S) (M : Program) (again : List CutRow) (derived : AreDerivedAgain M S.cuts again) where
  cuts-alike : AreAlikeCuts S.cuts again
  cuts-alike = like_pools S.model M S.cuts again sound.pool derived.pool (sym derived.derivations)

  cuts-spared : (path : Path) (mult farkas : Multipliers) → IsSparedList S M again mult → IsSparedList S M again farkas → IsSpared (formulation_of S) (formulation S.model again) path mult farkas
  cuts-spared path mult farkas own other =
      is-spared Nothing S.model S.model S.cuts again path mult farkas own.cuts other.cuts
      (λ j apart. absurd (true≢false apart)) (λ j apart. absurd (true≢false apart)) (λ j apart. absurd (true≢false apart)) (alike-itself S.model) cuts-alike

  sides-stand : (sides : List (RowId × ℚ)) → M ≡ with_new_sides S.model sides → (path : Path) (kept : LeafData) (e : LeafEntry) → IsSparedList S M again kept.mult → IsSparedList S M again kept.farkas
      → IsLeafEntry (formulation_of S) path kept e → IsLeafEntry (formulation M again) path kept e
  sides-stand sides made path kept e own other is =
      let others : List Row = (with_new_sides S.model sides).rows in
      let F : Formulation = formulation S.model again in
      let G : Formulation = formulation (record S.model { rows = others }) again in
      let rows = λ (mult : Multipliers) (list : IsSparedList S M again mult). subst (λ (P : Program). NamesSameSides S.model P mult) made list.rows in
      let first : IsLeafEntry F path kept e = entry-spared (formulation_of S) F path (omega arith, refl) kept.mult kept.farkas (cuts-spared path kept.mult kept.farkas own other) e is in
      let second : IsLeafEntry G path kept e = entry-spared F G path (omega arith, refl) kept.mult kept.farkas (rows-spared S.model others again path kept.mult kept.farkas (rows kept.mult own) (rows kept.farkas other)) e first in
      subst (λ (P : Program). IsLeafEntry (formulation P again) path kept e) (sym made) second

  cost-stands : (costs : List (ColId × ℚ)) → M ≡ with_new_costs S.model costs → (path : Path) (kept : LeafData) (e : LeafEntry) → HasQuietCost S M again costs path kept → IsLeafEntry (formulation_of S) path kept e → IsLeafEntry (formulation M again) path kept e
  cost-stands costs made path kept e (col, (v, (one, spares))) is =
      let new : M ≡ with_new_costs S.model ((col, v) ∷ []) = made ∙ ap (with_new_costs S.model) one in
      let count : length S.model.cols ≡ length M.cols = sym (ap (λ (P : Program). length P.cols) new ∙ length-changed_at (with_cost v) S.model.cols col.0) in
      let alike : AreAlikeBut (OneCost col) S.model M = subst (AreAlikeBut (OneCost col) S.model) (sym new) (one-cost S.model col v) in
      entry-spared (formulation_of S) (formulation M again) path (omega (arith, count), ap (λ n. n / 64) count) kept.mult kept.farkas (spares alike cuts-alike) e is

  -- what the search keeps of a leaf that is spared is its entry at the other model
  entry-stands : (given : OtherNumbers) → M ≡ with_new_numbers S.model given → (path : Path) (kept : LeafData) (e : LeafEntry) → IsSparedLeaf given S M again path kept → IsLeafEntry (formulation_of S) path kept e → IsLeafEntry (formulation M again) path kept e
  entry-stands (Sides sides) made path kept e (own, other) is = sides-stand sides made path kept e own other is
  entry-stands (Costs costs) made path kept e quiet is = cost-stands costs made path kept e quiet is

  module _ (given : OtherNumbers) (made : M ≡ with_new_numbers S.model given) where
    -- the number that is kept of a leaf is its own
    abbrev pub Stands : RegionLeaf → Type 0
    Stands l = (n : LeafNumber) → IsKeptNumber S M again given l n → IsNumber (formulation M again) l.region l.kept.mult l.kept.farkas n

    leaf-stands : (l : RegionLeaf) → ((numbers : LeafNumbers) → AreNumbersOf (formulation_of S) S.tree.root numbers → HasKept (formulation_of S) numbers l.region (record { id = l.id; kept = l.kept })) → Stands l
    leaf-stands l has n is =
        let own = has is.numbers is.numbers_are in
        let same : n ≡ own.0.number = is.is own.0.number (ap (option_map (λ (e : LeafEntry). e.number)) own.1.0) in
        let here : IsLeafEntry (formulation_of S) is.region l.kept own.0 = entry-same (formulation_of S) l.region is.region (other_way is.region l.region is.same) l.kept.mult l.kept.farkas own.0 own.1.1 in
        let there = entry-same (formulation M again) is.region l.region is.same l.kept.mult l.kept.farkas own.0 (entry-stands given made is.region l.kept own.0 is.spared here) in
        subst (IsNumber (formulation M again) l.region l.kept.mult l.kept.farkas) (sym same) there.number

    pub leaves-stand : All Stands (region_leaves [] S.tree.root)
    leaves-stand k l below =
        leaf-stands (get_or (region_leaves [] S.tree.root) k l) (λ numbers are. all-kept (formulation_of S) None numbers S.tree.root are k l below)
