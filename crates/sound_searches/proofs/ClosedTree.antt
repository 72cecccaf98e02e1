-- What the leaves of a sound search say of each feasible point: it lies in one leaf, and where that is closed the point is
-- no better than the kept ones.
use Rattle.std.specs.Prelude.{◌≡◌, ◌⊎◌, true, false, [], ◌∷◌, Option, Some, None}
use Rattle.std.proofs.Common.{refl, subst, inl, inr}
use Rattle.std.proofs.lemmas.List.Elements.{All-get_or}
use Rattle.frac128.specs.Rational.{ℚ, ◌≤ℚ◌}
use Rattle.frac128.specs.RationalOrder.{≤ℚ_trans, not_both_ℚ}
use Rattle.lp_model.specs.Program.{Program, Point, least_value, IsFeasible, IsOptimum, IsEmpty}
use Rattle.lp_model.specs.Regions.{Path, InRegion}
use Rattle.lp_model.specs.Formulations.{Formulation, IsValid}
use Rattle.lp_model.proofs.RegionLemmas.{empty_region}
use Rattle.cover_cuts.proofs.CutLaws.{pool-met, pool-terms}
use Rattle.leaf_dual.specs.Dual.{Multipliers}
use Rattle.leaf_dual.specs.declared.dual.LagValue.TheVariants.{Num}
use Rattle.leaf_dual.proofs.WeakDuality.{lag_answer-bound, farkas_answer-none, closes-bound}
use Rattle.branch_tree.specs.Tree.{Tree, Leaf, Split, left_path, right_path, EachLeaf}
use Rattle.branch_tree.specs.Plain.{LeafKept}
use Rattle.branch_tree.specs.declared.node.LeafState.{LeafState}
use Rattle.branch_tree.specs.declared.node.LeafState.TheVariants.{IsOpen, IsClosed}
use Rattle.branch_tree.specs.declared.node.LeafData.{LeafData}
use Rattle.branch_tree.proofs.TreeLemmas.{point_in_one_leaf, leaf_with_both}
use Rattle.leaf_judging.specs.declared.closing.LeafNumber.{LeafNumber}
use Rattle.leaf_judging.specs.declared.closing.LeafNumber.TheVariants.{Empty, Lag, Wide}
use Rattle.leaf_judging.specs.Closing.{IsRefuted, IsSetAside, IsNumber, NumberCloses, StateSays, IsJudgedLeaf}
use Rattle.search_parts.specs.Points.{IsKeepable, target, IsIncumbent, IsIncumbentAt}
use Rattle.sound_searches.specs.Sound.{PlainSearch, formulation_of, IsSound}
use Rattle.sound_searches.specs.Laws.{HasNoOpenLeaf, IsNoBetter, IsBelowLeaf, IsBelowOpen}
use Rattle.search_parts.proofs.PointLemmas.{IsBelow, target-above}

-- ---- one leaf

module _ (F : Formulation) (valid : IsValid F) (y : Point) (feasible : IsFeasible F.model y) (path : Path) (inside : InRegion path y) where
  refuted-none : (mult : Multipliers) → ¬ IsRefuted F path mult
  refuted-none [] h = h
  refuted-none (m ∷ ms) h = farkas_answer-none F path (m ∷ ms) y valid feasible inside h.0 h.1.0 h.1.1

  pub set_aside-none : (farkas : Multipliers) → ¬ IsSetAside F path farkas
  set_aside-none farkas aside =
      elim aside [
        | inl empty ↦ empty_region F.model y path empty feasible inside
        | inr refuted ↦ refuted-none farkas refuted
      ]

  -- a point of a leaf that closes is no better than the value against which it closes
  pub number-bound : (t : Option ℚ) (mult farkas : Multipliers) (n : LeafNumber) → IsNumber F path mult farkas n → NumberCloses F.model t n → IsNoBetter F.model t y
  number-bound t mult farkas Empty is closes = absurd (set_aside-none farkas is)
  number-bound None mult farkas (Lag v) is closes = closes
  number-bound (Some t) mult farkas (Lag v) is closes =
      elim closes [
        | inl plain ↦ closes-bound F path mult y valid feasible inside v t false is.1 (λ e. let f : false ≡ true = e in cc) plain
        | inr rounded ↦ closes-bound F path mult y valid feasible inside v t true is.1 (λ e. rounded.0) rounded.1
      ]
  number-bound t mult farkas (Wide step) is closes = absurd closes

  pub judged-bound : (t : Option ℚ) (kept : LeafData) → IsJudgedLeaf F t path kept → kept.state ≡ IsClosed → IsNoBetter F.model t y
  judged-bound t kept judged closed = number-bound t kept.mult kept.farkas judged.number judged.number_is (subst (λ s. StateSays s (NumberCloses F.model t judged.number)) closed judged.says)

  below-bound : (b : ℚ) (l : LeafKept) → IsBelowLeaf F b path l → b ≤ℚ least_value F.model 1 y
  below-bound b l below = ≤ℚ_trans below.1.1 (lag_answer-bound F path l.kept.mult y valid feasible inside (Num below.0) below.1.0.1)

-- ---- the least value of the points

no_better-above : (M : Program) (b : ℚ) (t : Option ℚ) (y : Point) → IsBelow b t → IsNoBetter M t y → b ≤ℚ least_value M 1 y
no_better-above M b None y h k = absurd k
no_better-above M b (Some t) y h k = ≤ℚ_trans h k

-- each feasible point meets the cuts of a sound search that count
pub valid-sound : (S : PlainSearch) → IsSound S → IsValid (formulation_of S)
valid-sound S sound = record { terms = pool-terms S.model S.cuts sound.pool; met = λ x feasible. pool-met S.model x feasible S.cuts sound.pool }

-- ---- the tree

pub each_both : {S L : Type 0} (P Q : Path → L → Type 0) (path : Path) (t : Tree S L) → EachLeaf P path t → EachLeaf Q path t → EachLeaf (λ p l. P p l × Q p l) path t
each_both P Q path (Leaf l) h k = (h, k)
each_both P Q path (Split kept j v left right) h k = (each_both P Q (left_path path j v) left h.0 k.0, each_both P Q (right_path path j v) right h.1 k.1)

module _ (S : PlainSearch) (sound : IsSound S) where
  -- where no leaf is open, each feasible point is no better than the kept ones
  pub closed-bound : HasNoOpenLeaf S → (y : Point) → IsFeasible S.model y → IsNoBetter S.model (target S.model S.points) y
  closed-bound closed y feasible =
      let one = point_in_one_leaf S.model S.tree.root y sound.tree.lawful feasible in
      let both = leaf_with_both (λ path l. InRegion path y) (λ path l. IsJudgedLeaf (formulation_of S) (target S.model S.points) path l.kept × (l.kept.state ≡ IsClosed)) [] S.tree.root
      (each_both (λ path l. IsJudgedLeaf (formulation_of S) (target S.model S.points) path l.kept) (λ path l. l.kept.state ≡ IsClosed) [] S.tree.root sound.judged closed) one in
      judged-bound (formulation_of S) (valid-sound S sound) y feasible both.0 both.1.1.0 (target S.model S.points) both.1.0.kept both.1.1.1.0 both.1.1.1.1

pub sound-empty : (S : PlainSearch) → IsSound S → HasNoOpenLeaf S → S.points ≡ [] → IsEmpty S.model
sound-empty S sound closed none y feasible =
    subst (λ ps. IsNoBetter S.model (target S.model ps) y) none (closed-bound S sound closed y feasible)

pub sound-optimum : (S : PlainSearch) (x : Point) → IsSound S → HasNoOpenLeaf S → IsIncumbent S.model S.points (Some x) → IsOptimum S.model x
sound-optimum S x sound closed best =
    let at : IsIncumbentAt S.model S.points x best.0 = best.1 in
    let kept : IsKeepable S.model x = subst (IsKeepable S.model) at.is (All-get_or (IsKeepable S.model) S.points best.0 x at.within sound.points) in
    record {
      feasible = kept.feasible.0;
      unbeaten = λ y y_feasible beats.
          not_both_ℚ
          (no_better-above S.model (least_value S.model 1 x) (target S.model S.points) y (target-above S.model (least_value S.model 1 x) S.points at.least) (closed-bound S sound closed y y_feasible))
          beats.better;
    }

pub sound-bound : (S : PlainSearch) (b : ℚ) → IsSound S → IsBelowOpen S b → (y : Point) → IsFeasible S.model y →
    (b ≤ℚ least_value S.model 1 y) ⊎ IsNoBetter S.model (target S.model S.points) y
sound-bound S b sound below y feasible =
    let one = point_in_one_leaf S.model S.tree.root y sound.tree.lawful feasible in
    let both = leaf_with_both (λ path l. InRegion path y) (λ path l. IsJudgedLeaf (formulation_of S) (target S.model S.points) path l.kept × (l.kept.state ≡ IsOpen → IsBelowLeaf (formulation_of S) b path l)) [] S.tree.root
    (each_both (λ path l. IsJudgedLeaf (formulation_of S) (target S.model S.points) path l.kept) (λ path l. l.kept.state ≡ IsOpen → IsBelowLeaf (formulation_of S) b path l) [] S.tree.root sound.judged below) one in
    by both.0 both.1.0 both.1.0.kept.state refl both.1.1.0 both.1.1.1.0 both.1.1.1.1
  where
    by : (path : Path) (l : LeafKept) (s : LeafState) → l.kept.state ≡ s → InRegion path y → IsJudgedLeaf (formulation_of S) (target S.model S.points) path l.kept → (l.kept.state ≡ IsOpen → IsBelowLeaf (formulation_of S) b path l) →
        (b ≤ℚ least_value S.model 1 y) ⊎ IsNoBetter S.model (target S.model S.points) y
    by path l IsOpen e inside judged h = inl (below-bound (formulation_of S) (valid-sound S sound) y feasible path inside b l (h e))
    by path l IsClosed e inside judged h = inr (judged-bound (formulation_of S) (valid-sound S sound) y feasible path inside (target S.model S.points) l.kept judged e)
