-- The open leaf that goes first decides whether all leaves close against the target of a gap.
use Rattle.std.specs.Prelude.{◌≡◌, ◌⊎◌, ◌↔◌, ℕ, List, [], ◌∷◌, ◌++◌, pos, Option, Some, ℤ, Ok, Err}
use Rattle.std.proofs.Common.{sym, ap, subst, ◌∙◌, inl, inr}
use Rattle.std.proofs.lemmas.List.{map-append}
use Rattle.frac128.specs.Rational.{ℚ, int, ◌≤ℚ◌}
use Rattle.frac128.specs.RationalRing.{reads_ℚ}
use Rattle.frac128.specs.RationalOrder.{linear, ≤ℚ_of_<ℚ, ≤ℚ_of_≡}
use Rattle.lp_model.specs.Regions.{Path}
use Rattle.lp_model.specs.Formulations.{Formulation}
use Rattle.leaf_dual.specs.Dual.{ReachesIn}
use Rattle.leaf_dual.specs.declared.dual.LagValue.TheVariants.{Minus, Num}
use Rattle.leaf_dual.proofs.OneAnswer.{lag_one}
use Rattle.branch_tree.specs.Tree.{Leaf, Split, leaves, left_path, right_path, EachLeaf}
use Rattle.branch_tree.specs.Plain.{SplitKept, LeafKept, Plain}
use Rattle.branch_tree.specs.Leaves.{region_leaf, region_leaves}
use Rattle.branch_tree.specs.declared.node.LeafState.TheVariants.{IsOpen, IsClosed}
use Rattle.branch_tree.specs.declared.node.LeafData.{LeafData}
use Rattle.branch_tree.specs.declared.node.RegionLeaf.{RegionLeaf}
use Rattle.leaf_judging.specs.declared.choosing.Candidate.{Candidate}
use Rattle.leaf_judging.specs.declared.closing.LeafNumber.{LeafNumber}
use Rattle.leaf_judging.specs.declared.closing.LeafNumber.TheVariants.{Empty, Lag, Wide}
use Rattle.leaf_judging.specs.Closing.{IsSetAside, IsNumber, NumberCloses, ClosesBy, StateSays, IsJudgedLeaf}
use Rattle.leaf_judging.specs.Choosing.{finite_number, GoesFirst, IsCandidate, IsOneOf, GoesBeforeAll, IsFirstCandidate}
use Rattle.sound_searches.specs.Sound.{PlainSearch, formulation_of, IsSound}
use Rattle.search_gaps.specs.Within.{IsGapTarget, AllClose, CandidateReaches}
use Rattle.search_gaps.proofs.Rounded.{closed-reaches, open-reaches}

two-parts : (path : Path) (kept : SplitKept) (j : ℕ) (v : ℤ) (left right : Plain) → region_leaves path (Split kept j v left right) ≡ region_leaves (left_path path j v) left ++ region_leaves (right_path path j v) right
two-parts path kept j v left right = map-append region_leaf (leaves (left_path path j v) left) (leaves (right_path path j v) right)

-- ---- one leaf

module _ (F : Formulation) (path : Path) (mult farkas : Rattle.leaf_dual.specs.Dual.Multipliers) where
  -- a number that is none of a region set aside is that of the multipliers
  same-finite : (n : LeafNumber) (p : ℚ) → IsNumber F path mult farkas n → IsNumber F path mult farkas (Lag (Num p)) → finite_number n ≡ Some p
  same-finite Empty p aside is = absurd (is.0 aside)
  same-finite (Lag Minus) p other is = let e : Ok Minus ≡ Ok (Num p) = lag_one F path mult (Ok Minus) (Ok (Num p)) other.1 is.1 in cc
  same-finite (Lag (Num q)) p other is = let e : Ok (Num q) ≡ Ok (Num p) = lag_one F path mult (Ok (Num q)) (Ok (Num p)) other.1 is.1 in let f : q ≡ p = cc in ap Some f
  same-finite (Wide step) p other is = let e : Err step ≡ Ok (Num p) = lag_one F path mult (Err step) (Ok (Num p)) other.1 is.1 in cc

-- no open leaf's region is set aside, and its number does not reach the best value
open-not-aside : (F : Formulation) (t : Option ℚ) (path : Path) (kept : LeafData) → IsJudgedLeaf F t path kept → kept.state ≡ IsOpen → ¬ IsSetAside F path kept.farkas
open-not-aside F t path kept judged opened aside = by judged.number judged.number_is (subst (λ s. StateSays s (NumberCloses F.model t judged.number)) opened judged.says)
  where
    by : (n : LeafNumber) → IsNumber F path kept.mult kept.farkas n → ¬ NumberCloses F.model t n → ⊥
    by Empty is says = says tt
    by (Lag v) is says = is.0 aside
    by (Wide step) is says = is.0 aside

open-short : (F : Formulation) (t : ℚ) (path : Path) (kept : LeafData) (q : ℚ) → IsJudgedLeaf F (Some t) path kept → kept.state ≡ IsOpen → IsNumber F path kept.mult kept.farkas (Lag (Num q)) → ¬ ReachesIn F.model (Num q) t
open-short F t path kept q judged opened is = by judged.number judged.number_is (subst (λ s. StateSays s (NumberCloses F.model (Some t) judged.number)) opened judged.says)
  where
    by : (n : LeafNumber) → IsNumber F path kept.mult kept.farkas n → ¬ NumberCloses F.model (Some t) n → ¬ ReachesIn F.model (Num q) t
    by Empty aside says reaches = is.0 aside
    by (Lag v) other says reaches =
        let e : Ok v ≡ Ok (Num q) = lag_one F path kept.mult (Ok v) (Ok (Num q)) other.1 is.1 in
        let f : v ≡ Num q = cc in
        says (subst (λ w. ReachesIn F.model w t) (sym f) reaches)
    by (Wide step) other says reaches = let e : Err step ≡ Ok (Num q) = lag_one F path kept.mult (Err step) (Ok (Num q)) other.1 is.1 in cc

module _ (F : Formulation) (t T : ℚ) (lower : T ≤ℚ t) (c : Candidate) where
  abbrev IsLater : RegionLeaf → Type 0
  IsLater l = (l.kept.state ≡ IsClosed) ⊎ ((d : Candidate) × (IsCandidate F l d × GoesFirst c.leaf_number c.id d.leaf_number d.id))

  -- ---- the first one reaches the target: each leaf closes

  module _ (q : ℚ) (number : c.leaf_number ≡ Some q) (reaches : ReachesIn F.model (Num q) T) (short : ¬ ReachesIn F.model (Num q) t) where
    closed-closes : (path : Path) (kept : LeafData) (n : LeafNumber) → IsNumber F path kept.mult kept.farkas n → NumberCloses F.model (Some t) n → ClosesBy F (Some T) path kept
    closed-closes path kept Empty is closes = (Empty, (is, tt))
    closed-closes path kept (Lag Minus) is (inl h) = absurd h
    closed-closes path kept (Lag Minus) is (inr h) = absurd h.1
    closed-closes path kept (Lag (Num p)) is closes = (Lag (Num p), (is, closed-reaches F.model t T q lower reaches short p closes))
    closed-closes path kept (Wide step) is closes = absurd closes

    later-closes : (path : Path) (kept : LeafData) (i : ℕ) (n : LeafNumber) → IsNumber F path kept.mult kept.farkas n → GoesFirst (Some q) c.id (finite_number n) i → ClosesBy F (Some T) path kept
    later-closes path kept i Empty is goes = absurd goes
    later-closes path kept i (Lag Minus) is goes = absurd goes
    later-closes path kept i (Lag (Num p)) is (inl below) = (Lag (Num p), (is, open-reaches F.model t T q lower reaches short p (≤ℚ_of_<ℚ below)))
    later-closes path kept i (Lag (Num p)) is (inr same) = (Lag (Num p), (is, open-reaches F.model t T q lower reaches short p (≤ℚ_of_≡ same.0)))
    later-closes path kept i (Wide step) is goes = absurd goes

    leaf-closes : (path : Path) (l : LeafKept) → IsJudgedLeaf F (Some t) path l.kept → IsLater (region_leaf (path, l)) → ClosesBy F (Some T) path l.kept
    leaf-closes path l judged (inl closed) = closed-closes path l.kept judged.number judged.number_is (subst (λ s. StateSays s (NumberCloses F.model (Some t) judged.number)) closed judged.says)
    leaf-closes path l judged (inr (d, (is, goes))) =
        later-closes path l.kept d.id is.number is.number_is (subst (λ T. T) (λ i. GoesFirst (number i) c.id (is.leaf_number_is i) d.id) goes)

    before-left : (ls ms : List RegionLeaf) → GoesBeforeAll F c (ls ++ ms) → GoesBeforeAll F c ls × GoesBeforeAll F c ms
    before-left [] ms h = (tt, h)
    before-left (l ∷ ls) ms h = let rest = before-left ls ms h.1 in ((h.0, rest.0), rest.1)

    pub tree-closes : (path : Path) (s : Plain) → EachLeaf (λ p l. IsJudgedLeaf F (Some t) p l.kept) path s → GoesBeforeAll F c (region_leaves path s) → EachLeaf (λ p l. ClosesBy F (Some T) p l.kept) path s
    tree-closes path (Leaf l) judged goes = leaf-closes path l judged goes.0
    tree-closes path (Split kept j v left right) judged goes =
        let parts = before-left (region_leaves (left_path path j v) left) (region_leaves (right_path path j v) right) (subst (GoesBeforeAll F c) (two-parts path kept j v left right) goes) in
        (tree-closes (left_path path j v) left judged.0 parts.0, tree-closes (right_path path j v) right judged.1 parts.1)

  -- ---- the first one is among the leaves

  -- what is known of the leaf that it is
  pub record IsFirst (judging closing : Path → LeafKept → Type 0) : Type 0 where
    pub path : Path
    pub leaf : LeafKept
    pub is : IsCandidate F (region_leaf (path, leaf)) c
    pub judged : judging path leaf
    pub closes : closing path leaf

  module _ (P Q : Path → LeafKept → Type 0) where
    one-parts : (ls ms : List RegionLeaf) → IsOneOf F (ls ++ ms) c → IsOneOf F ls c ⊎ IsOneOf F ms c
    one-parts [] ms h = inr h
    one-parts (l ∷ ls) ms (inl h) = inl (inl h)
    one-parts (l ∷ ls) ms (inr h) = elim (one-parts ls ms h) [ inl a ↦ inl (inr a) | inr b ↦ inr b ]

    pub find : (path : Path) (s : Plain) → EachLeaf P path s → EachLeaf Q path s → IsOneOf F (region_leaves path s) c → IsFirst P Q
    find path (Leaf l) p q (inl h) = record { path = path; leaf = l; is = h; judged = p; closes = q }
    find path (Leaf l) p q (inr h) = absurd h
    find path (Split kept j v left right) p q h =
        elim (one-parts (region_leaves (left_path path j v) left) (region_leaves (right_path path j v) right) (subst (λ ls. IsOneOf F ls c) (two-parts path kept j v left right) h)) [
          | inl a ↦ find (left_path path j v) left p.0 q.0 a
          | inr b ↦ find (right_path path j v) right p.1 q.1 b
        ]

  reached : (path : Path) (l : LeafKept) → IsCandidate F (region_leaf (path, l)) c → IsJudgedLeaf F (Some t) path l.kept → ClosesBy F (Some T) path l.kept → CandidateReaches F.model T c
  reached path l is judged (n, (number, closes)) = by n number closes
    where
      by : (n : LeafNumber) → IsNumber F path l.kept.mult l.kept.farkas n → NumberCloses F.model (Some T) n → CandidateReaches F.model T c
      by Empty aside closes = absurd (open-not-aside F (Some t) path l.kept judged is.state aside)
      by (Lag Minus) other (inl h) = absurd h
      by (Lag Minus) other (inr h) = absurd h.1
      by (Lag (Num p)) other closes = (p, (is.leaf_number_is ∙ same-finite F path l.kept.mult l.kept.farkas is.number p is.number_is other, closes))
      by (Wide step) other closes = absurd closes

always : (path : Path) (s : Plain) → EachLeaf (λ p l. Unit {0}) path s
always path (Leaf l) = tt
always path (Split kept j v left right) = (always (left_path path j v) left, always (right_path path j v) right)

module _ (S : PlainSearch) (g T : ℚ) (c : Candidate) (sound : IsSound S) (gap : int (pos 0) ≤ℚ g) (is : IsGapTarget S g T) (first : IsFirstCandidate (formulation_of S) (region_leaves [] S.tree.root) (Some c)) where
  abbrev F : Formulation
  F = formulation_of S

  abbrev Judged : Path → LeafKept → Type 0
  Judged p l = IsJudgedLeaf (formulation_of S) (Some is.best) p l.kept

  lower : T ≤ℚ is.best
  lower = subst (λ u. u ≤ℚ is.best) (sym is.is) (linear (is.best ∷ g ∷ []) gap (search reads_ℚ depth 9) tt)

  judged : EachLeaf Judged [] S.tree.root
  judged = subst (λ u. EachLeaf (λ p l. IsJudgedLeaf (formulation_of S) u p l.kept) [] S.tree.root) is.best_is sound.judged

  closing-reaches : AllClose S T → CandidateReaches S.model T c
  closing-reaches close =
      let one = find F is.best T lower c Judged (λ p l. ClosesBy (formulation_of S) (Some T) p l.kept) [] S.tree.root judged close first.0 in
      reached F is.best T lower c one.path one.leaf one.is one.judged one.closes

  short : (q : ℚ) (n : LeafNumber) (path : Path) (l : LeafKept) → IsNumber F path l.kept.mult l.kept.farkas n → finite_number n ≡ Some q → Judged path l → l.kept.state ≡ IsOpen → ¬ ReachesIn S.model (Num q) is.best
  short q Empty path l number e judged_here opened = absurd cc
  short q (Lag Minus) path l number e judged_here opened = absurd cc
  short q (Lag (Num p)) path l number e judged_here opened =
      let f : p ≡ q = cc in
      subst (λ r. ¬ ReachesIn S.model (Num r) is.best) f (open-short F is.best path l.kept p judged_here opened number)
  short q (Wide step) path l number e judged_here opened = absurd cc

  reaching-closes : CandidateReaches S.model T c → AllClose S T
  reaching-closes (q, (number, reaches)) =
      let one = find F is.best T lower c Judged (λ p l. Unit {0}) [] S.tree.root judged (always [] S.tree.root) first.0 in
      let here = one.is in
      let of_number : finite_number here.number ≡ Some q = sym here.leaf_number_is ∙ number in
      tree-closes F is.best T lower c q number reaches (short q here.number one.path one.leaf here.number_is of_number one.judged here.state) [] S.tree.root judged first.1

pub first_open : (S : PlainSearch) (g t : ℚ) (c : Candidate) → IsSound S → int (pos 0) ≤ℚ g → IsGapTarget S g t → IsFirstCandidate (formulation_of S) (region_leaves [] S.tree.root) (Some c) → AllClose S t ↔ CandidateReaches S.model t c
first_open S g t c sound gap is first = (closing-reaches S g t c sound gap is first, reaching-closes S g t c sound gap is first)
