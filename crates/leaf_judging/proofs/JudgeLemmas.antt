-- The number of a leaf, and leaves judged by it.
use Rattle.std.specs.Prelude.{◌≡◌, ◌↔◌, ℕ, suc, ◌≤◌, Bool, true, false, IsTrue, List, [], ◌∷◌, ◌++◌, length, drop, ◌≢◌, Option, Some, None, Ok, Err, ℤ}
use Rattle.std.specs.List.{AllZip}
use Rattle.std.proofs.Common.{refl, sym, subst, ap, ◌∙◌, arith, inl, inr, append_assoc, length-append}
use Rattle.std.proofs.lemmas.List.{drop-drop, append-nil}
use Rattle.frac128.specs.Rational.{ℚ}
use Rattle.lp_model.specs.Program.{Program, HasWholeObjective}
use Rattle.lp_model.specs.Regions.{Path}
use Rattle.lp_model.specs.Formulations.{Formulation}
use Rattle.lp_model.specs.declared.types.WideStep.{WideStep}
use Rattle.leaf_dual.specs.Dual.{Multipliers, IsPositiveNumber, Reaches, ReachesIn}
use Rattle.leaf_dual.specs.Answers.{IsLagAnswer, IsFarkasAnswer}
use Rattle.leaf_dual.specs.declared.dual.LagValue.{LagValue}
use Rattle.leaf_dual.specs.declared.dual.LagValue.TheVariants.{Minus, Num}
use Rattle.leaf_dual.proofs.WeakDuality.{lag_answer-is, farkas_answer-is}
use Rattle.leaf_dual.proofs.OneAnswer.{lag_one, farkas_one}
use Rattle.branch_tree.specs.Tree.{Leaf, Split, left_path, right_path, EachLeaf}
use Rattle.branch_tree.specs.Plain.{SplitKept, LeafKept, Plain}
use Rattle.branch_tree.specs.Leaves.{region_leaf, region_leaves, leaf_count, with_state, with_states}
use Rattle.branch_tree.specs.declared.node.LeafState.{LeafState}
use Rattle.branch_tree.specs.declared.node.LeafState.TheVariants.{IsOpen, IsClosed}
use Rattle.branch_tree.specs.declared.node.LeafData.{LeafData}
use Rattle.branch_tree.specs.declared.node.RegionLeaf.{RegionLeaf}
use Rattle.branch_tree.proofs.VisitLemmas.{region_leaves-split}
use Rattle.leaf_judging.specs.declared.closing.LeafNumber.{LeafNumber}
use Rattle.leaf_judging.specs.declared.closing.LeafNumber.TheVariants.{Empty, Lag, Wide}
use Rattle.leaf_judging.specs.Closing.{IsRefuted, IsNumber, NumberCloses, IsJudged, IsJudgedLeaf}
use Rattle.leaf_judging.specs.Choosing.{finite_number}

-- ---- whole objectives

module _ (M : Program) (v : LagValue) (t : ℚ) where
  reaches-true : Reaches v t false → Reaches v t true
  reaches-true h = by v h
    where
      by : (w : LagValue) → Reaches w t false → Reaches w t true
      by Minus k = k
      by (Num q) (inl k) = inl k
      by (Num q) (inr k) = let f : false ≡ true = k.0 in cc

  pub reaches_in : (whole : Bool) → IsTrue whole ↔ HasWholeObjective M 1 → Reaches v t whole ↔ ReachesIn M v t
  reaches_in true w = ((λ h. inr (w.0 refl, h)), (λ h. elim h [ inl k ↦ reaches-true k | inr k ↦ k.1 ]))
  reaches_in false w = ((λ h. inl h), (λ h. elim h [ inl k ↦ k | inr k ↦ let f : false ≡ true = w.1 k.0 in cc ]))

-- ---- answers of the Farkas number

module _ (F : Formulation) (path : Path) where
  pub refuted-ok : (mult : Multipliers) → mult ≢ [] → (v : LagValue) → IsFarkasAnswer F path mult (Ok v) → (b : Bool) → IsTrue b ↔ IsPositiveNumber v → IsTrue b ↔ IsRefuted F path mult
  refuted-ok [] some v answer b d = absurd (some refl)
  refuted-ok (m ∷ ms) some v answer b d = (
    (λ h. (v, (answer, d.0 h))),
    (λ h. d.1 (subst IsPositiveNumber (farkas_answer-is F path (m ∷ ms) h.0 h.1.0 ∙ sym (farkas_answer-is F path (m ∷ ms) v answer)) h.1.1)),
  )

  pub refuted-wide : (mult : Multipliers) (step : WideStep) → IsFarkasAnswer F path mult (Err step) → ¬ IsRefuted F path mult
  refuted-wide [] step wide h = h
  refuted-wide (m ∷ ms) step wide h = let e = farkas_one F path (m ∷ ms) (Err step) (Ok h.0) wide h.1.0 in cc

-- ---- numbers

-- a number that has a step without room has no other answer
wide_alone : (F : Formulation) (path : Path) (mult : Multipliers) (step : WideStep) (v : LagValue) → IsLagAnswer F path mult (Err step) → IsLagAnswer F path mult (Ok v) → ⊥
wide_alone F path mult step v wide answer = let e = lag_one F path mult (Err step) (Ok v) wide answer in cc

lag_same : (F : Formulation) (path : Path) (mult : Multipliers) (v w : LagValue) → IsLagAnswer F path mult (Ok v) → IsLagAnswer F path mult (Ok w) → v ≡ w
lag_same F path mult v w first second = lag_answer-is F path mult v first ∙ sym (lag_answer-is F path mult w second)

-- a leaf has one number, so it closes by any that it has
pub closes_same : (F : Formulation) (path : Path) (mult farkas : Multipliers) (t : Option ℚ) (n k : LeafNumber) → IsNumber F path mult farkas n → IsNumber F path mult farkas k → NumberCloses F.model t k → NumberCloses F.model t n
closes_same F path mult farkas t Empty k is also closes = tt
closes_same F path mult farkas t (Lag v) Empty is also closes = absurd (is.0 also)
closes_same F path mult farkas None (Lag v) (Lag w) is also closes = closes
closes_same F path mult farkas (Some t) (Lag v) (Lag w) is also closes = subst (λ u. ReachesIn F.model u t) (lag_same F path mult w v also.1 is.1) closes
closes_same F path mult farkas t (Lag v) (Wide step) is also closes = absurd closes
closes_same F path mult farkas t (Wide step) Empty is also closes = absurd (is.0 also)
closes_same F path mult farkas t (Wide step) (Lag w) is also closes = absurd (wide_alone F path mult step w is.1 also.1)
closes_same F path mult farkas t (Wide step) (Wide other) is also closes = absurd closes

-- and one number
pub rank_same : (F : Formulation) (path : Path) (mult farkas : Multipliers) (n k : LeafNumber) → IsNumber F path mult farkas n → IsNumber F path mult farkas k → finite_number n ≡ finite_number k
rank_same F path mult farkas Empty Empty is also = refl
rank_same F path mult farkas Empty (Lag w) is also = absurd (also.0 is)
rank_same F path mult farkas Empty (Wide step) is also = absurd (also.0 is)
rank_same F path mult farkas (Lag v) Empty is also = absurd (is.0 also)
rank_same F path mult farkas (Lag v) (Lag w) is also = ap (λ u. finite_number (Lag u)) (lag_same F path mult v w is.1 also.1)
rank_same F path mult farkas (Lag v) (Wide step) is also = absurd (wide_alone F path mult step v also.1 is.1)
rank_same F path mult farkas (Wide step) Empty is also = absurd (is.0 also)
rank_same F path mult farkas (Wide step) (Lag w) is also = absurd (wide_alone F path mult step w is.1 also.1)
rank_same F path mult farkas (Wide step) (Wide other) is also = refl

states_same : (F : Formulation) (t : Option ℚ) (path : Path) (mult farkas : Multipliers) (s r : LeafState) → IsJudged F t path mult farkas s → IsJudged F t path mult farkas r → s ≡ r
states_same F t path mult farkas IsOpen IsOpen h k = refl
states_same F t path mult farkas IsOpen IsClosed h k = absurd (h.says (closes_same F path mult farkas t h.number k.number h.number_is k.number_is k.says))
states_same F t path mult farkas IsClosed IsOpen h k = absurd (k.says (closes_same F path mult farkas t k.number h.number k.number_is h.number_is h.says))
states_same F t path mult farkas IsClosed IsClosed h k = refl

-- leaves with the same path and multipliers are judged alike
pub judged_same : (F : Formulation) (t : Option ℚ) (path : Path) (a b : LeafData) → a.mult ≡ b.mult → a.farkas ≡ b.farkas → IsJudgedLeaf F t path a → IsJudgedLeaf F t path b → a.state ≡ b.state
judged_same F t path a b m f h k =
    states_same F t path b.mult b.farkas a.state b.state (subst (λ n. IsJudged F t path n b.farkas a.state) m (subst (λ n. IsJudged F t path a.mult n a.state) f h)) k

-- ---- lists

length_zipped : {A B : Type 0} (R : A → B → Type 0) (xs : List A) (ys : List B) → AllZip R xs ys → length xs ≡ length ys
length_zipped R [] [] h = refl
length_zipped R [] (y ∷ ys) h = absurd h
length_zipped R (x ∷ xs) [] h = absurd h
length_zipped R (x ∷ xs) (y ∷ ys) h = ap suc (length_zipped R xs ys h.1)

pub zipped-push : {A B : Type 0} (R : A → B → Type 0) (xs : List A) (ys : List B) (x : A) (y : B) → AllZip R xs ys → R x y → AllZip R (xs ++ x ∷ []) (ys ++ y ∷ [])
zipped-push R [] [] x y h r = (r, tt)
zipped-push R [] (z ∷ ys) x y h r = absurd h
zipped-push R (z ∷ xs) [] x y h r = absurd h
zipped-push R (z ∷ xs) (w ∷ ys) x y h r = (h.0, zipped-push R xs ys x y h.1 r)

pub length-placed : (path : Path) (t : Plain) → length (region_leaves path t) ≡ leaf_count t
length-placed path (Leaf l) = refl
length-placed path (Split kept j v left right) =
    ap length (region_leaves-split path kept j v left right)
    ∙ length-append (region_leaves (left_path path j v) left) (region_leaves (right_path path j v) right)
    ∙ omega (arith, length-placed (left_path path j v) left, length-placed (right_path path j v) right)

-- ---- trees

pub placed-split : (path : Path) (kept : SplitKept) (j : ℕ) (v : ℤ) (left right : Plain) (more : List RegionLeaf) → region_leaves path (Split kept j v left right) ++ more ≡ region_leaves (left_path path j v) left ++ (region_leaves (right_path path j v) right ++ more)
placed-split path kept j v left right more =
    ap (λ ls. ls ++ more) (region_leaves-split path kept j v left right)
    ∙ append_assoc (region_leaves (left_path path j v) left) (region_leaves (right_path path j v) right) more

-- what holds of each leaf with its state holds of each leaf of the tree with these states
module _ (R : RegionLeaf → LeafState → Type 0) (P : Path → LeafKept → Type 0) (turn : (p : Path) (l : LeafKept) (s : LeafState) → R (region_leaf (p, l)) s → P p (record { id = l.id; kept = with_state s l.kept })) where
  each-more : (path : Path) (u : Plain) (more : List RegionLeaf) (states : List LeafState) → AllZip R (region_leaves path u ++ more) states → EachLeaf P path (with_states states u) × AllZip R more (drop (leaf_count u) states)
  each-more path (Leaf l) more [] h = absurd h
  each-more path (Leaf l) more (s ∷ states) h = (turn path l s h.0, h.1)
  each-more path (Split kept j v left right) more states h =
      let first = each-more (left_path path j v) left (region_leaves (right_path path j v) right ++ more) states (subst (λ ls. AllZip R ls states) (placed-split path kept j v left right more) h) in
      let second = each-more (right_path path j v) right more (drop (leaf_count left) states) first.1 in
      ((first.0, second.0), subst (AllZip R more) (drop-drop (leaf_count right) (leaf_count left) states) second.1)

  pub each-tree : (u : Plain) (states : List LeafState) → AllZip R (region_leaves [] u) states → EachLeaf P [] (with_states states u)
  each-tree u states h = (each-more [] u [] states (subst (λ ls. AllZip R ls states) (sym (append-nil (region_leaves [] u))) h)).0

-- the leaves judged are those of the tree with these states
module _ (F : Formulation) (t : Option ℚ) where
  abbrev pub JudgedAs : RegionLeaf → LeafState → Type 0
  JudgedAs l s = IsJudged F t l.region l.kept.mult l.kept.farkas s

  pub judged_tree : (u : Plain) (states : List LeafState) → AllZip JudgedAs (region_leaves [] u) states → EachLeaf (λ p l. IsJudgedLeaf F t p l.kept) [] (with_states states u)
  judged_tree u states h = each-tree JudgedAs (λ p l. IsJudgedLeaf F t p l.kept) (λ p l s k. k) u states h

  pub judged-count : (u : Plain) (states : List LeafState) → AllZip JudgedAs (region_leaves [] u) states → leaf_count u ≤ length states
  judged-count u states h = omega (arith, length-placed [] u, length_zipped JudgedAs (region_leaves [] u) states h)
