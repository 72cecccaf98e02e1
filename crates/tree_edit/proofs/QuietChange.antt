-- A change of a model or its cuts that touches nothing that a list names: each leaf keeps its number and what is kept of its totals, and
-- is judged as it is marked, and the queue stands.
use Rattle.std.specs.Prelude.{◌≡◌, ◌↔◌, ℕ, suc, ◌<◌, ◌≤◌, ◌/◌, true, not, List, [], ◌∷◌, length, nat_eq, Option, Some, None, Ok, Err}
use Rattle.std.proofs.Common.{refl, sym, ap, subst, ◌∙◌, arith, inl, inr, true≢false}
use Rattle.std.proofs.lemmas.Bool.{cases_order, ne_eqb}
use Rattle.frac128.specs.Rational.{ℚ, IsWhole}
use Rattle.lp_model.specs.Cuts.{is_live}
use Rattle.lp_model.specs.Edits.{edited}
use Rattle.lp_model.specs.Program.{Program, cost, constant, is_integer, IsWholeCost, HasWholeObjective}
use Rattle.lp_model.specs.Regions.{Path}
use Rattle.lp_model.specs.Formulations.{Formulation, formulation}
use Rattle.lp_model.specs.declared.types.CutRow.{CutRow}
use Rattle.lp_model.specs.declared.types.Edit.{Edit}
use Rattle.lp_model.specs.declared.types.Var.{Var}
use Rattle.lp_model.specs.declared.types.Var.TheVariants.{Col, Row, Cut}
use Rattle.cover_cuts.specs.Cuts.{IsPoolOf}
use Rattle.kept_cuts.specs.Kept.{derivations_of, IsPoolAfter}
use Rattle.leaf_dual.specs.Dual.{Multipliers, ReachesIn}
use Rattle.branch_tree.specs.Tree.{Leaf, Split, left_path, right_path, EachLeaf}
use Rattle.branch_tree.specs.Leaves.{region_leaf}
use Rattle.branch_tree.specs.Plain.{LeafKept, Plain}
use Rattle.branch_tree.specs.declared.node.LeafState.{LeafState}
use Rattle.branch_tree.specs.declared.node.LeafState.TheVariants.{IsOpen, IsClosed}
use Rattle.spared_leaves.specs.declared.touched.Touched.{Touched}
use Rattle.spared_leaves.specs.declared.touched.Touched.TheVariants.{Nothing, OneRow, RowSides, OneCost, OneColumn}
use Rattle.spared_leaves.specs.Touched.{touched_by, leaves_row, leaves_cost, leaves_column, leaves_variable, leaves_list}
use Rattle.spared_leaves.specs.Alike.{AreAlikeBut, AreAlikeCuts}
use Rattle.spared_leaves.specs.Spared.{IsSpared}
use Rattle.spared_leaves.proofs.LikeEdits.{like_edits}
use Rattle.spared_leaves.proofs.LikePools.{like_pools}
use Rattle.spared_leaves.proofs.SparedLeaf.{is-spared}
use Rattle.leaf_judging.specs.declared.closing.LeafNumber.{LeafNumber}
use Rattle.leaf_judging.specs.declared.closing.LeafNumber.TheVariants.{Empty, Lag, Wide}
use Rattle.leaf_judging.specs.declared.entry.LeafEntry.{LeafEntry}
use Rattle.leaf_judging.specs.declared.numbers.LeafNumbers.{LeafNumbers}
use Rattle.leaf_judging.specs.declared.queue.LeafQueue.{LeafQueue}
use Rattle.leaf_judging.specs.declared.choosing.Candidate.{Candidate}
use Rattle.leaf_judging.specs.Closing.{IsRefuted, IsSetAside, IsNumber, NumberCloses, StateSays, IsJudgedLeaf}
use Rattle.leaf_judging.specs.Choosing.{IsCandidate}
use Rattle.leaf_judging.specs.Judged.{AreJudged}
use Rattle.leaf_judging.specs.Numbers.{HasKept}
use Rattle.leaf_judging.specs.Queued.{SomeLeaf, IsQueued, IsQueueOf}
use Rattle.leaf_judging.specs.Totals.{IsEntryOf}
use Rattle.leaf_judging.proofs.SparedEntry.{entry-spared}
use Rattle.search_parts.specs.Lists.{IsActivityThere, AreMultipliers, HasLists, HasNodeLists}
use Rattle.sound_searches.proofs.ClosedTree.{each_both}
use Rattle.sound_searches.proofs.PlaceLemmas.{each-lists}
use Rattle.sound_searches.proofs.SoundLemmas.{each-weaker}
use Rattle.tree_edit.specs.private.Staying.{TouchesNoList, KeepsIndex}
use Rattle.tree_edit.proofs.FormerNumbers.{LeavesCuts, derivations-left}
use Rattle.tree_edit.proofs.TurnedCuts.{cut-left}

-- what is touched is no column, no cost and no row of F, and no cut of F turns
pub record IsQuietChange (t : Touched) (F G : Formulation) : Type 0 where
  pub model : AreAlikeBut t F.model G.model
  pub cuts : AreAlikeCuts F.cuts G.cuts
  pub costs : (j : ℕ) → leaves_cost t j ≡ true
  pub columns : (j : ℕ) → leaves_column t j ≡ true
  pub rows : (i : ℕ) → i < length F.model.rows → leaves_row t i ≡ true
  pub lives : (k : ℕ) → k < length F.cuts → is_live F.cuts k ≡ is_live G.cuts k

-- ---- closing: an objective is whole in both models or in neither

whole-so : (M N : Program) → length M.cols ≡ length N.cols → ((j : ℕ) → is_integer M j ≡ is_integer N j) → ((j : ℕ) → cost M 1 j ≡ cost N 1 j) → constant M 1 ≡ constant N 1 → HasWholeObjective M 1 → HasWholeObjective N 1
whole-so M N count integer costs constants h = record {
  costs = λ j below. subst (λ P. P) (λ i. IsWholeCost (integer j i) (costs j i)) (h.costs j (omega (arith, count, below)));
  constant = subst IsWhole constants h.constant;
}

closes-so : (M N : Program) → (HasWholeObjective M 1 → HasWholeObjective N 1) → (t : Option ℚ) (n : LeafNumber) → NumberCloses M t n → NumberCloses N t n
closes-so M N whole t Empty h = tt
closes-so M N whole None (Lag v) h = h
closes-so M N whole (Some t) (Lag v) h = by h
  where
    by : ReachesIn M v t → ReachesIn N v t
    by (inl plain) = inl plain
    by (inr rounded) = inr (whole rounded.0, rounded.1)
closes-so M N whole t (Wide step) h = h

says-so : (P Q : Type 0) → (P → Q) → (Q → P) → (state : LeafState) → StateSays state P → StateSays state Q
says-so P Q there back IsOpen h = λ q. h (back q)
says-so P Q there back IsClosed h = there h

-- as many of which each is there
same-number : (m n : ℕ) → ((j : ℕ) → j < m ↔ j < n) → m ≡ n
same-number m n there = elim (cases_order m n) [
  | inl e ↦ e
  | inr o ↦ elim o [ inl below ↦ absurd (let h : m < m = (there m).1 below in omega (arith, h)) | inr above ↦ absurd (let h : n < n = (there n).0 above in omega (arith, h)) ]
]

-- ---- leaves

module _ (t : Touched) (F G : Formulation) (h : IsQuietChange t F G) where
  -- a list that names what is there leaves what is touched
  list-left : (mult : Multipliers) → AreMultipliers F mult → leaves_list t F.cuts G.cuts mult ≡ true
  list-left [] own = refl
  list-left (m ∷ mult) own =
      rw (left m.0 (own.each 0 m.0 (omega arith))) (list-left mult (record { each = λ i d below. own.each (suc i) d (omega arith); once = λ i j d before below. own.once (suc i) (suc j) d (omega arith) (omega arith) }))
    where
      left : (v : Var) → IsActivityThere F v → leaves_variable t F.cuts G.cuts v ≡ true
      left (Col col) there = refl
      left (Row row) there = h.rows row.0 there
      left (Cut cut) there = cut-left F.cuts G.cuts cut.0 (h.lives cut.0 there)

  count : length F.model.cols ≡ length G.model.cols
  count = same-number (length F.model.cols) (length G.model.cols) (λ j. (h.model.columns j (h.columns j)).there)

  spared : (path : Path) (mult farkas : Multipliers) → AreMultipliers F mult → AreMultipliers F farkas → IsSpared F G path mult farkas
  spared path mult farkas own other =
      is-spared t F.model G.model F.cuts G.cuts path mult farkas (list-left mult own) (list-left farkas other)
      (λ j apart. absurd (true≢false (sym (h.columns j) ∙ apart))) (λ j apart. absurd (true≢false (sym (h.costs j) ∙ apart))) (λ j apart. absurd (true≢false (sym (h.columns j) ∙ apart))) h.model h.cuts

  entry-kept : (path : Path) (mult farkas : Multipliers) → AreMultipliers F mult → AreMultipliers F farkas → (e : LeafEntry) → IsEntryOf F path mult farkas e → IsEntryOf G path mult farkas e
  entry-kept path mult farkas own other = entry-spared F G path (omega (arith, count), ap (λ n. n / 64) count) mult farkas (spared path mult farkas own other)

  refuted-kept : (path : Path) (mult farkas : Multipliers) → IsSpared F G path mult farkas → IsRefuted F path farkas ↔ IsRefuted G path farkas
  refuted-kept path mult [] s = ((λ r. r), (λ r. r))
  refuted-kept path mult (m ∷ ms) s = (
    (λ (v, (answer, positive)). (v, ((s.refuting (Ok v)).0 answer, positive))),
    (λ (v, (answer, positive)). (v, ((s.refuting (Ok v)).1 answer, positive))),
  )

  aside-kept : (path : Path) (mult farkas : Multipliers) → IsSpared F G path mult farkas → IsSetAside F path farkas ↔ IsSetAside G path farkas
  aside-kept path mult farkas s = (
    (λ aside. elim aside [ inl empty ↦ inl (s.empty.0 empty) | inr refuted ↦ inr ((refuted-kept path mult farkas s).0 refuted) ]),
    (λ aside. elim aside [ inl empty ↦ inl (s.empty.1 empty) | inr refuted ↦ inr ((refuted-kept path mult farkas s).1 refuted) ]),
  )

  number-kept : (path : Path) (mult farkas : Multipliers) → IsSpared F G path mult farkas → (n : LeafNumber) → IsNumber F path mult farkas n → IsNumber G path mult farkas n
  number-kept path mult farkas s Empty aside = (aside-kept path mult farkas s).0 aside
  number-kept path mult farkas s (Lag v) is = ((λ aside. is.0 ((aside-kept path mult farkas s).1 aside)), (s.lag (Ok v)).0 is.1)
  number-kept path mult farkas s (Wide step) is = ((λ aside. is.0 ((aside-kept path mult farkas s).1 aside)), (s.lag (Err step)).0 is.1)

  own-number : (path : Path) (l : LeafKept) → HasLists F l.kept → (n : LeafNumber) → IsNumber F path l.kept.mult l.kept.farkas n → IsNumber G path l.kept.mult l.kept.farkas n
  own-number path l lists = number-kept path l.kept.mult l.kept.farkas (spared path l.kept.mult l.kept.farkas lists.mult lists.farkas)

  whole-there : HasWholeObjective F.model 1 → HasWholeObjective G.model 1
  whole-there = whole-so F.model G.model count (λ j. (h.model.columns j (h.columns j)).integer) (λ j. h.model.cost_is j (h.costs j)) h.model.constant_is

  whole-back : HasWholeObjective G.model 1 → HasWholeObjective F.model 1
  whole-back = whole-so G.model F.model (sym count) (λ j. sym (h.model.columns j (h.columns j)).integer) (λ j. sym (h.model.cost_is j (h.costs j))) (sym h.model.constant_is)

  judged-kept : (best : Option ℚ) (path : Path) (l : LeafKept) → HasLists F l.kept → IsJudgedLeaf F best path l.kept → IsJudgedLeaf G best path l.kept
  judged-kept best path l lists is = record {
    number = is.number;
    number_is = own-number path l lists is.number is.number_is;
    says = says-so (NumberCloses F.model best is.number) (NumberCloses G.model best is.number) (closes-so F.model G.model whole-there best is.number) (closes-so G.model F.model whole-back best is.number) l.kept.state is.says;
  }

  kept-kept : (numbers : LeafNumbers) (path : Path) (l : LeafKept) → HasLists F l.kept → HasKept F numbers path l → HasKept G numbers path l
  kept-kept numbers path l lists is = (is.0, (is.1.0, entry-kept path l.kept.mult l.kept.farkas lists.mult lists.farkas is.0 is.1.1))

  candidate-kept : (path : Path) (l : LeafKept) (d : Candidate) → HasLists F l.kept → IsCandidate F (region_leaf (path, l)) d → IsCandidate G (region_leaf (path, l)) d
  candidate-kept path l d lists is = record {
    state = is.state;
    number = is.number;
    number_is = own-number path l lists is.number is.number_is;
    id = is.id;
    leaf_number_is = is.leaf_number_is;
  }

  queued-kept : (queue : LeafQueue) (path : Path) (l : LeafKept) → HasLists F l.kept → IsQueued F queue path l → IsQueued G queue path l
  queued-kept queue path l lists (inl closed) = inl closed
  queued-kept queue path l lists (inr (d, (is, has))) = inr (d, (candidate-kept path l d lists is, has))

  -- ---- trees whose lists name what is there

  each-kept : (P Q : Path → LeafKept → Type 0) → ((p : Path) (l : LeafKept) → HasLists F l.kept → P p l → Q p l) → (tree : Plain) → HasNodeLists F tree → EachLeaf P [] tree → EachLeaf Q [] tree
  each-kept P Q w tree lists is =
      each-weaker (λ p l. HasLists F l.kept × P p l) Q (λ p l both. w p l both.0 both.1) [] tree
      (each_both (λ p l. HasLists F l.kept) P [] tree (each-lists F [] tree lists) is)

  some-kept : (P Q : Path → LeafKept → Type 0) → ((p : Path) (l : LeafKept) → HasLists F l.kept → P p l → Q p l) → (path : Path) (tree : Plain) → HasNodeLists F tree → SomeLeaf P path tree → SomeLeaf Q path tree
  some-kept P Q w path (Leaf l) lists is = w path l lists is
  some-kept P Q w path (Split kept j v left right) lists (inl is) = inl (some-kept P Q w (left_path path j v) left lists.1.0 is)
  some-kept P Q w path (Split kept j v left right) lists (inr is) = inr (some-kept P Q w (right_path path j v) right lists.1.1 is)

  queue-kept : (tree : Plain) (queue : LeafQueue) → HasNodeLists F tree → IsQueueOf F tree queue → IsQueueOf G tree queue
  queue-kept tree queue lists is = record {
    each = each-kept (IsQueued F queue) (IsQueued G queue) (queued-kept queue) tree lists is.each;
    only = λ d has. some-kept (λ p l. IsCandidate F (region_leaf (p, l)) d) (λ p l. IsCandidate G (region_leaf (p, l)) d) (λ p l own other. candidate-kept p l d own other) [] tree lists (is.only d has);
  }

  pub keeps-index : (best : Option ℚ) (tree : Plain) → HasNodeLists F tree → AreJudged F best tree → KeepsIndex F G best tree
  keeps-index best tree lists judged = record {
    judged = each-kept (λ p l. IsJudgedLeaf F best p l.kept) (λ p l. IsJudgedLeaf G best p l.kept) (judged-kept best) tree lists judged;
    numbers = λ numbers are. each-kept (HasKept F numbers) (HasKept G numbers) (kept-kept numbers) tree lists are;
    queue = λ queue is. queue-kept tree queue lists is;
  }

-- ---- an edit that touches no list, with which no cut turns

module _ (M N : Program) (e : Edit) (old new : List CutRow) (left : LeavesCuts M e) (pool : IsPoolOf M old) (edit_is : N ≡ edited M e) (after : IsPoolAfter M e old N new) (lives : (k : ℕ) → is_live old k ≡ is_live new k) where
  abbrev F : Formulation
  F = formulation M old

  abbrev G : Formulation
  G = formulation N new

  alike : (t : Touched) → touched_by M e ≡ Some t → AreAlikeBut t M N
  alike t is = subst (AreAlikeBut t M) (sym edit_is) (like_edits M e t is)

  alike-cuts : AreAlikeCuts old new
  alike-cuts = like_pools M N old new pool after.pool (sym (after.derivations ∙ derivations-left M e left (derivations_of old)))

  -- a row that the model does not have is none that a list names
  past : (p i : ℕ) → length M.rows ≤ p → i < length M.rows → not (nat_eq p i) ≡ true
  past p i beyond below = ap not (ne_eqb p i (λ same. omega (arith, same, beyond, below)))

  quiet-edit : TouchesNoList M (touched_by M e) → (t : Touched) × IsQuietChange t F G
  quiet-edit touches = by (touched_by M e) refl touches
    where
      by : (o : Option Touched) → touched_by M e ≡ o → TouchesNoList M o → (t : Touched) × IsQuietChange t F G
      by None is none = absurd none
      by (Some Nothing) is none = (Nothing, record { model = alike Nothing is; cuts = alike-cuts; costs = λ j. refl; columns = λ j. refl; rows = λ i below. refl; lives = λ k below. lives k })
      by (Some (OneRow row)) is none = (OneRow row, record { model = alike (OneRow row) is; cuts = alike-cuts; costs = λ j. refl; columns = λ j. refl; rows = λ i below. past row.0 i none below; lives = λ k below. lives k })
      by (Some (RowSides row)) is none = absurd none
      by (Some (OneCost col)) is none = absurd none
      by (Some (OneColumn col)) is none = absurd none

  pub edit-keeps : TouchesNoList M (touched_by M e) → (best : Option ℚ) (tree : Plain) → HasNodeLists F tree → AreJudged F best tree → KeepsIndex F G best tree
  edit-keeps none best tree lists judged = let q = quiet-edit none in keeps-index q.0 F G q.1 best tree lists judged
