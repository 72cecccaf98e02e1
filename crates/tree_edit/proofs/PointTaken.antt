-- A search with one more point: what its values come to, and that it stays sound and indexed.
use Rattle.std.specs.Prelude.{◌≡◌, ℕ, zero, suc, ◌+◌, ◌<◌, ◌≤◌, List, [], ◌∷◌, ◌++◌, length, map, drop, Option, Some, None, Result, Ok, Err, OnOk, OnErr}
use Rattle.std.proofs.Common.{refl, sym, subst, ap, ◌∙◌, arith, length-append}
use Rattle.std.proofs.lemmas.List.{map-append, length-map}
use Rattle.std.proofs.lemmas.List.Elements.{All-push}
use Rattle.frac128.specs.Rational.{ℚ}
use Rattle.lp_model.specs.Program.{Point, least_value}
use Rattle.branch_tree.specs.Tree.{Leaf, Split}
use Rattle.branch_tree.specs.Plain.{Plain}
use Rattle.branch_tree.specs.Leaves.{leaf_count, with_states}
use Rattle.branch_tree.specs.Numbered.{NumberedTree}
use Rattle.branch_tree.specs.Changes.{with_leaf_states}
use Rattle.branch_tree.specs.declared.node.LeafData.{LeafData}
use Rattle.branch_tree.proofs.StateLemmas.{leaves_with-states}
use Rattle.lp_model.specs.Regions.{Path}
use Rattle.leaf_judging.specs.Closing.{ClosesBy}
use Rattle.branch_tree.specs.declared.node.LeafState.{LeafState}
use Rattle.search_parts.specs.declared.points.Joined.{Joined}
use Rattle.leaf_judging.specs.Judged.{AreJudged, AreStates}
use Rattle.sound_searches.specs.Sound.{PlainSearch, formulation_of}
use Rattle.leaf_judging.specs.declared.numbers.LeafNumbers.{LeafNumbers}
use Rattle.leaf_judging.specs.declared.queue.LeafQueue.{LeafQueue}
use Rattle.leaf_judging.specs.Queued.{IsQueueOf, HasMultipliers}
use Rattle.tree_edit.specs.Indexed.{IsIndexed}
use Rattle.leaf_judging.proofs.NumberLemmas.{numbers-states}
use Rattle.sound_searches.proofs.SoundLemmas.{tree-states, is_at-states, own-states}
use Rattle.search_parts.specs.Points.{target, IsKeepable}
use Rattle.search_parts.specs.Joining.{IsWorst, IsPlaceWithin, list_without, AddsPoint, Joins}
use Rattle.tree_edit.specs.private.PlacingSteps.{JoinsPoint}
use Rattle.sound_searches.specs.Placing.{TakesPoint, ClosesWith, HasLeafAt}
use Rattle.search_parts.proofs.WorstLemmas.{map-without, all-without, few-without, least-target, worst_unique}

pub joins-point : (S : PlainSearch) (values : List ℚ) (x : Point) (v : ℚ) (joined : Joined) → IsKeepable S.model x → values ≡ map (least_value S.model 1) S.points → v ≡ least_value S.model 1 x → Joins values v joined → JoinsPoint S x joined
joins-point S values x v joined keepable are v_is h =
    let all_are : values ++ v ∷ [] ≡ map (least_value S.model 1) (S.points ++ x ∷ []) =
    ap (λ vs. vs ++ v ∷ []) are ∙ ap (λ u. map (least_value S.model 1) S.points ++ u ∷ []) v_is ∙ sym (map-append (least_value S.model 1) S.points (x ∷ [])) in
    let values_are : joined.values.items ≡ map (least_value S.model 1) (list_without (S.points ++ x ∷ []) joined.worst) =
    h.values_are ∙ ap (λ vs. list_without vs joined.worst) all_are ∙ sym (map-without (least_value S.model 1) (S.points ++ x ∷ []) joined.worst) in
    record {
      keepable = keepable;
      worst = subst (λ vs. IsWorst vs joined.worst) all_are h.worst;
      values_are = values_are;
      target_is = least-target S.model (list_without (S.points ++ x ∷ []) joined.worst) joined.values.items joined.target values_are h.target;
    }

-- the place that goes is one of the points'
place-within : (n : ℕ) (values : List ℚ) (worst : Option ℕ) → length values ≡ n → IsWorst values worst → IsPlaceWithin n worst
place-within n values None same h = tt
place-within n values (Some k) same h = let within : k < length values = h.1.within in omega arith

pub worst-within : (S : PlainSearch) (x : Point) (joined : Joined) → JoinsPoint S x joined → IsPlaceWithin (length (S.points ++ x ∷ [])) joined.worst
worst-within S x joined h = place-within (length (S.points ++ x ∷ [])) (map (least_value S.model 1) (S.points ++ x ∷ [])) joined.worst (length-map (S.points ++ x ∷ []) (least_value S.model 1)) h.worst

-- the search with the point and the states
pub kept-taken : (S : PlainSearch) (values : List ℚ) (numbers : LeafNumbers) (queue new : LeafQueue) (x : Point) (joined : Joined) (states : List LeafState) → IsIndexed S values numbers queue → JoinsPoint S x joined → AreStates (formulation_of S) joined.target S.tree.root states → IsQueueOf (formulation_of S) (with_states states S.tree.root) new
    → IsIndexed (record { model = S.model; cuts = S.cuts; tree = with_leaf_states S.tree states; points = list_without (S.points ++ x ∷ []) joined.worst }) joined.values.items numbers new
kept-taken S values numbers queue new x joined states kept h s q =
    let all_length : length (S.points ++ x ∷ []) ≡ length S.points + 1 = length-append S.points (x ∷ []) in
    record {
      sound = record {
        tree = tree-states (formulation_of S) states S.tree.root kept.sound.tree;
        judged = subst (λ t. AreJudged (formulation_of S) t (with_states states S.tree.root)) h.target_is s.judged;
        points = all-without (IsKeepable S.model) (S.points ++ x ∷ []) joined.worst (All-push (IsKeepable S.model) S.points x kept.sound.points h.keepable);
        few = few-without (S.points ++ x ∷ []) 100 (map (least_value S.model 1) (S.points ++ x ∷ [])) joined.worst (length-map (S.points ++ x ∷ []) (least_value S.model 1)) (let few : length S.points ≤ 100 = kept.sound.few in omega (arith, all_length)) refl h.worst;
        pool = kept.sound.pool;
        few_cuts = kept.sound.few_cuts;
      };
      values_are = h.values_are;
      numbers_are = numbers-states (formulation_of S) numbers states S.tree.root kept.numbers_are;
      queue_is = q;
    }

-- the search with the point and the same states, where the target stays
pub kept-added : (S : PlainSearch) (values : List ℚ) (numbers : LeafNumbers) (queue : LeafQueue) (x : Point) (joined : Joined) → IsIndexed S values numbers queue → JoinsPoint S x joined → joined.target ≡ target S.model S.points
    → IsIndexed (record { model = S.model; cuts = S.cuts; tree = S.tree; points = list_without (S.points ++ x ∷ []) joined.worst }) joined.values.items numbers queue
kept-added S values numbers queue x joined kept h same =
    let all_length : length (S.points ++ x ∷ []) ≡ length S.points + 1 = length-append S.points (x ∷ []) in
    record {
      sound = record {
        tree = kept.sound.tree;
        judged = subst (λ t. AreJudged (formulation_of S) t S.tree.root) (sym same ∙ h.target_is) kept.sound.judged;
        points = all-without (IsKeepable S.model) (S.points ++ x ∷ []) joined.worst (All-push (IsKeepable S.model) S.points x kept.sound.points h.keepable);
        few = few-without (S.points ++ x ∷ []) 100 (map (least_value S.model 1) (S.points ++ x ∷ [])) joined.worst (length-map (S.points ++ x ∷ []) (least_value S.model 1)) (let few : length S.points ≤ 100 = kept.sound.few in omega (arith, all_length)) refl h.worst;
        pool = kept.sound.pool;
        few_cuts = kept.sound.few_cuts;
      };
      values_are = h.values_are;
      numbers_are = kept.numbers_are;
      queue_is = kept.queue_is;
    }

-- the same of what a call leaves, which entered the point or kept all
pub kept-entered : (S : PlainSearch) (values : List ℚ) (numbers : LeafNumbers) (queue : LeafQueue) (x : Point) (joined : Joined) → IsIndexed S values numbers queue → JoinsPoint S x joined → joined.target ≡ target S.model S.points
    → {T E : Type 0} (r : Result T E) (points : List Point) (new : List ℚ) → OnOk r (points ≡ list_without (S.points ++ x ∷ []) joined.worst) → OnOk r (new ≡ joined.values.items) → OnErr r (points ≡ S.points) → OnErr r (new ≡ values)
    → IsIndexed (record { model = S.model; cuts = S.cuts; tree = S.tree; points = points }) new numbers queue
kept-entered S values numbers queue x joined kept h same (Ok u) points new put are _ _ =
    subst (λ (ps : List Point). IsIndexed (record { model = S.model; cuts = S.cuts; tree = S.tree; points = ps }) new numbers queue) (sym put)
    (subst (λ (vs : List ℚ). IsIndexed (record { model = S.model; cuts = S.cuts; tree = S.tree; points = list_without (S.points ++ x ∷ []) joined.worst }) vs numbers queue) (sym are) (kept-added S values numbers queue x joined kept h same))
kept-entered S values numbers queue x joined kept h same (Err e) points new _ _ put are =
    subst (λ (ps : List Point). IsIndexed (record { model = S.model; cuts = S.cuts; tree = S.tree; points = ps }) new numbers queue) (sym put)
    (subst (λ (vs : List ℚ). IsIndexed S vs numbers queue) (sym are) kept)

none_dropped : (n : ℕ) (u : Plain) → with_states [] u ≡ u → with_states (drop n []) u ≡ u
none_dropped zero u h = h
none_dropped (suc n) u h = h

-- no states leave each leaf's
pub no_states : (t : Plain) → with_states [] t ≡ t
no_states (Leaf l) = refl
no_states (Split kept j v left right) = λ i. Split kept j v (no_states left i) (none_dropped (leaf_count left) right (no_states right) i)

-- where the target stays, each leaf is judged against it as it is
pub taken-added : (S : PlainSearch) (values : List ℚ) (numbers : LeafNumbers) (queue : LeafQueue) (x : Point) (joined : Joined) → IsIndexed S values numbers queue → JoinsPoint S x joined → joined.target ≡ target S.model S.points
    → TakesPoint S x (record { model = S.model; cuts = S.cuts; tree = S.tree; points = list_without (S.points ++ x ∷ []) joined.worst })
taken-added S values numbers queue x joined kept h same = record {
  model = refl;
  cuts = refl;
  points = (joined.worst, (h.worst, refl));
  tree = record {
    states = [];
    tree = ap (λ r. let T : NumberedTree = record { root = r; last = S.tree.last; limit = S.tree.limit } in T) (sym (no_states S.tree.root));
    judged = subst (λ t. AreJudged (formulation_of S) t S.tree.root) (sym same ∙ h.target_is) kept.sound.judged;
  };
}

-- ---- once it is taken

module _ (S : PlainSearch) (x : Point) where
  pub not-closes_with : (path : Path) (kept : LeafData) (joined : Joined) → JoinsPoint S x joined → ¬ ClosesBy (formulation_of S) joined.target path kept → ¬ ClosesWith S x path kept
  not-closes_with path kept joined h not closes =
      let add : AddsPoint S.model S.points x closes.0 = closes.1.0 in
      let same : add.0 ≡ joined.worst = worst_unique (map (least_value S.model 1) (S.points ++ x ∷ [])) add.0 joined.worst add.1.0 h.worst in
      let are : closes.0 ≡ list_without (S.points ++ x ∷ []) joined.worst = add.1.1 ∙ ap (list_without (S.points ++ x ∷ [])) same in
      not (subst (λ t. ClosesBy (formulation_of S) t path kept) (ap (target S.model) are ∙ sym h.target_is) closes.1.1)

  -- the leaf stays where it was
  pub leaf-taken : (mid : PlainSearch) (id : ℕ) (path : Path) → TakesPoint S x mid → HasLeafAt S.tree id path → HasLeafAt mid.tree id path
  leaf-taken mid id path taken leaf = subst (λ (T : NumberedTree). HasLeafAt T id path) (sym taken.tree.tree) (record {
    has = leaves_with-states id taken.tree.states S.tree.root ∙ leaf.has;
    at = is_at-states id path taken.tree.states S.tree.root leaf.at;
  })

  pub own-taken : (mid : PlainSearch) (id : ℕ) (kept : LeafData) → TakesPoint S x mid → HasMultipliers id kept S.tree.root → HasMultipliers id kept mid.tree.root
  own-taken mid id kept taken own = subst (λ (T : NumberedTree). HasMultipliers id kept T.root) (sym taken.tree.tree) (own-states id kept taken.tree.states S.tree.root own)
