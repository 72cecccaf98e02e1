-- A search with one more cut is sound, and keeps its numbers and its queue: no list names the cut.
use Rattle.std.specs.Prelude.{◌≡◌, ℕ, zero, suc, ◌<◌, true, false, List, [], ◌∷◌, ◌++◌, length, pos, None, Some, Result, Ok, Err, IfOk, OnOk, OnErr}
use Rattle.std.proofs.Common.{refl, sym, ap, subst, ◌∙◌, arith, inl, inr, true≢false}
use Rattle.std.proofs.lemmas.Bool.{cases_order}
use Rattle.std.proofs.lemmas.List.{length_push}
use Rattle.std.proofs.lemmas.List.Elements.{All-push}
use Rattle.frac128.specs.Rational.{ℚ, int}
use Rattle.lp_model.specs.Cuts.{is_live}
use Rattle.lp_model.specs.CutTerms.{term_of}
use Rattle.lp_model.specs.Elements.{of_element}
use Rattle.lp_model.specs.Program.{Program}
use Rattle.lp_model.specs.Formulations.{Formulation, formulation}
use Rattle.lp_model.specs.declared.types.CutRow.{CutRow}
use Rattle.lp_model.specs.declared.types.Derivation.{Derivation}
use Rattle.lp_model.proofs.ElementLemmas.{of_element-past}
use Rattle.cover_cuts.specs.Cuts.{IsCutOf}
use Rattle.spared_leaves.specs.declared.touched.Touched.TheVariants.{Nothing}
use Rattle.spared_leaves.specs.Alike.{AreAlikeBut, AreAlikeCuts}
use Rattle.leaf_judging.specs.declared.numbers.LeafNumbers.{LeafNumbers}
use Rattle.leaf_judging.specs.declared.queue.LeafQueue.{LeafQueue}
use Rattle.search_parts.specs.Points.{target}
use Rattle.sound_searches.specs.Sound.{PlainSearch, formulation_of}
use Rattle.sound_searches.specs.Pool.{search_with_cut, AddsCut}
use Rattle.sound_searches.proofs.FurtherCut.{lists-more}
use Rattle.tree_edit.specs.Indexed.{IsIndexed}
use Rattle.tree_edit.specs.private.Staying.{KeepsIndex}
use Rattle.tree_edit.proofs.QuietChange.{IsQuietChange, keeps-index}

-- an element before a further one
before-push : {A B : Type 0} (d : B) (f : A → B) (xs : List A) (y : A) (k : ℕ) → k < length xs → of_element d f xs k ≡ of_element d f (xs ++ y ∷ []) k
before-push d f [] y k below = absurd (omega arith)
before-push d f (x ∷ xs) y zero below = refl
before-push d f (x ∷ xs) y (suc k) below = let h : k < length xs = omega arith in before-push d f xs y k h

-- a model is alike itself
alike-self : (M : Program) → AreAlikeBut Nothing M M
alike-self M = record {
  sense = refl;
  constant_is = refl;
  cost_is = λ j left. refl;
  columns = λ j left. record { there = ((λ h. h), (λ h. h)); low = refl; up = refl; integer = refl };
  rows = λ i left. record { there = ((λ h. h), (λ h. h)); low = refl; high = refl };
  entry = λ i j row column. refl;
}

module _ (cuts : List CutRow) (c : CutRow) where
  abbrev more : List CutRow
  more = cuts ++ c ∷ []

  live-more : (k : ℕ) → k < length cuts → is_live cuts k ≡ is_live more k
  live-more k below = before-push false (λ (d : CutRow). d.live) cuts c k below

  live-below : (k : ℕ) → is_live cuts k ≡ true → k < length cuts
  live-below k live = elim (cases_order k (length cuts)) [
    | inl e ↦ absurd (true≢false (sym live ∙ of_element-past false (λ (d : CutRow). d.live) cuts k (omega arith)))
    | inr o ↦ elim o [ inl below ↦ below | inr above ↦ absurd (true≢false (sym live ∙ of_element-past false (λ (d : CutRow). d.live) cuts k (omega arith))) ]
  ]

  cuts-alike : AreAlikeCuts cuts more
  cuts-alike k live after =
      let below = live-below k live in
      let count = length_push cuts c in
      record {
        there = ((λ h. omega (arith, h, count)), (λ h. below));
        high = before-push None (λ (d : CutRow). Some d.hi) cuts c k below;
        entry = λ j. before-push (int (pos 0)) (λ (d : CutRow). term_of j d.terms) cuts c k below;
      }

-- a further cut is none that a list names
quiet-cut : (F : Formulation) (c : CutRow) → IsQuietChange Nothing F (formulation F.model (F.cuts ++ c ∷ []))
quiet-cut F c = record {
  model = alike-self F.model;
  cuts = cuts-alike F.cuts c;
  costs = λ j. refl;
  columns = λ j. refl;
  rows = λ i below. refl;
  lives = live-more F.cuts c;
}

-- ---- the search

pub indexed-more : (S : PlainSearch) (c : CutRow) (values : List ℚ) (numbers : LeafNumbers) (queue : LeafQueue) → IsCutOf S.model c → length S.cuts < 10000 → IsIndexed S values numbers queue → IsIndexed (search_with_cut S c) values numbers queue
indexed-more S c values numbers queue is room h =
    let F = formulation_of S in
    let G : Formulation = formulation S.model (S.cuts ++ c ∷ []) in
    let t = S.tree.root in
    let lists = h.sound.tree.lists in
    let best = target S.model S.points in
    let count = length_push S.cuts c in
    let kept : KeepsIndex F G best t = keeps-index Nothing F G (quiet-cut F c) best t lists h.sound.judged in
    record {
      sound = record {
        tree = record { lawful = h.sound.tree.lawful; narrow = h.sound.tree.narrow; lists = lists-more F c t lists };
        judged = kept.judged;
        points = h.sound.points;
        few = h.sound.few;
        pool = All-push (IsCutOf S.model) S.cuts c h.sound.pool is;
        few_cuts = omega (arith, count);
      };
      values_are = h.values_are;
      numbers_are = kept.numbers numbers h.numbers_are;
      queue_is = kept.queue queue h.queue_is;
    }

-- ---- what `add` of its pool leaves

abbrev pub IsAdded : PlainSearch → Derivation → List CutRow → Type 0
IsAdded S d new = (c : CutRow) × ((new ≡ S.cuts ++ c ∷ []) × (c.from ≡ d) × IsCutOf S.model c)

abbrev pub with_pool : PlainSearch → List CutRow → PlainSearch
with_pool S cuts = record S { cuts = cuts }

pub indexed-add : (S : PlainSearch) (d : Derivation) (values : List ℚ) (numbers : LeafNumbers) (queue : LeafQueue) (new : List CutRow) → IsIndexed S values numbers queue → {A E : Type 0} (r : Result A E) → IfOk r (λ _. IsAdded S d new) → OnOk r (length S.cuts < 10000) → OnErr r (new ≡ S.cuts)
    → IsIndexed (with_pool S new) values numbers queue
indexed-add S d values numbers queue new h (Ok id) added room kept =
    subst (λ (cuts : List CutRow). IsIndexed (with_pool S cuts) values numbers queue) (sym added.1.0) (indexed-more S added.0 values numbers queue added.1.2 room h)
indexed-add S d values numbers queue new h (Err e) added room kept = subst (λ (cuts : List CutRow). IsIndexed (with_pool S cuts) values numbers queue) (sym kept) h

pub adds-cut : (S : PlainSearch) (d : Derivation) (new : List CutRow) → {A E : Type 0} (r : Result A E) → IfOk r (λ _. IsAdded S d new) → OnOk r (AddsCut S d (with_pool S new))
adds-cut S d new (Ok id) added = record { cut = added.0; from = added.1.1; is = added.1.2; new_is = ap (with_pool S) added.1.0 }
adds-cut S d new (Err e) added = added
