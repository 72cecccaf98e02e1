-- The lists of a tree without the cuts that go with an edit name what is there.
use Rattle.std.specs.Prelude.{◌≡◌, ◌≢◌, ℕ, suc, ◌-◌, Bool, true, false, List, [], ◌∷◌, get_or, map, filter, All}
use Rattle.std.proofs.Common.{refl, sym, ap, subst, arith}
use Rattle.std.proofs.lemmas.List.Elements.{All-filter, filter_passes, All-cons, All-nil}
use Rattle.std.proofs.lemmas.List.Kept.{AllPairs-filter}
use Rattle.frac128.specs.Rational.{ℚ}
use Rattle.lp_model.specs.Program.{Program}
use Rattle.lp_model.specs.Edits.{edited, EditFits}
use Rattle.lp_model.specs.Formulations.{formulation}
use Rattle.lp_model.specs.declared.types.CutId.{CutId}
use Rattle.lp_model.specs.declared.types.CutRow.{CutRow}
use Rattle.lp_model.specs.declared.types.Edit.{Edit}
use Rattle.lp_model.specs.declared.types.Var.{Var}
use Rattle.lp_model.specs.declared.types.Var.TheVariants.{Col, Row, Cut}
use Rattle.lp_model.specs.declared.types.Basis.{Basis}
use Rattle.branch_tree.specs.Tree.{Leaf, Split}
use Rattle.branch_tree.specs.Plain.{Plain}
use Rattle.branch_tree.specs.Numbered.{NumberedTree}
use Rattle.branch_tree.specs.Following.{gone_before, is_left, var_left, vars_left, mult_left, basis_left, branch_left, followed_edit, after_edit}
use Rattle.branch_tree.proofs.FollowLemmas.{each_split-left}
use Rattle.leaf_dual.specs.Dual.{Multipliers}
use Rattle.search_parts.specs.Lists.{IsThere, IsActivityThere, NamesOnce, AreMultipliers, IsBasis, HasNodeLists}
use Rattle.sound_searches.specs.Sound.{IsSoundTree}
use Rattle.tree_edit.proofs.FollowSound.{pairs-map, follow-same}
use Rattle.kept_cuts.specs.Kept.{gone_with, derivations_of, derivations_after}
use Rattle.kept_cuts.proofs.Counted.{places-apart, place-there}

-- ---- the lists of a tree

abbrev cut_place : Var → ℕ
cut_place (Col col) = 0
cut_place (Row row) = 0
cut_place (Cut cut) = cut.0

module _ (M N : Program) (e : Edit) (old new : List CutRow) (same : derivations_of new ≡ derivations_after M e (derivations_of old)) where
  abbrev gone : List CutId
  gone = gone_with M e old

  left-there : (v : Var) → IsThere (formulation N old) v → is_left gone v ≡ true → IsThere (formulation N new) (var_left gone v)
  left-there (Col col) h kept = h
  left-there (Row row) h kept = h
  left-there (Cut cut) h kept =
      place-there M e old new same cut.0 h kept

  left-activity : (v : Var) → IsActivityThere (formulation N old) v → is_left gone v ≡ true → IsActivityThere (formulation N new) (var_left gone v)
  left-activity (Col col) h kept = h
  left-activity (Row row) h kept = h
  left-activity (Cut cut) h kept = left-there (Cut cut) h kept

  abbrev IsOldLeft : Var → Type 0
  IsOldLeft v = IsThere (formulation N old) v × (is_left gone v ≡ true)

  left-once : (a b : Var) → IsOldLeft a → IsOldLeft b → var_left gone a ≡ var_left gone b → a ≡ b
  left-once (Col a) (Col b) p q h = h
  left-once (Col a) (Row b) p q h = cc
  left-once (Col a) (Cut b) p q h = cc
  left-once (Row a) (Col b) p q h = cc
  left-once (Row a) (Row b) p q h = h
  left-once (Row a) (Cut b) p q h = cc
  left-once (Cut a) (Col b) p q h = cc
  left-once (Cut a) (Row b) p q h = cc
  left-once (Cut a) (Cut b) p q h =
      let place : a.0 - gone_before gone a.0 ≡ b.0 - gone_before gone b.0 = ap cut_place h in
      ap (λ k. Cut (record { 0 = k })) (places-apart M e old a.0 b.0 p.0 q.0 p.1 q.1 place)

  all-mapped : (P Q : Var → Type 0) → ((v : Var) → P v → is_left gone v ≡ true → Q (var_left gone v)) → (vs : List Var) → All P vs → All (λ v. is_left gone v ≡ true) vs → All Q (map (var_left gone) vs)
  all-mapped P Q w [] p q = All-nil Q
  all-mapped P Q w (v ∷ vs) p q = All-cons Q (var_left gone v) (map (var_left gone) vs) (w v (p 0 v (omega arith)) (q 0 v (omega arith))) (all-mapped P Q w vs (λ i d b. p (suc i) d (omega arith)) (λ i d b. q (suc i) d (omega arith)))

  names-left : (P Q : Var → Type 0) → ((v : Var) → P v → is_left gone v ≡ true → Q (var_left gone v)) → ((v : Var) → P v → IsThere (formulation N old) v) → (vs : List Var) → NamesOnce P vs → NamesOnce Q (vars_left gone vs)
  names-left P Q w there vs h =
      let kept = filter (is_left gone) vs in
      let passed : All (λ v. is_left gone v ≡ true) kept = filter_passes (is_left gone) vs in
      let all : All P kept = All-filter (is_left gone) P vs h.each in
      record {
        each = all-mapped P Q w kept all passed;
        once = pairs-map old (var_left gone) IsOldLeft left-once kept (λ i d b. (there (get_or kept i d) (all i d b), passed i d b)) (AllPairs-filter (λ a b. a ≢ b) (is_left gone) vs h.once);
      }

  mult-vars-left : (mult : Multipliers) → map (λ (m : Var × ℚ). m.0) (mult_left gone mult) ≡ vars_left gone (map (λ (m : Var × ℚ). m.0) mult)
  mult-vars-left [] = refl
  mult-vars-left (m ∷ mult) = by (is_left gone m.0) refl (mult-vars-left mult)
    where
      by : (b : Bool) → is_left gone m.0 ≡ b → map (λ (d : Var × ℚ). d.0) (mult_left gone mult) ≡ vars_left gone (map (λ (d : Var × ℚ). d.0) mult)
          → map (λ (d : Var × ℚ). d.0) (map (λ (d : Var × ℚ). (var_left gone d.0, d.1)) (filter (λ (d : Var × ℚ). is_left gone d.0) (m ∷ mult))) ≡ map (var_left gone) (filter (is_left gone) (m.0 ∷ map (λ (d : Var × ℚ). d.0) mult))
      by true e h = rw e (ap (λ l. var_left gone m.0 ∷ l) h)
      by false e h = rw e h

  there-by-activity : (v : Var) → IsActivityThere (formulation N old) v → IsThere (formulation N old) v
  there-by-activity (Col col) h = absurd h
  there-by-activity (Row row) h = h
  there-by-activity (Cut cut) h = h

  mult-left : (mult : Multipliers) → AreMultipliers (formulation N old) mult → AreMultipliers (formulation N new) (mult_left gone mult)
  mult-left mult h =
      subst (NamesOnce (IsActivityThere (formulation N new))) (sym (mult-vars-left mult))
      (names-left (IsActivityThere (formulation N old)) (IsActivityThere (formulation N new)) left-activity there-by-activity (map (λ (m : Var × ℚ). m.0) mult) h)

  basis-left : (b : Basis) → IsBasis (formulation N old) b → IsBasis (formulation N new) (basis_left gone b)
  basis-left b h = record {
    basic = names-left (IsThere (formulation N old)) (IsThere (formulation N new)) left-there (λ v t. t) b.basic h.basic;
    high = names-left (IsThere (formulation N old)) (IsThere (formulation N new)) left-there (λ v t. t) b.high h.high;
  }

  lists-left : (t : Plain) → HasNodeLists (formulation N old) t → HasNodeLists (formulation N new) (branch_left gone t)
  lists-left (Leaf l) h = record { mult = mult-left l.kept.mult h.mult; farkas = mult-left l.kept.farkas h.farkas; basis = basis-left l.kept.basis h.basis }
  lists-left (Split kept j v left right) h = (record { mult = mult-left kept.mult h.0.mult; basis = basis-left kept.basis h.0.basis }, (lists-left left h.1.0, lists-left right h.1.1))

  pub sound-left : (t : Plain) → IsSoundTree (formulation N old) t → IsSoundTree (formulation N new) (branch_left gone t)
  sound-left t h = record { lawful = each_split-left gone _ t h.lawful; narrow = each_split-left gone _ t h.narrow; lists = lists-left t h.lists }

-- the tree that follows an edit fits the edited model, with the cuts that stay
pub follow-sound : (M : Program) (e : Edit) (old new : List CutRow) (T : NumberedTree) → EditFits M e → derivations_of new ≡ derivations_after M e (derivations_of old) → IsSoundTree (formulation M old) T.root
    → IsSoundTree (formulation (edited M e) new) (after_edit T M (gone_with M e old) e).root
follow-sound M e old new T fits same h = sound-left M (edited M e) e old new same (followed_edit T M e).root (follow-same old M e T fits h)
