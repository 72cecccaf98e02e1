-- One more cut: no list names it, so each leaf has the number that it had.
use Rattle.std.specs.Prelude.{◌≡◌, ◌↔◌, suc, ◌<◌, true, false, IsTrue, List, [], ◌∷◌, ◌++◌, length, map, Option, Ok, Err}
use Rattle.std.proofs.Common.{arith, inl, inr}
use Rattle.std.proofs.lemmas.Bool.{eqb-true}
use Rattle.std.proofs.lemmas.List.{length_push}
use Rattle.std.proofs.lemmas.List.Elements.{All-weaker, All-cons}
use Rattle.frac128.specs.Rational.{ℚ}
use Rattle.lp_model.specs.Regions.{Path}
use Rattle.lp_model.specs.Formulations.{Formulation, formulation}
use Rattle.lp_model.specs.declared.types.CutRow.{CutRow}
use Rattle.lp_model.specs.declared.types.Var.{Var}
use Rattle.lp_model.specs.declared.types.Var.TheVariants.{Col, Row, Cut}
use Rattle.lp_model.specs.declared.types.Basis.{Basis}
use Rattle.leaf_dual.specs.Dual.{Multipliers, is_cut}
use Rattle.leaf_dual.specs.Laws.{NamesNoCut}
use Rattle.leaf_dual.proofs.FurtherCut.{further_cut}
use Rattle.branch_tree.specs.Tree.{Leaf, Split, EachLeaf}
use Rattle.branch_tree.specs.Plain.{LeafKept, Plain}
use Rattle.leaf_judging.specs.declared.closing.LeafNumber.{LeafNumber}
use Rattle.leaf_judging.specs.declared.closing.LeafNumber.TheVariants.{Empty, Lag, Wide}
use Rattle.leaf_judging.specs.Closing.{IsRefuted, IsSetAside, IsNumber, IsJudgedLeaf}
use Rattle.search_parts.specs.Lists.{IsThere, IsActivityThere, NamesOnce, AreMultipliers, IsBasis, HasLists, HasNodeLists}
use Rattle.sound_searches.proofs.SoundLemmas.{each-weaker}
use Rattle.sound_searches.proofs.ClosedTree.{each_both}
use Rattle.sound_searches.proofs.PlaceLemmas.{each-lists}

-- ---- lists

module _ (F : Formulation) (c : CutRow) where
  abbrev G : Formulation
  G = formulation F.model (F.cuts ++ c ∷ [])

  there-more : (v : Var) → IsThere F v → IsThere G v
  there-more (Col col) h = h
  there-more (Row row) h = h
  there-more (Cut cut) h = let n = length_push F.cuts c in let w : cut.0 < length F.cuts = h in omega arith

  activity-more : (v : Var) → IsActivityThere F v → IsActivityThere G v
  activity-more (Col col) h = h
  activity-more (Row row) h = h
  activity-more (Cut cut) h = there-more (Cut cut) h

  names-more : (P Q : Var → Type 0) → ((v : Var) → P v → Q v) → (vs : List Var) → NamesOnce P vs → NamesOnce Q vs
  names-more P Q w vs h = record { each = All-weaker P Q w vs h.each; once = h.once }

  pub mult-more : (mult : Multipliers) → AreMultipliers F mult → AreMultipliers G mult
  mult-more mult h = names-more (IsActivityThere F) (IsActivityThere G) activity-more (map (λ (m : Var × ℚ). m.0) mult) h

  pub basis-more : (b : Basis) → IsBasis F b → IsBasis G b
  basis-more b h = record { basic = names-more (IsThere F) (IsThere G) there-more b.basic h.basic; high = names-more (IsThere F) (IsThere G) there-more b.high h.high }

  pub lists-more : (t : Plain) → HasNodeLists F t → HasNodeLists G t
  lists-more (Leaf l) h = record { mult = mult-more l.kept.mult h.mult; farkas = mult-more l.kept.farkas h.farkas; basis = basis-more l.kept.basis h.basis }
  lists-more (Split kept j v left right) h = (record { mult = mult-more kept.mult h.0.mult; basis = basis-more kept.basis h.0.basis }, (lists-more left h.1.0, lists-more right h.1.1))

  -- none of them names the new cut
  no-new : (mult : Multipliers) → AreMultipliers F mult → NamesNoCut mult (length F.cuts)
  no-new [] h = λ i d below. absurd (omega arith)
  no-new (m ∷ mult) h =
      All-cons (λ (n : Var × ℚ). ¬ IsTrue (is_cut n.0 (length F.cuts))) m mult (other m.0 (h.each 0 m.0 (omega arith)))
      (no-new mult (record { each = λ i d below. h.each (suc i) d (omega arith); once = λ i j d before below. h.once (suc i) (suc j) d (omega arith) (omega arith) }))
    where
      other : (v : Var) → IsActivityThere F v → ¬ IsTrue (is_cut v (length F.cuts))
      other (Col col) there t = there
      other (Row row) there t = let f : false ≡ true = t in cc
      other (Cut cut) there t = let w : cut.0 < length F.cuts = there in absurd (omega (arith, eqb-true cut.0 (length F.cuts) t))

  -- ---- numbers

  refuted-same : (path : Path) (farkas : Multipliers) → AreMultipliers F farkas → IsRefuted F path farkas ↔ IsRefuted G path farkas
  refuted-same path [] h = ((λ r. r), (λ r. r))
  refuted-same path (m ∷ ms) h =
      let none = no-new (m ∷ ms) h in (
        (λ r. (r.0, ((further_cut F c path (m ∷ ms) none (Ok r.0)).1.0 r.1.0, r.1.1))),
        (λ r. (r.0, ((further_cut F c path (m ∷ ms) none (Ok r.0)).1.1 r.1.0, r.1.1))),
      )

  aside-more : (path : Path) (farkas : Multipliers) → AreMultipliers F farkas → IsSetAside F path farkas → IsSetAside G path farkas
  aside-more path farkas h (inl empty) = inl empty
  aside-more path farkas h (inr refuted) = inr ((refuted-same path farkas h).0 refuted)

  pub aside-less : (path : Path) (farkas : Multipliers) → AreMultipliers F farkas → IsSetAside G path farkas → IsSetAside F path farkas
  aside-less path farkas h (inl empty) = inl empty
  aside-less path farkas h (inr refuted) = inr ((refuted-same path farkas h).1 refuted)

  pub number-more : (path : Path) (mult farkas : Multipliers) → AreMultipliers F mult → AreMultipliers F farkas → (n : LeafNumber) → IsNumber F path mult farkas n → IsNumber G path mult farkas n
  number-more path mult farkas own other Empty h = aside-more path farkas other h
  number-more path mult farkas own other (Lag v) h = ((λ aside. h.0 (aside-less path farkas other aside)), (further_cut F c path mult (no-new mult own) (Ok v)).0.0 h.1)
  number-more path mult farkas own other (Wide step) h = ((λ aside. h.0 (aside-less path farkas other aside)), (further_cut F c path mult (no-new mult own) (Err step)).0.0 h.1)

  -- ---- leaves

  pub judged-more : (t : Option ℚ) (path : Path) (l : LeafKept) → HasLists F l.kept → IsJudgedLeaf F t path l.kept → IsJudgedLeaf G t path l.kept
  judged-more t path l lists h = record {
    number = h.number;
    number_is = number-more path l.kept.mult l.kept.farkas lists.mult lists.farkas h.number h.number_is;
    says = h.says;
  }

  -- ---- trees whose lists name what is there

  pub each-more : (P Q : Path → LeafKept → Type 0) → ((p : Path) (l : LeafKept) → HasLists F l.kept → P p l → Q p l) → (t : Plain) → HasNodeLists F t → EachLeaf P [] t → EachLeaf Q [] t
  each-more P Q w t lists h =
      each-weaker (λ p l. HasLists F l.kept × P p l) Q (λ p l both. w p l both.0 both.1) [] t
      (each_both (λ p l. HasLists F l.kept) P [] t (each-lists F [] t lists) h)
