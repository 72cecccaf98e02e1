-- The cuts that the nodes of a search's tree name are those of its certificate.
-- Idea: the nodes are written with the places of cuts. A mark stands at the place k exactly where the number k + 1 is named, the places
-- of the marks rise, and the number of a cut is how many marks stand before its own, and one.
use Rattle.std.proofs.Common.{◌≡◌, ◌⊎◌, ℕ, zero, suc, ◌+◌, ◌<◌, ◌≤◌, Bool, true, false, List, [], ◌∷◌, ◌++◌, length, get_or, map, refl, sym, ap, subst, ◌∙◌, inl, inr, arith, append_assoc, append-nil, if◌then◌else◌}
use Rattle.std.specs.Prelude.{◌-◌, IsTrue, All, AllPairs, set, replicate}
use Rattle.std.proofs.lemmas.Bool.{cases_eq}
use Rattle.std.proofs.lemmas.List.{length-set, length-replicate, get_or-replicate, get_or-set_same, get_or-set_other, map-append}
use Rattle.std.proofs.lemmas.List.Elements.{All-append}
use Rattle.std.proofs.lemmas.List.Kept.{AllPairs-cons}
use Rattle.frac128.specs.Rational.{ℚ}
use Rattle.lp_model.specs.Cuts.{is_live}
use Rattle.lp_model.specs.Lawful.{row_name}
use Rattle.lp_model.specs.Regions.{Path}
use Rattle.lp_model.specs.Formulations.{Formulation}
use Rattle.lp_model.specs.declared.types.CutRow.{CutRow}
use Rattle.lp_model.specs.declared.types.Var.{Var}
use Rattle.lp_model.specs.declared.types.Var.TheVariants.{Row, Col as ColVar, Cut}
use Rattle.leaf_dual.specs.Dual.{Multipliers}
use Rattle.branch_tree.specs.Tree.{Leaf, Split, left_path, right_path}
use Rattle.branch_tree.specs.Plain.{Plain}
use Rattle.kept_cuts.specs.Places.{index_among}
use Rattle.sound_searches.specs.Sound.{PlainSearch, formulation_of}
use Rattle.cert_text.specs.declared.cert.CertMult.{CertMult}
use Rattle.cert_text.specs.declared.cert.CertMult.TheVariants as mult
use Rattle.cert_text.specs.declared.cert.CertNode.{CertNode}
use Rattle.cert_text.specs.declared.cert.CertNode.TheVariants as node
use Rattle.cert_text.specs.Tree.{CertTree, certificate_nodes}
use Rattle.cert_text.specs.Tree.{Bound as CertBound, Farkas as CertFarkas, Empty as CertEmpty, Split as CertSplit}
use Rattle.tree_cert.specs.Certificates.{IsTreeOf, IsProofOf}
use Rattle.tree_cert.specs.Cuts.{named_cuts, used_number, mult_named, mults_named, node_mults, IsOfFirst, IsOfCut, NameNumber, StandsAmong}
use Rattle.tree_cert.specs.private.Marked.{mark_of, marks_of, marks_in, NodeNamesFirst, place_if, places_of, count_with, counts_of, count_all, renumbered, renumbered_node}
use Rattle.tree_cert.specs.private.Walked.{AreOfTree}
use Rattle.tree_cert.proofs.NameLaws.{all_cons, all_none, all_first, all_rest}
use Rattle.tree_cert.proofs.MultLaws.{all_split, other_index, same_index}
use Rattle.tree_cert.proofs.ChosenLaws.{live_there}

-- ---- what is named counts

abbrev IsOfLive : List CutRow → CertMult → Type 0
IsOfLive cuts (mult.Row name v) = Unit {0}
IsOfLive cuts (mult.Cut k v) = (0 < k) × IsTrue (is_live cuts (k - 1))

abbrev NodeNamesLive : List CutRow → CertNode → Type 0
NodeNamesLive cuts c = All (IsOfLive cuts) (node_mults c)

module _ (F : Formulation) where
  live_one : (x : Var) (v : ℚ) → All (IsOfLive F.cuts) (mult_named F suc x v)
  live_one (Row row) v = all_cons (IsOfLive F.cuts) (mult.Row (row_name F.model row.0) v) [] tt (all_none (IsOfLive F.cuts))
  live_one (ColVar col) v = all_none (IsOfLive F.cuts)
  live_one (Cut cut) v = by (is_live F.cuts cut.0) refl
    where
      back : cut.0 ≡ suc cut.0 - 1
      back = omega arith

      by : (b : Bool) → is_live F.cuts cut.0 ≡ b → All (IsOfLive F.cuts) (if b then mult.Cut (suc cut.0) v ∷ [] else [])
      by true on = all_cons (IsOfLive F.cuts) (mult.Cut (suc cut.0) v) [] (omega arith, subst (λ k. IsTrue (is_live F.cuts k)) back on) (all_none (IsOfLive F.cuts))
      by false off = all_none (IsOfLive F.cuts)

  live_list : (list : Multipliers) → All (IsOfLive F.cuts) (mults_named F suc list)
  live_list [] = all_none (IsOfLive F.cuts)
  live_list (m ∷ list) = All-append (IsOfLive F.cuts) (mult_named F suc m.0 m.1) (mults_named F suc list) (live_one m.0 m.1) (live_list list)

  live_leaf : (c : CertNode) (list : Multipliers) → node_mults c ≡ mults_named F suc list → All (NodeNamesLive F.cuts) (c ∷ [])
  live_leaf c list same = all_cons (NodeNamesLive F.cuts) c [] (subst (All (IsOfLive F.cuts)) (sym same) (live_list list)) (all_none (NodeNamesLive F.cuts))

  live_tree : (path : Path) (s : Plain) (tree : CertTree) → IsTreeOf F suc path s tree → All (NodeNamesLive F.cuts) (certificate_nodes tree)
  live_tree path (Leaf l) (CertBound mults) like = live_leaf (node.Bound mults) l.kept.mult like.1.1
  live_tree path (Leaf l) (CertFarkas mults) like = live_leaf (node.Farkas mults) l.kept.farkas like.1.1
  live_tree path (Leaf l) CertEmpty like = live_leaf node.Empty [] refl
  live_tree path (Leaf l) (CertSplit col w first second) like = absurd like
  live_tree path (Split kept j v left right) (CertBound mults) like = absurd like
  live_tree path (Split kept j v left right) (CertFarkas mults) like = absurd like
  live_tree path (Split kept j v left right) CertEmpty like = absurd like
  live_tree path (Split kept j v left right) (CertSplit col w first second) like =
      all_cons (NodeNamesLive F.cuts) (node.Split col w) (certificate_nodes first ++ certificate_nodes second) (all_none (IsOfLive F.cuts))
      (All-append (NodeNamesLive F.cuts) (certificate_nodes first) (certificate_nodes second) (live_tree (left_path path j v) left first like.1.1.0) (live_tree (right_path path j v) right second like.1.1.1))

  -- so its place is one of the pool
  first_one : (m : CertMult) → IsOfLive F.cuts m → IsOfFirst (length F.cuts) m
  first_one (mult.Row name v) h = tt
  first_one (mult.Cut k v) h = let below : k - 1 < length F.cuts = live_there F.cuts (k - 1) h.1 in let some : 0 < k = h.0 in (some, omega (arith, some, below))

  first_all : (nodes : List CertNode) → All (NodeNamesLive F.cuts) nodes → All (NodeNamesFirst (length F.cuts)) nodes
  first_all nodes h i d below j e inside = first_one (get_or (node_mults (get_or nodes i d)) j e) (h i d below j e inside)

pub names_first : (F : Formulation) (s : Plain) (certs : List CertNode) → AreOfTree F suc s certs → All (NodeNamesFirst (length F.cuts)) certs
names_first F s certs of = first_all F certs (subst (All (NodeNamesLive F.cuts)) of.nodes (live_tree F [] s of.tree of.like))

-- ---- marks

record AreMarks (n : ℕ) (marks : List Bool) (Named : ℕ → Type 0) : Type 0 where
  size : length marks ≡ n
  to : (k : ℕ) → k < n → get_or marks k false ≡ true → Named k
  from : (k : ℕ) → k < n → Named k → get_or marks k false ≡ true

same_marks : (n : ℕ) (marks : List Bool) (P Q : ℕ → Type 0) → ((k : ℕ) → P k → Q k) → ((k : ℕ) → Q k → P k) → AreMarks n marks P → AreMarks n marks Q
same_marks n marks P Q f g h = record { size = h.size; to = λ k below on. f k (h.to k below on); from = λ k below q. h.from k below (g k q) }

mark_one : (n : ℕ) (marks : List Bool) (P : ℕ → Type 0) (m : CertMult) → IsOfFirst n m → AreMarks n marks P → AreMarks n (mark_of marks m) (λ k. P k ⊎ IsOfCut (suc k) m)
mark_one n marks P (mult.Row name v) within h = same_marks n marks P (λ k. P k ⊎ ⊥) (λ k p. inl p) (λ k s. elim s [ inl p ↦ p | inr none ↦ absurd none ]) h
mark_one n marks P (mult.Cut c v) within h =
    let some : 0 < c = within.0 in
    let most : c ≤ n = within.1 in
    let size : length marks ≡ n = h.size in
    let inside : c - 1 < length marks = omega (arith, some, most, size) in
    record {
      size = length-set marks (c - 1) true ∙ h.size;
      to = λ k below on. elim (cases_eq k (c - 1)) [
        | inl same ↦ inr (omega (arith, same, some))
        | inr other ↦ inl (h.to k below (sym (get_or-set_other marks (c - 1) k true false other) ∙ on))
      ];
      from = λ k below s. elim (cases_eq k (c - 1)) [
        | inl same ↦ ap (λ j. get_or (set marks (c - 1) true) j false) same ∙ get_or-set_same marks (c - 1) true false inside
        | inr other ↦ elim s [
          | inl p ↦ get_or-set_other marks (c - 1) k true false other ∙ h.from k below p
          | inr is ↦ absurd (other (let e : c ≡ suc k = is in omega (arith, e)))
        ]
      ];
    }

mark_list : (n : ℕ) (marks : List Bool) (P : ℕ → Type 0) (mults : List CertMult) → All (IsOfFirst n) mults → AreMarks n marks P → AreMarks n (marks_of marks mults) (λ k. P k ⊎ NameNumber (suc k) mults)
mark_list n marks P [] within h = same_marks n marks P (λ k. P k ⊎ ⊥) (λ k p. inl p) (λ k s. elim s [ inl p ↦ p | inr none ↦ absurd none ]) h
mark_list n marks P (m ∷ mults) within h =
    same_marks n (marks_of (mark_of marks m) mults) (λ k. (P k ⊎ IsOfCut (suc k) m) ⊎ NameNumber (suc k) mults) (λ k. P k ⊎ (IsOfCut (suc k) m ⊎ NameNumber (suc k) mults))
    (λ k s. elim s [ inl both ↦ elim both [ inl p ↦ inl p | inr is ↦ inr (inl is) ] | inr later ↦ inr (inr later) ])
    (λ k s. elim s [ inl p ↦ inl (inl p) | inr more ↦ elim more [ inl is ↦ inl (inr is) | inr later ↦ inr later ] ])
    (mark_list n (mark_of marks m) (λ k. P k ⊎ IsOfCut (suc k) m) mults (all_rest (IsOfFirst n) m mults within) (mark_one n marks P m (all_first (IsOfFirst n) m mults within) h))

mark_nodes : (n : ℕ) (marks : List Bool) (P : ℕ → Type 0) (nodes : List CertNode) → All (NodeNamesFirst n) nodes → AreMarks n marks P → AreMarks n (marks_in marks nodes) (λ k. P k ⊎ StandsAmong (suc k) nodes)
mark_nodes n marks P [] within h = same_marks n marks P (λ k. P k ⊎ ⊥) (λ k p. inl p) (λ k s. elim s [ inl p ↦ p | inr none ↦ absurd none ]) h
mark_nodes n marks P (c ∷ nodes) within h =
    same_marks n (marks_in (marks_of marks (node_mults c)) nodes) (λ k. (P k ⊎ NameNumber (suc k) (node_mults c)) ⊎ StandsAmong (suc k) nodes) (λ k. P k ⊎ (NameNumber (suc k) (node_mults c) ⊎ StandsAmong (suc k) nodes))
    (λ k s. elim s [ inl both ↦ elim both [ inl p ↦ inl p | inr is ↦ inr (inl is) ] | inr later ↦ inr (inr later) ])
    (λ k s. elim s [ inl p ↦ inl (inl p) | inr more ↦ elim more [ inl is ↦ inl (inr is) | inr later ↦ inr later ] ])
    (mark_nodes n (marks_of marks (node_mults c)) (λ k. P k ⊎ NameNumber (suc k) (node_mults c)) nodes (all_rest (NodeNamesFirst n) c nodes within)
    (mark_list n marks P (node_mults c) (all_first (NodeNamesFirst n) c nodes within) h))

no_marks : (n : ℕ) → AreMarks n (replicate n false) (λ k. ⊥)
no_marks n = record {
  size = length-replicate n false;
  to = λ k below on. let f : false ≡ true = sym (get_or-replicate n k false false below) ∙ on in absurd (cc);
  from = λ k below none. absurd none;
}

all_marks : (n : ℕ) (nodes : List CertNode) → All (NodeNamesFirst n) nodes → AreMarks n (marks_in (replicate n false) nodes) (λ k. StandsAmong (suc k) nodes)
all_marks n nodes within =
    same_marks n (marks_in (replicate n false) nodes) (λ k. ⊥ ⊎ StandsAmong (suc k) nodes) (λ k. StandsAmong (suc k) nodes) (λ k s. elim s [ inl none ↦ absurd none | inr h ↦ h ]) (λ k h. inr h)
    (mark_nodes n (replicate n false) (λ k. ⊥) nodes within (no_marks n))

-- ---- the places of the marks, and how many stand before each

-- a marked place stands among them behind as many as are counted
record IsFound (k n : ℕ) (marks : List Bool) (j : ℕ) : Type 0 where
  pub count : get_or (counts_of n marks) j 0 ≡ n + index_among (k + j) (places_of k marks)
  pub inside : index_among (k + j) (places_of k marks) < length (places_of k marks)

plus_suc : (a x : ℕ) → suc a + x ≡ a + suc x
plus_suc a x = omega arith

found : (k n : ℕ) (marks : List Bool) (j : ℕ) → j < length marks → get_or marks j false ≡ true → IsFound k n marks j
found k n [] j below on = absurd (omega arith)
found k n (b ∷ marks) zero below on = by b on
  where
    here : k + 0 ≡ k
    here = omega arith

    none : n ≡ n + 0
    none = omega arith

    first : index_among (k + 0) (k ∷ places_of (suc k) marks) ≡ 0
    first = ap (λ p. index_among p (k ∷ places_of (suc k) marks)) here ∙ ap (λ t. if t then 0 else suc (index_among k (places_of (suc k) marks))) (same_index k)

    some : 0 < suc (length (places_of (suc k) marks))
    some = omega arith

    by : (t : Bool) → t ≡ true → IsFound k n (t ∷ marks) zero
    by true e = record { count = none ∙ ap (λ i. n + i) (sym first); inside = subst (λ i. i < suc (length (places_of (suc k) marks))) (sym first) some }
    by false e = let f : false ≡ true = e in absurd (cc)
found k n (b ∷ marks) (suc j) below on = by b (found (suc k) (count_with n b) marks j (omega (arith, below)) on)
  where
    next : suc k + j ≡ k + suc j
    next = omega arith

    past : index_among (k + suc j) (k ∷ places_of (suc k) marks) ≡ suc (index_among (k + suc j) (places_of (suc k) marks))
    past = ap (λ t. if t then 0 else suc (index_among (k + suc j) (places_of (suc k) marks))) (other_index k (k + suc j) (λ e. omega (arith, e)))

    moved : index_among (suc k + j) (places_of (suc k) marks) ≡ index_among (k + suc j) (places_of (suc k) marks)
    moved = ap (λ p. index_among p (places_of (suc k) marks)) next

    up : (a b : ℕ) → a < b → suc a < suc b
    up a b less = omega (arith, less)

    by : (t : Bool) → IsFound (suc k) (count_with n t) marks j → IsFound k n (t ∷ marks) (suc j)
    by true h = record {
      count = h.count ∙ ap (λ i. suc n + i) moved ∙ plus_suc n (index_among (k + suc j) (places_of (suc k) marks)) ∙ ap (λ i. n + i) (sym past);
      inside =
          subst (λ i. i < suc (length (places_of (suc k) marks))) (sym past)
          (up (index_among (k + suc j) (places_of (suc k) marks)) (length (places_of (suc k) marks)) (subst (λ i. i < length (places_of (suc k) marks)) moved h.inside));
    }
    by false h = record { count = h.count ∙ ap (λ i. n + i) moved; inside = subst (λ i. i < length (places_of (suc k) marks)) moved h.inside }

-- each of the places has a mark
all_places : (P : ℕ → Type 0) (k : ℕ) (marks : List Bool) → ((j : ℕ) → j < length marks → get_or marks j false ≡ true → P (k + j)) → All P (places_of k marks)
all_places P k [] h = all_none P
all_places P k (b ∷ marks) h = by b (h 0 (omega arith)) (all_places P (suc k) marks (λ j below on. subst P (next j) (h (suc j) (omega (arith, below)) on)))
  where
    next : (j : ℕ) → k + suc j ≡ suc k + j
    next j = omega arith

    here : k + 0 ≡ k
    here = omega arith

    by : (t : Bool) → (t ≡ true → P (k + 0)) → All P (places_of (suc k) marks) → All P (place_if t k ++ places_of (suc k) marks)
    by true own rest = all_cons P k (places_of (suc k) marks) (subst P here (own refl)) rest
    by false own rest = rest

rising_places : (k : ℕ) (marks : List Bool) → AllPairs (λ a b. a < b) (places_of k marks)
rising_places k [] = λ i j d early late. absurd (omega (arith, late))
rising_places k (b ∷ marks) = by b (all_places (λ p. k < p) (suc k) marks (λ j below on. omega arith)) (rising_places (suc k) marks)
  where
    by : (t : Bool) → All (λ p. k < p) (places_of (suc k) marks) → AllPairs (λ a b. a < b) (places_of (suc k) marks) → AllPairs (λ a b. a < b) (place_if t k ++ places_of (suc k) marks)
    by true later rest = AllPairs-cons (λ a b. a < b) k (places_of (suc k) marks) later rest
    by false later rest = rest

-- and each index is that of a mark
record HasMark (k : ℕ) (marks : List Bool) (i : ℕ) : Type 0 where
  pub place : ℕ
  pub below : place < length marks
  pub on : get_or marks place false ≡ true
  pub is : index_among (k + place) (places_of k marks) ≡ i

has_mark : (k : ℕ) (marks : List Bool) (i : ℕ) → i < length (places_of k marks) → HasMark k marks i
has_mark k [] i below = absurd (omega arith)
has_mark k (b ∷ marks) i below = by b i below (λ i w. has_mark (suc k) marks i w)
  where
    here : k + 0 ≡ k
    here = omega arith

    by : (t : Bool) (i : ℕ) → i < length (place_if t k ++ places_of (suc k) marks) → ((i : ℕ) → i < length (places_of (suc k) marks) → HasMark (suc k) marks i) → HasMark k (t ∷ marks) i
    by true zero within later = record {
      place = 0;
      below = omega arith;
      on = refl;
      is = ap (λ p. index_among p (k ∷ places_of (suc k) marks)) here ∙ ap (λ s. if s then 0 else suc (index_among k (places_of (suc k) marks))) (same_index k);
    }
    by true (suc i) within later =
        let inside : suc i < suc (length (places_of (suc k) marks)) = within in
        let h = later i (omega (arith, inside)) in
        let w : h.place < length marks = h.below in
        let next : k + suc h.place ≡ suc k + h.place = omega arith in
        record {
          place = suc h.place;
          below = omega (arith, w);
          on = h.on;
          is =
              ap (λ s. if s then 0 else suc (index_among (k + suc h.place) (places_of (suc k) marks))) (other_index k (k + suc h.place) (λ e. omega (arith, e)))
              ∙ ap suc (ap (λ p. index_among p (places_of (suc k) marks)) next ∙ h.is);
        }
    by false i within later =
        let h = later i within in
        let w : h.place < length marks = h.below in
        let next : k + suc h.place ≡ suc k + h.place = omega arith in
        record { place = suc h.place; below = omega (arith, w); on = h.on; is = ap (λ p. index_among p (places_of (suc k) marks)) next ∙ h.is }

-- ---- nodes by the numbers of marked cuts

module _ (marks : List Bool) where
  abbrev C : List ℕ
  C = counts_of 0 marks

  abbrev U : List ℕ
  U = places_of 0 marks

  count_is : (j : ℕ) → j < length marks → get_or marks j false ≡ true → get_or C j 0 ≡ index_among j U
  count_is j below on =
      let h = found 0 0 marks j below on in
      let zero_more : 0 + index_among (0 + j) U ≡ index_among (0 + j) U = omega arith in
      let same : 0 + j ≡ j = omega arith in
      h.count ∙ zero_more ∙ ap (λ p. index_among p U) same

  index_inside : (j : ℕ) → j < length marks → get_or marks j false ≡ true → index_among j U < length U
  index_inside j below on = let same : 0 + j ≡ j = omega arith in subst (λ p. index_among p U < length U) same (found 0 0 marks j below on).inside

  abbrev IsMarked : CertMult → Type 0
  IsMarked (mult.Row name v) = Unit {0}
  IsMarked (mult.Cut k v) = (0 < k) × ((k - 1 < length marks) × (get_or marks (k - 1) false ≡ true))

  abbrev NodeIsMarked : CertNode → Type 0
  NodeIsMarked c = All IsMarked (node_mults c)

  -- ---- a list, written with places and with numbers

  same_one : (F : Formulation) (x : Var) (v : ℚ) → All IsMarked (mult_named F suc x v) → map (renumbered C) (mult_named F suc x v) ≡ mult_named F (used_number U) x v
  same_one F (Row row) v marked = refl
  same_one F (ColVar col) v marked = refl
  same_one F (Cut cut) v marked = by (is_live F.cuts cut.0) marked
    where
      back : suc cut.0 - 1 ≡ cut.0
      back = omega arith

      by : (b : Bool) → All IsMarked (if b then mult.Cut (suc cut.0) v ∷ [] else []) → map (renumbered C) (if b then mult.Cut (suc cut.0) v ∷ [] else []) ≡ (if b then mult.Cut (used_number U cut.0) v ∷ [] else [])
      by true h =
          let m : (0 < suc cut.0) × ((suc cut.0 - 1 < length marks) × (get_or marks (suc cut.0 - 1) false ≡ true)) = all_first IsMarked (mult.Cut (suc cut.0) v) [] h in
          let below : cut.0 < length marks = subst (λ k. k < length marks) back m.1.0 in
          let on : get_or marks cut.0 false ≡ true = subst (λ k. get_or marks k false ≡ true) back m.1.1 in
          ap (λ k. mult.Cut (suc (get_or C k 0)) v ∷ []) back ∙ ap (λ k. mult.Cut (suc k) v ∷ []) (count_is cut.0 below on)
      by false h = refl

  same_list : (F : Formulation) (list : Multipliers) → All IsMarked (mults_named F suc list) → map (renumbered C) (mults_named F suc list) ≡ mults_named F (used_number U) list
  same_list F [] marked = refl
  same_list F (m ∷ list) marked =
      let parts = all_split IsMarked (mult_named F suc m.0 m.1) (mults_named F suc list) marked in
      let first = same_one F m.0 m.1 parts.0 in
      let rest = same_list F list parts.1 in
      map-append (renumbered C) (mult_named F suc m.0 m.1) (mults_named F suc list) ∙ (λ i. first i ++ rest i)

  -- ---- the tree

  abbrev renumbered_tree : CertTree → CertTree
  renumbered_tree (CertBound mults) = CertBound (map (renumbered C) mults)
  renumbered_tree (CertFarkas mults) = CertFarkas (map (renumbered C) mults)
  renumbered_tree CertEmpty = CertEmpty
  renumbered_tree (CertSplit col v left right) = CertSplit col v (renumbered_tree left) (renumbered_tree right)

  nodes_same : (tree : CertTree) → certificate_nodes (renumbered_tree tree) ≡ map (renumbered_node C) (certificate_nodes tree)
  nodes_same (CertBound mults) = refl
  nodes_same (CertFarkas mults) = refl
  nodes_same CertEmpty = refl
  nodes_same (CertSplit col v left right) =
      let first = nodes_same left in
      let second = nodes_same right in
      (λ i. node.Split col v ∷ (first i ++ second i)) ∙ ap (λ l. node.Split col v ∷ l) (sym (map-append (renumbered_node C) (certificate_nodes left) (certificate_nodes right)))

  tree_like : (F : Formulation) (path : Path) (s : Plain) (tree : CertTree) → All NodeIsMarked (certificate_nodes tree) → IsTreeOf F suc path s tree → IsTreeOf F (used_number U) path s (renumbered_tree tree)
  tree_like F path (Leaf l) (CertBound mults) marked like =
      (like.0, (like.1.0, ap (map (renumbered C)) like.1.1 ∙ same_list F l.kept.mult (subst (All IsMarked) like.1.1 (all_first NodeIsMarked (node.Bound mults) [] marked))))
  tree_like F path (Leaf l) (CertFarkas mults) marked like =
      (like.0, (like.1.0, ap (map (renumbered C)) like.1.1 ∙ same_list F l.kept.farkas (subst (All IsMarked) like.1.1 (all_first NodeIsMarked (node.Farkas mults) [] marked))))
  tree_like F path (Leaf l) CertEmpty marked like = like
  tree_like F path (Leaf l) (CertSplit col w first second) marked like = absurd like
  tree_like F path (Split kept j v left right) (CertBound mults) marked like = absurd like
  tree_like F path (Split kept j v left right) (CertFarkas mults) marked like = absurd like
  tree_like F path (Split kept j v left right) CertEmpty marked like = absurd like
  tree_like F path (Split kept j v left right) (CertSplit col w first second) marked like =
      let parts = all_split NodeIsMarked (certificate_nodes first) (certificate_nodes second) (all_rest NodeIsMarked (node.Split col w) (certificate_nodes first ++ certificate_nodes second) marked) in
      (like.0, (like.1.0, (tree_like F (left_path path j v) left first parts.0 like.1.1.0, tree_like F (right_path path j v) right second parts.1 like.1.1.1)))

  -- ---- which numbers stand there

  within_one : (m : CertMult) → IsMarked m → IsOfFirst (length U) (renumbered C m)
  within_one (mult.Row name v) marked = tt
  within_one (mult.Cut k v) marked =
      let same : get_or C (k - 1) 0 ≡ index_among (k - 1) U = count_is (k - 1) marked.1.0 marked.1.1 in
      let inside : index_among (k - 1) U < length U = index_inside (k - 1) marked.1.0 marked.1.1 in
      (omega arith, omega (arith, same, inside))

  within_list : (mults : List CertMult) → All IsMarked mults → All (IsOfFirst (length U)) (map (renumbered C) mults)
  within_list [] marked = all_none (IsOfFirst (length U))
  within_list (m ∷ mults) marked = all_cons (IsOfFirst (length U)) (renumbered C m) (map (renumbered C) mults) (within_one m (all_first IsMarked m mults marked)) (within_list mults (all_rest IsMarked m mults marked))

  within_node : (c : CertNode) → NodeIsMarked c → NodeNamesFirst (length U) (renumbered_node C c)
  within_node (node.Split col v) marked = all_none (IsOfFirst (length U))
  within_node (node.Bound mults) marked = within_list mults marked
  within_node (node.Farkas mults) marked = within_list mults marked
  within_node node.Empty marked = all_none (IsOfFirst (length U))

  within_nodes : (nodes : List CertNode) → All NodeIsMarked nodes → All (NodeNamesFirst (length U)) (map (renumbered_node C) nodes)
  within_nodes [] marked = all_none (NodeNamesFirst (length U))
  within_nodes (c ∷ nodes) marked =
      all_cons (NodeNamesFirst (length U)) (renumbered_node C c) (map (renumbered_node C) nodes) (within_node c (all_first NodeIsMarked c nodes marked)) (within_nodes nodes (all_rest NodeIsMarked c nodes marked))

  stands_one : (j : ℕ) (m : CertMult) → IsOfCut (suc j) m → IsOfCut (suc (get_or C j 0)) (renumbered C m)
  stands_one j (mult.Row name v) is = is
  stands_one j (mult.Cut k v) is = let e : k ≡ suc j = is in let same : k - 1 ≡ j = omega (arith, e) in ap (λ i. suc (get_or C i 0)) same

  stands_list : (j : ℕ) (mults : List CertMult) → NameNumber (suc j) mults → NameNumber (suc (get_or C j 0)) (map (renumbered C) mults)
  stands_list j [] h = h
  stands_list j (m ∷ mults) (inl is) = inl (stands_one j m is)
  stands_list j (m ∷ mults) (inr later) = inr (stands_list j mults later)

  stands_node : (j : ℕ) (c : CertNode) → NameNumber (suc j) (node_mults c) → NameNumber (suc (get_or C j 0)) (node_mults (renumbered_node C c))
  stands_node j (node.Split col v) h = h
  stands_node j (node.Bound mults) h = stands_list j mults h
  stands_node j (node.Farkas mults) h = stands_list j mults h
  stands_node j node.Empty h = h

  stands_nodes : (j : ℕ) (nodes : List CertNode) → StandsAmong (suc j) nodes → StandsAmong (suc (get_or C j 0)) (map (renumbered_node C) nodes)
  stands_nodes j [] h = h
  stands_nodes j (c ∷ nodes) (inl here) = inl (stands_node j c here)
  stands_nodes j (c ∷ nodes) (inr later) = inr (stands_nodes j nodes later)

  -- ---- what is named is marked

  module _ (n : ℕ) (Q : ℕ → Type 0) (size : length marks ≡ n) (on : (k : ℕ) → k < n → Q (suc k) → get_or marks k false ≡ true) where
    marked_one : (m : CertMult) → IsOfFirst n m → ((k : ℕ) → IsOfCut k m → Q k) → IsMarked m
    marked_one (mult.Row name v) within named = tt
    marked_one (mult.Cut k v) within named =
        let some : 0 < k = within.0 in
        let most : k ≤ n = within.1 in
        let back : k ≡ suc (k - 1) = omega (arith, some) in
        (some, (let e : length marks ≡ n = size in omega (arith, e, some, most), on (k - 1) (omega (arith, some, most)) (subst Q back (named k refl))))

    marked_list : (mults : List CertMult) → All (IsOfFirst n) mults → ((k : ℕ) → NameNumber k mults → Q k) → All IsMarked mults
    marked_list [] within named = all_none IsMarked
    marked_list (m ∷ mults) within named =
        all_cons IsMarked m mults (marked_one m (all_first (IsOfFirst n) m mults within) (λ k is. named k (inl is))) (marked_list mults (all_rest (IsOfFirst n) m mults within) (λ k later. named k (inr later)))

    marked_nodes : (nodes : List CertNode) → All (NodeNamesFirst n) nodes → ((k : ℕ) → StandsAmong k nodes → Q k) → All NodeIsMarked nodes
    marked_nodes [] within named = all_none NodeIsMarked
    marked_nodes (c ∷ nodes) within named =
        all_cons NodeIsMarked c nodes (marked_list (node_mults c) (all_first (NodeNamesFirst n) c nodes within) (λ k here. named k (inl here)))
        (marked_nodes nodes (all_rest (NodeNamesFirst n) c nodes within) (λ k later. named k (inr later)))

-- a number that stands there is that of a cut that counts
module _ (cuts : List CutRow) where
  named_live : (j : ℕ) (mults : List CertMult) → All (IsOfLive cuts) mults → NameNumber (suc j) mults → IsTrue (is_live cuts j)
  named_live j [] live h = absurd h
  named_live j (mult.Row name v ∷ mults) live (inl is) = absurd is
  named_live j (mult.Cut k v ∷ mults) live (inl is) =
      let own : (0 < k) × IsTrue (is_live cuts (k - 1)) = all_first (IsOfLive cuts) (mult.Cut k v) mults live in
      let e : k ≡ suc j = is in
      let same : k - 1 ≡ j = omega (arith, e) in
      subst (λ i. IsTrue (is_live cuts i)) same own.1
  named_live j (m ∷ mults) live (inr later) = named_live j mults (all_rest (IsOfLive cuts) m mults live) later

  stands_live : (j : ℕ) (nodes : List CertNode) → All (NodeNamesLive cuts) nodes → StandsAmong (suc j) nodes → IsTrue (is_live cuts j)
  stands_live j [] live h = absurd h
  stands_live j (c ∷ nodes) live (inl here) = named_live j (node_mults c) (all_first (NodeNamesLive cuts) c nodes live) here
  stands_live j (c ∷ nodes) live (inr later) = stands_live j nodes (all_rest (NodeNamesLive cuts) c nodes live) later

-- ---- the proof that a certificate writes

module _ (S : PlainSearch) (placed : List CertNode) (of : AreOfTree (formulation_of S) suc S.tree.root placed) where
  abbrev marks : List Bool
  marks = marks_in (replicate (length S.cuts) false) placed

  abbrev used : List ℕ
  used = places_of 0 marks

  first : All (NodeNamesFirst (length S.cuts)) placed
  first = names_first (formulation_of S) S.tree.root placed of

  are : AreMarks (length S.cuts) marks (λ k. StandsAmong (suc k) placed)
  are = all_marks (length S.cuts) placed first

  live_nodes : All (NodeNamesLive S.cuts) placed
  live_nodes = subst (All (NodeNamesLive S.cuts)) of.nodes (live_tree (formulation_of S) [] S.tree.root of.tree of.like)

  marked : All (NodeIsMarked marks) placed
  marked = marked_nodes marks (length S.cuts) (λ k. StandsAmong k placed) are.size are.from placed first (λ k h. h)

  below_size : (j : ℕ) → j < length marks → j < length S.cuts
  below_size j below = let e : length marks ≡ length S.cuts = are.size in omega (arith, e, below)

  pub used_live : All (λ k. IsTrue (is_live S.cuts k)) used
  used_live =
      all_places (λ k. IsTrue (is_live S.cuts k)) 0 marks
      (λ j below on. let same : 0 + j ≡ j = omega arith in subst (λ k. IsTrue (is_live S.cuts k)) (sym same) (stands_live S.cuts j placed live_nodes (are.to j (below_size j below) on)))

  all_named : (k : ℕ) → k < length used → StandsAmong (suc k) (map (renumbered_node (counts_of 0 marks)) placed)
  all_named k below =
      let h = has_mark 0 marks k below in
      let stands = stands_nodes marks h.place placed (are.to h.place (below_size h.place h.below) h.on) in
      let same : 0 + h.place ≡ h.place = omega arith in
      let number : get_or (counts_of 0 marks) h.place 0 ≡ k = count_is marks h.place h.below h.on ∙ ap (λ p. index_among p used) (sym same) ∙ h.is in
      subst (λ i. StandsAmong (suc i) (map (renumbered_node (counts_of 0 marks)) placed)) number stands

  pub counts_size : length (counts_of 0 marks) ≡ length S.cuts
  counts_size = size 0 marks ∙ are.size
    where
      size : (n : ℕ) (bs : List Bool) → length (counts_of n bs) ≡ length bs
      size n [] = refl
      size n (b ∷ bs) = ap suc (size (count_with n b) bs)

  pub proof_of : IsProofOf S (named_cuts S.model S.cuts used) (map (renumbered_node (counts_of 0 marks)) placed)
  proof_of = record {
    used = used;
    rising = rising_places 0 marks;
    live = used_live;
    cuts_are = refl;
    tree = renumbered_tree marks of.tree;
    nodes_are = nodes_same marks of.tree ∙ ap (map (renumbered_node (counts_of 0 marks))) of.nodes;
    like = tree_like marks (formulation_of S) [] S.tree.root of.tree (subst (All (NodeIsMarked marks)) (sym of.nodes) marked) of.like;
    named = record { within = within_nodes marks placed marked; all = all_named };
  }

-- ---- one more

pub marks-push : (old : List Bool) (mults : List CertMult) (m : CertMult) → marks_of old (mults ++ m ∷ []) ≡ mark_of (marks_of old mults) m
marks-push old [] m = refl
marks-push old (x ∷ mults) m = marks-push (mark_of old x) mults m

pub nodes-push : (old : List Bool) (nodes : List CertNode) (c : CertNode) → marks_in old (nodes ++ c ∷ []) ≡ marks_of (marks_in old nodes) (node_mults c)
nodes-push old [] c = refl
nodes-push old (x ∷ nodes) c = nodes-push (marks_of old (node_mults x)) nodes c

pub mark-length : (old : List Bool) (m : CertMult) → length (mark_of old m) ≡ length old
mark-length old (mult.Row name v) = refl
mark-length old (mult.Cut k v) = length-set old (k - 1) true

pub marks-length : (old : List Bool) (mults : List CertMult) → length (marks_of old mults) ≡ length old
marks-length old [] = refl
marks-length old (m ∷ mults) = marks-length (mark_of old m) mults ∙ mark-length old m

pub nodes-length : (old : List Bool) (nodes : List CertNode) → length (marks_in old nodes) ≡ length old
nodes-length old [] = refl
nodes-length old (c ∷ nodes) = nodes-length (marks_of old (node_mults c)) nodes ∙ marks-length old (node_mults c)

pub places-push : (k : ℕ) (old : List Bool) (b : Bool) → places_of k (old ++ b ∷ []) ≡ places_of k old ++ place_if b (k + length old)
places-push k [] b = let here : k + 0 ≡ k = omega arith in append-nil (place_if b k) ∙ ap (place_if b) (sym here)
places-push k (x ∷ old) b =
    let next : suc k + length old ≡ k + suc (length old) = omega arith in
    ap (λ l. place_if x k ++ l) (places-push (suc k) old b ∙ ap (λ p. places_of (suc k) old ++ place_if b p) next)
    ∙ sym (append_assoc (place_if x k) (places_of (suc k) old) (place_if b (k + suc (length old))))

pub counts-push : (n : ℕ) (old : List Bool) (b : Bool) → counts_of n (old ++ b ∷ []) ≡ counts_of n old ++ count_all n old ∷ []
counts-push n [] b = refl
counts-push n (x ∷ old) b = ap (λ l. n ∷ l) (counts-push (count_with n x) old b)

pub count-push : (n : ℕ) (old : List Bool) (b : Bool) → count_all n (old ++ b ∷ []) ≡ count_with (count_all n old) b
count-push n [] b = refl
count-push n (x ∷ old) b = count-push (count_with n x) old b

pub count-few : (n : ℕ) (old : List Bool) → count_all n old ≤ n + length old
count-few n [] = omega arith
count-few n (b ∷ old) = by b (count-few (count_with n b) old)
  where
    by : (t : Bool) → count_all (count_with n t) old ≤ count_with n t + length old → count_all (count_with n t) old ≤ n + suc (length old)
    by true h = omega (arith, h)
    by false h = omega (arith, h)
