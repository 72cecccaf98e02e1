-- A leaf's multipliers, without those of cuts that do not count, have over the cuts that are used the number that they had.
use Rattle.std.specs.Prelude.{◌≡◌, ◌≢◌, ℕ, zero, suc, ◌<◌, ◌≤◌, Bool, true, false, if◌then◌else◌, nat_eq, IsTrue, List, [], ◌∷◌, ◌++◌, length, get_or, pos, All, AllPairs, Ok}
use Rattle.std.proofs.Common.{refl, sym, ap, subst, ◌∙◌, arith}
use Rattle.std.proofs.lemmas.Bool.Decides.{Decides-eqb}
use Rattle.frac128.specs.Rational.{ℚ, int}
use Rattle.lp_model.specs.Regions.{Path}
use Rattle.lp_model.specs.Cuts.{is_live}
use Rattle.lp_model.specs.Formulations.{Formulation, formulation}
use Rattle.lp_model.specs.declared.types.CutRow.{CutRow}
use Rattle.lp_model.specs.declared.types.Var.{Var}
use Rattle.lp_model.specs.declared.types.Var.TheVariants.{Row, Col as ColVar, Cut}
use Rattle.lp_model.proofs.ElementLemmas.{element, of_element-get}
use Rattle.leaf_dual.specs.Dual.{Multipliers, is_row_variable, is_cut, multiplier, cut_multiplier, cut_weight, least_constant, least_cost}
use Rattle.leaf_dual.specs.Answers.{LacksSide, IsDualAnswer, IsLagAnswer, IsFarkasAnswer}
use Rattle.leaf_dual.specs.declared.dual.LagValue.{LagValue}
use Rattle.leaf_dual.proofs.CutLemmas.{weight-live}
use Rattle.leaf_dual.proofs.LikeCuts.{IsLike, lacks-like, number_answer-like}
use Rattle.leaf_dual.proofs.ChosenCuts.{like-chosen, like-back}
use Rattle.kept_cuts.specs.Places.{index_among}
use Rattle.cert_text.specs.declared.cert.CertMult.TheVariants as mult
use Rattle.tree_cert.specs.Cuts.{used_number, mult_named, mults_named, IsOfFirst}
use Rattle.tree_cert.proofs.NameLaws.{all_first}
use Rattle.tree_cert.proofs.MultLaws.{all_split, other_index, same_index, index_found, renamed_mult, renamed}

-- a cut that counts is there
pub live_there : (cuts : List CutRow) (k : ℕ) → IsTrue (is_live cuts k) → k < length cuts
live_there [] k on = let f : false ≡ true = on in absurd (cc)
live_there (c ∷ cuts) zero on = omega arith
live_there (c ∷ cuts) (suc k) on = let below : k < length cuts = live_there cuts k on in omega (arith, below)

-- where an element stands that no earlier one is
index_at : (used : List ℕ) (k : ℕ) → k < length used → ((j : ℕ) → j < k → get_or used j 0 ≢ get_or used k 0) → index_among (get_or used k 0) used ≡ k
index_at [] k below apart = absurd (omega arith)
index_at (p ∷ used) zero below apart = ap (λ b. if b then 0 else suc (index_among p used)) (same_index p)
index_at (p ∷ used) (suc k) below apart =
    ap (λ b. if b then 0 else suc (index_among (get_or used k 0) used)) (other_index p (get_or used k 0) (apart 0 (omega arith)))
    ∙ ap suc (index_at used k (omega arith) (λ j less. apart (suc j) (omega arith)))

module _ (F : Formulation) (used : List ℕ) (rising : AllPairs (λ a b. a < b) used) (live : All (λ k. IsTrue (is_live F.cuts k)) used)
    (chosen : List CutRow) (size : length chosen ≡ length used) (are : (k : ℕ) (d : CutRow) → k < length used → get_or F.cuts (get_or used k 0) d ≡ get_or chosen k d) where
  abbrev G : Formulation
  G = formulation F.model chosen

  abbrev g : ℕ → ℕ
  g k = get_or used k 0

  below_used : (k : ℕ) → k < length chosen → k < length used
  below_used k below = let e : length chosen ≡ length used = size in omega (arith, e, below)

  live_at : (k : ℕ) → k < length used → IsTrue (is_live F.cuts (g k))
  live_at k below = live k 0 below

  there : (k : ℕ) → k < length chosen → g k < length F.cuts
  there k below = live_there F.cuts (g k) (live_at k (below_used k below))

  rises : (j k : ℕ) → j < k → k < length chosen → g j < g k
  rises j k less below = rising j k 0 less (below_used k below)

  same_cut : (k : ℕ) (d : CutRow) → k < length chosen → get_or F.cuts (g k) d ≡ get_or chosen k d
  same_cut k d below = are k d (below_used k below)

  chosen_live : (k : ℕ) → k < length chosen → is_live chosen k ≡ true
  chosen_live k below =
      let el = element chosen k below in
      of_element-get false (λ (c : CutRow). c.live) chosen k el.0 below el.1
      ∙ sym (of_element-get false (λ (c : CutRow). c.live) F.cuts (g k) el.0 (there k below) (el.1 ∙ sym (same_cut k el.0 below)))
      ∙ live_at k (below_used k below)

  index_place : (k : ℕ) → k < length used → index_among (g k) used ≡ k
  index_place k below = index_at used k below (λ j less e. let h : g j < g k = rising j k 0 less below in omega (arith, e, h))

  -- ---- one multiplier

  row_head : (x : Var) (v : ℚ) (rest : Multipliers) (i : ℕ) → multiplier (renamed_mult F used x v ++ rest) i ≡ (if is_row_variable x i then v else multiplier rest i)
  row_head (Row row) v rest i = refl
  row_head (ColVar col) v rest i = refl
  row_head (Cut cut) v rest i = by (is_live F.cuts cut.0)
    where
      by : (b : Bool) → multiplier ((if b then (Cut (record { 0 = index_among cut.0 used }), v) ∷ [] else []) ++ rest) i ≡ multiplier rest i
      by true = refl
      by false = refl

  same_name : (c k : ℕ) → k < length used → index_among c used < length used → nat_eq (index_among c used) k ≡ nat_eq c (g k)
  same_name c k below here = by (nat_eq c (g k)) refl
    where
      by : (t : Bool) → nat_eq c (g k) ≡ t → nat_eq (index_among c used) k ≡ t
      by true e =
          let at : c ≡ g k = (Decides-eqb c (g k)).0 e in
          (Decides-eqb (index_among c used) k).1 (ap (λ p. index_among p used) at ∙ index_place k below)
      by false e =
          other_index (index_among c used) k
          (λ h.
          let at : c ≡ g k = sym (index_found c used 0 here) ∙ ap g h in
          let f : false ≡ true = sym e ∙ (Decides-eqb c (g k)).1 at in cc)

  dead_name : (c k : ℕ) → k < length used → is_live F.cuts c ≡ false → nat_eq c (g k) ≡ false
  dead_name c k below off = other_index c (g k) (λ at. let f : false ≡ true = sym off ∙ ap (is_live F.cuts) at ∙ live_at k below in cc)

  cut_head : (x : Var) (v : ℚ) (rest : Multipliers) (k : ℕ) → k < length used → All (IsOfFirst (length used)) (mult_named F (used_number used) x v)
      → cut_multiplier (renamed_mult F used x v ++ rest) k ≡ (if is_cut x (g k) then v else cut_multiplier rest k)
  cut_head (Row row) v rest k below within = refl
  cut_head (ColVar col) v rest k below within = refl
  cut_head (Cut cut) v rest k below within = by (is_live F.cuts cut.0) refl within
    where
      by : (b : Bool) → is_live F.cuts cut.0 ≡ b → All (IsOfFirst (length used)) (if b then mult.Cut (used_number used cut.0) v ∷ [] else [])
          → cut_multiplier ((if b then (Cut (record { 0 = index_among cut.0 used }), v) ∷ [] else []) ++ rest) k ≡ (if nat_eq cut.0 (g k) then v else cut_multiplier rest k)
      by true on h =
          let first : (0 < used_number used cut.0) × (used_number used cut.0 ≤ length used) = all_first (IsOfFirst (length used)) (mult.Cut (used_number used cut.0) v) [] h in
          ap (λ t. if t then v else cut_multiplier rest k) (same_name cut.0 k below (omega (arith, first.1)))
      by false off h = ap (λ t. if t then v else cut_multiplier rest k) (sym (dead_name cut.0 k below off))

  -- a cut that counts and is not used is named by none
  other_cut : (x : Var) (v : ℚ) (p : ℕ) → IsTrue (is_live F.cuts p) → ((k : ℕ) → k < length used → g k ≢ p) → All (IsOfFirst (length used)) (mult_named F (used_number used) x v) → is_cut x p ≡ false
  other_cut (Row row) v p on none within = refl
  other_cut (ColVar col) v p on none within = refl
  other_cut (Cut cut) v p on none within = other_index cut.0 p (λ at. by (is_live F.cuts cut.0) (ap (is_live F.cuts) at ∙ on) at within)
    where
      by : (b : Bool) → b ≡ true → cut.0 ≡ p → All (IsOfFirst (length used)) (if b then mult.Cut (used_number used cut.0) v ∷ [] else []) → ⊥
      by true e at h =
          let first : (0 < used_number used cut.0) × (used_number used cut.0 ≤ length used) = all_first (IsOfFirst (length used)) (mult.Cut (used_number used cut.0) v) [] h in
          let here : index_among cut.0 used < length used = omega (arith, first.1) in
          none (index_among cut.0 used) here (index_found cut.0 used 0 here ∙ at)
      by false e at h = let f : false ≡ true = e in cc

  -- ---- all of them

  row_same : (list : Multipliers) (i : ℕ) → multiplier (renamed F used list) i ≡ multiplier list i
  row_same [] i = refl
  row_same (m ∷ list) i = row_head m.0 m.1 (renamed F used list) i ∙ (λ t. if is_row_variable m.0 i then m.1 else row_same list i t)

  cut_same : (list : Multipliers) (k : ℕ) → k < length used → All (IsOfFirst (length used)) (mults_named F (used_number used) list) → cut_multiplier (renamed F used list) k ≡ cut_multiplier list (g k)
  cut_same [] k below within = refl
  cut_same (m ∷ list) k below within =
      let parts = all_split (IsOfFirst (length used)) (mult_named F (used_number used) m.0 m.1) (mults_named F (used_number used) list) within in
      cut_head m.0 m.1 (renamed F used list) k below parts.0 ∙ (λ t. if is_cut m.0 (g k) then m.1 else cut_same list k below parts.1 t)

  cut_other : (list : Multipliers) (p : ℕ) → IsTrue (is_live F.cuts p) → ((k : ℕ) → k < length used → g k ≢ p) → All (IsOfFirst (length used)) (mults_named F (used_number used) list) → cut_multiplier list p ≡ int (pos 0)
  cut_other [] p on none within = refl
  cut_other (m ∷ list) p on none within =
      let parts = all_split (IsOfFirst (length used)) (mult_named F (used_number used) m.0 m.1) (mults_named F (used_number used) list) within in
      (λ t. if other_cut m.0 m.1 p on none parts.0 t then m.1 else cut_other list p on none parts.1 t)

  -- ---- their numbers

  module _ (list : Multipliers) (within : All (IsOfFirst (length used)) (mults_named F (used_number used) list)) where
    abbrev z : ℕ → ℚ
    z = cut_weight chosen (renamed F used list)

    abbrev w : ℕ → ℚ
    w = cut_weight F.cuts list

    weights : (k : ℕ) → k < length chosen → w (g k) ≡ z k
    weights k below =
        weight-live F.cuts list (g k) (live_at k (below_used k below)) ∙ sym (cut_same list k (below_used k below) within) ∙ sym (weight-live chosen (renamed F used list) k (chosen_live k below))

    none : (p : ℕ) → p < length F.cuts → ((k : ℕ) → k < length chosen → g k ≢ p) → w p ≡ int (pos 0)
    none p below other = by (is_live F.cuts p) refl
      where
        by : (b : Bool) → is_live F.cuts p ≡ b → (if b then cut_multiplier list p else int (pos 0)) ≡ int (pos 0)
        by true on = cut_other list p on (λ k inside. other k (let e : length chosen ≡ length used = size in omega (arith, e, inside))) within
        by false off = refl

    number_chosen : (path : Path) (c : ℕ → ℚ) (c₀ : ℚ) (v : LagValue) → IsDualAnswer F path (multiplier list) w c₀ c (Ok v) → IsDualAnswer G path (multiplier (renamed F used list)) z c₀ c (Ok v)
    number_chosen path c c₀ v h =
        let M = F.model in
        let y : ℕ → ℚ = multiplier list in
        let to : IsLike M y c c₀ F.cuts w chosen z = like-back M y c c₀ chosen F.cuts g z w rises there same_cut weights none in
        let from : IsLike M y c c₀ chosen z F.cuts w = like-chosen M y c c₀ chosen F.cuts g z w rises there same_cut weights none in
        let back : LacksSide G path y z c → LacksSide F path y w c = lacks-like M path y c c₀ chosen z F.cuts w from in
        let rows : ◌≡◌ {A = ℕ → ℚ} y (multiplier (renamed F used list)) = λ t i. sym (row_same list i) t in
        subst (λ u. IsDualAnswer G path u z c₀ c (Ok v)) rows (number_answer-like M path y c c₀ F.cuts w chosen z to back v h)

    pub lag_chosen : (path : Path) (v : LagValue) → IsLagAnswer F path list (Ok v) → IsLagAnswer G path (renamed F used list) (Ok v)
    lag_chosen path v h = number_chosen path (least_cost F.model) (least_constant F.model) v h

    pub farkas_chosen : (path : Path) (v : LagValue) → IsFarkasAnswer F path list (Ok v) → IsFarkasAnswer G path (renamed F used list) (Ok v)
    farkas_chosen path v h = number_chosen path (λ j. int (pos 0)) (int (pos 0)) v h
