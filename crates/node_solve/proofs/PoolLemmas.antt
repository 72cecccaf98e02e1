-- Lists over the cuts of a relaxation, by the places of those cuts in a pool.
use Rattle.std.specs.Prelude.{◌≡◌, ◌≢◌, ℕ, zero, suc, ◌<◌, ◌≤◌, nat_eq, Bool, true, false, if◌then◌else◌, List, [], ◌∷◌, length, map, get_or, pos, Ok}
use Rattle.std.proofs.Common.{refl, sym, ap, subst, ◌∙◌, inl, inr, arith}
use Rattle.std.proofs.lemmas.Bool.{cases_order}
use Rattle.std.proofs.lemmas.List.{get_or-map, length-map}
use Rattle.frac128.specs.Rational.{ℚ, int}
use Rattle.lp_model.specs.Program.{Program}
use Rattle.lp_model.specs.Regions.{Path}
use Rattle.lp_model.specs.Cuts.{is_live}
use Rattle.lp_model.specs.Formulations.{Formulation, formulation}
use Rattle.lp_model.specs.declared.types.CutRow.{CutRow}
use Rattle.lp_model.specs.declared.types.Var.{Var}
use Rattle.lp_model.specs.declared.types.Var.TheVariants.{Col, Row, Cut}
use Rattle.lp_model.specs.declared.types.Basis.{Basis}
use Rattle.lp_model.proofs.ElementLemmas.{element, of_element-get}
use Rattle.leaf_dual.specs.Dual.{Multipliers, is_row_variable, is_cut, multiplier, cut_multiplier, cut_weight, least_constant, least_cost}
use Rattle.leaf_dual.specs.Answers.{LacksSide, IsDualAnswer, IsLagAnswer, IsFarkasAnswer}
use Rattle.leaf_dual.specs.declared.dual.LagValue.{LagValue}
use Rattle.leaf_dual.proofs.CutLemmas.{weight-live}
use Rattle.leaf_dual.proofs.LikeCuts.{IsLike, lacks-like, number_answer-like}
use Rattle.leaf_dual.proofs.ChosenCuts.{like-chosen, like-back}
use Rattle.leaf_judging.specs.Closing.{IsRefuted}
use Rattle.search_parts.specs.Lists.{IsThere, IsActivityThere, NamesOnce, AreMultipliers, IsBasis}
use Rattle.node_solve.specs.Laws.{AreAllLive, AreAt, PoolNumberLaw}
use Rattle.kept_cuts.specs.Places.{index_among}
use Rattle.node_solve.specs.Places.{var_in_relaxation, var_in_pool, basis_in_relaxation, basis_in_pool, mult_in_pool}
use Rattle.node_solve.proofs.StateLemmas.{differ, alike, eqb-own, live_weight}

-- where a place stands that no earlier one is
pub index-at : (places : List ℕ) (k : ℕ) → k < length places → ((j : ℕ) → j < k → get_or places j 0 ≢ get_or places k 0) → index_among (get_or places k 0) places ≡ k
index-at [] k below apart = absurd (omega arith)
index-at (p ∷ places) zero below apart = ap (λ b. if b then 0 else suc (index_among p places)) (eqb-own p)
index-at (p ∷ places) (suc k) below apart =
    ap (λ b. if b then 0 else suc (index_among (get_or places k 0) places)) (differ p (get_or places k 0) (apart 0 (omega arith)))
    ∙ ap suc (index-at places k (omega arith) (λ j less. apart (suc j) (omega arith)))

-- past the last where it does not stand
pub index-past : (places : List ℕ) (place : ℕ) → ((j : ℕ) → j < length places → get_or places j 0 ≢ place) → length places ≡ index_among place places
index-past [] place none = refl
index-past (p ∷ places) place none =
    ap suc (index-past places place (λ j below. none (suc j) (omega (arith, below))))
    ∙ ap (λ b. if b then 0 else suc (index_among place places)) (sym (differ p place (none 0 (omega arith))))

pub index-within : (place : ℕ) (places : List ℕ) → index_among place places ≤ length places
index-within place [] = omega arith
index-within place (p ∷ places) = by (nat_eq p place) (index-within place places)
  where
    by : (b : Bool) → index_among place places ≤ length places → (if b then 0 else suc (index_among place places)) ≤ suc (length places)
    by true h = omega arith
    by false h = omega (arith, h)

-- variables that are renamed, each in its own way
names-mapped : (P Q : Var → Type 0) (f : Var → Var) → ((v : Var) → P v → Q (f v)) → ((a b : Var) → P a → P b → f a ≡ f b → a ≡ b) → (vs : List Var) → NamesOnce P vs → NamesOnce Q (map f vs)
names-mapped P Q f to apart vs h =
    let size : length (map f vs) ≡ length vs = length-map vs f in
    record {
      each = λ i d below. let w : i < length vs = omega (arith, size) in subst Q (sym (get_or-map f vs i d d w)) (to (get_or vs i d) (h.each i d w));
      once = λ i j d less below e.
          let w : j < length vs = omega (arith, size) in
          let u : i < length vs = omega (arith, w) in
          h.once i j d less w (apart (get_or vs i d) (get_or vs j d) (h.each i d u) (h.each j d w) (sym (get_or-map f vs i d d u) ∙ e ∙ get_or-map f vs j d d w));
    }

abbrev cut_place : Var → ℕ
cut_place (Col col) = 0
cut_place (Row row) = 0
cut_place (Cut cut) = cut.0

module _ (M : Program) (pool cuts : List CutRow) (places : List ℕ) (at : AreAt pool cuts places) where
  abbrev F : Formulation
  F = formulation M cuts

  abbrev G : Formulation
  G = formulation M pool

  abbrev g : ℕ → ℕ
  g k = get_or places k 0

  within : (k : ℕ) → k < length cuts → k < length places
  within k below = let e : length places ≡ length cuts = at.each in omega (arith, e)

  rises : (j k : ℕ) → j < k → k < length cuts → g j < g k
  rises j k less below = at.rising j k 0 less (within k below)

  there : (k : ℕ) → k < length cuts → g k < length pool
  there k below = at.there k 0 (within k below)

  one-place : (j k : ℕ) → j < length cuts → k < length cuts → g j ≡ g k → j ≡ k
  one-place j k j_below k_below e = elim (cases_order j k) [
    | inl same ↦ same
    | inr apart ↦ elim apart [
      | inl less ↦ let h = rises j k less k_below in absurd (omega (arith, e, h))
      | inr more ↦ let h = rises k j more j_below in absurd (omega (arith, e, h))
    ]
  ]

  -- ---- lists

  there-in-pool : (v : Var) → IsThere F v → IsThere G (var_in_pool places v)
  there-in-pool (Col col) h = h
  there-in-pool (Row row) h = h
  there-in-pool (Cut cut) h = there cut.0 h

  activity-in-pool : (v : Var) → IsActivityThere F v → IsActivityThere G (var_in_pool places v)
  activity-in-pool (Col col) h = absurd h
  activity-in-pool (Row row) h = h
  activity-in-pool (Cut cut) h = there cut.0 h

  once-in-pool : (a b : Var) → IsThere F a → IsThere F b → var_in_pool places a ≡ var_in_pool places b → a ≡ b
  once-in-pool (Col a) (Col b) h k e = e
  once-in-pool (Col a) (Row b) h k e = cc
  once-in-pool (Col a) (Cut b) h k e = cc
  once-in-pool (Row a) (Col b) h k e = cc
  once-in-pool (Row a) (Row b) h k e = e
  once-in-pool (Row a) (Cut b) h k e = cc
  once-in-pool (Cut a) (Col b) h k e = cc
  once-in-pool (Cut a) (Row b) h k e = cc
  once-in-pool (Cut a) (Cut b) h k e =
      let place : get_or places a.0 0 ≡ get_or places b.0 0 = ap cut_place e in
      ap (λ n. Cut (record { 0 = n })) (one-place a.0 b.0 h k place)

  activity-there : (v : Var) → IsActivityThere F v → IsThere F v
  activity-there (Col col) h = absurd h
  activity-there (Row row) h = h
  activity-there (Cut cut) h = h

  names-in-pool : (mult : Multipliers) → map (λ (m : Var × ℚ). m.0) (mult_in_pool places mult) ≡ map (var_in_pool places) (map (λ (m : Var × ℚ). m.0) mult)
  names-in-pool [] = refl
  names-in-pool (m ∷ mult) = ap (λ l. var_in_pool places m.0 ∷ l) (names-in-pool mult)

  pub mult-in-pool : (mult : Multipliers) → AreMultipliers F mult → AreMultipliers G (mult_in_pool places mult)
  mult-in-pool mult h =
      subst (NamesOnce (IsActivityThere G)) (sym (names-in-pool mult))
      (names-mapped (IsActivityThere F) (IsActivityThere G) (var_in_pool places) activity-in-pool (λ a b p q e. once-in-pool a b (activity-there a p) (activity-there b q) e) (map (λ (m : Var × ℚ). m.0) mult) h)

  pub basis-in-pool : (b : Basis) → IsBasis F b → IsBasis G (basis_in_pool places b)
  basis-in-pool b h = record {
    basic = names-mapped (IsThere F) (IsThere G) (var_in_pool places) there-in-pool once-in-pool b.basic h.basic;
    high = names-mapped (IsThere F) (IsThere G) (var_in_pool places) there-in-pool once-in-pool b.high h.high;
  }

  -- ---- and back

  index-place : (k : ℕ) → k < length cuts → index_among (g k) places ≡ k
  index-place k below = index-at places k (within k below) (λ j less. λ e. let h = rises j k less below in omega (arith, e, h))

  var-back : (v : Var) → IsThere F v → var_in_relaxation places (var_in_pool places v) ≡ v
  var-back (Col col) h = refl
  var-back (Row row) h = refl
  var-back (Cut cut) h = ap (λ k. Cut (record { 0 = k })) (index-place cut.0 h)

  vars-back : (vs : List Var) → ((k : ℕ) (d : Var) → k < length vs → IsThere F (get_or vs k d)) → map (var_in_relaxation places) (map (var_in_pool places) vs) ≡ vs
  vars-back [] h = refl
  vars-back (v ∷ vs) h =
      let first : var_in_relaxation places (var_in_pool places v) ≡ v = var-back v (h 0 v (omega arith)) in
      let rest : map (var_in_relaxation places) (map (var_in_pool places) vs) ≡ vs = vars-back vs (λ k d below. h (suc k) d (omega arith)) in
      (λ i. first i ∷ rest i)

  pub basis-back : (b : Basis) → IsBasis F b → basis_in_relaxation places (basis_in_pool places b) ≡ b
  basis-back b h = (λ i. record { basic = vars-back b.basic h.basic.each i; high = vars-back b.high h.high.each i })

  -- ---- multipliers by the names of the pool

  same-row : (v : Var) (i : ℕ) → is_row_variable (var_in_pool places v) i ≡ is_row_variable v i
  same-row (Col col) i = refl
  same-row (Row row) i = refl
  same-row (Cut cut) i = refl

  row-same : (mult : Multipliers) (i : ℕ) → multiplier mult i ≡ multiplier (mult_in_pool places mult) i
  row-same [] i = refl
  row-same (m ∷ mult) i = (λ t. if sym (same-row m.0 i) t then m.1 else row-same mult i t)

  rows-same : (mult : Multipliers) → ◌≡◌ {A = ℕ → ℚ} (multiplier mult) (multiplier (mult_in_pool places mult))
  rows-same mult = λ t i. row-same mult i t

  -- each names a row, or a cut of the relaxation
  abbrev AreNamed : Multipliers → Type 0
  AreNamed mult = (k : ℕ) (d : Var) → k < length (map (λ (m : Var × ℚ). m.0) mult) → IsActivityThere F (get_or (map (λ (m : Var × ℚ). m.0) mult) k d)

  rest-named : (m : Var × ℚ) (mult : Multipliers) → AreNamed (m ∷ mult) → AreNamed mult
  rest-named m mult h k d below = h (suc k) d (omega arith)

  same-cut : (v : Var) → IsActivityThere F v → (k : ℕ) → k < length cuts → is_cut (var_in_pool places v) (g k) ≡ is_cut v k
  same-cut (Col col) h k below = refl
  same-cut (Row row) h k below = refl
  same-cut (Cut cut) h k below = alike (g cut.0) (g k) cut.0 k (one-place cut.0 k h below) (ap g)

  other-cut : (v : Var) → IsActivityThere F v → (p : ℕ) → ((k : ℕ) → k < length cuts → g k ≢ p) → is_cut (var_in_pool places v) p ≡ false
  other-cut (Col col) h p none = refl
  other-cut (Row row) h p none = refl
  other-cut (Cut cut) h p none = differ (g cut.0) p (none cut.0 h)

  cut-same : (mult : Multipliers) → AreNamed mult → (k : ℕ) → k < length cuts → cut_multiplier (mult_in_pool places mult) (g k) ≡ cut_multiplier mult k
  cut-same [] h k below = refl
  cut-same (m ∷ mult) h k below = (λ t. if same-cut m.0 (h 0 m.0 (omega arith)) k below t then m.1 else cut-same mult (rest-named m mult h) k below t)

  cut-other : (mult : Multipliers) → AreNamed mult → (p : ℕ) → ((k : ℕ) → k < length cuts → g k ≢ p) → cut_multiplier (mult_in_pool places mult) p ≡ int (pos 0)
  cut-other [] h p none = refl
  cut-other (m ∷ mult) h p none = (λ t. if other-cut m.0 (h 0 m.0 (omega arith)) p none t then m.1 else cut-other mult (rest-named m mult h) p none t)

  -- ---- their numbers

  module _ (live : AreAllLive cuts) (mult : Multipliers) (named : AreMultipliers F mult) where
    abbrev z : ℕ → ℚ
    z = cut_weight cuts mult

    abbrev w : ℕ → ℚ
    w = cut_weight pool (mult_in_pool places mult)

    live-there : (k : ℕ) → k < length cuts → is_live pool (g k) ≡ true
    live-there k below =
        let el = element cuts k below in
        of_element-get false (λ (c : CutRow). c.live) pool (g k) el.0 (there k below) (el.1 ∙ sym (at.are k el.0 below)) ∙ ap (λ (c : CutRow). c.live) el.1 ∙ live k el.0 below

    weights : (k : ℕ) → k < length cuts → w (g k) ≡ z k
    weights k below =
        weight-live pool (mult_in_pool places mult) (g k) (live-there k below) ∙ cut-same mult named.each k below ∙ sym (live_weight cuts live mult k below)

    none : (p : ℕ) → p < length pool → ((k : ℕ) → k < length cuts → g k ≢ p) → w p ≡ int (pos 0)
    none p below other = by (is_live pool p) (cut-other mult named.each p other)
      where
        by : (b : Bool) → cut_multiplier (mult_in_pool places mult) p ≡ int (pos 0) → (if b then cut_multiplier (mult_in_pool places mult) p else int (pos 0)) ≡ int (pos 0)
        by true e = e
        by false e = refl

    number-in-pool : (path : Path) (c : ℕ → ℚ) (c₀ : ℚ) (v : LagValue) → IsDualAnswer F path (multiplier mult) z c₀ c (Ok v) → IsDualAnswer G path (multiplier (mult_in_pool places mult)) w c₀ c (Ok v)
    number-in-pool path c c₀ v h =
        let y : ℕ → ℚ = multiplier mult in
        let to : IsLike M y c c₀ cuts z pool w = like-chosen M y c c₀ cuts pool g z w rises there at.are weights none in
        let from : IsLike M y c c₀ pool w cuts z = like-back M y c c₀ cuts pool g z w rises there at.are weights none in
        let back : LacksSide G path y w c → LacksSide F path y z c = lacks-like M path y c c₀ pool w cuts z from in
        subst (λ u. IsDualAnswer G path u w c₀ c (Ok v)) (rows-same mult) (number_answer-like M path y c c₀ cuts z pool w to back v h)

    pub lag-in-pool : (path : Path) (v : LagValue) → IsLagAnswer F path mult (Ok v) → IsLagAnswer G path (mult_in_pool places mult) (Ok v)
    lag-in-pool path v h = number-in-pool path (least_cost M) (least_constant M) v h

    pub farkas-in-pool : (path : Path) (v : LagValue) → IsFarkasAnswer F path mult (Ok v) → IsFarkasAnswer G path (mult_in_pool places mult) (Ok v)
    farkas-in-pool path v h = number-in-pool path (λ j. int (pos 0)) (int (pos 0)) v h

  pub refuted-in-pool : AreAllLive cuts → (path : Path) (farkas : Multipliers) → AreMultipliers F farkas → IsRefuted F path farkas → IsRefuted G path (mult_in_pool places farkas)
  refuted-in-pool live path [] named h = h
  refuted-in-pool live path (m ∷ ms) named (v, (answer, positive)) = (v, (farkas-in-pool live (m ∷ ms) named path v answer, positive))

pub pool_number : PoolNumberLaw
pool_number M pool cuts places at live path mult named v = (lag-in-pool M pool cuts places at live mult named path v, farkas-in-pool M pool cuts places at live mult named path v)
