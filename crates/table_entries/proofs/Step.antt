-- A step leads from a lawful state to a lawful state with a greater key.
use Rattle.std.specs.Prelude.{◌≡◌, ◌≢◌, ℕ, zero, suc, ◌<◌, [], ◌∷◌, pos, Option, Some, None, if◌then◌else◌, ◌&&◌, is_none}
use Rattle.std.proofs.Common.{ap₂, refl, sym, ap, subst, ◌∙◌, arith, ⊎_elim}
use Rattle.std.proofs.lemmas.Bool.{cases_eq}
use Rattle.std.proofs.Math.Path.{subst₃}
use Rattle.frac128.specs.Rational.{ℚ, int, ◌+ℚ◌, ◌-ℚ◌, ◌*ℚ◌, ◌/ℚ◌, neg_ℚ, inverse, ◌≤ℚ◌, ◌<ℚ◌}
use Rattle.frac128.specs.RationalRing.{ring, reads_ℚ}
use Rattle.frac128.specs.RationalOrder.{≤ℚ_or_>ℚ, linear, linear_strict}
use Rattle.frac128.proofs.Division.{ring_from}
use Rattle.frac128.proofs.Rounding.{*ℚ-inverse}
use Rattle.frac128.specs.Sums.{sum_below}
use Rattle.table_entries.specs.Relaxation.{Relaxation, Table, IsArranged, pivoted, reduced_cost}
use Rattle.table_entries.specs.declared.stand.Stand.{Stand}
use Rattle.table_entries.specs.States.{IsPositive, IsLess, IsSame, IsFree, Separates, sign, State, Standing, LawfulAt, reduced_parts, IsDualFeasible, basic_value, key, IsOutside, MayEnter, ratio, Enters, stepped}
use Rattle.table_entries.specs.declared.stand.Stand.TheVariants.{Low, High, Free}
use Rattle.checked_sum.proofs.SumLaws.{sum_below-same}
use Rattle.table_entries.proofs.SumBelowLaws.{if_same, if_other, sum_below-changed}
use Rattle.table_entries.proofs.Exchange.{sum_moved}
use Rattle.table_entries.proofs.CostParts.{positive_same, positive_scaled, positive_more, positive_cancelled, not_zero}
use Rattle.table_entries.proofs.ReducedCosts.{reduced-pivoted, reduced_alone-basic, reduced_alone-nonbasic}

-- ---- sides

abbrev pub IsSide : Stand → Type 0
IsSide Low = Unit {0}
IsSide High = Unit {0}
IsSide Free = ⊥

pub sign_squared : (side : Stand) → IsSide side → sign side *ℚ sign side ≡ int (pos 1)
sign_squared Low h = ring [] (search reads_ℚ) tt
sign_squared High h = ring [] (search reads_ℚ) tt
sign_squared Free h = absurd h

pub lawful_signed : (side : Stand) → IsSide side → (f : ℕ → ℚ) → LawfulAt side f → IsPositive (λ q. sign side *ℚ f q)
lawful_signed Low h f l = positive_same f _ (λ q. ring (f q ∷ []) (search reads_ℚ) tt) l
lawful_signed High h f l = positive_same (λ q. neg_ℚ (f q)) _ (λ q. ring (f q ∷ []) (search reads_ℚ) tt) l
lawful_signed Free h f l = absurd h

pub lawful_from_signed : (side : Stand) → IsSide side → (f : ℕ → ℚ) → IsPositive (λ q. sign side *ℚ f q) → LawfulAt side f
lawful_from_signed Low h f l = positive_same _ f (λ q. ring (f q ∷ []) (search reads_ℚ) tt) l
lawful_from_signed High h f l = positive_same _ (λ q. neg_ℚ (f q)) (λ q. ring (f q ∷ []) (search reads_ℚ) tt) l
lawful_from_signed Free h f l = absurd h

may_signed : (side stand : Stand) → IsSide stand → (t : ℚ) → MayEnter side stand t → int (pos 0) <ℚ sign side *ℚ (sign stand *ℚ t)
may_signed side Low h t m = m
may_signed side High h t m = m
may_signed side Free h t m = absurd h

may_from_signed : (side stand : Stand) → IsSide stand → (t : ℚ) → int (pos 0) <ℚ sign side *ℚ (sign stand *ℚ t) → MayEnter side stand t
may_from_signed side Low h t m = m
may_from_signed side High h t m = m
may_from_signed side Free h t m = absurd h

some_not_none : {x : ℚ} {o : Option ℚ} → o ≡ Some x → o ≡ None → ⊥
some_not_none e f = cc

standing_sided : (p : Relaxation) (v : ℕ) (stand : Stand) (x : ℚ) → IsSide stand → Standing p v stand x → ¬ (IsFree p v)
standing_sided p v Low x h e f = some_not_none e f.0
standing_sided p v High x h e f = some_not_none e f.1
standing_sided p v Free x h e f = absurd h

outside_side : (p : Relaxation) (st : State) (r : ℕ) (side : Stand) (b : ℚ) → IsOutside p st r side b → IsSide side
outside_side p st r Low b h = tt
outside_side p st r High b h = tt
outside_side p st r Free b h = absurd h

outside_standing : (p : Relaxation) (st : State) (r : ℕ) (side : Stand) (b : ℚ) → IsOutside p st r side b → Standing p (st.table.basic r) side b
outside_standing p st r Low b h = h.0
outside_standing p st r High b h = h.0
outside_standing p st r Free b h = absurd h

pub outside_gap : (p : Relaxation) (st : State) (r : ℕ) (side : Stand) (b : ℚ) → IsOutside p st r side b → int (pos 0) <ℚ sign side *ℚ (b -ℚ basic_value p st r)
outside_gap p st r Low b h = linear_strict (b ∷ basic_value p st r ∷ []) h.1 (search reads_ℚ depth 9) tt
outside_gap p st r High b h = linear_strict (b ∷ basic_value p st r ∷ []) h.1 (search reads_ℚ depth 9) tt
outside_gap p st r Free b h = absurd h

-- whether a variable is counted as one without sides
abbrev pub counted : Relaxation → ℕ → ℚ
counted p v = if is_none (p.low v) && is_none (p.high v) then int (pos 1) else int (pos 0)

sided_not_counted : (p : Relaxation) (v : ℕ) → ¬ (IsFree p v) → counted p v ≡ int (pos 0)
sided_not_counted p v sided = by (p.low v) (p.high v) refl refl
  where
    by : (a b : Option ℚ) → p.low v ≡ a → p.high v ≡ b → (if is_none a && is_none b then int (pos 1) else int (pos 0)) ≡ int (pos 0)
    by None None e f = absurd (sided (e, f))
    by None (Some y) e f = refl
    by (Some x) b e f = refl

pub not_zero_product : (a b : ℚ) → a ≢ int (pos 0) → a *ℚ b ≡ int (pos 0) → b ≡ int (pos 0)
not_zero_product a b some e =
    ring (b ∷ []) {y = int (pos 1) *ℚ b} (search reads_ℚ) tt ∙ ap (λ t. t *ℚ b) (sym (*ℚ-inverse a some))
    ∙ ring (a ∷ b ∷ inverse a ∷ []) {y = inverse a *ℚ (a *ℚ b)} (search reads_ℚ depth 9) tt ∙ ap (λ t. inverse a *ℚ t) e ∙ ring (inverse a ∷ []) (search reads_ℚ) tt

-- ---- the step

module _ (p : Relaxation) (parts : ℕ → ℕ → ℚ) (separates : Separates p parts) (st : State) (arranged : IsArranged p st.table) (lawful : IsDualFeasible p parts st)
    (r : ℕ) (r_within : r < p.activities) (side : Stand) (b : ℚ) (outside : IsOutside p st r side b) where
  abbrev d : Table
  d = st.table

  abbrev entry : ℕ → ℚ
  entry = d.entry r

  abbrev reduced : ℕ → ℕ → ℚ
  reduced k = reduced_parts p parts d k

  side_is : IsSide side
  side_is = outside_side p st r side b outside

  leaving_sided : ¬ (IsFree p (d.basic r))
  leaving_sided = standing_sided p (d.basic r) side b side_is (outside_standing p st r side b outside)

  -- a nonbasic variable without sides has no entry in the row
  pub free_entry : (k : ℕ) → k < p.columns → LawfulAt Free (reduced k) → entry k ≡ int (pos 0)
  free_entry k within none =
      let v = d.basic r in
      let q = separates.own_part v in
      not_zero_product (parts q v) (entry k) (separates.own_some v leaving_sided)
      (sym (reduced_alone-basic p d arranged (parts q) r k r_within within (λ u other. separates.own_alone v u leaving_sided other)) ∙ none q)

  -- so one that may enter has a side
  may_sided : (k : ℕ) → k < p.columns → MayEnter side (st.stand k) (entry k) → IsSide (st.stand k)
  may_sided k within may = by (st.stand k) (lawful.lawful k within) may
    where
      by : (stand : Stand) → LawfulAt stand (reduced k) → MayEnter side stand (entry k) → IsSide stand
      by Low l m = tt
      by High l m = tt
      by Free l m = m (free_entry k within l)

  -- how strongly place k moves the variable back
  abbrev pull : ℕ → ℚ
  pull k = sign side *ℚ (sign (st.stand k) *ℚ entry k)

  pull_entry : (k : ℕ) → int (pos 0) <ℚ pull k → entry k ≢ int (pos 0)
  pull_entry k more e = not_zero more (ap (λ t. sign side *ℚ (sign (st.stand k) *ℚ t)) e ∙ ring (sign side ∷ sign (st.stand k) ∷ []) (search reads_ℚ depth 9) tt)

  -- ratio times pull is the magnitude of the reduced cost
  pull-ratio : (k : ℕ) → entry k ≢ int (pos 0) → (q : ℕ) → pull k *ℚ ratio p parts st r side k q ≡ sign (st.stand k) *ℚ reduced k q
  pull-ratio k some q =
      ring (sign side ∷ sign (st.stand k) ∷ entry k ∷ inverse (entry k) ∷ reduced k q ∷ []) {y = ((sign side *ℚ sign side) *ℚ (entry k *ℚ inverse (entry k))) *ℚ (sign (st.stand k) *ℚ reduced k q)} (search reads_ℚ depth 9) tt
      ∙ ap₂ (λ v w. (v *ℚ w) *ℚ (sign (st.stand k) *ℚ reduced k q)) (sign_squared side side_is) (*ℚ-inverse (entry k) some)
      ∙ ring (sign (st.stand k) ∷ reduced k q ∷ []) (search reads_ℚ depth 9) tt

  module _ (s : ℕ) (enters : Enters p parts st r side s) where
    abbrev s_within : s < p.columns
    s_within = enters.within

    abbrev ratio_s : ℕ → ℚ
    ratio_s = ratio p parts st r side s

    s_side : IsSide (st.stand s)
    s_side = may_sided s enters.within enters.may

    s_pull : int (pos 0) <ℚ pull s
    s_pull = may_signed side (st.stand s) s_side (entry s) enters.may

    pub pivot_some : d.entry r s ≢ int (pos 0)
    pivot_some = pull_entry s s_pull

    ratio_positive : IsPositive ratio_s
    ratio_positive =
        positive_cancelled (pull s) ratio_s s_pull
        (positive_same _ _ (λ q. sym (pull-ratio s pivot_some q)) (lawful_signed (st.stand s) s_side (reduced s) (lawful.lawful s enters.within)))

    -- the reduced costs after the step
    abbrev next : Table
    next = pivoted d r s

    at_s : (q : ℕ) → reduced_parts p parts next s q ≡ reduced s q /ℚ entry s
    at_s q = reduced-pivoted p d r s r_within pivot_some (parts q) s ∙ if_same s _ _

    elsewhere : (k : ℕ) → ¬ (k ≡ s) → (q : ℕ) → reduced_parts p parts next k q ≡ reduced k q -ℚ reduced s q *ℚ (entry k /ℚ entry s)
    elsewhere k other q = reduced-pivoted p d r s r_within pivot_some (parts q) k ∙ if_other k s _ _ other

    -- the sign times the reduced cost, by the ratio of s
    signed_elsewhere : (k : ℕ) → ¬ (k ≡ s) → (q : ℕ) → sign (st.stand k) *ℚ reduced k q +ℚ neg_ℚ (pull k) *ℚ ratio_s q ≡ sign (st.stand k) *ℚ reduced_parts p parts next k q
    signed_elsewhere k other q =
        ring (sign side ∷ sign (st.stand k) ∷ entry k ∷ inverse (entry s) ∷ reduced k q ∷ reduced s q ∷ [])
        {y = sign (st.stand k) *ℚ reduced k q -ℚ (sign side *ℚ sign side) *ℚ (sign (st.stand k) *ℚ (reduced s q *ℚ (entry k /ℚ entry s)))} (search reads_ℚ depth 9) tt
        ∙ ap (λ v. sign (st.stand k) *ℚ reduced k q -ℚ v *ℚ (sign (st.stand k) *ℚ (reduced s q *ℚ (entry k /ℚ entry s)))) (sign_squared side side_is)
        ∙ ring (sign (st.stand k) ∷ entry k ∷ inverse (entry s) ∷ reduced k q ∷ reduced s q ∷ []) (search reads_ℚ depth 9) tt
        ∙ ap (λ v. sign (st.stand k) *ℚ v) (sym (elsewhere k other q))

    -- no other place that may enter has the same ratio
    ratios_differ : (k : ℕ) → k < p.columns → ¬ (k ≡ s) → IsSide (st.stand k) → int (pos 0) <ℚ pull k → ¬ (IsSame ratio_s (ratio p parts st r side k))
    ratios_differ k within other k_side more same =
        let v = d.nonbasic k in
        let v_sided = standing_sided p v (st.stand k) (st.at k) k_side (lawful.stands k within) in
        let q = separates.own_part v in
        let alone = λ (u : ℕ) (w : ¬ (u ≡ v)). separates.own_alone v u v_sided w in
        let s_none : reduced s q ≡ int (pos 0) = reduced_alone-nonbasic p d arranged (parts q) k s within enters.within alone ∙ alone (d.nonbasic s) (λ e. other (sym (arranged.nonbasic_once s k enters.within within e))) in
        let k_own : reduced k q ≡ parts q v = reduced_alone-nonbasic p d arranged (parts q) k k within within alone in
        let none : sign (st.stand k) *ℚ reduced k q ≡ int (pos 0) =
        sym (pull-ratio k (pull_entry k more) q) ∙ ap (λ t. pull k *ℚ t) (sym (same q)) ∙ ap (λ t. pull k *ℚ (sign side *ℚ (t /ℚ entry s))) s_none
        ∙ ring (sign side ∷ sign (st.stand k) ∷ entry k ∷ inverse (entry s) ∷ []) (search reads_ℚ depth 9) tt in
        let gone : reduced k q ≡ int (pos 0) =
        ring (reduced k q ∷ []) {y = int (pos 1) *ℚ reduced k q} (search reads_ℚ) tt ∙ ap (λ t. t *ℚ reduced k q) (sym (sign_squared (st.stand k) k_side))
        ∙ ring (sign (st.stand k) ∷ reduced k q ∷ []) {y = sign (st.stand k) *ℚ (sign (st.stand k) *ℚ reduced k q)} (search reads_ℚ depth 9) tt
        ∙ ap (λ t. sign (st.stand k) *ℚ t) none ∙ ring (sign (st.stand k) ∷ []) (search reads_ℚ) tt in
        separates.own_some v v_sided (sym k_own ∙ gone)

    -- the reduced cost of another place that has a side keeps its sign
    sided_elsewhere : (k : ℕ) → k < p.columns → ¬ (k ≡ s) → IsSide (st.stand k) → IsPositive (λ q. sign (st.stand k) *ℚ reduced_parts p parts next k q)
    sided_elsewhere k within other k_side = ⊎_elim away back (≤ℚ_or_>ℚ (pull k) (int (pos 0)))
      where
        away : pull k ≤ℚ int (pos 0) → IsPositive (λ q. sign (st.stand k) *ℚ reduced_parts p parts next k q)
        away no_more =
            positive_same _ _ (signed_elsewhere k other)
            (positive_more (neg_ℚ (pull k)) _ ratio_s (linear (sign side ∷ sign (st.stand k) ∷ entry k ∷ []) no_more (search reads_ℚ depth 9) tt)
            (lawful_signed (st.stand k) k_side (reduced k) (lawful.lawful k within)) ratio_positive)

        back : int (pos 0) <ℚ pull k → IsPositive (λ q. sign (st.stand k) *ℚ reduced_parts p parts next k q)
        back more =
            let greater : IsLess ratio_s (ratio p parts st r side k) =
            ⊎_elim (λ less. less) (λ same. absurd (ratios_differ k within other k_side more same.0))
            (enters.least k within (may_from_signed side (st.stand k) k_side (entry k) more)) in
            positive_same _ _
            (λ q. ring (pull k ∷ ratio p parts st r side k q ∷ ratio_s q ∷ []) {y = pull k *ℚ ratio p parts st r side k q +ℚ neg_ℚ (pull k) *ℚ ratio_s q} (search reads_ℚ depth 9) tt
            ∙ ap (λ t. t +ℚ neg_ℚ (pull k) *ℚ ratio_s q) (pull-ratio k (pull_entry k more) q)
            ∙ signed_elsewhere k other q)
            (positive_scaled (pull k) _ more greater)

    lawful_elsewhere : (k : ℕ) → k < p.columns → ¬ (k ≡ s) → LawfulAt (st.stand k) (reduced_parts p parts next k)
    lawful_elsewhere k within other = by (st.stand k) refl
      where
        sided : (stand : Stand) → st.stand k ≡ stand → IsSide stand → LawfulAt (st.stand k) (reduced_parts p parts next k)
        sided stand e h = let k_side = subst IsSide (sym e) h in lawful_from_signed (st.stand k) k_side _ (sided_elsewhere k within other k_side)

        by : (stand : Stand) → st.stand k ≡ stand → LawfulAt stand (reduced_parts p parts next k)
        by Low e = subst (λ v. LawfulAt v (reduced_parts p parts next k)) e (sided Low e tt)
        by High e = subst (λ v. LawfulAt v (reduced_parts p parts next k)) e (sided High e tt)
        by Free e = let none : LawfulAt Free (reduced k) = subst (λ v. LawfulAt v (reduced k)) e (lawful.lawful k within) in
            λ q. elsewhere k other q ∙ ap₂ (λ v w. v -ℚ reduced s q *ℚ (w /ℚ entry s)) (none q) (free_entry k within none) ∙ ring (reduced s q ∷ inverse (entry s) ∷ []) (search reads_ℚ depth 9) tt

    abbrev after : State
    after = stepped st r s side b

    standing_after : (k : ℕ) → k < p.columns → Standing p (next.nonbasic k) (after.stand k) (after.at k)
    standing_after k within = ⊎_elim here there (cases_eq k s)
      where
        here : k ≡ s → Standing p (next.nonbasic k) (after.stand k) (after.at k)
        here e =
            subst (λ v. Standing p (next.nonbasic v) (after.stand v) (after.at v)) (sym e)
            (subst₃ (Standing p) (sym (if_same s (d.basic r) (d.nonbasic s))) (sym (if_same s side (st.stand s))) (sym (if_same s b (st.at s))) (outside_standing p st r side b outside))

        there : ¬ (k ≡ s) → Standing p (next.nonbasic k) (after.stand k) (after.at k)
        there other =
            subst₃ (Standing p) (sym (if_other k s (d.basic r) (d.nonbasic k) other)) (sym (if_other k s side (st.stand k) other)) (sym (if_other k s b (st.at k) other)) (lawful.stands k within)

    lawful_after : (k : ℕ) → k < p.columns → LawfulAt (after.stand k) (reduced_parts p parts next k)
    lawful_after k within = ⊎_elim here there (cases_eq k s)
      where
        here : k ≡ s → LawfulAt (after.stand k) (reduced_parts p parts next k)
        here e =
            subst (λ v. LawfulAt (after.stand v) (reduced_parts p parts next v)) (sym e)
            (subst (λ v. LawfulAt v (reduced_parts p parts next s)) (sym (if_same s side (st.stand s)))
            (lawful_from_signed side side_is (reduced_parts p parts next s) (positive_same ratio_s _ (λ q. ap (λ t. sign side *ℚ t) (sym (at_s q))) ratio_positive)))

        there : ¬ (k ≡ s) → LawfulAt (after.stand k) (reduced_parts p parts next k)
        there other = subst (λ v. LawfulAt v (reduced_parts p parts next k)) (sym (if_other k s side (st.stand k) other)) (lawful_elsewhere k within other)

    pub lawful_step : IsDualFeasible p parts after
    lawful_step = record { stands = standing_after; lawful = lawful_after }

    -- ---- the key

    key_count : key p parts after 0 ≡ key p parts st 0
    key_count =
        let f : ℕ → ℚ = λ i. counted p (next.basic i) in
        let g : ℕ → ℚ = λ i. counted p (d.basic i) in
        let changed : sum_below p.activities f +ℚ g r ≡ sum_below p.activities g +ℚ f r =
        sum_below-changed p.activities r f g r_within (λ i q other. ap (counted p) (if_other i r (d.nonbasic s) (d.basic i) other)) in
        let f_r : f r ≡ int (pos 0) = ap (counted p) (if_same r (d.nonbasic s) (d.basic r)) ∙ sided_not_counted p (d.nonbasic s) (standing_sided p (d.nonbasic s) (st.stand s) (st.at s) s_side (lawful.stands s enters.within)) in
        let g_r : g r ≡ int (pos 0) = sided_not_counted p (d.basic r) leaving_sided in
        let all : sum_below p.activities f +ℚ int (pos 0) ≡ sum_below p.activities g +ℚ int (pos 0) = ap (λ t. sum_below p.activities f +ℚ t) (sym g_r) ∙ changed ∙ ap (λ t. sum_below p.activities g +ℚ t) f_r in
        ring_from (sum_below p.activities f ∷ sum_below p.activities g ∷ []) all (search reads_ℚ depth 9) tt

    abbrev gain : ℚ
    gain = sign side *ℚ (b -ℚ basic_value p st r)

    key_part : (q : ℕ) → gain *ℚ ratio_s q ≡ key p parts after (suc q) -ℚ key p parts st (suc q)
    key_part q =
        let before = key p parts st (suc q) in
        let now : key p parts after (suc q) ≡ before +ℚ (reduced s q /ℚ entry s) *ℚ (b -ℚ basic_value p st r) =
        sum_below-same p.columns _ _ (λ k w. ap (λ t. t *ℚ after.at k) (reduced-pivoted p d r s r_within pivot_some (parts q) k))
        ∙ sum_moved p.columns s (reduced_cost p d (parts q)) entry st.at after.at enters.within pivot_some (λ k w other. if_other k s b (st.at k) other)
        ∙ ap (λ v. before +ℚ (reduced s q /ℚ entry s) *ℚ (v -ℚ basic_value p st r)) (if_same s b (st.at s)) in
        ring (sign side ∷ b ∷ basic_value p st r ∷ reduced s q ∷ inverse (entry s) ∷ []) {y = (sign side *ℚ sign side) *ℚ ((reduced s q /ℚ entry s) *ℚ (b -ℚ basic_value p st r))} (search reads_ℚ depth 9) tt
        ∙ ap (λ v. v *ℚ ((reduced s q /ℚ entry s) *ℚ (b -ℚ basic_value p st r))) (sign_squared side side_is)
        ∙ ring (before ∷ b ∷ basic_value p st r ∷ reduced s q ∷ inverse (entry s) ∷ []) {y = (before +ℚ (reduced s q /ℚ entry s) *ℚ (b -ℚ basic_value p st r)) -ℚ before} (search reads_ℚ depth 9) tt
        ∙ ap (λ v. v -ℚ before) (sym now)

    pub key_step : IsLess (key p parts st) (key p parts after)
    key_step = record { first = suc grown.first; before = earlier; above = subst (λ x. int (pos 0) <ℚ x) (key_part grown.first) grown.above }
      where
        grown : IsPositive (λ q. gain *ℚ ratio_s q)
        grown = positive_scaled gain ratio_s (outside_gap p st r side b outside) ratio_positive

        earlier : (q : ℕ) → q < suc grown.first → key p parts after q -ℚ key p parts st q ≡ int (pos 0)
        earlier zero w = ap (λ v. v -ℚ key p parts st 0) key_count ∙ ring (key p parts st 0 ∷ []) (search reads_ℚ) tt
        earlier (suc q) w = sym (key_part q) ∙ grown.before q (omega arith)
