-- Where some variable may enter, one enters by the rule.
use Rattle.std.specs.Prelude.{◌≡◌, ◌≢◌, ◌⊎◌, ℕ, zero, suc, ◌<◌, ◌≤◌, [], ◌∷◌, pos}
use Rattle.std.proofs.Common.{ap₂, sym, ap, subst, ◌∙◌, arith, ⊎_elim, inl, inr}
use Rattle.std.proofs.lemmas.Bool.{cases_eq, cases_lt}
use Rattle.frac128.specs.Rational.{ℚ, int, ◌+ℚ◌, ◌-ℚ◌, ◌*ℚ◌, ◌/ℚ◌, inverse, ◌≤ℚ◌, ◌<ℚ◌}
use Rattle.frac128.specs.RationalRing.{ring, reads_ℚ}
use Rattle.frac128.specs.RationalOrder.{≤ℚ_or_>ℚ, ≤ℚ_antisymm, <ℚ_irrefl, not_both_ℚ, <ℚ-sub}
use Rattle.table_entries.specs.Relaxation.{Relaxation, IsArranged, reduced_cost}
use Rattle.table_entries.specs.declared.stand.Stand.{Stand}
use Rattle.table_entries.specs.States.{IsLess, IsSame, State, sign, MayEnter, ratio, Enters}
use Rattle.table_entries.specs.declared.stand.Stand.TheVariants.{Low, High, Free}
use Rattle.table_entries.proofs.SumBelowLaws.{sum_below-zero}
use Rattle.table_entries.proofs.CostParts.{positive_same, less_trans, not_less_self}

-- ---- numbers with finitely many parts

abbrev pub EndsAt : ℕ → (ℕ → ℚ) → Type 0
EndsAt n f = (q : ℕ) → n ≤ q → f q ≡ int (pos 0)

pub data Compared (f g : ℕ → ℚ) : Type 0 where
  less : IsLess f g → Compared f g
  same : IsSame f g → Compared f g
  greater : IsLess g f → Compared f g

-- the first n parts are the same, or the first that differs decides
pub data ComparedTo (n : ℕ) (f g : ℕ → ℚ) : Type 0 where
  less_to : IsLess f g → ComparedTo n f g
  same_to : ((q : ℕ) → q < n → f q ≡ g q) → ComparedTo n f g
  greater_to : IsLess g f → ComparedTo n f g

pub first_differs : (n : ℕ) (f g : ℕ → ℚ) → ((q : ℕ) → q < n → f q ≡ g q) → f n <ℚ g n → IsLess f g
first_differs n f g e h = record {
  first = n;
  before = λ q w. ap (λ x. g q -ℚ x) (e q w) ∙ ring (g q ∷ []) (search reads_ℚ) tt;
  above = (<ℚ-sub (f n) (g n)).0 h;
}

compared_to : (n : ℕ) (f g : ℕ → ℚ) → ComparedTo n f g
compared_to zero f g = same_to (λ q h. absurd (omega (arith, h)))
compared_to (suc n) f g = next (compared_to n f g)
  where
    all : ((q : ℕ) → q < n → f q ≡ g q) → f n ≡ g n → (q : ℕ) → q < suc n → f q ≡ g q
    all e last q h = ⊎_elim (λ w. ap f w ∙ last ∙ ap g (sym w)) (λ w. e q (omega (arith, w, h))) (cases_eq q n)

    by_part : ((q : ℕ) → q < n → f q ≡ g q) → ComparedTo (suc n) f g
    by_part e = ⊎_elim
        (λ h. ⊎_elim (λ k. same_to (all e (≤ℚ_antisymm h k))) (λ k. less_to (first_differs n f g e k)) (≤ℚ_or_>ℚ (g n) (f n)))
        (λ h. greater_to (first_differs n g f (λ q w. sym (e q w)) h))
        (≤ℚ_or_>ℚ (f n) (g n))

    next : ComparedTo n f g → ComparedTo (suc n) f g
    next (less_to h) = less_to h
    next (same_to e) = by_part e
    next (greater_to h) = greater_to h

pub compared : (n : ℕ) (f g : ℕ → ℚ) → EndsAt n f → EndsAt n g → Compared f g
compared n f g f_ends g_ends = by (compared_to n f g)
  where
    by : ComparedTo n f g → Compared f g
    by (less_to h) = less h
    by (same_to e) = same (λ q. ⊎_elim (e q) (λ w. f_ends q w ∙ sym (g_ends q w)) (cases_lt q n))
    by (greater_to h) = greater h

-- ---- the least of finitely many

pub less_from_same : (f g h : ℕ → ℚ) → IsLess f g → IsSame g h → IsLess f h
less_from_same f g h l e = positive_same _ _ (λ q. ap (λ x. x -ℚ f q) (e q)) l

pub less_to_same : (f g h : ℕ → ℚ) → IsSame f g → IsLess g h → IsLess f h
less_to_same f g h e l = positive_same _ _ (λ q. ap (λ x. h q -ℚ x) (sym (e q))) l

-- of those below n that may, one with the least values, and of those with the same the first by rank
pub record Least (n : ℕ) (May : ℕ → Type 0) (values : ℕ → ℕ → ℚ) (rank : ℕ → ℕ) : Type 0 where
  pub place : ℕ
  pub within : place < n
  pub may : May place
  pub least : (k : ℕ) → k < n → May k → IsLess (values place) (values k) ⊎ (IsSame (values place) (values k) × (rank place ≤ rank k))

abbrev pub NoneMay : ℕ → (ℕ → Type 0) → Type 0
NoneMay n May = (k : ℕ) → k < n → ¬ (May k)

module _ (n : ℕ) (May : ℕ → Type 0) (values : ℕ → ℕ → ℚ) (rank : ℕ → ℕ) where
  pub none_more : NoneMay n May → ¬ (May n) → NoneMay (suc n) May
  none_more none not k q may = ⊎_elim (λ e. not (subst May e may)) (λ e. none k (omega (arith, e, q)) may) (cases_eq k n)

  -- the last of all is no later than one that is it
  pub itself : (k : ℕ) → k ≡ n → IsSame (values n) (values k) × (rank n ≤ rank k)
  itself k e = ((λ r. ap (λ v. values v r) (sym e)), let same : rank n ≡ rank k = ap rank (sym e) in omega (arith, same))

  unfoldable pub least_alone : NoneMay n May → May n → Least (suc n) May values rank
  least_alone none may = record {
    place = n;
    within = omega arith;
    may = may;
    least = λ k q m. ⊎_elim (λ e. inr (itself k e)) (λ e. absurd (none k (omega (arith, e, q)) m)) (cases_eq k n);
  }

  unfoldable pub least_kept : Least n May values rank → ¬ (May n) → Least (suc n) May values rank
  least_kept found not = record {
    place = found.place;
    within = let w = found.within in omega arith;
    may = found.may;
    least = λ k q m. ⊎_elim (λ e. absurd (not (subst May e m))) (λ e. found.least k (omega (arith, e, q)) m) (cases_eq k n);
  }

  -- the one found stays where it has lesser values, or the same and is no later
  unfoldable pub least_stays : (found : Least n May values rank) → IsLess (values found.place) (values n) ⊎ (IsSame (values found.place) (values n) × (rank found.place ≤ rank n)) → Least (suc n) May values rank
  least_stays found no_more = record {
    place = found.place;
    within = let w = found.within in omega arith;
    may = found.may;
    least = λ k q m. ⊎_elim
        (λ e. subst (λ u. IsLess (values found.place) (values u) ⊎ (IsSame (values found.place) (values u) × (rank found.place ≤ rank u))) (sym e) no_more)
        (λ e. found.least k (omega (arith, e, q)) m)
        (cases_eq k n);
  }

  -- the last takes its place where it has lesser values
  unfoldable pub least_replaced : (found : Least n May values rank) → May n → IsLess (values n) (values found.place) → Least (suc n) May values rank
  least_replaced found may h = record {
    place = n;
    within = omega arith;
    may = may;
    least = λ k q m. ⊎_elim
        (λ e. inr (itself k e))
        (λ e. inl (⊎_elim (λ l. less_trans _ _ _ h l) (λ s. less_from_same _ _ _ h s.0) (found.least k (omega (arith, e, q)) m)))
        (cases_eq k n);
  }

  -- or the same and is no later
  unfoldable pub least_tied : (found : Least n May values rank) → May n → IsSame (values n) (values found.place) → rank n ≤ rank found.place → Least (suc n) May values rank
  least_tied found may h earlier = record {
    place = n;
    within = omega arith;
    may = may;
    least = λ k q m. ⊎_elim
        (λ e. inr (itself k e))
        (λ e. ⊎_elim
        (λ l. inl (less_to_same _ _ _ h l))
        (λ s. inr ((λ r. h r ∙ s.0 r), (let later = s.1 in omega (arith, earlier, later))))
        (found.least k (omega (arith, e, q)) m))
        (cases_eq k n);
  }

pub least_or_none : (n : ℕ) (May : ℕ → Type 0) (values : ℕ → ℕ → ℚ) (rank : ℕ → ℕ) → ((k : ℕ) → May k ⊎ ¬ (May k)) → ((k l : ℕ) → Compared (values k) (values l)) → NoneMay n May ⊎ Least n May values rank
least_or_none zero May values rank decided order = inl (λ k q. absurd (omega (arith, q)))
least_or_none (suc n) May values rank decided order = ⊎_elim
    (λ none. ⊎_elim (λ may. inr (least_alone n May values rank none may)) (λ not. inl (none_more n May values rank none not)) (decided n))
    (λ found. ⊎_elim (λ may. inr (against found may (order found.place n))) (λ not. inr (least_kept n May values rank found not)) (decided n))
    (least_or_none n May values rank decided order)
  where
    against : (found : Least n May values rank) → May n → Compared (values found.place) (values n) → Least (suc n) May values rank
    against found may (less h) = least_stays n May values rank found (inl h)
    against found may (same h) = ⊎_elim
        (λ w. least_tied n May values rank found may (λ q. sym (h q)) (omega (arith, w)))
        (λ w. least_stays n May values rank found (inr (h, w)))
        (cases_lt (rank n) (rank found.place))
    against found may (greater h) = least_replaced n May values rank found may h

-- ---- who enters

pub positive_decided : (x : ℚ) → (int (pos 0) <ℚ x) ⊎ ¬ (int (pos 0) <ℚ x)
positive_decided x = ⊎_elim (λ h. inr (λ k. not_both_ℚ h k)) inl (≤ℚ_or_>ℚ x (int (pos 0)))

nonzero_decided : (t : ℚ) → (t ≢ int (pos 0)) ⊎ ¬ (t ≢ int (pos 0))
nonzero_decided t = ⊎_elim low above (≤ℚ_or_>ℚ t (int (pos 0)))
  where
    above : int (pos 0) <ℚ t → (t ≢ int (pos 0)) ⊎ ¬ (t ≢ int (pos 0))
    above k = inl (λ e. <ℚ_irrefl (subst (λ x. int (pos 0) <ℚ x) e k))

    low : t ≤ℚ int (pos 0) → (t ≢ int (pos 0)) ⊎ ¬ (t ≢ int (pos 0))
    low h = ⊎_elim (λ k. inr (λ n. n (≤ℚ_antisymm h k))) (λ k. inl (λ e. <ℚ_irrefl (subst (λ x. x <ℚ int (pos 0)) e k))) (≤ℚ_or_>ℚ (int (pos 0)) t)

pub may_decided : (side stand : Stand) (t : ℚ) → MayEnter side stand t ⊎ ¬ (MayEnter side stand t)
may_decided side Low t = positive_decided (sign side *ℚ (sign Low *ℚ t))
may_decided side High t = positive_decided (sign side *ℚ (sign High *ℚ t))
may_decided side Free t = nonzero_decided t

-- with finitely many parts, none may enter or one does by the rule
module _ (p : Relaxation) (parts : ℕ → ℕ → ℚ) (n : ℕ) (ends : (q v : ℕ) → n ≤ q → parts q v ≡ int (pos 0)) (st : State) (r : ℕ) (side : Stand) where
  pub ratio_ends : (k : ℕ) → EndsAt n (ratio p parts st r side k)
  ratio_ends k q w =
      let none : reduced_cost p st.table (parts q) k ≡ int (pos 0) =
      ap₂ ◌+ℚ◌ (ends q (st.table.nonbasic k) w) (sum_below-zero p.activities _ (λ i h. ap (λ t. t *ℚ st.table.entry i k) (ends q (st.table.basic i) w) ∙ ring (st.table.entry i k ∷ []) (search reads_ℚ) tt))
      ∙ ring [] (search reads_ℚ) tt in
      ap (λ t. sign side *ℚ (t /ℚ st.table.entry r k)) none ∙ ring (sign side ∷ inverse (st.table.entry r k) ∷ []) (search reads_ℚ) tt

  pub enters_or_none : NoneMay p.columns (λ k. MayEnter side (st.stand k) (st.table.entry r k)) ⊎ ((s : ℕ) × Enters p parts st r side s)
  enters_or_none = ⊎_elim inl
      (λ found. inr (found.place, record { within = found.within; may = found.may; least = found.least }))
      (least_or_none p.columns (λ k. MayEnter side (st.stand k) (st.table.entry r k)) (ratio p parts st r side) st.table.nonbasic (λ k. may_decided side (st.stand k) (st.table.entry r k))
      (λ k l. compared n (ratio p parts st r side k) (ratio p parts st r side l) (ratio_ends k) (ratio_ends l)))

-- one place at most enters by the rule
pub enters_once : (p : Relaxation) (parts : ℕ → ℕ → ℚ) (st : State) → IsArranged p st.table → (r : ℕ) (side : Stand) (s u : ℕ) → Enters p parts st r side s → Enters p parts st r side u → s ≡ u
enters_once p parts st arranged r side s u a b = ⊎_elim first (λ e. ⊎_elim (λ l. second l e.0) (λ f. arranged.nonbasic_once s u a.within b.within (let x = e.1 in let y = f.1 in omega (arith, x, y))) (b.least s a.within a.may)) (a.least u b.within b.may)
  where
    first : IsLess (ratio p parts st r side s) (ratio p parts st r side u) → s ≡ u
    first l = ⊎_elim (λ m. absurd (not_less_self _ (less_trans _ _ _ l m))) (λ f. absurd (not_less_self _ (less_from_same _ _ _ l f.0))) (b.least s a.within a.may)

    second : IsLess (ratio p parts st r side u) (ratio p parts st r side s) → IsSame (ratio p parts st r side s) (ratio p parts st r side u) → s ≡ u
    second l e = absurd (not_less_self _ (less_from_same _ _ _ l e))
