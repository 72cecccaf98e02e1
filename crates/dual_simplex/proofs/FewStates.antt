-- A walk has fewer moves than there are ways for each variable to be basic, at its low side or at its high one.
use Rattle.std.specs.Prelude.{◌≡◌, ◌≢◌, ◌⊎◌, ℕ, zero, suc, ◌+◌, ◌*◌, ◌^◌, ◌<◌, ◌≤◌, ◌==◌, Bool, true, false, if◌then◌else◌, Option, Some, None, is_none, Result, Ok}
use Rattle.std.proofs.Common.{refl, sym, ap, subst, ◌∙◌, arith, ⊎_elim, inl, inr}
use Rattle.std.proofs.lemmas.Bool.{cases_eq, false≢true}
use Rattle.frac128.specs.Rational.{ℚ, ◌-ℚ◌}
use Rattle.table_entries.specs.declared.stand.Stand.{Stand}
use Rattle.table_entries.specs.declared.stand.Stand.TheVariants.{Low, High, Free}
use Rattle.table_entries.specs.Relaxation.{Relaxation, IsArranged}
use Rattle.table_entries.specs.States.{IsLess, State, Standing, IsGood, key, SameState}
use Rattle.table_entries.specs.Directions.{stand_number}
use Rattle.table_entries.specs.Bases.{Found}
use Rattle.table_entries.proofs.SumBelowLaws.{if_same, if_other}
use Rattle.table_entries.proofs.BringIn.{basic_within, nonbasic_within}
use Rattle.table_entries.proofs.OneTable.{covered}
use Rattle.table_entries.proofs.SameState.{key_same}
use Rattle.table_entries.proofs.CostParts.{positive_same, not_less_self}
use Rattle.basic_solution.specs.Held.{Held, IsLawfulHeld, relaxation, parts, state, table, variables}
use Rattle.dual_simplex.specs.Moves.{IsMoved}
use Rattle.dual_simplex.specs.Walks.{Moves, IsWalkEnd, IsWalkAnswer}
use Rattle.lp_model.specs.declared.types.WideStep.{WideStep}
use Rattle.dual_simplex.specs.declared.walk.Walk.{Walk}
use Rattle.dual_simplex.specs.declared.walk.Walk.TheVariants.{Pivots}
use Rattle.dual_simplex.specs.Laws.{Rises}
use Rattle.dual_simplex.proofs.WalkLemmas.{rises_once, rises_both}

-- ---- the pigeonhole principle

abbrev Into : (ℕ → ℕ) → ℕ → ℕ → Type 0
Into f n m = (i : ℕ) → i < n → f i < m

abbrev OneToOne : (ℕ → ℕ) → ℕ → Type 0
OneToOne f n = (i j : ℕ) → i < n → j < n → f i ≡ f j → i ≡ j

-- the last number in the place of m
abbrev avoiding : (ℕ → ℕ) → ℕ → ℕ → ℕ → ℕ
avoiding f m n i = if f i == m then f n else f i

avoids : (f : ℕ → ℕ) (m n i : ℕ) → ((f i ≡ m) × (avoiding f m n i ≡ f n)) ⊎ ((f i ≢ m) × (avoiding f m n i ≡ f i))
avoids f m n i = ⊎_elim
    (λ e. inl (e, subst (λ w. (if f i == w then f n else f i) ≡ f n) e (if_same (f i) (f n) (f i))))
    (λ other. inr (other, if_other (f i) m (f n) (f i) other))
    (cases_eq (f i) m)

module _ (f : ℕ → ℕ) (n m : ℕ) (into : Into f (suc n) (suc m)) (one : OneToOne f (suc n)) where
  last_is : (i : ℕ) → i < n → ¬ (f i ≡ f n)
  last_is i q e = let same = one i n (omega (arith, q)) (omega arith) e in omega (arith, q, same)

  into_less : Into (avoiding f m n) n m
  into_less i q =
      let a = into i (omega (arith, q)) in
      let b = into n (omega arith) in
      ⊎_elim
      (λ h. let c : ¬ (f n ≡ m) = λ e. last_is i q (h.0 ∙ sym e) in subst (λ w. w < m) (sym h.1) (omega (arith, b, c)))
      (λ h. let c = h.0 in subst (λ w. w < m) (sym h.1) (omega (arith, a, c)))
      (avoids f m n i)

  one_less : OneToOne (avoiding f m n) n
  one_less i j q w e = ⊎_elim
      (λ g. ⊎_elim (λ h. one i j (omega (arith, q)) (omega (arith, w)) (g.0 ∙ sym h.0)) (λ h. absurd (last_is j w (sym (sym g.1 ∙ e ∙ h.1)))) (avoids f m n j))
      (λ g. ⊎_elim (λ h. absurd (last_is i q (sym g.1 ∙ e ∙ h.1))) (λ h. one i j (omega (arith, q)) (omega (arith, w)) (sym g.1 ∙ e ∙ h.1)) (avoids f m n j))
      (avoids f m n i)

pigeonhole : (n m : ℕ) (f : ℕ → ℕ) → Into f n m → OneToOne f n → n ≤ m
pigeonhole zero m f into one = omega arith
pigeonhole (suc n) zero f into one = let q = into n (omega arith) in absurd (omega (arith, q))
pigeonhole (suc n) (suc m) f into one = let q = pigeonhole n m (avoiding f m n) (into_less f n m into one) (one_less f n m into one) in omega (arith, q)

order : (i j : ℕ) → (i < j) ⊎ (j ≤ i)
order zero zero = inr (omega arith)
order zero (suc j) = inl (omega arith)
order (suc i) zero = inr (omega arith)
order (suc i) (suc j) = ⊎_elim (λ q. inl (omega (arith, q))) (λ q. inr (omega (arith, q))) (order i j)

-- ---- numbers of three digits

abbrev code : (ℕ → ℕ) → ℕ → ℕ
code f zero = 0
code f (suc n) = 3 * code f n + f n

module _ (f : ℕ → ℕ) (small : (v : ℕ) → f v < 3) where
  code_small : (n : ℕ) → code f n < 3 ^ n
  code_small zero = omega arith
  code_small (suc n) = let a = code_small n in let b = small n in omega (arith, a, b)

  code_same : (g : ℕ → ℕ) → ((v : ℕ) → g v < 3) → (n : ℕ) → code f n ≡ code g n → (v : ℕ) → v < n → f v ≡ g v
  code_same g low zero e v q = omega (arith, q)
  code_same g low (suc n) e v q =
      let a = small n in
      let b = low n in
      let last : f n ≡ g n = omega (arith, a, b, e) in
      let first : code f n ≡ code g n = omega (arith, a, b, e) in
      ⊎_elim (λ h. subst (λ w. f w ≡ g w) (sym h) last) (λ other. code_same g low n first v (omega (arith, q, other))) (cases_eq v n)

-- ---- the digit of a variable: 0 where it is basic, 2 at its high side, and else 1

abbrev digit_of : Stand → ℕ
digit_of Low = 1
digit_of High = 2
digit_of Free = 1

digit_some : (stand : Stand) → digit_of stand ≢ 0
digit_some Low e = omega (arith, e)
digit_some High e = omega (arith, e)
digit_some Free e = omega (arith, e)

digit_below : (stand : Stand) → digit_of stand < 3
digit_below Low = omega arith
digit_below High = omega arith
digit_below Free = omega arith

abbrev digit : ℕ → (ℕ → ℕ) → (ℕ → Stand) → ℕ → ℕ
digit zero f stand v = 0
digit (suc n) f stand v = if v == f n then digit_of (stand n) else digit n f stand v

either : (P : ℕ → Type 0) (t : Bool) (a b : ℕ) → P a → P b → P (if t then a else b)
either P true a b h g = h
either P false a b h g = g

digit_small : (n : ℕ) (f : ℕ → ℕ) (stand : ℕ → Stand) (v : ℕ) → digit n f stand v < 3
digit_small zero f stand v = omega arith
digit_small (suc n) f stand v = either (λ w. w < 3) (v == f n) (digit_of (stand n)) (digit n f stand v) (digit_below (stand n)) (digit_small n f stand v)

digit_found : (n : ℕ) (f : ℕ → ℕ) (stand : ℕ → Stand) → OneToOne f n → (k : ℕ) → k < n → digit n f stand (f k) ≡ digit_of (stand k)
digit_found zero f stand one k q = omega (arith, q)
digit_found (suc n) f stand one k q = ⊎_elim
    (λ e. subst (λ w. (if f k == w then digit_of (stand n) else digit n f stand (f k)) ≡ digit_of (stand n)) e (if_same (f k) (digit_of (stand n)) (digit n f stand (f k)))
    ∙ ap (λ m. digit_of (stand m)) (sym (one k n q (omega arith) e)))
    (λ other. if_other (f k) (f n) (digit_of (stand n)) (digit n f stand (f k)) other
    ∙ digit_found n f stand (λ i j a b e. one i j (omega (arith, a)) (omega (arith, b)) e) k (earlier other))
    (cases_eq (f k) (f n))
  where
    earlier : ¬ (f k ≡ f n) → k < n
    earlier other = ⊎_elim (λ e. absurd (other (ap f e))) (λ less. omega (arith, q, less)) (cases_eq k n)

digit_none : (n : ℕ) (f : ℕ → ℕ) (stand : ℕ → Stand) (v : ℕ) → ((k : ℕ) → k < n → ¬ (v ≡ f k)) → digit n f stand v ≡ 0
digit_none zero f stand v none = omega arith
digit_none (suc n) f stand v none = if_other v (f n) (digit_of (stand n)) (digit n f stand v) (none n (omega arith)) ∙ digit_none n f stand v (λ k q. none k (omega (arith, q)))

abbrev digits : Relaxation → State → ℕ → ℕ
digits p st = digit p.columns st.table.nonbasic st.stand

abbrev code_of : Relaxation → State → ℕ
code_of p st = code (digits p st) (p.columns + p.activities)

-- ---- states with the same digits are the same

value_at : (o : Option ℚ) (a b : ℚ) → o ≡ Some a → o ≡ Some b → a ≡ b
value_at o a b e f = ap (λ x. stand_number Low x None) (sym e ∙ f)

missing : (o : Option ℚ) (b : ℚ) → o ≡ None → ¬ (o ≡ Some b)
missing o b none some = false≢true (ap (λ x. is_none x) (sym some ∙ none))

same_number : (p : Relaxation) (v : ℕ) (a b : Stand) (x y : ℚ) → digit_of a ≡ digit_of b → Standing p v a x → Standing p v b y → x ≡ y
same_number p v Low Low x y e s t = value_at (p.low v) x y s t
same_number p v Low High x y e s t = absurd (omega (arith, e))
same_number p v Low Free x y e s t = absurd (missing (p.low v) x t.0 s)
same_number p v High Low x y e s t = absurd (omega (arith, e))
same_number p v High High x y e s t = value_at (p.high v) x y s t
same_number p v High Free x y e s t = absurd (omega (arith, e))
same_number p v Free Low x y e s t = absurd (missing (p.low v) y s.0 t)
same_number p v Free High x y e s t = absurd (omega (arith, e))
same_number p v Free Free x y e s t = s.2 ∙ sym t.2

module _ (p : Relaxation) (st : State) (arranged : IsArranged p st.table) where
  digit_basic : (i : ℕ) → i < p.activities → digits p st (st.table.basic i) ≡ 0
  digit_basic i q = digit_none p.columns st.table.nonbasic st.stand (st.table.basic i) (λ k w. arranged.apart i k q w)

  digit_nonbasic : (k : ℕ) → k < p.columns → digits p st (st.table.nonbasic k) ≡ digit_of (st.stand k)
  digit_nonbasic k q = digit_found p.columns st.table.nonbasic st.stand arranged.nonbasic_once k q

-- a variable with the digit 0 is basic
basic_by_digit : (p : Relaxation) (st : State) → IsArranged p st.table → (v : ℕ) → v < p.columns + p.activities → digits p st v ≡ 0 → Found p.activities st.table.basic v
basic_by_digit p st arranged v q e = ⊎_elim (λ f. f)
    (λ f. absurd (digit_some (st.stand f.0) (sym (digit_nonbasic p st arranged f.0 f.1) ∙ ap (digits p st) (sym f.2) ∙ e)))
    (covered p st.table arranged v q)

module _ (p : Relaxation) (costs : ℕ → ℕ → ℚ) (st other : State) (good : IsGood p costs st) (other_good : IsGood p costs other) (same : code_of p st ≡ code_of p other) where
  digits_same : (v : ℕ) → v < p.columns + p.activities → digits p st v ≡ digits p other v
  digits_same v q =
      code_same (digits p st) (digit_small p.columns st.table.nonbasic st.stand) (digits p other) (digit_small p.columns other.table.nonbasic other.stand) (p.columns + p.activities) same v q

  same_state : SameState p st other
  same_state = record {
    basics = λ i q. basic_by_digit p other other_good.arranged (st.table.basic i) (basic_within p st.table good.arranged i q)
        (sym (digits_same (st.table.basic i) (basic_within p st.table good.arranged i q)) ∙ digit_basic p st good.arranged i q);
    basics_back = λ j q. basic_by_digit p st good.arranged (other.table.basic j) (basic_within p other.table other_good.arranged j q)
        (digits_same (other.table.basic j) (basic_within p other.table other_good.arranged j q) ∙ digit_basic p other other_good.arranged j q);
    numbers = λ k l q w e. same_number p (st.table.nonbasic k) (st.stand k) (other.stand l) (st.at k) (other.at l)
        (sym (digit_nonbasic p st good.arranged k q) ∙ digits_same (st.table.nonbasic k) (nonbasic_within p st.table good.arranged k q) ∙ ap (digits p other) e ∙ digit_nonbasic p other other_good.arranged l w)
        (good.lawful.stands k q)
        (subst (λ v. Standing p v (other.stand l) (other.at l)) (sym e) (other_good.lawful.stands l w));
  }

  not_less : ¬ (IsLess (key p costs st) (key p costs other))
  not_less less =
      let equal = key_same p costs st other good other_good same_state in
      not_less_self (key p costs st) (positive_same _ _ (λ q. ap (λ v. v -ℚ key p costs st q) (sym (equal q))) less)

-- ---- the states of a walk

abbrev held_code : Held → ℕ
held_code s = code_of (relaxation s) (state s)

rises_to_other : (s after : Held) → IsLawfulHeld s → Rises s after → held_code s ≢ held_code after
rises_to_other s after kept rise e = not_less (relaxation s) (parts s) (state s) (state after) kept.good
    (subst (λ X. X) (λ i. IsGood (sym rise.same_relaxation i) (sym rise.same_parts i) (state after)) rise.kept.good)
    (e ∙ sym (ap (λ p. code_of p (state after)) rise.same_relaxation))
    rise.key

-- the state after t of the moves
abbrev on_way : (n : ℕ) (s after : Held) → Moves n s after → ℕ → Held
on_way zero s after moves t = s
on_way (suc n) s after (mid, (moves, moved)) t = if t == suc n then after else on_way n s mid moves t

way_ends : (n : ℕ) (s after : Held) (moves : Moves n s after) → on_way n s after moves n ≡ after
way_ends zero s after moves = sym moves
way_ends (suc n) s after (mid, (moves, moved)) = if_same (suc n) after (on_way n s mid moves (suc n))

way_earlier : (n : ℕ) (s mid after : Held) (moves : Moves n s mid) (moved : IsMoved mid after) (t : ℕ) → t ≤ n → on_way (suc n) s after (mid, (moves, moved)) t ≡ on_way n s mid moves t
way_earlier n s mid after moves moved t q = if_other t (suc n) after (on_way n s mid moves t) (λ e. omega (arith, q, e))

same_variables : (s after : Held) → Rises s after → variables s ≡ variables after
same_variables s after rise = ap (λ p. p.columns + p.activities) rise.same_relaxation

module _ (s : Held) (kept : IsLawfulHeld s) where
  kept_on_way : (n : ℕ) (after : Held) (moves : Moves n s after) (t : ℕ) → t ≤ n → IsLawfulHeld (on_way n s after moves t)
  kept_on_way zero after moves t q = kept
  kept_on_way (suc n) after (mid, (moves, moved)) t q = ⊎_elim
      (λ e. subst (λ w. IsLawfulHeld (on_way (suc n) s after (mid, (moves, moved)) w)) (sym e)
      (subst IsLawfulHeld (sym (way_ends (suc n) s after (mid, (moves, moved)))) (rises_once mid after (subst IsLawfulHeld (way_ends n s mid moves) (kept_on_way n mid moves n (omega arith))) moved).kept))
      (λ other. subst IsLawfulHeld (sym (way_earlier n s mid after moves moved t (omega (arith, q, other)))) (kept_on_way n mid moves t (omega (arith, q, other))))
      (cases_eq t (suc n))

  rises_last : (n : ℕ) (mid after : Held) (moves : Moves n s mid) (moved : IsMoved mid after) → Rises mid after
  rises_last n mid after moves moved = rises_once mid after (subst IsLawfulHeld (way_ends n s mid moves) (kept_on_way n mid moves n (omega arith))) moved

  rises_to_end : (n : ℕ) (mid after : Held) (moves : Moves n s mid) (moved : IsMoved mid after) (t : ℕ) → t ≤ n → (t < n → Rises (on_way n s mid moves t) mid) → Rises (on_way n s mid moves t) after
  rises_to_end n mid after moves moved t q earlier = ⊎_elim
      (λ e. subst (λ w. Rises w after) (sym (ap (on_way n s mid moves) e ∙ way_ends n s mid moves)) (rises_last n mid after moves moved))
      (λ other. rises_both (on_way n s mid moves t) mid after (earlier (omega (arith, q, other))) (rises_last n mid after moves moved))
      (cases_eq t n)

  rises_on_way : (n : ℕ) (after : Held) (moves : Moves n s after) (t u : ℕ) → t < u → u ≤ n → Rises (on_way n s after moves t) (on_way n s after moves u)
  rises_on_way zero after moves t u less q = absurd (omega (arith, less, q))
  rises_on_way (suc n) after (mid, (moves, moved)) t u less q = ⊎_elim
      (λ e. subst (λ w. Rises (on_way (suc n) s after (mid, (moves, moved)) t) (on_way (suc n) s after (mid, (moves, moved)) w)) (sym e)
      (subst (Rises (on_way (suc n) s after (mid, (moves, moved)) t)) (sym (way_ends (suc n) s after (mid, (moves, moved))))
      (subst (λ w. Rises w after) (sym (way_earlier n s mid after moves moved t (omega (arith, less, q))))
      (rises_to_end n mid after moves moved t (omega (arith, less, q)) (λ w. subst (Rises (on_way n s mid moves t)) (way_ends n s mid moves) (rises_on_way n mid moves t n w (omega arith)))))))
      (λ other. subst (λ w. Rises w (on_way (suc n) s after (mid, (moves, moved)) u)) (sym (way_earlier n s mid after moves moved t (omega (arith, less, q))))
      (subst (Rises (on_way n s mid moves t)) (sym (way_earlier n s mid after moves moved u (omega (arith, q, other)))) (rises_on_way n mid moves t u less (omega (arith, q, other)))))
      (cases_eq u (suc n))

  way_begins : (n : ℕ) (after : Held) (moves : Moves n s after) → on_way n s after moves 0 ≡ s
  way_begins zero after moves = refl
  way_begins (suc n) after (mid, (moves, moved)) = way_earlier n s mid after moves moved 0 (omega arith) ∙ way_begins n mid moves

  module _ (n : ℕ) (after : Held) (moves : Moves n s after) where
    abbrev step : ℕ → Held
    step = on_way n s after moves

    few : (t : ℕ) → t < suc n → held_code (step t) < 3 ^ variables s
    few t q =
        let small = code_small (digits (relaxation (step t)) (state (step t))) (digit_small (relaxation (step t)).columns (table (step t)).nonbasic (state (step t)).stand) (variables (step t)) in
        subst (λ m. held_code (step t) < 3 ^ m) (sym same) small
      where
        same : variables s ≡ variables (step t)
        same = ⊎_elim
            (λ e. sym (ap (λ w. variables (step w)) e ∙ ap variables (way_begins n after moves)))
            (λ some. ap variables (sym (way_begins n after moves)) ∙ same_variables (step 0) (step t) (rises_on_way n after moves 0 t (omega (arith, some)) (omega (arith, q))))
            (cases_eq t 0)

    rising : (t u : ℕ) → t < u → u < suc n → held_code (step t) ≢ held_code (step u)
    rising t u less q = rises_to_other (step t) (step u) (kept_on_way n after moves t (omega (arith, less, q))) (rises_on_way n after moves t u less (omega (arith, q)))

    one_each : OneToOne (λ t. held_code (step t)) (suc n)
    one_each t u q w e = ⊎_elim
        (λ less. absurd (rising t u less w e))
        (λ rest. ⊎_elim (λ less. absurd (rising u t less q (sym e))) (λ other. omega (arith, rest, other)) (order u t))
        (order t u)

    pub few_moves : n < 3 ^ variables s
    few_moves = let q = pigeonhole (suc n) (3 ^ variables s) (λ t. held_code (step t)) few one_each in omega (arith, q)

-- where that many moves are allowed, a walk does not end for want of moves
pub ends : (s : Held) (limit : ℕ) (r : Result Walk WideStep) (after : Held) → IsLawfulHeld s → 3 ^ variables s ≤ limit → IsWalkAnswer s limit r after → r ≢ Ok Pivots
ends s limit r after kept enough walked e =
    let end = subst (λ w. IsWalkEnd walked.0 limit w after) e walked.1.1.1 in
    let few = few_moves s kept walked.0 after walked.1.1.0 in
    let same = end.0 in
    omega (arith, enough, few, same)
