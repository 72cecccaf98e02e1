-- Multipliers told by how they differ from others are had again.
use Rattle.std.specs.Prelude.{◌≡◌, ℕ, suc, Bool, true, false, not, if◌then◌else◌, List, [], ◌∷◌, map, pos, Result, Ok, Err}
use Rattle.std.specs.List.{list_all}
use Rattle.std.proofs.Common.{refl, sym, ap, ap₂, subst, ◌∙◌}
use Rattle.frac128.specs.Rational.{ℚ, int}
use Rattle.frac128.proofs.Comparison.{eq_by_cmp-decides}
use Rattle.lp_model.specs.Edits.{is_zero}
use Rattle.lp_model.specs.declared.types.Var.{Var}
use Rattle.node_differences.specs.Order.{stands_before, are_rising}
use Rattle.node_differences.specs.Differences.{same_number, gone, difference, put_before, entered, changed_there, all_entered, changed}
use Rattle.node_differences.specs.Told.{are_told_multipliers}
use Rattle.node_differences.proofs.OrderLemmas.{not_before, same_variable, HeadBehind, Rising, both_true, rising, further}

abbrev pub Entry : Type 0
Entry = Var × ℚ

abbrev pub names : List Entry → List Var
names ms = map (λ m. m.0) ms

abbrev pub NoZeros : List Entry → Type 0
NoZeros [] = Unit {0}
NoZeros (m ∷ ms) = (is_zero m.1 ≡ false) × NoZeros ms

not_true : (b : Bool) → not b ≡ true → b ≡ false
not_true true e = absurd (cc)
not_true false e = refl

no_zeros : (ms : List Entry) → list_all (λ (m : Entry). not (is_zero m.1)) ms ≡ true → NoZeros ms
no_zeros [] e = tt
no_zeros (m ∷ ms) e = let parts = both_true (not (is_zero m.1)) (list_all (λ (n : Entry). not (is_zero n.1)) ms) e in (not_true (is_zero m.1) parts.0, no_zeros ms parts.1)

zero_is : is_zero (int (pos 0)) ≡ true
zero_is = (eq_by_cmp-decides (int (pos 0)) (int (pos 0))).1 refl

abbrev pub either : {A : Type 0} → Bool → Bool → A → A → A → A
either b c first second both = if b then first else if c then second else both

-- ---- the first name of a difference

module _ (w : Var) (m : Entry) (ms : List Entry) (own : (ns : List Entry) → HeadBehind w (names ms) → HeadBehind w (names ns) → Rising (names ms) → Rising (names ns) → HeadBehind w (names (difference ms ns))) where
  behind-two : (n : Entry) (ns : List Entry) (b c d : Bool) → stands_before w m.0 ≡ true → stands_before w n.0 ≡ true → HeadBehind m.0 (names ms) → HeadBehind n.0 (names ns) → Rising (names ms) → Rising (names ns)
      → HeadBehind w (names (either b c (gone m ∷ difference ms (n ∷ ns)) (n ∷ difference (m ∷ ms) ns) (if d then difference ms ns else n ∷ difference ms ns)))
  behind-two n ns true c d h k hm hn r s = h
  behind-two n ns false true d h k hm hn r s = k
  behind-two n ns false false true h k hm hn r s = own ns (further w m.0 (names ms) h hm) (further w n.0 (names ns) k hn) r s
  behind-two n ns false false false h k hm hn r s = k

pub difference-behind : (w : Var) (ms ns : List Entry) → HeadBehind w (names ms) → HeadBehind w (names ns) → Rising (names ms) → Rising (names ns) → HeadBehind w (names (difference ms ns))
difference-behind w [] ns h k r s = k
difference-behind w (m ∷ ms) [] h k r s = h
difference-behind w (m ∷ ms) (n ∷ ns) h k r s =
    behind-two w m ms (difference-behind w ms) n ns (stands_before m.0 n.0) (stands_before n.0 m.0) (same_number m.1 n.1) h k r.0 s.0 r.1 s.1

-- ---- undone

abbrev pub Made : Type 0
Made = Result (List Entry) ℕ

all-entered : (k : ℕ) (ns : List Entry) → NoZeros ns → all_entered k ns ≡ Ok ns
all-entered k [] h = refl
all-entered k (n ∷ ns) h =
    ap (λ b. if b then Err k else put_before n (all_entered (suc k) ns)) h.0 ∙ ap (put_before n) (all-entered (suc k) ns h.1)

-- a list whose first stands before all changes
first-stays : (m : Entry) (ms ds : List Entry) (k : ℕ) → HeadBehind m.0 (names ds) → changed (m ∷ ms) k ds ≡ put_before m (changed ms k ds)
first-stays m ms [] k h = refl
first-stays m ms (d ∷ ds) k h =
    ap (λ b. either b (stands_before d.0 m.0) (put_before m (changed ms k (d ∷ ds))) (entered k d (changed (m ∷ ms) (suc k) ds)) (changed_there k m d (changed ms (suc k) ds))) h

-- the first of both lists has one name
first-there : (m d : Entry) (ms ds : List Entry) (k : ℕ) → m.0 ≡ d.0 → changed (m ∷ ms) k (d ∷ ds) ≡ changed_there k m d (changed ms (suc k) ds)
first-there m d ms ds k same =
    let first : stands_before m.0 d.0 ≡ false = subst (λ v. stands_before m.0 v ≡ false) same (not_before m.0) in
    let second : stands_before d.0 m.0 ≡ false = subst (λ v. stands_before v m.0 ≡ false) same (not_before m.0) in
    ap (λ b. either b (stands_before d.0 m.0) (put_before m (changed ms k (d ∷ ds))) (entered k d (changed (m ∷ ms) (suc k) ds)) (changed_there k m d (changed ms (suc k) ds))) first
    ∙ ap (λ b. either false b (put_before m (changed ms k (d ∷ ds))) (entered k d (changed (m ∷ ms) (suc k) ds)) (changed_there k m d (changed ms (suc k) ds))) second

-- a change stands before all of the list
second-enters : (m d : Entry) (ms ds : List Entry) (k : ℕ) → stands_before m.0 d.0 ≡ false → stands_before d.0 m.0 ≡ true → is_zero d.1 ≡ false → changed (m ∷ ms) k (d ∷ ds) ≡ put_before d (changed (m ∷ ms) (suc k) ds)
second-enters m d ms ds k first second some =
    ap (λ b. either b (stands_before d.0 m.0) (put_before m (changed ms k (d ∷ ds))) (entered k d (changed (m ∷ ms) (suc k) ds)) (changed_there k m d (changed ms (suc k) ds))) first
    ∙ ap (λ b. either false b (put_before m (changed ms k (d ∷ ds))) (entered k d (changed (m ∷ ms) (suc k) ds)) (changed_there k m d (changed ms (suc k) ds))) second
    ∙ ap (λ b. if b then Err k else put_before d (changed (m ∷ ms) (suc k) ds)) some

-- the first goes
first-goes : (m : Entry) (ms ds : List Entry) (k : ℕ) → is_zero m.1 ≡ false → changed (m ∷ ms) k (gone m ∷ ds) ≡ changed ms (suc k) ds
first-goes m ms ds k some =
    first-there m (gone m) ms ds k refl
    ∙ ap (λ b. if b then Err k else if is_zero (int (pos 0)) then changed ms (suc k) ds else put_before (gone m) (changed ms (suc k) ds)) some
    ∙ ap (λ b. if b then changed ms (suc k) ds else put_before (gone m) (changed ms (suc k) ds)) zero_is

-- it has another number
first-changes : (m n : Entry) (ms ds : List Entry) (k : ℕ) → m.0 ≡ n.0 → same_number m.1 n.1 ≡ false → is_zero n.1 ≡ false → changed (m ∷ ms) k (n ∷ ds) ≡ put_before n (changed ms (suc k) ds)
first-changes m n ms ds k same other some =
    first-there m n ms ds k same
    ∙ ap (λ b. if b then Err k else if is_zero n.1 then changed ms (suc k) ds else put_before n (changed ms (suc k) ds)) other
    ∙ ap (λ b. if b then changed ms (suc k) ds else put_before n (changed ms (suc k) ds)) some

same-entry : (m n : Entry) → m.0 ≡ n.0 → same_number m.1 n.1 ≡ true → m ≡ n
same-entry m n name number = ap₂ (λ v x. (v, x)) name ((eq_by_cmp-decides m.1 n.1).0 number)

pub record Can (ms : List Entry) : Type 0 where
  pub rises : Rising (names ms)
  pub some : NoZeros ms

can-rest : (m : Entry) (ms : List Entry) → Can (m ∷ ms) → Can ms
can-rest m ms c = record { rises = c.rises.1; some = c.some.1 }

module _ (m : Entry) (ms : List Entry) (back : (ns : List Entry) (k : ℕ) → Can ms → Can ns → changed ms k (difference ms ns) ≡ Ok ns) where
  undone-two : (n : Entry) (ns : List Entry) (k : ℕ) (b c d : Bool) → stands_before m.0 n.0 ≡ b → stands_before n.0 m.0 ≡ c → same_number m.1 n.1 ≡ d → Can (m ∷ ms) → Can (n ∷ ns)
      → ((j : ℕ) → changed (m ∷ ms) j (difference (m ∷ ms) ns) ≡ Ok ns)
      → changed (m ∷ ms) k (either b c (gone m ∷ difference ms (n ∷ ns)) (n ∷ difference (m ∷ ms) ns) (if d then difference ms ns else n ∷ difference ms ns)) ≡ Ok (n ∷ ns)
  undone-two n ns k true c d h g f p q again = first-goes m ms (difference ms (n ∷ ns)) k p.some.0 ∙ back (n ∷ ns) (suc k) (can-rest m ms p) q
  undone-two n ns k false true d h g f p q again = second-enters m n ms (difference (m ∷ ms) ns) k h g q.some.0 ∙ ap (put_before n) (again (suc k))
  undone-two n ns k false false true h g f p q again =
      let name : m.0 ≡ n.0 = same_variable m.0 n.0 h g in
      let behind : HeadBehind m.0 (names ns) = subst (λ v. HeadBehind v (names ns)) (sym name) q.rises.0 in
      first-stays m ms (difference ms ns) k (difference-behind m.0 ms ns p.rises.0 behind p.rises.1 q.rises.1)
      ∙ ap (put_before m) (back ns k (can-rest m ms p) (can-rest n ns q)) ∙ ap (λ e. Ok (e ∷ ns)) (same-entry m n name f)
  undone-two n ns k false false false h g f p q again =
      first-changes m n ms (difference ms ns) k (same_variable m.0 n.0 h g) f q.some.0 ∙ ap (put_before n) (back ns (suc k) (can-rest m ms p) (can-rest n ns q))

  undone-behind : (ns : List Entry) → Can (m ∷ ms) → Can ns → (k : ℕ) → changed (m ∷ ms) k (difference (m ∷ ms) ns) ≡ Ok ns
  undone-behind [] p q = λ k. first-goes m ms (difference ms []) k p.some.0 ∙ back [] (suc k) (can-rest m ms p) q
  undone-behind (n ∷ ns) p q = λ k.
      undone-two n ns k (stands_before m.0 n.0) (stands_before n.0 m.0) (same_number m.1 n.1) refl refl refl p q (undone-behind ns p (can-rest n ns q))

undone : (ms ns : List Entry) (k : ℕ) → Can ms → Can ns → changed ms k (difference ms ns) ≡ Ok ns
undone [] ns k p q = all-entered k ns q.some
undone (m ∷ ms) ns k p q = undone-behind m ms (undone ms) ns p q k

pub can : (ms : List Entry) → are_told_multipliers ms ≡ true → Can ms
can ms e =
    let parts = both_true (are_rising (names ms)) (list_all (λ (m : Entry). not (is_zero m.1)) ms) e in
    record { rises = rising (names ms) parts.0; some = no_zeros ms parts.1 }

pub multipliers-undone : (ms ns : List Entry) (k : ℕ) → are_told_multipliers ms ≡ true → are_told_multipliers ns ≡ true → changed ms k (difference ms ns) ≡ Ok ns
multipliers-undone ms ns k p q = undone ms ns k (can ms p) (can ns q)
