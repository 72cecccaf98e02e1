-- Lists that rise and name the same variables are one.
use Rattle.std.specs.Prelude.{◌≡◌, ℕ, zero, suc, ◌+◌, ◌<◌, ◌≤◌, List, [], ◌∷◌, length, map, All}
use Rattle.std.proofs.Common.{refl, sym, ap, subst, ◌∙◌, arith}
use Rattle.std.proofs.lemmas.List.Elements.{All-tail}
use Rattle.frac128.specs.Rational.{ℚ}
use Rattle.lp_model.specs.declared.types.Var.{Var}
use Rattle.table_entries.specs.Bases.{Lists, listed}
use Rattle.row_tableau.specs.Dense.{Dense}
use Rattle.row_tableau.specs.Variables.{variable_number, numbers}
use Rattle.basic_solution.specs.Lists.{AreRising, names}
use Rattle.dual_simplex.proofs.VariableLemmas.{variable_of, variable_is}

-- ---- numbers

abbrev Rises : List ℕ → Type 0
Rises xs = (j k : ℕ) → j < k → k < length xs → listed xs j < listed xs k

tail_rises : (x : ℕ) (xs : List ℕ) → Rises (x ∷ xs) → Rises xs
tail_rises x xs r j k less within = r (suc j) (suc k) (omega (arith, less)) (omega (arith, within))

first_least : (x : ℕ) (xs : List ℕ) → Rises (x ∷ xs) → (v : ℕ) → Lists (x ∷ xs) v → x ≤ v
first_least x xs r v (zero, within, is) = omega (arith, is)
first_least x xs r v (suc t, within, is) = let less : x < listed xs t = r 0 (suc t) (omega arith) within in omega (arith, is, less)

in_tail : (x : ℕ) (xs : List ℕ) (v : ℕ) → x < v → Lists (x ∷ xs) v → Lists xs v
in_tail x xs v above (zero, within, is) = absurd (omega (arith, is, above))
in_tail x xs v above (suc t, within, is) = (t, omega (arith, within), is)

after_first : (x : ℕ) (xs : List ℕ) → Rises (x ∷ xs) → (v : ℕ) → Lists xs v → x < v
after_first x xs r v (t, within, is) = let less : x < listed xs t = r 0 (suc t) (omega arith) (omega (arith, within)) in omega (arith, is, less)

in_whole : (x : ℕ) (xs : List ℕ) (v : ℕ) → Lists xs v → Lists (x ∷ xs) v
in_whole x xs v (t, within, is) = (suc t, omega (arith, within), is)

one_list : (xs ys : List ℕ) → Rises xs → Rises ys → ((v : ℕ) → Lists xs v → Lists ys v) → ((v : ℕ) → Lists ys v → Lists xs v) → xs ≡ ys
one_list [] [] r q to from = refl
one_list [] (y ∷ ys) r q to from = let none = from y (0, omega arith, refl) in let less = none.1 in absurd (omega (arith, less))
one_list (x ∷ xs) [] r q to from = let none = to x (0, omega arith, refl) in let less = none.1 in absurd (omega (arith, less))
one_list (x ∷ xs) (y ∷ ys) r q to from =
    let lower : y ≤ x = first_least y ys q x (to x (0, omega arith, refl)) in
    let upper : x ≤ y = first_least x xs r y (from y (0, omega arith, refl)) in
    let same : x ≡ y = omega (arith, lower, upper) in
    let rest : xs ≡ ys = one_list xs ys (tail_rises x xs r) (tail_rises y ys q)
    (λ v l. in_tail y ys v (subst (λ u. u < v) same (after_first x xs r v l)) (to v (in_whole x xs v l)))
    (λ v l. in_tail x xs v (subst (λ u. u < v) (sym same) (after_first y ys q v l)) (from v (in_whole y ys v l))) in
    λ i. same i ∷ rest i

pub one_rising : (P Q : ℕ → Type 0) (n : ℕ) (xs ys : List ℕ) → ((v : ℕ) → v < n → P v → Q v) → ((v : ℕ) → v < n → Q v → P v) → AreRising P n xs → AreRising Q n ys → xs ≡ ys
one_rising P Q n xs ys to from a b = one_list xs ys a.rises b.rises
    (λ v l. let below = subst (λ u. u < n) (sym l.2) (a.within l.0 l.1) in b.all v below (to v below (subst P (sym l.2) (a.holds l.0 l.1))))
    (λ v l. let below = subst (λ u. u < n) (sym l.2) (b.within l.0 l.1) in a.all v below (from v below (subst Q (sym l.2) (b.holds l.0 l.1))))

-- ---- variables by their numbers

module _ (t : Dense) where
  -- the numbers are below the last
  abbrev pub AreThere : List Var → Type 0
  AreThere list = (k : ℕ) → k < length (numbers t list) → listed (numbers t list) k < t.columns + t.activities

  variables_are : (list : List Var) → AreThere list → list ≡ map (variable_of t) (numbers t list)
  variables_are [] there = refl
  variables_are (v ∷ vs) there =
      let first : v ≡ variable_of t (variable_number t v) = sym (variable_is t v (there 0 (omega arith))) in
      let rest : vs ≡ map (variable_of t) (numbers t vs) = variables_are vs (λ k q. there (suc k) (omega (arith, q))) in
      λ i. first i ∷ rest i

  pub one_variables : (xs ys : List Var) → AreThere xs → AreThere ys → numbers t xs ≡ numbers t ys → xs ≡ ys
  one_variables xs ys x_there y_there same = variables_are xs x_there ∙ ap (map (variable_of t)) same ∙ sym (variables_are ys y_there)

  -- ---- lists of multipliers

  abbrev with_value : (ℕ → ℚ) → Var → Var × ℚ
  with_value y v = (v, y (variable_number t v))

  values_are : (y : ℕ → ℚ) (list : List (Var × ℚ)) → All (λ m. m.1 ≡ y (variable_number t m.0)) list → list ≡ map (with_value y) (names list)
  values_are y [] all = refl
  values_are y (m ∷ ms) all =
      let first : m ≡ (m.0, y (variable_number t m.0)) = λ i. (m.0, all 0 m (omega arith) i) in
      let rest : ms ≡ map (with_value y) (names ms) = values_are y ms (All-tail (λ n. n.1 ≡ y (variable_number t n.0)) m ms all) in
      λ i. first i ∷ rest i

  same_values : (y z : ℕ → ℚ) → ((v : ℕ) → v < t.columns + t.activities → y v ≡ z v) → (list : List Var) → AreThere list → map (with_value y) list ≡ map (with_value z) list
  same_values y z same [] there = refl
  same_values y z same (v ∷ vs) there =
      let first = same (variable_number t v) (there 0 (omega arith)) in
      let rest = same_values y z same vs (λ k q. there (suc k) (omega (arith, q))) in
      λ i. (v, first i) ∷ rest i

  pub one_values : (y z : ℕ → ℚ) → ((v : ℕ) → v < t.columns + t.activities → y v ≡ z v) → (ms ns : List (Var × ℚ)) → AreThere (names ms) → names ms ≡ names ns → All (λ m. m.1 ≡ y (variable_number t m.0)) ms → All (λ m. m.1 ≡ z (variable_number t m.0)) ns → ms ≡ ns
  one_values y z same ms ns there named m_all n_all =
      values_are y ms m_all ∙ same_values y z same (names ms) there ∙ ap (map (with_value z)) named ∙ sym (values_are z ns n_all)
