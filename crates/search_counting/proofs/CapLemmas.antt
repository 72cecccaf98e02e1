-- The work of a tree is at most the cap of its model, and its splits are fewer than the model's points.
use Rattle.std.specs.Prelude.{◌≡◌, ℕ, zero, suc, ◌+◌, ◌*◌, ◌-◌, ◌≤◌, Bool, true, false, if◌then◌else◌, List, [], ◌∷◌, length, Option, Some, None}
use Rattle.std.specs.Option.{option_map}
use Rattle.std.proofs.Common.{refl, subst, ap, ◌∙◌, arith}
use Rattle.frac128.specs.Rational.{ℚ, int, floor, ceil}
use Rattle.lp_model.specs.Elements.{of_element}
use Rattle.lp_model.specs.Program.{Program}
use Rattle.lp_model.specs.Lawful.{IsLawful}
use Rattle.lp_model.specs.Regions.{Path}
use Rattle.lp_model.specs.declared.types.Col.{Col}
use Rattle.branch_tree.specs.Tree.{Leaf, Split, left_path, right_path, SplitsLawfully}
use Rattle.branch_tree.specs.Plain.{Plain}
use Rattle.branch_tree.specs.declared.node.LeafState.{LeafState}
use Rattle.branch_tree.specs.declared.node.LeafState.TheVariants.{IsOpen, IsClosed}
use Rattle.search_counting.specs.Points.{whole_numbers_from, numbers_within, product_below, points}
use Rattle.search_counting.specs.Work.{whole_points_of, whole_points, cap_of, if_open, sum_open, work, splits}
use Rattle.search_counting.proofs.RegionLemmas.{ceil-int, floor-int}
use Rattle.search_counting.proofs.PointLemmas.{points-split}

-- ---- below a node

-- a sum over the open leaves is at most that of the root's points, where parts of a number have no more together than the number
module _ (M : Program) (lawful : IsLawful M) (f : ℕ → ℕ) (more : (p q : ℕ) → f p + f q ≤ f (p + q)) where
  if_open-le : (s : LeafState) (n : ℕ) → if_open f s n ≤ f n
  if_open-le IsOpen n = omega arith
  if_open-le IsClosed n = omega arith

  sum-le : (path : Path) (t : Plain) → SplitsLawfully M t → sum_open f M path t ≤ f (points M path)
  sum-le path (Leaf l) h = if_open-le l.kept.state (points M path)
  sum-le path (Split kept j v left right) h =
      let a : sum_open f M (left_path path j v) left ≤ f (points M (left_path path j v)) = sum-le (left_path path j v) left h.1.0 in
      let b : sum_open f M (right_path path j v) right ≤ f (points M (right_path path j v)) = sum-le (right_path path j v) right h.1.1 in
      let c : f (points M (left_path path j v)) + f (points M (right_path path j v)) ≤ f (points M path) =
      subst (λ n. f (points M (left_path path j v)) + f (points M (right_path path j v)) ≤ f n) (points-split M path j v lawful h.0.0 h.0.1) (more (points M (left_path path j v)) (points M (right_path path j v))) in
      omega (arith, a, b, c)

-- ---- the root

product-front : (n : ℕ) (f : ℕ → ℕ) → product_below (suc n) f ≡ f 0 * product_below n (λ k. f (suc k))
product-front zero f = omega arith
product-front (suc n) f = ap (λ m. m * f (suc n)) (product-front n f) ∙ regroup (f 0) (product_below n (λ k. f (suc k))) (f (suc n))
  where
    regroup : (a b c : ℕ) → a * b * c ≡ a * (b * c)
    regroup a b c = omega arith

column_numbers : List Col → ℕ → ℕ
column_numbers cs j =
    if of_element false (λ c. c.int) cs j
    then numbers_within (if of_element false (λ c. c.int) cs j then option_map (λ l. int (ceil l)) (of_element None (λ c. c.lo) cs j) else of_element None (λ c. c.lo) cs j)
    (if of_element false (λ c. c.int) cs j then option_map (λ h. int (floor h)) (of_element None (λ c. c.up) cs j) else of_element None (λ c. c.up) cs j)
    else 1

first_numbers : (integer : Bool) (lo up : Option ℚ)
    → (if integer then numbers_within (if integer then option_map (λ l. int (ceil l)) lo else lo) (if integer then option_map (λ h. int (floor h)) up else up) else 1) ≡ (if integer then numbers_within lo up else 1)
first_numbers false lo up = refl
first_numbers true None up = refl
first_numbers true (Some l) None = refl
first_numbers true (Some l) (Some u) = (λ k. whole_numbers_from (ceil-int (ceil l) k) (floor-int (floor u) k))

root-points : (cs : List Col) → product_below (length cs) (column_numbers cs) ≡ whole_points_of cs
unfolding column_numbers
root-points [] = refl
root-points (c ∷ cs) = product-front (length cs) (column_numbers (c ∷ cs)) ∙ (λ t. first_numbers c.int c.lo c.up t * root-points cs t)

module _ (M : Program) (t : Plain) (lawful : IsLawful M) (splits_lawful : SplitsLawfully M t) where
  root-sum : (f : ℕ → ℕ) (more : (p q : ℕ) → f p + f q ≤ f (p + q)) → sum_open f M [] t ≤ f (whole_points M)
  unfolding column_numbers
  root-sum f more = subst (λ n. sum_open f M [] t ≤ f n) (root-points M.cols) (sum-le M lawful f more [] t splits_lawful)

  pub work-cap : work M [] t ≤ cap_of M
  work-cap =
      let h : work M [] t ≤ 2 * whole_points M - 1 = root-sum (λ n. 2 * n - 1) (λ p q. omega arith) in
      omega (arith, h)

  pub splits-cap : splits M [] t ≤ whole_points M - 1
  splits-cap = root-sum (λ n. n - 1) (λ p q. omega arith)
