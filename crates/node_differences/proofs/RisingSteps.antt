-- Whether variables rise, read from the first one on.
use Rattle.std.specs.Prelude.{◌≡◌, ◌-◌, ◌<◌, ◌≤◌, Bool, true, ◌&&◌, List, [], ◌∷◌, length, take, drop, map, get_or}
use Rattle.std.proofs.Common.{refl, sym, ap, ap₂, ◌∙◌, arith}
use Rattle.std.proofs.lemmas.List.{take_all}
use Rattle.lp_model.specs.declared.types.Var.{Var}
use Rattle.node_differences.specs.Order.{stands_before, are_rising}

module _ {A : Type 0} (variable : A → Var) where
  -- those behind the first one, as a pattern reads them
  abbrev behind : List A → List A
  behind xs = take (length xs - 1) (drop 1 xs)

  behind-is : (x : A) (xs : List A) → behind (x ∷ xs) ≡ xs
  behind-is x xs = let n : length (x ∷ xs) - 1 ≡ length xs = omega arith in ap (λ k. take k xs) n ∙ take_all (length xs) xs (omega arith)

  pub rising-none : (xs : List A) → length xs < 1 → are_rising (map variable xs) ≡ true
  rising-none [] few = refl
  rising-none (x ∷ xs) few = absurd (omega arith)

  pub rising-last : (xs : List A) → 1 ≤ length xs → length (behind xs) < 1 → are_rising (map variable xs) ≡ are_rising (map variable (behind xs))
  rising-last [] some few = absurd (omega arith)
  rising-last (x ∷ []) some few = refl
  rising-last (x ∷ y ∷ xs) some few = let n = ap length (behind-is x (y ∷ xs)) in absurd (omega (arith, n, few))

  pub rising-on : (xs : List A) (x y : A) (one other : Var) (b : Bool) → 1 ≤ length xs → x ≡ get_or xs 0 x → 1 ≤ length (behind xs) → y ≡ get_or (behind xs) 0 y
      → one ≡ variable x → other ≡ variable y → b ≡ stands_before one other → are_rising (map variable xs) ≡ b && are_rising (map variable (behind xs))
  rising-on [] x y one other b some x_is more y_is one_is other_is b_is = absurd (omega arith)
  rising-on (x0 ∷ []) x y one other b some x_is more y_is one_is other_is b_is = absurd (omega arith)
  rising-on (x0 ∷ y0 ∷ xs) x y one other b some x_is more y_is one_is other_is b_is =
      let e = behind-is x0 (y0 ∷ xs) in
      let y_at : y ≡ y0 = y_is ∙ ap (λ l. get_or l 0 y) e in
      let stands : b ≡ stands_before (variable x0) (variable y0) = b_is ∙ ap₂ stands_before (one_is ∙ ap variable x_is) (other_is ∙ ap variable y_at) in
      ap₂ (λ s l. s && are_rising (map variable l)) (sym stands) (sym e)
