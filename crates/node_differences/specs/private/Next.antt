-- Which of two rising lists has the next variable.
use Rattle.std.specs.Prelude.{ℕ, if◌then◌else◌, List, [], ◌∷◌, Option, Some, None}
use Rattle.lp_model.specs.declared.types.Var.{Var}
use Rattle.node_differences.specs.Order.{stands_before}
use Rattle.node_differences.specs.declared.order.Next.{Next}
use Rattle.node_differences.specs.declared.order.Next.TheVariants.{First, Second, Both}

abbrev pub next_in : {A : Type 0} → (A → Var) → List A → List A → Option Next
next_in variable [] [] = None
next_in variable (a ∷ as_) [] = Some First
next_in variable [] (b ∷ bs) = Some Second
next_in variable (a ∷ as_) (b ∷ bs) =
    Some (if stands_before (variable a) (variable b) then First else if stands_before (variable b) (variable a) then Second else Both)

-- what stays of the first list, and of the second, behind it
abbrev pub first_behind : {A : Type 0} → Next → List A → List A
first_behind Second as_ = as_
first_behind First [] = []
first_behind First (a ∷ as_) = as_
first_behind Both [] = []
first_behind Both (a ∷ as_) = as_

abbrev pub second_behind : {A : Type 0} → Next → List A → List A
second_behind First bs = bs
second_behind Second [] = []
second_behind Second (b ∷ bs) = bs
second_behind Both [] = []
second_behind Both (b ∷ bs) = bs

-- how many of the second list are passed
abbrev pub passed_in : Next → ℕ
passed_in First = 0
passed_in Second = 1
passed_in Both = 1
