-- What the next variable of two rising lists comes to.
use Rattle.std.specs.Prelude.{if◌then◌else◌, List, [], ◌∷◌, option_map, Option, Some, None}
use Rattle.frac128.specs.Rational.{ℚ}
use Rattle.lp_model.specs.Edits.{is_zero}
use Rattle.lp_model.specs.declared.types.Var.{Var}
use Rattle.node_differences.specs.Differences.{same_number, gone}
use Rattle.node_differences.specs.declared.order.Next.{Next}
use Rattle.node_differences.specs.declared.order.Next.TheVariants.{First, Second, Both}

abbrev pub leading : {A : Type 0} → List A → Option A
leading [] = None
leading (a ∷ as_) = Some a

-- a list of what is there
abbrev pub as_list : {A : Type 0} → Option A → List A
as_list None = []
as_list (Some a) = a ∷ []

-- it stands in one list alone
abbrev pub alone_in : Next → List Var → List Var → Option Var
alone_in First us vs = leading us
alone_in Second us vs = leading vs
alone_in Both us vs = None

-- what stands in a difference
abbrev pub told_of_two : Option (Var × ℚ) → Option (Var × ℚ) → Option (Var × ℚ)
told_of_two (Some m) (Some n) = if same_number m.1 n.1 then None else Some n
told_of_two (Some m) None = None
told_of_two None n = None

abbrev pub told_in : Next → List (Var × ℚ) → List (Var × ℚ) → Option (Var × ℚ)
told_in First ms ns = option_map gone (leading ms)
told_in Second ms ns = leading ns
told_in Both ms ns = told_of_two (leading ms) (leading ns)

-- what stands there once it is changed; None where the change says nothing
abbrev pub made_of_new : Option (Var × ℚ) → Option (Option (Var × ℚ))
made_of_new None = None
made_of_new (Some d) = if is_zero d.1 then None else Some (Some d)

abbrev pub made_of_two : Option (Var × ℚ) → Option (Var × ℚ) → Option (Option (Var × ℚ))
made_of_two (Some m) (Some d) = if same_number m.1 d.1 then None else if is_zero d.1 then Some None else Some (Some d)
made_of_two (Some m) None = None
made_of_two None d = None

abbrev pub made_in : Next → List (Var × ℚ) → List (Var × ℚ) → Option (Option (Var × ℚ))
made_in First ms ds = Some (leading ms)
made_in Second ms ds = made_of_new (leading ds)
made_in Both ms ds = made_of_two (leading ms) (leading ds)
