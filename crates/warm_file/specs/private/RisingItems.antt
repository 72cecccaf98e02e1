-- The parts that items of rising lists share.
use Rattle.std.specs.Prelude.{ℕ, if◌then◌else◌, List, Result, Ok}
use Rattle.lp_model.specs.declared.types.Var.{Var}
use Rattle.serde_json.specs.Data.{Data}
use Rattle.warm_file.specs.Faults.{Fault, fault, behind, at_item}
use Rattle.warm_file.specs.Values.{place_below, two_of}
use Rattle.warm_file.specs.Rising.{is_past, count_of_kind, var_of, variable_rank}
use Rattle.warm_file.specs.declared.rising.Counts.{Counts}
use Rattle.warm_file.specs.declared.rising.Kind.{Kind}

-- `[place, ..]` in a list of n, past those before it, and what stands beside the place
abbrev pub rising_item : {A : Type 0} → (ℕ → Data → Result A Fault) → (A → ℕ) → ℕ → List A → Data → Result A Fault
rising_item beside place n before d =
    behind (two_of d) (λ p. behind (at_item 0 (place_below n p.0)) (λ k. if is_past place before k then beside k p.1 else fault 8))

-- the variable whose kind and place these state, past those before it
abbrev pub past_variable : {A : Type 0} → Counts → (Data → Result Kind Fault) → (A → ℕ) → List A → Data → Data → Result Var Fault
past_variable n kinds place before first second =
    behind (at_item 0 (kinds first)) (λ k. behind (at_item 1 (place_below (count_of_kind n k) second)) (λ i. if is_past place before (variable_rank (var_of k i)) then Ok (var_of k i) else fault 8))
