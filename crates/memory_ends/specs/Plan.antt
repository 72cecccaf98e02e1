-- The calls that are to fail, by their numbers from 1.
use Rattle.std.specs.Prelude.{ℕ, ◌+◌, ◌-◌, ◌^◌, min, Bool, List, [], ◌∷◌, nat_lt, nat_le, ◌&&◌, ◌==◌, if◌then◌else◌, Vec}
use Rattle.std.specs.List.{list_any}
use Rattle.std.specs.declared.alloc.Global.{Global}
use Rattle.memory_ends.specs.declared.plan.FaultPlan.{FaultPlan}

-- the plan with these calls, of which none was made
abbrev pub plan_of : Vec ℕ Global → FaultPlan
plan_of failing = record { failing = failing; calls = 0 }

-- one more call was made; a count of 2^64 - 1 stays
abbrev pub next_call : FaultPlan → FaultPlan
next_call plan = record { failing = plan.failing; calls = min (plan.calls + 1) (2 ^ 64 - 1) }

-- the next call is listed
abbrev pub call_fails : FaultPlan → Bool
call_fails plan = nat_lt plan.calls (2 ^ 64 - 1) && list_any (λ number. number == plan.calls + 1) plan.failing.items

-- how many of the listed calls are among the first so many
abbrev pub failed_calls : List ℕ → ℕ → ℕ
failed_calls [] calls = 0
failed_calls (number ∷ listed) calls = (if nat_lt 0 number && nat_le number calls then 1 else 0) + failed_calls listed calls

-- the failures so far
abbrev pub failures : FaultPlan → ℕ
failures plan = failed_calls plan.failing.items plan.calls
