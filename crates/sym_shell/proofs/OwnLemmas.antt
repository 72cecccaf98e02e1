-- What no family of commands answers is a lawful family too.
use Rattle.std.proofs.Common.{◌≡◌, ℕ, ◌≤◌, List, [], ◌++◌, sym, subst, ap, inl, inr, arith}
use Rattle.std.specs.Prelude.{codes}
use Rattle.kept_env.specs.Env.{model_of}
use Rattle.command_family.specs.Family.{HasCause, IsLawfulFamily}
use Rattle.command_family.specs.Kinds.{Done, UnknownCommand, WrongArguments, WrongNumber, WantsMemory}
use Rattle.command_family.specs.State.{ShellState}
use Rattle.sym_shell.specs.Own.{OwnAsks, Quit, Unknown, Misused, NoNumber, OwnStep, own_family}

caused : (asks : OwnAsks) (old : ShellState) (reply : List ℕ) (new : ShellState) → OwnStep asks old reply new → HasCause own_family asks old reply new
caused Quit old reply new h = record { kind = Done; is = ([], h.answer); cause = h.unchanged }
caused (Unknown word) old reply new h = elim h.answer [
  | inl told ↦ record { kind = UnknownCommand; is = (codes "unknown command " ++ word ++ codes "\n", told); cause = told }
  | inr told ↦ record { kind = WantsMemory; is = (codes "memory\n", told); cause = told }
]
caused Misused old reply new h = elim h.answer [
  | inl told ↦ record { kind = WrongArguments; is = (codes "arguments\n", told); cause = told }
  | inr told ↦ record { kind = WantsMemory; is = (codes "memory\n", told); cause = told }
]
caused (NoNumber word) old reply new h = elim h.answer [
  | inl told ↦ record { kind = WrongNumber; is = (codes "number " ++ word ++ codes "\n", told); cause = told }
  | inr told ↦ record { kind = WantsMemory; is = (codes "memory\n", told); cause = told }
]

-- nothing changes
same : (asks : OwnAsks) (old : ShellState) (reply : List ℕ) (new : ShellState) → OwnStep asks old reply new → new ≡ old
same Quit old reply new h = h.unchanged
same (Unknown word) old reply new h = h.unchanged
same Misused old reply new h = h.unchanged
same (NoNumber word) old reply new h = h.unchanged

same-faults : (old new : ShellState) → new ≡ old → old.faults ≤ new.faults
same-faults old new e = subst (λ (s : ShellState). old.faults ≤ s.faults) (sym e) (omega arith)

pub own-lawful : IsLawfulFamily own_family
own-lawful = record {
  caused = caused;
  later = λ asks old reply new h. same-faults old new (same asks old reply new h);
  kept = λ asks old reply new h other. ap (λ (s : ShellState). model_of s.env) (same asks old reply new h);
  refused = λ asks old reply new h k error is. ap (λ (s : ShellState). s.env) (same asks old reply new h);
  wanted = λ asks old reply new h wanting other. ap (λ (s : ShellState). s.env) (same asks old reply new h);
}
