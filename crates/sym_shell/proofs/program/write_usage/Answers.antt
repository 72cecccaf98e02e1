use Rattle.std.proofs.Common.{inl, inr}
use Rattle.sym_shell.proofs.program.write_usage.Goals as goal

pub returns-in-Ok-clause-line : goal.returns-in-Ok-clause-line
returns-in-Ok-clause-line g c = inl c.in-Ok.ensures.ok

pub returns-in-Err-clause-line : goal.returns-in-Err-clause-line
returns-in-Err-clause-line g c = inr (c.in-Err.ensures.failed, c.in-Err.ensures.err)
