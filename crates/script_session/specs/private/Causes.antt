-- What has failed where a session stops.
use Rattle.std.specs.Prelude.{ℕ, Result, Err}
use Rattle.sym_io.specs.Faults.{Rose}
use Rattle.script_session.specs.declared.session.Stop.{Stop}
use Rattle.script_session.specs.declared.session.Stop.TheVariants as stop

-- where the sink has failed, its count has risen
abbrev pub SinkCause : {T : Type 0} → Result T Stop → ℕ → ℕ → Type 0
SinkCause (Err stop.Sink) before after = Rose before after
SinkCause result before after = Unit {0}

-- where the source has failed, its count has risen
abbrev pub SourceCause : {T : Type 0} → Result T Stop → ℕ → ℕ → Type 0
SourceCause (Err stop.Source) before after = Rose before after
SourceCause result before after = Unit {0}
