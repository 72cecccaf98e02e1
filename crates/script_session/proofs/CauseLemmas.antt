-- Counts of faults over several steps, and what an answer says of them.
use Rattle.std.proofs.Common.{ℕ, ◌≤◌, Bool, List, arith}
use Rattle.std.specs.Prelude.{Result, Ok, Err}
use Rattle.sym_io.specs.Faults.{Rose}
use Rattle.script_session.specs.Request.{Command, Request}
use Rattle.script_session.specs.private.Causes.{SinkCause, SourceCause}
use Rattle.script_session.specs.private.Session.{Moment, ServesPiece, ServesRest}
use Rattle.script_session.specs.Stand.{Stand}
use Rattle.script_session.specs.declared.session.Stop.{Stop}
use Rattle.script_session.specs.declared.session.Stop.TheVariants as stop

pub later_on : (a b c : ℕ) → a ≤ b → b ≤ c → a ≤ c
later_on a b c p q = omega (arith, p, q)

pub rose_on : (a b c : ℕ) → a ≤ b → Rose b c → Rose a c
rose_on a b c p q = omega (arith, p, q)

-- what holds of the last step holds of all
pub sink_cause_on : {T : Type 0} (result : Result T Stop) (a b c : ℕ) → a ≤ b → SinkCause result b c → SinkCause result a c
sink_cause_on (Ok done) a b c p q = tt
sink_cause_on (Err stop.Sink) a b c p q = rose_on a b c p q
sink_cause_on (Err stop.Source) a b c p q = tt
sink_cause_on (Err stop.Memory) a b c p q = tt
sink_cause_on (Err stop.TooLong) a b c p q = tt

module _ {M : Type 0} (ends : Command → Bool) (step : Stand M → Request → List ℕ → Stand M → Type 0) where
  -- the source fails in no answer to what was read
  pub piece_cause : (fault : Stop) (old new : Moment M) (bytes pending : List ℕ) (a b : ℕ) → ServesPiece ends step (Err fault) old bytes new pending → SourceCause {T = Unit {0}} (Err fault) a b
  piece_cause stop.Sink old new bytes pending a b h = tt
  piece_cause stop.Source old new bytes pending a b h = absurd h
  piece_cause stop.Memory old new bytes pending a b h = tt
  piece_cause stop.TooLong old new bytes pending a b h = tt

  pub rest_cause : (result : Result (Unit {0}) Stop) (old new : Moment M) (pending : List ℕ) (a b : ℕ) → ServesRest ends step result old pending new → SourceCause result a b
  rest_cause (Ok done) old new pending a b h = tt
  rest_cause (Err stop.Sink) old new pending a b h = tt
  rest_cause (Err stop.Source) old new pending a b h = absurd h
  rest_cause (Err stop.Memory) old new pending a b h = tt
  rest_cause (Err stop.TooLong) old new pending a b h = tt
