-- From what a session has done to what a run is.
use Rattle.std.proofs.Common.{◌≡◌, ℕ, ◌≤◌, Bool, false, ◌||◌, List, ◌++◌, take, sym, subst, ◌∙◌, ap, Option}
use Rattle.std.specs.Prelude.{Ok, Err}
use Rattle.std.specs.List.{list_any, concat}
use Rattle.std.specs.Io.KnownBytes.{Appends}
use Rattle.script_session.specs.private.Causes.{SinkCause, SourceCause}
use Rattle.script_session.specs.Reply.{is_error, wants_memory, final_status, status_of}
use Rattle.script_session.specs.Request.{Command, Request}
use Rattle.script_session.specs.Run.{outside, IsCutShort, EndsAs, Finished, SourceFailed, SinkFailed, MemoryWanted, TooLong, IsRun}
use Rattle.script_session.specs.private.Session.{Moment, Serves, StopsShort, ServesTaken, ServesScript}
use Rattle.script_session.specs.Limits.{script_limit}
use Rattle.script_session.specs.Stand.{Stand, Transcript}
use Rattle.script_session.specs.declared.session.Stop.{Stop}
use Rattle.script_session.specs.declared.session.Stop.TheVariants as stop

-- the status of a script that was stopped
abbrev pub stop_status : Stop → ℕ
stop_status stop.Source = 3
stop_status stop.Sink = 4
stop_status stop.Memory = 5
stop_status stop.TooLong = 6

module _ {M : Type 0} (ends : Command → Bool) (step : Stand M → Request → List ℕ → Stand M → Type 0) where
  -- what a session has kept in mind is what the replies say
  status_is : (old new : Moment M) (requests : List Request) (h : Serves step old requests new) (status : ℕ) → old.wanted ≡ false → old.refused ≡ false → status ≡ final_status new.wanted new.refused → status ≡ status_of h.replies
  status_is old new requests h status unwanted unrefused is =
      is
      ∙ ap (λ wanted. final_status wanted new.refused) (h.wanted ∙ ap (λ b. b || list_any wants_memory h.replies) unwanted)
      ∙ ap (λ refused. final_status (list_any wants_memory h.replies) refused) (h.refused ∙ ap (λ b. b || list_any is_error h.replies) unrefused)

  -- the script came to its end
  pub run_ended : (left left' handed handed' : Option (List ℕ)) (sources sources' sinks sinks' : ℕ) (old new : Moment M) (status : ℕ) → ServesScript ends step (Ok tt) left left' handed' old new → old.wanted ≡ false → old.refused ≡ false → status ≡ final_status new.wanted new.refused → sources ≤ sources' → sinks ≤ sinks'
      → IsRun step ends old.state (outside left handed sources old.written sinks) new.state (outside left' handed' sources' new.written sinks') status
  run_ended left left' handed handed' sources sources' sinks sinks' old new status h unwanted unrefused is source_later sink_later =
      let served = h.served.0 in
      record {
        front = h.front;
        taken = h.taken;
        consumed = h.consumed;
        last = h.last;
        ended = Finished served.replies (record { transcript = served.run; output = served.output }) h.served.1 h.served.2 (status_is old new _ served status unwanted unrefused is);
        source_later = source_later;
        sink_later = sink_later;
      }

  -- memory was wanting to go on
  abbrev cut_short : (left left' handed handed' : Option (List ℕ)) (sources sources' sinks sinks' : ℕ) (old new : Moment M) (bytes : List ℕ) (asked : List Request) → StopsShort ends step old bytes asked new
      → IsCutShort step ends bytes asked old.state (outside left handed sources old.written sinks) new.state (outside left' handed' sources' new.written sinks')
  cut_short left left' handed handed' sources sources' sinks sinks' old new bytes asked h = record {
    seen = h.seen;
    behind = h.behind;
    parts = h.parts;
    some = h.some;
    unended = h.unended;
    mid = h.mid.state;
    replies = h.serves.replies;
    answered = record {
      transcript = subst (λ (requests : List Request). Transcript step old.state requests h.serves.replies h.mid.state) (sym h.asks_seen) h.serves.run;
      output = subst (λ (written : Option (List ℕ)). Appends old.written written (concat h.serves.replies)) (sym h.wants.written) h.serves.output;
    };
    rest = h.rest;
    asks = h.asks ∙ ap (λ requests. requests ++ h.rest) (sym h.asks_seen);
    lost = h.wants.lost;
  }

  -- it was stopped
  stopped_as : (fault : Stop) (left left' handed handed' : Option (List ℕ)) (sources sources' sinks sinks' : ℕ) (front taken : List ℕ) (old new : Moment M) (status : ℕ) → ServesTaken ends step (Err fault) left' front taken old new → SourceCause {T = Unit {0}} (Err fault) sources sources' → SinkCause {T = Unit {0}} (Err fault) sinks sinks' → status ≡ stop_status fault
      → EndsAs step ends front taken old.state (outside left handed sources old.written sinks) new.state (outside left' handed' sources' new.written sinks') status
  stopped_as stop.Source left left' handed handed' sources sources' sinks sinks' front taken old new status h source sink is =
      SourceFailed h.0.replies (record { transcript = h.0.run; output = h.0.output }) h.1 h.2 source is
  stopped_as stop.Sink left left' handed handed' sources sources' sinks sinks' front taken old new status h source sink is =
      SinkFailed h.0 h.3 (record { first = h.1; rest = h.2; parts = h.4; replies = h.5.0.replies; broken = h.5.0.broken; transcript = h.5.0.run; bytes = h.5.0.bytes; unwritten = h.5.0.unwritten; front = h.5.0.front; some = h.5.0.some; output = h.5.0.output }) h.5.1 sink is
  stopped_as stop.Memory left left' handed handed' sources sources' sinks sinks' front taken old new status h source sink is =
      MemoryWanted h.0 h.1 (cut_short left left' handed handed' sources sources' sinks sinks' old new (take script_limit taken) h.0 h.2.0) h.2.1 is
  stopped_as stop.TooLong left left' handed handed' sources sources' sinks sinks' front taken old new status h source sink is =
      TooLong h.0.replies (record { transcript = h.0.run; output = h.0.output }) h.1 is

  pub run_stopped : (fault : Stop) (left left' handed handed' : Option (List ℕ)) (sources sources' sinks sinks' : ℕ) (old new : Moment M) (status : ℕ) → ServesScript ends step (Err fault) left left' handed' old new → SourceCause {T = Unit {0}} (Err fault) sources sources' → SinkCause {T = Unit {0}} (Err fault) sinks sinks' → status ≡ stop_status fault → sources ≤ sources' → sinks ≤ sinks'
      → IsRun step ends old.state (outside left handed sources old.written sinks) new.state (outside left' handed' sources' new.written sinks') status
  run_stopped fault left left' handed handed' sources sources' sinks sinks' old new status h source sink is source_later sink_later = record {
    front = h.front;
    taken = h.taken;
    consumed = h.consumed;
    last = h.last;
    ended = stopped_as fault left left' handed handed' sources sources' sinks sinks' h.front h.taken old new status h.served source sink is;
    source_later = source_later;
    sink_later = sink_later;
  }
