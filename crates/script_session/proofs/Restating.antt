-- What a layer above says of a run in states of its own: f is the state that stands for a machine beside its store, and
-- each step is one of other between such states.
use Rattle.std.proofs.Common.{ℕ, Bool, List, [], ◌∷◌, ◌++◌, ap, inl, inr}
use Rattle.script_session.specs.Run.{Outside, Answers, IsCutOff, LosesReply, IsCutShort, EndsAs, Finished, SourceFailed, SinkFailed, MemoryWanted, TooLong, IsRun}
use Rattle.script_session.specs.Request.{Command, Request, Overlong, Words, RequestStep}
use Rattle.script_session.specs.Script.{whole_requests}
use Rattle.script_session.specs.Stand.{Transcript}

module _ {S T : Type 0} (f : S → T) (step : S → Command → List ℕ → S → Type 0) (other : T → Command → List ℕ → T → Type 0) (same : (old : S) (words : Command) (reply : List ℕ) (new : S) → step old words reply new → other (f old) words reply (f new)) where
  -- each is a step of the other, and a line that is too long changes neither
  RequestStep-through : (old : S) (request : Request) (reply : List ℕ) (new : S) → RequestStep step old request reply new → RequestStep other (f old) request reply (f new)
  RequestStep-through old Overlong reply new h = (ap f h.0, h.1)
  RequestStep-through old (Words words) reply new h = same old words reply new h

  Transcript-through : (old new : S) (requests : List Request) (replies : List (List ℕ)) → Transcript (RequestStep step) old requests replies new → Transcript (RequestStep other) (f old) requests replies (f new)
  Transcript-through old new [] [] h = ap f h
  Transcript-through old new [] (reply ∷ replies) h = absurd h
  Transcript-through old new (request ∷ requests) [] h = absurd h
  Transcript-through old new (request ∷ requests) (reply ∷ replies) h = (f h.0, RequestStep-through old request reply h.0 h.1, Transcript-through h.0 new requests replies h.2)

  Answers-through : (requests : List Request) (old : S) (before : Outside) (new : S) (after : Outside) (replies : List (List ℕ)) → Answers (RequestStep step) requests old before new after replies → Answers (RequestStep other) requests (f old) before (f new) after replies
  Answers-through requests old before new after replies h = record {
    transcript = Transcript-through old new requests replies h.transcript;
    output = h.output;
  }

  abbrev IsCutOff-through : (requests : List Request) (old : S) (before : Outside) (new : S) (after : Outside) → IsCutOff (RequestStep step) requests old before new after → IsCutOff (RequestStep other) requests (f old) before (f new) after
  IsCutOff-through requests old before new after h = record {
    first = h.first;
    rest = h.rest;
    parts = h.parts;
    replies = h.replies;
    broken = h.broken;
    transcript = Transcript-through old new h.first (h.replies ++ h.broken ∷ []) h.transcript;
    bytes = h.bytes;
    unwritten = h.unwritten;
    front = h.front;
    some = h.some;
    output = h.output;
  }

  LosesReply-through : (old : S) (requests : List Request) (new : S) → LosesReply (RequestStep step) old requests new → LosesReply (RequestStep other) (f old) requests (f new)
  LosesReply-through old requests new (inl same) = inl (ap f same)
  LosesReply-through old requests new (inr h) = inr (h.0, h.1, h.2, h.3, RequestStep-through old h.0 h.2 new h.4)

  abbrev IsCutShort-through : (ends : Command → Bool) (bytes : List ℕ) (asked : List Request) (old : S) (before : Outside) (new : S) (after : Outside) → IsCutShort (RequestStep step) ends bytes asked old before new after → IsCutShort (RequestStep other) ends bytes asked (f old) before (f new) after
  IsCutShort-through ends bytes asked old before new after h = record {
    seen = h.seen;
    behind = h.behind;
    parts = h.parts;
    some = h.some;
    unended = h.unended;
    mid = f h.mid;
    replies = h.replies;
    answered = Answers-through (whole_requests ends h.seen) old before h.mid after h.replies h.answered;
    rest = h.rest;
    asks = h.asks;
    lost = LosesReply-through h.mid h.rest new h.lost;
  }

  EndsAs-through : (ends : Command → Bool) (front taken : List ℕ) (old : S) (before : Outside) (new : S) (after : Outside) (status : ℕ) → EndsAs (RequestStep step) ends front taken old before new after status → EndsAs (RequestStep other) ends front taken (f old) before (f new) after status
  EndsAs-through ends front taken old before new after status (Finished replies answers all within is) = Finished replies (Answers-through _ old before new after replies answers) all within is
  EndsAs-through ends front taken old before new after status (SourceFailed replies answers within unended rose is) = SourceFailed replies (Answers-through _ old before new after replies answers) within unended rose is
  EndsAs-through ends front taken old before new after status (SinkFailed asked answerable cut prompt rose is) = SinkFailed asked answerable (IsCutOff-through asked old before new after cut) prompt rose is
  EndsAs-through ends front taken old before new after status (MemoryWanted asked answerable cut prompt is) = MemoryWanted asked answerable (IsCutShort-through ends _ asked old before new after cut) prompt is
  EndsAs-through ends front taken old before new after status (TooLong replies answers overlong is) = TooLong replies (Answers-through _ old before new after replies answers) overlong is

  -- so a run over machines is one over the other states
  pub IsRun-through : (ends : Command → Bool) (old : S) (before : Outside) (new : S) (after : Outside) (status : ℕ) → IsRun (RequestStep step) ends old before new after status → IsRun (RequestStep other) ends (f old) before (f new) after status
  IsRun-through ends old before new after status h = record {
    front = h.front;
    taken = h.taken;
    consumed = h.consumed;
    last = h.last;
    ended = EndsAs-through ends h.front h.taken old before new after status h.ended;
    source_later = h.source_later;
    sink_later = h.sink_later;
  }
