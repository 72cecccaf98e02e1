-- What a session has done between two moments: the parts of which the clauses of a run are made.
use Rattle.std.specs.Prelude.{◌≡◌, ℕ, ◌<◌, ◌≤◌, Bool, true, false, ◌||◌, List, [], ◌∷◌, ◌++◌, length, take, if◌then◌else◌, Option, Result, Ok, Err}
use Rattle.std.specs.List.{list_any, concat}
use Rattle.std.specs.Io.KnownBytes.{Appends, Consumes}
use Rattle.sym_io.specs.Files.{Files}
use Rattle.script_session.specs.Limits.{script_limit}
use Rattle.script_session.specs.declared.session.Session.{Session}
use Rattle.script_session.specs.declared.session.Flow.{Flow}
use Rattle.script_session.specs.declared.session.Flow.TheVariants.{Open, Ended}
use Rattle.script_session.specs.declared.session.Stop.{Stop}
use Rattle.script_session.specs.declared.session.Stop.TheVariants as stop
use Rattle.script_session.specs.Request.{Command, Request}
use Rattle.text_lines.specs.Lines.{Line, HasNoNewline}
use Rattle.script_session.specs.Script.{is_end, line_requests, script_requests, whole_requests, has_ending, IsWithinLimit, IsOverlong}
use Rattle.script_session.specs.Reply.{wants_memory, is_error}
use Rattle.script_session.specs.Run.{LosesReply, IsLastRead, IsPrompt, IsAll, IsAnswerable}
use Rattle.script_session.specs.Stand.{Stand, stand, Transcript}

-- a machine beside its store, what the sink holds, and whether want of memory and a refusal were answered
pub record Moment (M : Type 0) : Type 0 where
  pub state : Stand M
  pub written : Option (List ℕ)
  pub wanted : Bool
  pub refused : Bool

abbrev pub moment_of : {M : Type 0} → Session → M → Option (List ℕ) → Option Files → ℕ → Moment M
moment_of session machine written files faults =
    record { state = stand machine files faults; written = written; wanted = session.wanted_memory; refused = session.refused }

-- the requests were answered, each reply was written whole
pub record Serves {M : Type 0} (step : Stand M → Request → List ℕ → Stand M → Type 0) (old : Moment M) (requests : List Request) (new : Moment M) : Type 0 where
  pub replies : List (List ℕ)
  pub run : Transcript step old.state requests replies new.state
  pub output : Appends old.written new.written (concat replies)
  pub wanted : new.wanted ≡ (old.wanted || list_any wants_memory replies)
  pub refused : new.refused ≡ (old.refused || list_any is_error replies)

-- the requests were answered, and the replies were written whole, but of the last one a front, and not all
pub record Breaks {M : Type 0} (step : Stand M → Request → List ℕ → Stand M → Type 0) (old : Moment M) (requests : List Request) (new : Moment M) : Type 0 where
  pub replies : List (List ℕ)
  pub broken : List ℕ
  pub run : Transcript step old.state requests (replies ++ broken ∷ []) new.state
  pub bytes : List ℕ
  pub unwritten : List ℕ
  pub front : bytes ++ unwritten ≡ broken
  pub some : 0 < length unwritten
  pub output : Appends old.written new.written (concat replies ++ bytes)

-- memory was wanting: nothing was written, and of the requests nothing was asked, or the first alone, whose reply could not be made
pub record Wants {M : Type 0} (step : Stand M → Request → List ℕ → Stand M → Type 0) (old : Moment M) (requests : List Request) (new : Moment M) : Type 0 where
  pub written : new.written ≡ old.written
  pub lost : LosesReply step old.state requests new.state

-- These requests are those of the first lines of the bytes, none of which ends the script, and left is what follows those lines.
pub record Reads (ends : Command → Bool) (bytes : List ℕ) (requests : List Request) (left : List ℕ) : Type 0 where
  pub seen : List ℕ
  pub parts : seen ++ left ≡ bytes
  pub all : (more : List ℕ) → script_requests ends (seen ++ more) ≡ requests ++ script_requests ends more
  pub whole : (more : List ℕ) → whole_requests ends (seen ++ more) ≡ requests ++ whole_requests ends more
  pub ending : (more : List ℕ) → has_ending ends (seen ++ more) ≡ has_ending ends more

-- these requests are all, since the last of them ends the script
pub record Finishes (ends : Command → Bool) (bytes : List ℕ) (requests : List Request) : Type 0 where
  pub all : (more : List ℕ) → script_requests ends (bytes ++ more) ≡ requests
  pub whole : (more : List ℕ) → whole_requests ends (bytes ++ more) ≡ requests
  pub ending : (more : List ℕ) → has_ending ends (bytes ++ more) ≡ true

-- these requests are the first
pub record Begins (ends : Command → Bool) (bytes : List ℕ) (requests : List Request) : Type 0 where
  pub all : (more : List ℕ) → (rest : List Request) × (script_requests ends (bytes ++ more) ≡ requests ++ rest)
  pub whole : (more : List ℕ) → (rest : List Request) × (whole_requests ends (bytes ++ more) ≡ requests ++ rest)

-- Memory was wanting in the midst of these bytes: what their first lines ask was answered, and something follows those lines, whose next
-- requests these are.
pub record Halts {M : Type 0} (ends : Command → Bool) (step : Stand M → Request → List ℕ → Stand M → Type 0) (old : Moment M) (bytes : List ℕ) (new : Moment M) : Type 0 where
  pub done : List Request
  pub behind : List ℕ
  pub reads : Reads ends bytes done behind
  pub some : 0 < length behind
  pub mid : Moment M
  pub serves : Serves step old done mid
  pub next : List Request
  pub begins : Begins ends behind next
  pub wants : Wants step mid next new

-- The same of bytes that may be answered, which ask this: their whole lines up to there, of which none ends the script, and what stands
-- behind them.
pub record StopsShort {M : Type 0} (ends : Command → Bool) (step : Stand M → Request → List ℕ → Stand M → Type 0) (old : Moment M) (bytes : List ℕ) (asked : List Request) (new : Moment M) : Type 0 where
  pub seen : List ℕ
  pub behind : List ℕ
  pub parts : bytes ≡ seen ++ behind
  pub some : 0 < length behind
  pub unended : has_ending ends seen ≡ false
  pub done : List Request
  pub asks_seen : whole_requests ends seen ≡ done
  pub mid : Moment M
  pub serves : Serves step old done mid
  pub rest : List Request
  pub asks : asked ≡ done ++ rest
  pub wants : Wants step mid rest new

-- what the answer to one request says
abbrev pub ServesOne : {M : Type 0} → (Stand M → Request → List ℕ → Stand M → Type 0) → Result (Unit {0}) Stop → Moment M → Request → Moment M → Type 0
ServesOne step (Ok done) old request new = Serves step old (request ∷ []) new
ServesOne step (Err stop.Sink) old request new = Breaks step old (request ∷ []) new
ServesOne step (Err stop.Memory) old request new = Wants step old (request ∷ []) new
ServesOne step (Err stop.Source) old request new = ⊥
ServesOne step (Err stop.TooLong) old request new = ⊥

-- what the answer to all that a line asks says, where last tells whether the line ends the script
abbrev pub ServesAll : {M : Type 0} → (Stand M → Request → List ℕ → Stand M → Type 0) → Result Flow Stop → Moment M → List Request → Bool → Moment M → Type 0
ServesAll step (Ok flow) old requests last new = Serves step old requests new × (flow ≡ (if last then Ended else Open))
ServesAll step (Err stop.Sink) old requests last new = Breaks step old requests new
ServesAll step (Err stop.Memory) old requests last new = Wants step old requests new
ServesAll step (Err stop.Source) old requests last new = ⊥
ServesAll step (Err stop.TooLong) old requests last new = ⊥

-- what the answer to one line says
abbrev pub ServesLine : {M : Type 0} → (Command → Bool) → (Stand M → Request → List ℕ → Stand M → Type 0) → Result Flow Stop → Moment M → Line → Moment M → Type 0
ServesLine ends step result old line new = ServesAll step result old (line_requests line) (is_end ends line) new

-- what the answer to a piece of a script says, where pending is what is kept of its last line
abbrev pub ServesPiece : {M : Type 0} → (Command → Bool) → (Stand M → Request → List ℕ → Stand M → Type 0) → Result Flow Stop → Moment M → List ℕ → Moment M → List ℕ → Type 0
ServesPiece ends step (Ok Open) old bytes new pending = (done : List Request) × Serves step old done new × Reads ends bytes done pending × HasNoNewline pending
ServesPiece ends step (Ok Ended) old bytes new pending = (done : List Request) × Serves step old done new × Finishes ends bytes done
ServesPiece ends step (Err stop.Sink) old bytes new pending = (done : List Request) × Breaks step old done new × Begins ends bytes done
ServesPiece ends step (Err stop.Memory) old bytes new pending = Halts ends step old bytes new
ServesPiece ends step (Err stop.Source) old bytes new pending = ⊥
ServesPiece ends step (Err stop.TooLong) old bytes new pending = ⊥

-- what the answer to the last line says, which has no newline
abbrev pub ServesRest : {M : Type 0} → (Command → Bool) → (Stand M → Request → List ℕ → Stand M → Type 0) → Result (Unit {0}) Stop → Moment M → List ℕ → Moment M → Type 0
ServesRest ends step (Ok done) old pending new = Serves step old (script_requests ends pending) new
ServesRest ends step (Err stop.Sink) old pending new = Breaks step old (script_requests ends pending) new
ServesRest ends step (Err stop.Memory) old pending new = Wants step old (script_requests ends pending) new × (0 < length pending)
ServesRest ends step (Err stop.Source) old pending new = ⊥
ServesRest ends step (Err stop.TooLong) old pending new = ⊥

-- what the answer to a script says of the bytes that were taken, the last read's behind a front, where left is what the source tells then
abbrev pub ServesTaken : {M : Type 0} → (Command → Bool) → (Stand M → Request → List ℕ → Stand M → Type 0) → Result (Unit {0}) Stop → Option (List ℕ) → List ℕ → List ℕ → Moment M → Moment M → Type 0
ServesTaken ends step (Ok done) left front taken old new = Serves step old (script_requests ends taken) new × IsAll ends left taken × IsWithinLimit ends taken
ServesTaken ends step (Err stop.Source) left front taken old new = Serves step old (whole_requests ends taken) new × (length taken ≤ script_limit) × (has_ending ends taken ≡ false)
ServesTaken ends step (Err stop.TooLong) left front taken old new = Serves step old (whole_requests ends (take script_limit taken)) new × IsOverlong ends taken
ServesTaken ends step (Err stop.Sink) left front taken old new =
    (asked first rest : List Request) × IsAnswerable ends left taken asked × (asked ≡ first ++ rest) × ((cut : Breaks step old first new) × IsPrompt ends front cut.replies)
ServesTaken ends step (Err stop.Memory) left front taken old new =
    (asked : List Request) × IsAnswerable ends left taken asked × ((cut : StopsShort ends step old (take script_limit taken) asked new) × IsPrompt ends front cut.serves.replies)

-- what it says of a script: these bytes were taken, the last read's behind a front, which the source tells as handed'
pub record ServesScript {M : Type 0} (ends : Command → Bool) (step : Stand M → Request → List ℕ → Stand M → Type 0) (result : Result (Unit {0}) Stop) (left left' handed' : Option (List ℕ)) (old new : Moment M) : Type 0 where
  pub front : List ℕ
  pub taken : List ℕ
  pub consumed : Consumes left left' taken
  pub last : IsLastRead ends handed' front taken
  pub served : ServesTaken ends step result left' front taken old new
