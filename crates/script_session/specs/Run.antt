-- What a run of a script is: one definition for every status, over the bytes that were taken from the source, whether the
-- source tells them or not.
use Rattle.std.specs.Prelude.{◌≡◌, ℕ, ◌<◌, ◌≤◌, ◌⊎◌, Bool, true, false, List, [], ◌∷◌, ◌++◌, length, take, Option, IfSome}
use Rattle.std.specs.List.{concat}
use Rattle.std.specs.Io.KnownBytes.{Appends, Consumes, IsAtEnd}
use Rattle.sym_io.specs.Faults.{Rose}
use Rattle.script_session.specs.Limits.{script_limit, piece_length}
use Rattle.script_session.specs.Reply.{status_of}
use Rattle.script_session.specs.Request.{Command, Request}
use Rattle.script_session.specs.Script.{script_requests, whole_requests, has_ending, IsWithinLimit, IsOverlong}
use Rattle.script_session.specs.Stand.{Transcript}

-- The two ends of a run at a moment: the bytes that are left and the piece that the last read has handed out, where the source
-- tells them, the bytes that are written, where the sink tells them, and how often each has failed.
pub record Outside : Type 0 where
  pub left : Option (List ℕ)
  pub handed : Option (List ℕ)
  pub source_faults : ℕ
  pub written : Option (List ℕ)
  pub sink_faults : ℕ

abbrev pub outside : Option (List ℕ) → Option (List ℕ) → ℕ → Option (List ℕ) → ℕ → Outside
outside left handed source_faults written sink_faults = record { left = left; handed = handed; source_faults = source_faults; written = written; sink_faults = sink_faults }

-- ---- what is answered and written

-- the requests have these replies, each a step from where the last one led, and the replies were written, and nothing else
pub record Answers {S : Type 0} (step : S → Request → List ℕ → S → Type 0) (requests : List Request) (old : S) (before : Outside) (new : S) (after : Outside) (replies : List (List ℕ)) : Type 0 where
  pub transcript : Transcript step old requests replies new
  pub output : Appends before.written after.written (concat replies)

-- First requests were answered: their replies were written whole, but of the last one, which was broken off, a front and not
-- all. So nothing is asked of the machine behind a reply that was broken off.
pub record IsCutOff {S : Type 0} (step : S → Request → List ℕ → S → Type 0) (requests : List Request) (old : S) (before : Outside) (new : S) (after : Outside) : Type 0 where
  pub first : List Request
  pub rest : List Request
  pub parts : requests ≡ first ++ rest
  pub replies : List (List ℕ)
  pub broken : List ℕ
  pub transcript : Transcript step old first (replies ++ broken ∷ []) new
  pub bytes : List ℕ
  pub unwritten : List ℕ
  pub front : bytes ++ unwritten ≡ broken
  pub some : 0 < length unwritten
  pub output : Appends before.written after.written (concat replies ++ bytes)

-- of these requests nothing was asked, or the first alone, whose reply could not be made
abbrev pub LosesReply : {S : Type 0} → (S → Request → List ℕ → S → Type 0) → S → List Request → S → Type 0
LosesReply step old requests new = (new ≡ old) ⊎ ((request : Request) × (others : List Request) × (reply : List ℕ) × (requests ≡ request ∷ others) × step old request reply new)

-- The run was cut short: of the bytes that may be answered, which ask this, first whole lines were gone through. None of them ends the
-- script, all that they ask was answered, and each reply was written whole. Something stands behind them that was not gone through: of
-- what it asks, nothing was asked of the machine, or the next request alone, whose reply could not be made.
pub record IsCutShort {S : Type 0} (step : S → Request → List ℕ → S → Type 0) (ends : Command → Bool) (bytes : List ℕ) (asked : List Request) (old : S) (before : Outside) (new : S) (after : Outside) : Type 0 where
  pub seen : List ℕ
  pub behind : List ℕ
  pub parts : bytes ≡ seen ++ behind
  pub some : 0 < length behind
  pub unended : has_ending ends seen ≡ false
  pub mid : S
  pub replies : List (List ℕ)
  pub answered : Answers step (whole_requests ends seen) old before mid after replies
  pub rest : List Request
  pub asks : asked ≡ whole_requests ends seen ++ rest
  pub lost : LosesReply step mid rest new

-- ---- what was taken

-- The last read has handed out this piece, none where it found the end or failed. The bytes before it are no more than may be and
-- have no line that ends the script: nothing is read after the read that brought a byte too many, or such a line.
pub record IsLastRead (ends : Command → Bool) (handed' : Option (List ℕ)) (front taken : List ℕ) : Type 0 where
  pub piece : List ℕ
  pub parts : taken ≡ front ++ piece
  pub handed : IfSome handed' (λ last. last ≡ piece)
  pub one_read : length piece ≤ piece_length
  pub within : length front ≤ script_limit
  pub unended : has_ending ends front ≡ false

-- All that the lines ask which earlier reads have ended is answered by replies that were written whole. So a reply is written before
-- the next read: a sink may fail at any reply, and then no later piece was asked for.
abbrev pub IsPrompt : (Command → Bool) → List ℕ → List (List ℕ) → Type 0
IsPrompt ends front replies = length (whole_requests ends front) ≤ length replies

-- nothing is left to be asked: the source is at its end, or a line has ended the script
abbrev pub IsAll : (Command → Bool) → Option (List ℕ) → List ℕ → Type 0
IsAll ends left' taken = IsAtEnd left' ⊎ (has_ending ends taken ≡ true)

-- What may be answered of the bytes that were taken: what the whole lines among those that may be ask. At the source's end the
-- last line counts too; before it, a line whose end hasn't come is none.
abbrev pub IsAnswerable : (Command → Bool) → Option (List ℕ) → List ℕ → List Request → Type 0
IsAnswerable ends left' taken asked =
    (asked ≡ whole_requests ends (take script_limit taken))
    ⊎ (IsAtEnd left' × (length taken ≤ script_limit) × (asked ≡ script_requests ends taken))

-- ---- how a run ends

-- From old a run has answered the bytes that were taken, the last read's behind a front, left new, and ends with this status: the
-- script came to its end, though memory may have been wanting for a reply, which then says so; the source or the sink failed; memory
-- was wanting to go on, and something that was taken was not gone through; or a byte too many came.
pub data EndsAs {S : Type 0} (step : S → Request → List ℕ → S → Type 0) (ends : Command → Bool) (front taken : List ℕ) (old : S) (before : Outside) (new : S) (after : Outside) (status : ℕ) : Type 0 where
  Finished : (replies : List (List ℕ)) → Answers step (script_requests ends taken) old before new after replies → IsAll ends after.left taken → IsWithinLimit ends taken
      → status ≡ status_of replies → EndsAs step ends front taken old before new after status
  SourceFailed : (replies : List (List ℕ)) → Answers step (whole_requests ends taken) old before new after replies → length taken ≤ script_limit → has_ending ends taken ≡ false
      → Rose before.source_faults after.source_faults → status ≡ 3 → EndsAs step ends front taken old before new after status
  SinkFailed : (asked : List Request) → IsAnswerable ends after.left taken asked → (cut : IsCutOff step asked old before new after) → IsPrompt ends front cut.replies
      → Rose before.sink_faults after.sink_faults → status ≡ 4 → EndsAs step ends front taken old before new after status
  MemoryWanted : (asked : List Request) → IsAnswerable ends after.left taken asked → (cut : IsCutShort step ends (take script_limit taken) asked old before new after) → IsPrompt ends front cut.replies
      → status ≡ 5 → EndsAs step ends front taken old before new after status
  TooLong : (replies : List (List ℕ)) → Answers step (whole_requests ends (take script_limit taken)) old before new after replies → IsOverlong ends taken
      → status ≡ 6 → EndsAs step ends front taken old before new after status

-- a run from old, which left new: these bytes were taken, and no count of faults fell
pub record IsRun {S : Type 0} (step : S → Request → List ℕ → S → Type 0) (ends : Command → Bool) (old : S) (before : Outside) (new : S) (after : Outside) (status : ℕ) : Type 0 where
  pub front : List ℕ
  pub taken : List ℕ
  pub consumed : Consumes before.left after.left taken
  pub last : IsLastRead ends after.handed front taken
  pub ended : EndsAs step ends front taken old before new after status
  pub source_later : before.source_faults ≤ after.source_faults
  pub sink_later : before.sink_faults ≤ after.sink_faults
