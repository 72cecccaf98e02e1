-- What a run says of all that its source has at the start, where the source tells it: what is to come counts too.
use Rattle.std.specs.Prelude.{◌≡◌, ℕ, ◌<◌, ◌⊎◌, Bool, true, List, take, length, Some, if◌then◌else◌, nat_le}
use Rattle.std.specs.List.{list_any}
use Rattle.script_session.specs.Limits.{script_limit}
use Rattle.script_session.specs.Reply.{status_of, wants_memory}
use Rattle.script_session.specs.Request.{Command, Request}
use Rattle.script_session.specs.Script.{script_requests, whole_requests, IsWithinLimit, IsOverlong}
use Rattle.script_session.specs.Run.{Outside, Answers, IsCutOff, IsCutShort, IsRun}

-- What a run may answer: of a script that is too long, what the whole lines of the bytes that may be ask.
abbrev pub allowed_requests : (Command → Bool) → List ℕ → List Request
allowed_requests ends input = if nat_le (length input) script_limit then script_requests ends input else whole_requests ends (take script_limit input)

-- all that a script asks was answered, and some reply is the refusal for want of memory
pub record IsShortOfMemory {S : Type 0} (step : S → Request → List ℕ → S → Type 0) (ends : Command → Bool) (input : List ℕ) (old : S) (before : Outside) (new : S) (after : Outside) : Type 0 where
  pub within : IsWithinLimit ends input
  pub replies : List (List ℕ)
  pub answered : Answers step (script_requests ends input) old before new after replies
  pub wanting : list_any wants_memory replies ≡ true

-- By its status, what a run has done with a script of these bytes. With status 5 it has answered all lines, some of them by the refusal for want
-- of memory; or it was cut short, and some of these bytes, which may be answered, were not gone through.
pub record IsRunOf {S : Type 0} (step : S → Request → List ℕ → S → Type 0) (ends : Command → Bool) (input : List ℕ) (old : S) (before : Outside) (new : S) (after : Outside) (status : ℕ) : Type 0 where
  pub transcript : status < 2 → (replies : List (List ℕ)) × Answers step (script_requests ends input) old before new after replies × (status ≡ status_of replies)
  pub within : status < 2 → IsWithinLimit ends input
  pub until_sink_failed : status ≡ 4 → IsCutOff step (allowed_requests ends input) old before new after
  pub until_memory_wanted : status ≡ 5 → IsShortOfMemory step ends input old before new after ⊎ IsCutShort step ends (take script_limit input) (allowed_requests ends input) old before new after
  pub too_long : status ≡ 6 → IsOverlong ends input
  pub until_too_long : status ≡ 6 → (replies : List (List ℕ)) × Answers step (whole_requests ends (take script_limit input)) old before new after replies

-- a run of a source that tells its bytes is a run of those
abbrev pub ToldLaw : Type 1
ToldLaw = (S : Type 0) (step : S → Request → List ℕ → S → Type 0) (ends : Command → Bool) (input : List ℕ) (old : S) (before : Outside) (new : S) (after : Outside) (status : ℕ)
    → before.left ≡ Some input → IsRun step ends old before new after status → IsRunOf step ends input old before new after status
