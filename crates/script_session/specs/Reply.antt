-- What the bytes of replies make of a run's status.
use Rattle.std.specs.Prelude.{ℕ, Bool, List, if◌then◌else◌, codes, ◌==◌}
use Rattle.std.specs.List.{list_any, starts_with}
use Rattle.std.specs.Str.{bytes_eq}

-- a refusal begins with `error `
abbrev pub is_error : List ℕ → Bool
is_error reply = starts_with ◌==◌ reply (codes "error ")

-- the one refusal for want of memory
abbrev pub wants_memory : List ℕ → Bool
wants_memory reply = bytes_eq reply (codes "error 90 memory\n")

-- the status by whether memory was wanting and by whether a command was refused
abbrev pub final_status : Bool → Bool → ℕ
final_status wanted refused = if wanted then 5 else if refused then 1 else 0

-- the status of a script that came to its end
abbrev pub status_of : List (List ℕ) → ℕ
status_of replies = final_status (list_any wants_memory replies) (list_any is_error replies)
