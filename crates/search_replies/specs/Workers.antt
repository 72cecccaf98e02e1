-- How many workers a search may have, and what is answered where more are asked for.
use Rattle.std.specs.Prelude.{◌⊎◌, ℕ, ◌<◌, ◌≤◌, List, Option, Some, None}
use Rattle.sound_searches.specs.Sound.{PlainSearch}
use Rattle.kept_env.specs.Env.{PlainEnv}
use Rattle.reply_texts.specs.Texts.{no_model_text, limit_text}
use Rattle.command_family.specs.Unchanged.{IsRefused}

abbrev pub worker_limit : ℕ
worker_limit = 64

-- that more are asked for is told where a model is present
abbrev pub crowd_text : Option PlainSearch → List ℕ
crowd_text None = no_model_text
crowd_text (Some S) = limit_text worker_limit

-- there may be so many workers, and then P; or more are asked for, which is told, and nothing changes
abbrev pub Staffed : ℕ → Type 0 → PlainEnv → List ℕ → PlainEnv → Type 0
Staffed workers P old reply new = ((workers ≤ worker_limit) × P) ⊎ ((worker_limit < workers) × IsRefused old (crowd_text old.search) reply new)
