-- What contracts of private functions alone cite, beside specs/Saving.
use Rattle.std.specs.Prelude.{◌≡◌, ℕ, List}
use Rattle.warm_file.specs.Searches.{IsFault}
use Rattle.kept_env.specs.Env.{PlainEnv}
use Rattle.reply_texts.specs.Texts.{ok_text, warm_text, memory_text}
use Rattle.file_commands.specs.Saving.{RestoresTo}

-- what a text is answered: the environment has the search that it states and holds no answer, or it stays and the reply tells why
pub data TakesText (text : List ℕ) (old : PlainEnv) (reply : List ℕ) (new : PlainEnv) : Type 0 where
  Taken : reply ≡ ok_text → RestoresTo text new → TakesText text old reply new
  Faulty : (place : List ℕ) (code : ℕ) → IsFault text place code → reply ≡ warm_text place code → new ≡ old → TakesText text old reply new
  Wanting : reply ≡ memory_text → new ≡ old → TakesText text old reply new
