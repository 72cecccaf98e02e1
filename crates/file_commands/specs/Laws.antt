-- What holds of a search that is saved and restored.
use Rattle.std.specs.Prelude.{◌≡◌, ℕ, List, Some}
use Rattle.sound_searches.specs.Laws.{HasNoOpenLeaf}
use Rattle.sound_searches.specs.Sound.{PlainSearch, IsSound}
use Rattle.search_file.specs.Files.{IsTextOf}
use Rattle.kept_env.specs.Env.{PlainEnv}
use Rattle.file_commands.specs.Saving.{RestoresTo}

-- where no leaf of the search was open when its text was written, none is after that text is restored
pub record RestoredSearchLaw : Type 0 where
  pub closed : (S T : PlainSearch) (text : List ℕ) (restored : PlainEnv) → IsSound S → IsSound T → IsTextOf S text
      → RestoresTo text restored → restored.search ≡ Some T → HasNoOpenLeaf S → HasNoOpenLeaf T
