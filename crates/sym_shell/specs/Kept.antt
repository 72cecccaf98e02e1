-- What is known of the search that the environment has, and of one whose text a file has.
use Rattle.std.specs.Prelude.{◌≡◌, ℕ, List, Option, Some, IfSome}
use Rattle.sym_io.specs.Files.{Files, file}
use Rattle.sound_searches.specs.Laws.{HasNoOpenLeaf}
use Rattle.sound_searches.specs.Sound.{PlainSearch, IsSound}
use Rattle.search_file.specs.Files.{IsTextOf}
use Rattle.kept_env.specs.Env.{PlainEnv}

-- the environment's search, if there is one, is sound
abbrev pub HasSoundSearch : PlainEnv → Type 0
HasSoundSearch env = IfSome env.search IsSound

-- the file has the text of this search, which is sound and has no open leaf
pub record HasClosedSearch (files : Option Files) (name : List ℕ) (S : PlainSearch) : Type 0 where
  pub known : Files
  pub told : files ≡ Some known
  pub text : List ℕ
  pub stands : file known name ≡ Some text
  pub is : IsTextOf S text
  pub sound : IsSound S
  pub closed : HasNoOpenLeaf S
