-- A search that is saved and restored.
use Rattle.std.specs.Prelude.{◌≡◌, ℕ, List, Some}
use Rattle.std.proofs.Common.{ap, subst}
use Rattle.sound_searches.specs.Laws.{HasNoOpenLeaf}
use Rattle.sound_searches.specs.Sound.{PlainSearch, IsSound}
use Rattle.search_file.specs.Files.{IsTextOf, IsStatedBy}
use Rattle.search_file.proofs.RestorableLaws.{in-own-text}
use Rattle.kept_env.specs.Env.{PlainEnv}
use Rattle.file_commands.specs.Laws.{RestoredSearchLaw}
use Rattle.file_commands.specs.Saving.{RestoresTo}

module _ (S T : PlainSearch) (text : List ℕ) (restored : PlainEnv) (sound : IsSound S) (made : IsSound T) (own : IsTextOf S text)
    (restores : RestoresTo text restored) (there : restored.search ≡ Some T) (closed : HasNoOpenLeaf S) where
  pub restored-closed : HasNoOpenLeaf T
  restored-closed =
      let is : restored.search ≡ Some restores.search = ap (λ e. e.search) restores.env_is in
      let same : restores.search ≡ T = cc in
      in-own-text.closed S T text sound made own (subst (λ U. IsStatedBy text U) same restores.stated) closed

pub after-restore : RestoredSearchLaw
after-restore = record { closed = λ S T text restored sound made own restores there closed. restored-closed S T text restored sound made own restores there closed }
