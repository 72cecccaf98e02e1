-- Searches as texts.
--     own_text S                    the text of the data of the search
--     IsTextOf S text               it is that text, and states that data
--     IsSearchFound text answer     the search that the text states, its first fault, or want of memory
use Rattle.std.specs.Prelude.{◌≡◌, ℕ, List, Result, Ok, Err}
use Rattle.serde_json.specs.Written.{compact_text}
use Rattle.search_data.specs.declared.data.SearchData.{SearchData}
use Rattle.sound_searches.specs.Sound.{PlainSearch}
use Rattle.search_file.specs.Saved.{saved_data, Restores}
use Rattle.warm_file.specs.declared.fault.WarmFault.{WarmFault}
use Rattle.warm_file.specs.declared.fault.WarmFault.TheVariants.{Bad, Memory}
use Rattle.warm_file.specs.Searches.{States, IsFault}
use Rattle.warm_writer.specs.Written.{search_json}

abbrev pub own_text : PlainSearch → List ℕ
own_text S = compact_text (search_json (saved_data S))

-- it states that data, and no other
pub record IsTextOf (S : PlainSearch) (text : List ℕ) : Type 0 where
  pub is : text ≡ own_text S
  pub states : States text (saved_data S)

-- the search is made of the data that the text states
pub record IsStatedBy (text : List ℕ) (S : PlainSearch) : Type 0 where
  pub stated : SearchData
  pub states : States text stated
  pub restores : Restores stated S

abbrev pub IsSearchFound : List ℕ → Result PlainSearch WarmFault → Type 0
IsSearchFound text (Ok S) = IsStatedBy text S
IsSearchFound text (Err (Bad place code)) = IsFault text place code
IsSearchFound text (Err Memory) = Unit {0}
