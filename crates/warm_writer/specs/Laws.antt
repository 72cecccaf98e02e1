-- What is written is read back.
use Rattle.std.specs.Prelude.{◌≡◌, Ok}
use Rattle.search_data.specs.declared.data.SearchData.{SearchData}
use Rattle.warm_file.specs.Searches.{search_of}
use Rattle.warm_writer.specs.Written.{search_json}
use Rattle.warm_writer.specs.Writable.{IsWritable, SearchFits, HasSearchShape}

-- a writable search is read back as it was
pub record BackLaw : Type 0 where
  pub reads_back : (s : SearchData) → IsWritable s → SearchFits s → search_of (search_json s) ≡ Ok s
  -- whatever well-formed search is written, nothing else is read back
  pub reads_alone : (s t : SearchData) → HasSearchShape s → SearchFits s → search_of (search_json s) ≡ Ok t → t ≡ s
