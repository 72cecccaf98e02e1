-- What holds of every search that is saved and made again, and of texts of searches.
use Rattle.std.specs.Prelude.{◌≡◌, ℕ, List}
use Rattle.search_data.specs.declared.data.SearchData.{SearchData}
use Rattle.sound_searches.specs.Laws.{HasNoOpenLeaf}
use Rattle.sound_searches.specs.Sound.{PlainSearch, IsSound}
use Rattle.warm_file.specs.Searches.{States}
use Rattle.search_file.specs.Saved.{saved_data, IsRestorable, Restores}
use Rattle.search_file.specs.Files.{IsTextOf, IsStatedBy}
use Rattle.list_order.specs.Ordered.{IsInOrder}
use Rattle.lp_model.specs.Lawful.{IsLawful}
use Rattle.warm_writer.specs.Writable.{IsWritableModel, IsWritable}

-- a search can be made of its data again; what is made has the same data, so each leaf the state that it had, and where no leaf was
-- open none is
pub record SavedLaw : Type 0 where
  pub restorable : (S : PlainSearch) → IsSound S → IsRestorable (saved_data S)
  pub again : (S new : PlainSearch) → IsSound S → IsSound new → Restores (saved_data S) new → saved_data new ≡ saved_data S
  pub closed : (S new : PlainSearch) → IsSound S → IsSound new → Restores (saved_data S) new → HasNoOpenLeaf S → HasNoOpenLeaf new

-- a search can be made of whatever a text states; and a search that is found in its own text has the data that it had, so it has no
-- open leaf where it had none
pub record FileLaw : Type 0 where
  pub restorable : (text : List ℕ) (s : SearchData) → States text s → IsRestorable s
  pub again : (S new : PlainSearch) (text : List ℕ) → IsSound S → IsSound new → IsTextOf S text → IsStatedBy text new → saved_data new ≡ saved_data S
  pub closed : (S new : PlainSearch) (text : List ℕ) → IsSound S → IsSound new → IsTextOf S text → IsStatedBy text new → HasNoOpenLeaf S → HasNoOpenLeaf new

-- the lists that a text states are in order, and so is a search that is made of it
abbrev pub StatedOrderLaw : Type 0
StatedOrderLaw = (text : List ℕ) (S : PlainSearch) → IsStatedBy text S → IsLawful S.model → IsInOrder S

-- a sound search in order can be written, where its model can
abbrev pub WritableLaw : Type 0
WritableLaw = (S : PlainSearch) → IsSound S → IsInOrder S → IsWritableModel S.model → IsWritable (saved_data S)
