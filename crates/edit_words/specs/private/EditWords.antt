-- What contracts of private functions alone cite, beside specs/EditWords.
use Rattle.std.specs.Prelude.{ℕ, List, codes, if◌then◌else◌, Option, Some, None}
use Rattle.std.specs.Str.{bytes_eq}
use Rattle.lp_model.specs.declared.types.Edit.TheVariants.{AddCol, DelCol, AddRow, DelRow, ReplaceRow}
use Rattle.edit_words.specs.declared.kinds.EditKind.{EditKind}
use Rattle.edit_words.specs.declared.kinds.EditKind.TheVariants as kind
use Rattle.edit_words.specs.declared.asked.EditAsked.TheVariants as asked
use Rattle.edit_words.specs.declared.entries.Entries.TheVariants as entries

-- the kinds that add, remove or replace a whole column or row
abbrev pub whole_kind_of : List ℕ → Option EditKind
whole_kind_of word =
    if bytes_eq word (codes "addcol") then Some kind.AddCol
    else if bytes_eq word (codes "delcol") then Some kind.DelCol
    else if bytes_eq word (codes "addrow") then Some kind.AddRow
    else if bytes_eq word (codes "delrow") then Some kind.DelRow
    else if bytes_eq word (codes "replacerow") then Some kind.ReplaceRow
    else None
