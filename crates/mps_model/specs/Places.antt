-- The place of a name among names.
use Rattle.std.specs.Prelude.{◌≡◌, ℕ, Bool, true, not, ◌&&◌, nat_lt, List, [], length, get_or, bytes_eq, Option, None, Some}
use Rattle.std.specs.Map.{lookup}
use Rattle.mps_fields.specs.Words.{among}
use Rattle.mps_model.specs.declared.name_index.NameIndex.{NameIndex}

-- what the map has at the name
unfoldable pub find : NameIndex → List ℕ → Option ℕ
find index name = lookup (λ key. bytes_eq name key.items) index.places.entries

abbrev pub is_found : List (List ℕ) → List ℕ → Option ℕ → Bool
is_found names name None = not (among names name)
is_found names name (Some place) = nat_lt place (length names) && bytes_eq (get_or names place []) name

-- the map finds each of the names, and no other
abbrev pub IsIndexOf : List (List ℕ) → NameIndex → Type 0
IsIndexOf names index = (name : List ℕ) → is_found names name (find index name) ≡ true
