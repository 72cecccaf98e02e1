-- The names that edits bring.
use Rattle.std.specs.Prelude.{◌≡◌, true, ℕ, List}
use Rattle.lp_model.specs.declared.types.Edit.{Edit}
use Rattle.lp_model.specs.declared.types.Edit.TheVariants.{SetCost, SetCost2, SetRow, SetColBounds, SetKind, AddCol, DelCol, AddRow, DelRow, ReplaceRow}
use Rattle.lp_model.specs.Names.{is_lawful_name}

-- the name that the edit brings, if it brings one, is so
abbrev pub BringsName : (List ℕ → Type 0) → Edit → Type 0
BringsName P (SetCost col v) = Unit {0}
BringsName P (SetCost2 col v) = Unit {0}
BringsName P (SetRow row lo hi) = Unit {0}
BringsName P (SetColBounds col lo up) = Unit {0}
BringsName P (SetKind col integer) = Unit {0}
BringsName P (AddCol name integer lo up cost cost2 named) = P name
BringsName P (DelCol col) = Unit {0}
BringsName P (AddRow name lo hi named) = P name
BringsName P (DelRow row) = Unit {0}
BringsName P (ReplaceRow row lo hi named) = Unit {0}

abbrev pub IsNewName : List ℕ → Type 0
IsNewName word = is_lawful_name word ≡ true
