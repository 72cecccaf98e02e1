-- Sets of names.
use Rattle.std.specs.Prelude.{ℕ, Bool, List, bytes_eq}
use Rattle.std.specs.List.{list_any}
use Rattle.mps_sections.specs.declared.name_set.NameSet.{NameSet}

-- the set has the name
unfoldable pub has : NameSet → List ℕ → Bool
has set name = list_any (λ key. bytes_eq name key.items) set.keys.keys
