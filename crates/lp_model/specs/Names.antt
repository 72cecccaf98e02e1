-- Which bytes may be a new name, in a script and in a file of a search.
use Rattle.std.specs.Prelude.{ℕ, Bool, ◌&&◌, List, length, nat_le}
use Rattle.std.specs.List.{list_all}
use Rattle.lp_model.specs.Limits.{name_limit}

-- the bytes from `!` to `~`
abbrev pub is_name_byte : ℕ → Bool
is_name_byte byte = nat_le 33 byte && nat_le byte 126

-- 1 to 255 of them
abbrev pub is_lawful_name : List ℕ → Bool
is_lawful_name name = nat_le 1 (length name) && nat_le (length name) name_limit && list_all is_name_byte name
