-- The words of a command: its name, file names and whole numbers.
use Rattle.std.specs.Prelude.{ℕ, ◌^◌, Bool, false, ◌||◌, ◌&&◌, not, List, [], ◌∷◌, length, ◌==◌, nat_le, nat_lt, codes, decimal, if◌then◌else◌, Option, Some, None}
use Rattle.std.specs.List.{list_all}
use Rattle.std.specs.Str.{bytes_eq}
use Rattle.std.specs.Str.Parse.{digits_value}
use Rattle.command_words.specs.declared.words.OptimumBound.TheVariants.{Lower, Upper}
use Rattle.command_words.specs.declared.words.NewNumbers.TheVariants.{Sides, Costs}
use Rattle.command_words.specs.declared.words.CommandName.{CommandName}
use Rattle.command_words.specs.declared.words.CommandName.TheVariants.{Load, Solve, Warm, McSolve, Edit, Trim, Save, Restore, Bound, Cert, Write, Quit}

-- the command that a first word names
abbrev pub command_of : List ℕ → Option CommandName
command_of word =
    if bytes_eq word (codes "load") then Some Load
    else if bytes_eq word (codes "solve") then Some Solve
    else if bytes_eq word (codes "warm") then Some Warm
    else if bytes_eq word (codes "mcsolve") then Some McSolve
    else if bytes_eq word (codes "edit") then Some Edit
    else if bytes_eq word (codes "trim") then Some Trim
    else if bytes_eq word (codes "save") then Some Save
    else if bytes_eq word (codes "restore") then Some Restore
    else if bytes_eq word (codes "lbrhs") then Some (Bound Lower Sides)
    else if bytes_eq word (codes "lbobj") then Some (Bound Lower Costs)
    else if bytes_eq word (codes "ubrhs") then Some (Bound Upper Sides)
    else if bytes_eq word (codes "ubobj") then Some (Bound Upper Costs)
    else if bytes_eq word (codes "cert") then Some Cert
    else if bytes_eq word (codes "write") then Some Write
    else if bytes_eq word (codes "quit") then Some Quit
    else None

abbrev pub is_file_name_byte : ℕ → Bool
is_file_name_byte byte =
    (nat_le 97 byte && nat_le byte 122) || (nat_le 65 byte && nat_le byte 90) || (nat_le 48 byte && nat_le byte 57)
    || byte == 46 || byte == 95 || byte == 45

abbrev pub begins_name : List ℕ → Bool
begins_name [] = false
begins_name (byte ∷ bytes) = not (byte == 46 || byte == 45)

-- a file name: 1 to 255 letters, digits, `.`, `_` and `-`, not beginning with `.` or `-`
abbrev pub is_file_name : List ℕ → Bool
is_file_name word = begins_name word && nat_le (length word) 255 && list_all is_file_name_byte word

-- The whole number of 64 bits that a word is, in decimal digits without a sign or a leading zero, if it is one: the word
-- is spelled as the number is.
abbrev pub whole_number_of : List ℕ → Option ℕ
whole_number_of word = if bytes_eq word (decimal (digits_value 10 word)) && nat_lt (digits_value 10 word) (2 ^ 64) then Some (digits_value 10 word) else None
