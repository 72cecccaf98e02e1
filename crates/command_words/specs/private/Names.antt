-- What contracts of private functions alone cite, beside specs/Names.
use Rattle.std.specs.Prelude.{ℕ, List, codes, if◌then◌else◌, Option, Some, None}
use Rattle.std.specs.Str.{bytes_eq}
use Rattle.command_words.specs.declared.words.OptimumBound.TheVariants.{Lower, Upper}
use Rattle.command_words.specs.declared.words.NewNumbers.TheVariants.{Sides, Costs}
use Rattle.command_words.specs.declared.words.CommandName.{CommandName}
use Rattle.command_words.specs.declared.words.CommandName.TheVariants.{Trim, Save, Restore, Bound, Cert, Write, Quit}

-- the command that a word names which names none up to `lbobj`
abbrev pub command_behind_lbobj : List ℕ → Option CommandName
command_behind_lbobj word =
    if bytes_eq word (codes "ubrhs") then Some (Bound Upper Sides)
    else if bytes_eq word (codes "ubobj") then Some (Bound Upper Costs)
    else if bytes_eq word (codes "cert") then Some Cert
    else if bytes_eq word (codes "write") then Some Write
    else if bytes_eq word (codes "quit") then Some Quit
    else None

-- the command that a word names which names none up to `edit`
abbrev pub command_behind_edit : List ℕ → Option CommandName
command_behind_edit word =
    if bytes_eq word (codes "trim") then Some Trim
    else if bytes_eq word (codes "save") then Some Save
    else if bytes_eq word (codes "restore") then Some Restore
    else if bytes_eq word (codes "lbrhs") then Some (Bound Lower Sides)
    else if bytes_eq word (codes "lbobj") then Some (Bound Lower Costs)
    else command_behind_lbobj word
