-- The options of a search, as the words behind `solve`, `warm` and `mcsolve` name them: key words with their numbers.
use Rattle.std.specs.Prelude.{ℕ, ◌-◌, ◌^◌, Bool, true, false, ◌&&◌, not, List, [], ◌∷◌, ◌==◌, codes, pos, if◌then◌else◌, Option, Some, None, Result, Ok, Err}
use Rattle.std.specs.Str.{bytes_eq}
use Rattle.frac128.specs.Rational.{ℚ, int, rational_le}
use Rattle.frac_text.specs.declared.parsing.NumFault.{NumFault}
use Rattle.frac_text.specs.Parsing.{spelled_number}
use Rattle.command_words.specs.Names.{whole_number_of}
use Rattle.command_words.specs.declared.options.SearchOptions.{SearchOptions}
use Rattle.command_words.specs.declared.options.Awaited.{Awaited}

-- a limit that isn't named
abbrev pub no_limit : ℕ
no_limit = 2 ^ 64 - 1

-- where no option is named
abbrev pub no_option : SearchOptions
no_option = record { nodes = no_limit; pivots = no_limit; workers = 1; seed = 0; gap = None }

-- ---- which words are options: `nodes N`, `pivots N`, `gap G` and `workers K seed S`, each once at most, in any order

-- no option is named yet
abbrev pub any_option : Awaited
any_option = record { nodes = true; pivots = true; gap = true; workers = true; seed = false }

-- no limit is named yet, and no other option may come
abbrev pub any_limit : Awaited
any_limit = record { nodes = true; pivots = true; gap = false; workers = false; seed = false }

-- an option with this key word may come next; behind `workers K` the seed must
abbrev pub is_awaited : Awaited → List ℕ → Bool
is_awaited awaited key =
    if awaited.seed then bytes_eq key (codes "seed")
    else if bytes_eq key (codes "nodes") then awaited.nodes
    else if bytes_eq key (codes "pivots") then awaited.pivots
    else if bytes_eq key (codes "gap") then awaited.gap
    else bytes_eq key (codes "workers") && awaited.workers

abbrev pub awaited_behind : List ℕ → Awaited → Awaited
awaited_behind key awaited = record {
  nodes = awaited.nodes && not (bytes_eq key (codes "nodes"));
  pivots = awaited.pivots && not (bytes_eq key (codes "pivots"));
  gap = awaited.gap && not (bytes_eq key (codes "gap"));
  workers = awaited.workers && not (bytes_eq key (codes "workers"));
  seed = bytes_eq key (codes "workers");
}

unfoldable pub are_options : Awaited → List (List ℕ) → Bool
are_options awaited [] = not awaited.seed
are_options awaited (key ∷ []) = false
are_options awaited (key ∷ number ∷ more) = is_awaited awaited key && are_options (awaited_behind key awaited) more

-- ---- the numbers of options

abbrev pub if_positive : Option ℕ → Option ℕ
if_positive None = None
if_positive (Some n) = if n == 0 then None else Some n

-- the whole number of 64 bits that a word is, if it is one and not 0
abbrev pub positive_number_of : List ℕ → Option ℕ
positive_number_of word = if_positive (whole_number_of word)

-- the number of the option with this key word: no search has 0 workers
abbrev pub option_number : List ℕ → List ℕ → Option ℕ
option_number key word = if bytes_eq key (codes "workers") then positive_number_of word else whole_number_of word

-- the number that a gap is, if the word is one: it is at least 0
abbrev pub if_gap : Result ℚ NumFault → Option ℚ
if_gap (Ok g) = if rational_le (int (pos 0)) g then Some g else None
if_gap (Err fault) = None

abbrev pub asked_gap : List ℕ → Option ℚ
asked_gap word = if_gap (spelled_number word)

-- the options with the number of the one with this key word
abbrev pub with_option : List ℕ → ℕ → SearchOptions → SearchOptions
with_option key n options =
    if bytes_eq key (codes "nodes") then record { nodes = n; pivots = options.pivots; workers = options.workers; seed = options.seed; gap = options.gap }
    else if bytes_eq key (codes "pivots") then record { nodes = options.nodes; pivots = n; workers = options.workers; seed = options.seed; gap = options.gap }
    else if bytes_eq key (codes "workers") then record { nodes = options.nodes; pivots = options.pivots; workers = n; seed = options.seed; gap = options.gap }
    else record { nodes = options.nodes; pivots = options.pivots; workers = options.workers; seed = n; gap = options.gap }

-- ---- the options with one more

abbrev pub with_gap : ℚ → SearchOptions → SearchOptions
with_gap g options = record { nodes = options.nodes; pivots = options.pivots; workers = options.workers; seed = options.seed; gap = Some g }

-- the options with this gap, if there is one
abbrev pub if_with_gap : Option ℚ → SearchOptions → Option SearchOptions
if_with_gap None options = None
if_with_gap (Some g) options = Some (with_gap g options)

-- the options with this number, if there is one
abbrev pub if_with_option : List ℕ → Option ℕ → SearchOptions → Option SearchOptions
if_with_option key None options = None
if_with_option key (Some n) options = Some (with_option key n options)

-- the options with the one with this key word, if the word behind it is its number
abbrev pub with_named_option : List ℕ → List ℕ → SearchOptions → Option SearchOptions
with_named_option key word options =
    if bytes_eq key (codes "gap") then if_with_gap (asked_gap word) options else if_with_option key (option_number key word) options
