-- The words of the command line, as `clap` reads them.
use Rattle.std.specs.Prelude.{◌≡◌, ℕ, List, [], ◌∷◌, map, codes, String, true, if◌then◌else◌, unwrap_or, Option, Some, None}
use Rattle.std.specs.Str.{bytes_eq}
use Rattle.std.specs.Str.Parse.{digits_value, without_leading_plus}
use Rattle.std.specs.String.{string_bytes}
use Rattle.std.specs.declared.alloc.Global.{Global}
use Rattle.clap.specs.Words.{App, Row, Rule, Text, fault_of, first_of, new_app, new_rule, subcommand_of, with_rule, with_subcommand}
use Rattle.clap.specs.ValueTests.{is_unsigned_in}
use Rattle.clap.specs.declared.builder.value_parser.ValueParser.TheVariants.{Unsigned}
use Rattle.program_words.specs.declared.words.Form.{Form}
use Rattle.program_words.specs.declared.words.Form.TheVariants as form

-- the program's name, and of a subcommand there has to be one; no help and no version
abbrev pub symphony_alone : App
symphony_alone = record (new_app (codes "symphony")) {
  top = record (new_app (codes "symphony")).top {
    disable_help_flag = true;
    disable_version_flag = true;
    disable_help_subcommand = true;
    subcommand_required = true;
  };
}

-- `run`
abbrev pub run_app : App
run_app = new_app (codes "run")

-- a word that has to be there, in the order of the arguments
abbrev pub required_word : Text → Rule
required_word name = record (new_rule name) { required = true }

-- `check MODEL CERT`
abbrev pub check_app : App
check_app = with_rule (with_rule (new_app (codes "check")) (required_word (codes "MODEL"))) (required_word (codes "CERT"))

-- a word that has to be there and spells a whole number of 64 bits from low to high, as `clap` reads such numbers: decimal digits, with a
-- sign `+` or without
abbrev pub required_number : Text → ℕ → ℕ → Rule
required_number name low high = record (new_rule name) { required = true; parser = Some (Unsigned low high) }

-- `bench SEED ROWS COLS NODES`
abbrev pub bench_app : App
bench_app =
    with_rule
    (with_rule (with_rule (with_rule (new_app (codes "bench")) (required_number (codes "SEED") 0 18446744073709551615)) (required_number (codes "ROWS") 1 100)) (required_number (codes "COLS") 1 40))
    (required_number (codes "NODES") 0 18446744073709551615)

-- the forms: `symphony run`, `symphony check MODEL CERT` and `symphony bench SEED ROWS COLS NODES`
abbrev pub symphony : App
symphony = with_subcommand (with_subcommand (with_subcommand symphony_alone run_app.top) check_app.top) bench_app.top

-- the words have a form: no step of reading them fails
unfoldable pub TakesWords : List (String Global) → Type 0
TakesWords words = fault_of symphony (map string_bytes words) ≡ []

-- ---- what they ask for

-- a script's commands are to be answered, a certificate checked, or the model of a seed solved
pub data AskedForm : Type 0 where
  Script : AskedForm
  Check : (model cert : List ℕ) → AskedForm
  Bench : (seed rows cols nodes : ℕ) → AskedForm

-- the text of an argument, none where it has no value
abbrev pub argument_text : Text → List Row → List ℕ
argument_text name rows = unwrap_or (first_of name rows) []

-- the whole number of 64 bits that a text spells, or 0 where it spells none
abbrev pub spelled_or_zero : Text → ℕ
spelled_or_zero text = if is_unsigned_in 0 18446744073709551615 text then digits_value 10 (without_leading_plus text) else 0

abbrev pub argument_number : Text → List Row → ℕ
argument_number name rows = spelled_or_zero (argument_text name rows)

abbrev pub bench_by : List Row → AskedForm
bench_by rows = Bench (argument_number (codes "SEED") rows) (argument_number (codes "ROWS") rows) (argument_number (codes "COLS") rows) (argument_number (codes "NODES") rows)

-- by the subcommand that was used, with what was found for its arguments
abbrev pub asked_by : Option (Text × List Row) → AskedForm
asked_by None = Script
asked_by (Some (name, rows)) = if bytes_eq name (codes "check") then Check (argument_text (codes "MODEL") rows) (argument_text (codes "CERT") rows) else if bytes_eq name (codes "bench") then bench_by rows else Script

unfoldable pub asked_form : List (String Global) → AskedForm
asked_form words = asked_by (subcommand_of symphony (map string_bytes words))

abbrev pub form_shown : Form → AskedForm
form_shown form.Run = Script
form_shown (form.Check model cert) = Check model.now cert.now
form_shown (form.Bench seed rows cols nodes) = Bench seed rows cols nodes

-- the program's name and nothing behind it
abbrev pub IsNameAlone : List (String Global) → Type 0
IsNameAlone words = map string_bytes words ≡ codes "symphony" ∷ []
