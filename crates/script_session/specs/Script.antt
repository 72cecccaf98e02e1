-- What the lines of a script ask. What ends a script is the machine's to say: ends tells it of a command's words.
use Rattle.std.specs.Prelude.{◌≡◌, ℕ, Bool, false, ◌||◌, not, List, [], ◌∷◌, ◌++◌, length, take, ◌<◌, ◌≤◌, ◌⊎◌, true, if◌then◌else◌, ◌==◌, ◌&&◌, nat_lt}
use Rattle.std.specs.List.{filter, list_any}
use Rattle.text_lines.specs.Lines.{Line, lines_of, text_of}
use Rattle.text_lines.specs.Words.{words_of}
use Rattle.script_session.specs.Limits.{line_limit, script_limit}
pub use Rattle.script_session.specs.Request.{Command, Request}
use Rattle.script_session.specs.Request.{Overlong, Words}

-- the first byte is `#`
abbrev pub is_comment : List ℕ → Bool
is_comment [] = false
is_comment (byte ∷ bytes) = byte == 35

-- a comment, or a text without words, has no reply
abbrev pub is_silent : List ℕ → Bool
is_silent text = is_comment text || length (words_of text) == 0

-- the command of a text, if the text has one
abbrev pub text_requests : List ℕ → List Request
text_requests text = if is_silent text then [] else Words (words_of text) ∷ []

-- the text is a command that ends the script
abbrev pub is_end_text : (Command → Bool) → List ℕ → Bool
is_end_text ends text = not (is_silent text) && ends (words_of text)

-- the line has more bytes than it may
abbrev pub is_long_line : Line → Bool
is_long_line line = nat_lt line_limit (length line.bytes)

-- what a line asks, if it asks for a reply: one that is too long does, even if it is a comment or blank
abbrev pub line_requests : Line → List Request
line_requests line = if is_long_line line then Overlong ∷ [] else text_requests (text_of line)

-- the line ends the script, which one that is too long never does
abbrev pub is_end : (Command → Bool) → Line → Bool
is_end ends line = not (is_long_line line) && is_end_text ends (text_of line)

-- what lines ask, up to the first that ends the script
unfoldable pub requests : (Command → Bool) → List Line → List Request
requests ends [] = []
requests ends (line ∷ more) = line_requests line ++ (if is_end ends line then [] else requests ends more)

-- the lines whose newline is there
unfoldable pub whole_lines : List ℕ → List Line
whole_lines script = filter (λ (line : Line). line.ended) (lines_of script)

-- what the lines of a script ask
unfoldable pub script_requests : (Command → Bool) → List ℕ → List Request
script_requests ends script = requests ends (lines_of script)

-- what the whole lines of a script ask
unfoldable pub whole_requests : (Command → Bool) → List ℕ → List Request
whole_requests ends script = requests ends (whole_lines script)

-- one of the whole lines ends the script
unfoldable pub has_ending : (Command → Bool) → List ℕ → Bool
has_ending ends script = list_any (is_end ends) (whole_lines script)

-- a script that fits, or that ended before it didn't
abbrev pub IsWithinLimit : (Command → Bool) → List ℕ → Type 0
IsWithinLimit ends input = (length input ≤ script_limit) ⊎ (has_ending ends (take script_limit input) ≡ true)

-- a script with a byte too many, and no line before it that ends the script
abbrev pub IsOverlong : (Command → Bool) → List ℕ → Type 0
IsOverlong ends input = (script_limit < length input) × (has_ending ends (take script_limit input) ≡ false)
