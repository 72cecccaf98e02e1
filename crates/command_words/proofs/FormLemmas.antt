-- From a line's first word and the others to its whole list of words, and words of none of a command's forms.
use Rattle.std.proofs.Common.{◌≡◌, ℕ, ◌-◌, ◌≤◌, ◌<◌, List, [], ◌∷◌, length, get_or, take, drop, arith, sym, refl, subst, Bor, Bool, true, false, ◌&&◌, if◌then◌else◌, Option, Some, None}
use Rattle.std.specs.Prelude.{codes}
use Rattle.std.specs.Str.{bytes_eq}
use Rattle.std.proofs.lemmas.Grind.{common_steps}
use Rattle.command_words.specs.Names.{command_of, is_file_name, whole_number_of}
use Rattle.command_words.specs.declared.words.CommandName.{CommandName}
use Rattle.command_words.specs.declared.words.CommandName.TheVariants as name
use Rattle.command_words.specs.declared.words.Beginning.TheVariants as beginning
use Rattle.command_words.specs.declared.words.Content.{Content}
use Rattle.command_words.specs.declared.words.Content.TheVariants as content
use Rattle.command_words.specs.Asks.{Asks, Load, Trim, Restore, Misused, with_number, load_asks, restore_asks, trim_asks, filed_asks, file_asks, quit_asks, known_asks, command_asks, asks_of, IsAskable}
use Rattle.command_words.specs.Options.{any_option, any_limit}
use Rattle.command_words.proofs.OptionLemmas.{nows, search-askable}

back : (word : Bor (List ℕ)) (more : List (Bor (List ℕ))) → take (length (word ∷ more) - 1) (drop 1 (word ∷ more)) ≡ more
back word more = grind (arith, common_steps)

pub asks_of-first : (words : List (Bor (List ℕ))) (d : Bor (List ℕ)) (c : Option CommandName) → 1 ≤ length words → c ≡ command_of (get_or words 0 d).now
    → command_asks c (get_or words 0 d).now (nows (take (length words - 1) (drop 1 words))) ≡ asks_of (nows words)
unfolding asks_of
asks_of-first [] d c h e = absurd (omega arith)
asks_of-first (word ∷ more) d c h e = (λ i. command_asks (e i) word.now (nows (back word more i)))

pub asks_of-nothing : (words : List (Bor (List ℕ))) → length words < 1 → Misused ≡ asks_of (nows words)
unfolding asks_of
asks_of-nothing [] h = refl
asks_of-nothing (word ∷ more) h = absurd (omega arith)

-- what stands for a word where there is none
abbrev pub some_word : Bor (List ℕ)
some_word = record { ref_ptr = (0, 0); now = [] }

-- a list of one word
pub one_word : (words : List (Bor (List ℕ))) → length words ≡ 1 → (get_or words 0 some_word).now ∷ [] ≡ nows words
one_word [] h = absurd (omega arith)
one_word (a ∷ []) h = refl
one_word (a ∷ b ∷ more) h = absurd (omega arith)

pub load_asks-other : (words : List (Bor (List ℕ))) → ¬ (length words ≡ 1) → ¬ (length words ≡ 3) → Misused ≡ load_asks (nows words)
load_asks-other [] h k = refl
load_asks-other (a ∷ []) h k = absurd (h refl)
load_asks-other (a ∷ b ∷ []) h k = refl
load_asks-other (a ∷ b ∷ c ∷ []) h k = absurd (k refl)
load_asks-other (a ∷ b ∷ c ∷ d ∷ more) h k = refl

pub trim_asks-other : (words : List (Bor (List ℕ))) → ¬ (length words ≡ 0) → ¬ (length words ≡ 2) → Misused ≡ trim_asks (nows words)
trim_asks-other [] h k = absurd (h refl)
trim_asks-other (a ∷ []) h k = refl
trim_asks-other (a ∷ b ∷ []) h k = absurd (k refl)
trim_asks-other (a ∷ b ∷ c ∷ more) h k = refl

pub file_asks-other : (what : Content) (words : List (Bor (List ℕ))) → ¬ (length words ≡ 1) → Misused ≡ file_asks what (nows words)
file_asks-other what [] h = refl
file_asks-other what (a ∷ []) h = absurd (h refl)
file_asks-other what (a ∷ b ∷ more) h = refl

-- ---- what is asked can be done

with_number-askable : (word : List ℕ) (n : Option ℕ) (asks : ℕ → Asks) → ((k : ℕ) → IsAskable (asks k)) → IsAskable (with_number word n asks)
with_number-askable word None asks h = tt
with_number-askable word (Some n) asks h = h n

load_asks-askable : (arguments : List (List ℕ)) → IsAskable (load_asks arguments)
load_asks-askable [] = tt
load_asks-askable (file ∷ []) = by (is_file_name file) refl
  where
    by : (b : Bool) → is_file_name file ≡ b → IsAskable (if b then Load file None else Misused)
    by true e = e
    by false e = tt
load_asks-askable (file ∷ key ∷ []) = tt
load_asks-askable (file ∷ key ∷ number ∷ []) = by (is_file_name file) (bytes_eq key (codes "intupper")) refl
  where
    by : (a b : Bool) → is_file_name file ≡ a → IsAskable (if a && b then with_number number (whole_number_of number) (λ n. Load file (Some n)) else Misused)
    by true true e = with_number-askable number (whole_number_of number) (λ n. Load file (Some n)) (λ k. e)
    by true false e = tt
    by false b e = tt
load_asks-askable (file ∷ key ∷ number ∷ other ∷ more) = tt

filed-askable : (what : Content) (file : List ℕ) → is_file_name file ≡ true → IsAskable (filed_asks what file)
filed-askable content.Certificate file e = e
filed-askable content.Model file e = e
filed-askable content.Search file e = e

file_asks-askable : (what : Content) (arguments : List (List ℕ)) → IsAskable (file_asks what arguments)
file_asks-askable what [] = tt
file_asks-askable what (file ∷ []) = by (is_file_name file) refl
  where
    by : (b : Bool) → is_file_name file ≡ b → IsAskable (if b then filed_asks what file else Misused)
    by true e = filed-askable what file e
    by false e = tt
file_asks-askable what (file ∷ other ∷ more) = tt

restore_asks-askable : (arguments : List (List ℕ)) → IsAskable (restore_asks arguments)
restore_asks-askable [] = tt
restore_asks-askable (file ∷ []) = by (is_file_name file) refl
  where
    by : (b : Bool) → is_file_name file ≡ b → IsAskable (if b then Restore file else Misused)
    by true e = e
    by false e = tt
restore_asks-askable (file ∷ other ∷ more) = tt

trim_asks-askable : (arguments : List (List ℕ)) → IsAskable (trim_asks arguments)
trim_asks-askable [] = tt
trim_asks-askable (key ∷ []) = tt
trim_asks-askable (key ∷ number ∷ []) = by (bytes_eq key (codes "depth"))
  where
    by : (b : Bool) → IsAskable (if b then with_number number (whole_number_of number) Trim else Misused)
    by true = with_number-askable number (whole_number_of number) Trim (λ k. tt)
    by false = tt
trim_asks-askable (key ∷ number ∷ other ∷ more) = tt

quit_asks-askable : (arguments : List (List ℕ)) → IsAskable (quit_asks arguments)
quit_asks-askable [] = tt
quit_asks-askable (word ∷ more) = tt

known_asks-askable : (c : CommandName) (arguments : List (List ℕ)) → IsAskable (known_asks c arguments)
known_asks-askable name.Load arguments = load_asks-askable arguments
known_asks-askable name.Solve arguments = search-askable any_option beginning.Anew arguments
known_asks-askable name.Warm arguments = search-askable any_option beginning.Kept arguments
known_asks-askable name.McSolve arguments = search-askable any_limit beginning.Parts arguments
known_asks-askable name.Edit arguments = tt
known_asks-askable name.Trim arguments = trim_asks-askable arguments
known_asks-askable name.Save arguments = file_asks-askable content.Search arguments
known_asks-askable name.Restore arguments = restore_asks-askable arguments
known_asks-askable (name.Bound which numbers) arguments = tt
known_asks-askable name.Cert arguments = file_asks-askable content.Certificate arguments
known_asks-askable name.Write arguments = file_asks-askable content.Model arguments
known_asks-askable name.Quit arguments = quit_asks-askable arguments

command_asks-askable : (c : Option CommandName) (word : List ℕ) (arguments : List (List ℕ)) → IsAskable (command_asks c word arguments)
command_asks-askable (Some command) word arguments = known_asks-askable command arguments
command_asks-askable None word arguments = tt

asks_of-askable : (words : List (List ℕ)) → IsAskable (asks_of words)
unfolding asks_of
asks_of-askable [] = tt
asks_of-askable (word ∷ arguments) = command_asks-askable (command_of word) word arguments

pub shown-askable : (asked : Asks) (words : List (Bor (List ℕ))) → asked ≡ asks_of (nows words) → IsAskable asked
shown-askable asked words e = subst IsAskable (sym e) (asks_of-askable (nows words))
