-- The options of a search, word by word, and that some worker makes it.
use Rattle.std.proofs.Common.{◌≡◌, ℕ, ◌-◌, ◌≤◌, ◌<◌, List, [], ◌∷◌, length, get_or, take, drop, arith, sym, refl, ◌∙◌, Bor, Bool, true, false, ◌&&◌, if◌then◌else◌, Option, Some, None, subst}
use Rattle.std.specs.Prelude.{map, codes, ◌==◌, pos, Result, Ok, Err}
use Rattle.std.specs.Str.{bytes_eq}
use Rattle.std.proofs.lemmas.Bool.Decides.{nat_tests}
use Rattle.std.proofs.lemmas.Grind.{common_steps}
use Rattle.frac128.specs.Rational.{ℚ, int, ◌≤ℚ◌, rational_le}
use Rattle.frac128.proofs.Comparison.{rational_le-decides}
use Rattle.frac_text.specs.declared.parsing.NumFault.{NumFault}
use Rattle.frac_text.specs.Parsing.{spelled_number}
use Rattle.command_words.specs.Names.{whole_number_of}
use Rattle.command_words.specs.Options.{no_option, is_awaited, awaited_behind, are_options, if_positive, positive_number_of, option_number, if_gap, asked_gap, with_option, with_gap, if_with_gap, if_with_option, with_named_option}
use Rattle.command_words.specs.declared.options.SearchOptions.{SearchOptions}
use Rattle.command_words.specs.declared.options.Awaited.{Awaited}
use Rattle.command_words.specs.declared.words.Beginning.{Beginning}
use Rattle.command_words.specs.declared.words.Beginning.TheVariants as beginning
use Rattle.command_words.specs.Asks.{Asks, Misused, NoNumber, with_options, options_asks, search_asks, begun_asks, IsGapAskable, IsAskable}

abbrev pub nows : List (Bor (List ℕ)) → List (List ℕ)
nows words = map (λ word. word.now) words

-- what a pattern of the code finds where there is no word
abbrev none_there : Bor (List ℕ)
none_there = record { ref_ptr = (0, 0); now = [] }

back-two : (a b : Bor (List ℕ)) (more : List (Bor (List ℕ))) → take (length (a ∷ b ∷ more) - 2) (drop 2 (a ∷ b ∷ more)) ≡ more
back-two a b more = grind (arith, common_steps)

-- ---- which words are options

pub are_options_one : (awaited : Awaited) (words : List (Bor (List ℕ))) → ¬ (length words ≡ 0) → length words < 2 → are_options awaited (nows words) ≡ false
unfolding are_options
are_options_one awaited [] some few = absurd (some refl)
are_options_one awaited (a ∷ []) some few = refl
are_options_one awaited (a ∷ b ∷ more) some few = absurd (omega arith)

pub are_options_first : (awaited : Awaited) (words : List (Bor (List ℕ))) → 2 ≤ length words
    → are_options awaited (nows words) ≡ (is_awaited awaited (get_or words 0 none_there).now && are_options (awaited_behind (get_or words 0 none_there).now awaited) (nows (take (length words - 2) (drop 2 words))))
unfolding are_options
are_options_first awaited [] h = absurd (omega arith)
are_options_first awaited (a ∷ []) h = absurd (omega arith)
are_options_first awaited (a ∷ b ∷ more) h = (λ i. is_awaited awaited a.now && are_options (awaited_behind a.now awaited) (nows (sym (back-two a b more) i)))

-- ---- what is asked with them

pub options_asks-few : (asks : SearchOptions → Asks) (options : SearchOptions) (words : List (Bor (List ℕ))) → length words < 2 → asks options ≡ options_asks asks options (nows words)
unfolding options_asks
options_asks-few asks options [] h = refl
options_asks-few asks options (a ∷ []) h = refl
options_asks-few asks options (a ∷ b ∷ more) h = absurd (omega arith)

-- the number that stands first is none
pub options_asks-none : (asks : SearchOptions → Asks) (options : SearchOptions) (words : List (Bor (List ℕ))) → 2 ≤ length words → with_named_option (get_or words 0 none_there).now (get_or words 1 none_there).now options ≡ None
    → NoNumber (get_or words 1 none_there).now ≡ options_asks asks options (nows words)
unfolding options_asks
options_asks-none asks options [] h e = absurd (omega arith)
options_asks-none asks options (a ∷ []) h e = absurd (omega arith)
options_asks-none asks options (a ∷ b ∷ more) h e = (λ i. with_options b.now (sym e i) (λ given. options_asks asks given (nows more)))

-- or it gives these options
pub options_asks-some : (asks : SearchOptions → Asks) (options given : SearchOptions) (words : List (Bor (List ℕ))) → 2 ≤ length words → with_named_option (get_or words 0 none_there).now (get_or words 1 none_there).now options ≡ Some given
    → options_asks asks given (nows (take (length words - 2) (drop 2 words))) ≡ options_asks asks options (nows words)
unfolding options_asks
options_asks-some asks options given [] h e = absurd (omega arith)
options_asks-some asks options given (a ∷ []) h e = absurd (omega arith)
options_asks-some asks options given (a ∷ b ∷ more) h e =
    (λ i. options_asks asks given (nows (back-two a b more i)))
    ∙ (λ i. with_options b.now (sym e i) (λ o. options_asks asks o (nows more)))

-- ---- some worker makes the search, and a gap is at least 0

positive : (o : Option ℕ) (n : ℕ) → if_positive o ≡ Some n → 1 ≤ n
positive None n e = absurd (cc)
positive (Some k) n e = by (k == 0) refl e
  where
    by : (b : Bool) → (k == 0) ≡ b → (if b then None else Some k) ≡ Some n → 1 ≤ n
    by true f e = absurd (cc)
    by false f e = let same : k ≡ n = cc in grind (arith, nat_tests)

at_least_zero : (r : Result ℚ NumFault) (g : ℚ) → if_gap r ≡ Some g → int (pos 0) ≤ℚ g
at_least_zero (Err fault) g e = absurd (cc)
at_least_zero (Ok h) g e = by (rational_le (int (pos 0)) h) refl e
  where
    by : (b : Bool) → rational_le (int (pos 0)) h ≡ b → (if b then Some h else None) ≡ Some g → int (pos 0) ≤ℚ g
    by true f e = let same : h ≡ g = cc in subst (λ k. int (pos 0) ≤ℚ k) same ((rational_le-decides (int (pos 0)) h).0 f)
    by false f e = absurd (cc)

-- what a search is asked by can be done
abbrev AreAskable : SearchOptions → Type 0
AreAskable options = (1 ≤ options.workers) × IsGapAskable options.gap

abbrev chosen : (a b c : Bool) → ℕ → SearchOptions → SearchOptions
chosen a b c n options =
    if a then record { nodes = n; pivots = options.pivots; workers = options.workers; seed = options.seed; gap = options.gap }
    else if b then record { nodes = options.nodes; pivots = n; workers = options.workers; seed = options.seed; gap = options.gap }
    else if c then record { nodes = options.nodes; pivots = options.pivots; workers = n; seed = options.seed; gap = options.gap }
    else record { nodes = options.nodes; pivots = options.pivots; workers = options.workers; seed = n; gap = options.gap }

numbered-askable : (key word : List ℕ) (n : ℕ) (options : SearchOptions) → AreAskable options → option_number key word ≡ Some n → AreAskable (with_option key n options)
numbered-askable key word n options h e = by (bytes_eq key (codes "nodes")) (bytes_eq key (codes "pivots")) (bytes_eq key (codes "workers")) e
  where
    by : (a b c : Bool) → (if c then positive_number_of word else whole_number_of word) ≡ Some n → AreAskable (chosen a b c n options)
    by true b c e = h
    by false true c e = h
    by false false true e = (positive (whole_number_of word) n e, h.1)
    by false false false e = h

option-askable : (key word : List ℕ) (n : Option ℕ) (options given : SearchOptions) → AreAskable options → option_number key word ≡ n → if_with_option key n options ≡ Some given → AreAskable given
option-askable key word None options given h is e = absurd (cc)
option-askable key word (Some n) options given h is e = let same : with_option key n options ≡ given = cc in subst AreAskable same (numbered-askable key word n options h is)

gap-askable : (word : List ℕ) (g : Option ℚ) (options given : SearchOptions) → AreAskable options → asked_gap word ≡ g → if_with_gap g options ≡ Some given → AreAskable given
gap-askable word None options given h is e = absurd (cc)
gap-askable word (Some g) options given h is e =
    let same : with_gap g options ≡ given = cc in
    subst AreAskable same (h.0, at_least_zero (spelled_number word) g is)

named-askable : (key word : List ℕ) (options given : SearchOptions) → AreAskable options → with_named_option key word options ≡ Some given → AreAskable given
named-askable key word options given h e = by (bytes_eq key (codes "gap")) e
  where
    by : (b : Bool) → (if b then if_with_gap (asked_gap word) options else if_with_option key (option_number key word) options) ≡ Some given → AreAskable given
    by true e = gap-askable word (asked_gap word) options given h refl e
    by false e = option-askable key word (option_number key word) options given h refl e

begun-askable : (b : Beginning) (options : SearchOptions) → AreAskable options → IsAskable (begun_asks b options)
begun-askable beginning.Anew options h = h
begun-askable beginning.Kept options h = h
begun-askable beginning.Parts options h = tt

given-askable : (word : List ℕ) (given : Option SearchOptions) (asks : SearchOptions → Asks) → ((o : SearchOptions) → given ≡ Some o → IsAskable (asks o)) → IsAskable (with_options word given asks)
given-askable word None asks h = tt
given-askable word (Some o) asks h = h o refl

options-askable : (b : Beginning) (options : SearchOptions) (words : List (List ℕ)) → AreAskable options → IsAskable (options_asks (begun_asks b) options words)
unfolding options_asks
options-askable b options [] h = begun-askable b options h
options-askable b options (key ∷ []) h = begun-askable b options h
options-askable b options (key ∷ number ∷ more) h =
    given-askable number (with_named_option key number options) (λ o. options_asks (begun_asks b) o more)
    (λ o e. options-askable b o more (named-askable key number options o h e))

pub search-askable : (awaited : Awaited) (b : Beginning) (arguments : List (List ℕ)) → IsAskable (search_asks awaited (begun_asks b) arguments)
search-askable awaited b arguments = by (are_options awaited arguments)
  where
    by : (fits : Bool) → IsAskable (if fits then options_asks (begun_asks b) no_option arguments else Misused)
    by true = options-askable b no_option arguments (omega arith, tt)
    by false = tt
