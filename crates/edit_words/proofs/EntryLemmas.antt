-- Names with numbers that were read one after the other are those that the words are; and those behind a command of bounds.
use Rattle.std.proofs.Common.{◌≡◌, ℕ, ◌-◌, ◌≤◌, ◌<◌, Bool, true, false, List, [], ◌∷◌, ◌++◌, length, get_or, take, drop, arith, refl, sym, ap, ◌∙◌, append_assoc, Bor, Option, Some, None, if◌then◌else◌}
use Rattle.std.proofs.lemmas.List.{append-nil}
use Rattle.frac128.specs.Rational.{ℚ}
use Rattle.lp_model.specs.Edits.{Named}
use Rattle.edit_words.specs.Forms.{are_distinct_pairs}
use Rattle.lp_model.specs.declared.types.Edit.TheVariants.{AddCol}
use Rattle.edit_words.specs.declared.asked.RowPlace.{RowPlace}
use Rattle.text_lines.specs.Words.{Words}
use Rattle.edit_words.specs.EditWords.{EditAsks, Edits, NoNumber, EntriesAsk, AreRead, AreMisused, HasNoNumber, number_in, side_in, lower_in, upper_in, is_int_word, with_first, with_read, with_entries, entries_of, pairs_asks, addcol_asks, whole_row_edit, whole_row_asks}
use Rattle.edit_words.proofs.FormLemmas.{nows, some_word, first_two}

-- those that were read, and those behind them
abbrev pub behind : Named → EntriesAsk → EntriesAsk
behind read (AreRead named) = AreRead (read ++ named)
behind read AreMisused = AreMisused
behind read (HasNoNumber word) = HasNoNumber word

pub behind_nothing : (asks : EntriesAsk) → asks ≡ behind [] asks
behind_nothing (AreRead named) = refl
behind_nothing AreMisused = refl
behind_nothing (HasNoNumber word) = refl

pub one_more : (read : Named) (name word : List ℕ) (x : ℚ) (asks : EntriesAsk) → behind read (with_first name word (Some x) asks) ≡ behind (read ++ (name, x) ∷ []) asks
one_more read name word x (AreRead named) = ap AreRead (sym (append_assoc read ((name, x) ∷ []) named))
one_more read name word x AreMisused = refl
one_more read name word x (HasNoNumber other) = refl

pub entries_end : (read : Named) (words : List (Bor (List ℕ))) → length words ≡ 0 → behind read (entries_of (nows words)) ≡ AreRead read
unfolding entries_of
entries_end read [] none = ap AreRead (append-nil read)
entries_end read (a ∷ more) none = absurd (omega arith)

pub entries_odd : (read : Named) (words : List (Bor (List ℕ))) → ¬ (length words ≡ 0) → length words < 2 → behind read (entries_of (nows words)) ≡ AreMisused
unfolding entries_of
entries_odd read [] some few = absurd (some refl)
entries_odd read (a ∷ []) some few = refl
entries_odd read (a ∷ b ∷ more) some few = absurd (omega arith)

pub entries_first : (words : List (Bor (List ℕ))) → 2 ≤ length words
    → entries_of (nows words) ≡ with_first (get_or words 0 some_word).now (get_or words 1 some_word).now (number_in (get_or words 1 some_word).now) (entries_of (nows (take (length words - 2) (drop 2 words))))
unfolding entries_of
entries_first words h = (λ i. entries_of (first_two words h i))

pub entries_more : (read longer : Named) (words : List (Bor (List ℕ))) (x : ℚ) → 2 ≤ length words → number_in (get_or words 1 some_word).now ≡ Some x → longer ≡ read ++ ((get_or words 0 some_word).now, x) ∷ []
    → behind read (entries_of (nows words)) ≡ behind longer (entries_of (nows (take (length words - 2) (drop 2 words))))
entries_more read longer words x h is push =
    let name : List ℕ = (get_or words 0 some_word).now in
    let word : List ℕ = (get_or words 1 some_word).now in
    let rest : EntriesAsk = entries_of (nows (take (length words - 2) (drop 2 words))) in
    ap (behind read) (entries_first words h) ∙ ap (λ o. behind read (with_first name word o rest)) is ∙ one_more read name word x rest ∙ ap (λ r. behind r rest) (sym push)

pub entries_none : (read : Named) (words : List (Bor (List ℕ))) → 2 ≤ length words → number_in (get_or words 1 some_word).now ≡ None → behind read (entries_of (nows words)) ≡ HasNoNumber (get_or words 1 some_word).now
entries_none read words h is =
    let name : List ℕ = (get_or words 0 some_word).now in
    let word : List ℕ = (get_or words 1 some_word).now in
    let rest : EntriesAsk = entries_of (nows (take (length words - 2) (drop 2 words))) in
    ap (behind read) (entries_first words h) ∙ ap (λ o. behind read (with_first name word o rest)) is

-- ---- the words behind a command of bounds

pub no_pairs : (words : List (Bor (List ℕ))) → length words ≡ 0 → pairs_asks (nows words) ≡ AreMisused
unfolding pairs_asks
no_pairs [] none = refl
no_pairs (a ∷ more) none = absurd (omega arith)

pub named_twice : (words : List (Bor (List ℕ))) → are_distinct_pairs (nows words) ≡ false → pairs_asks (nows words) ≡ AreMisused
unfolding pairs_asks
named_twice [] twice = refl
named_twice (a ∷ more) twice = ap (λ (b : Bool). if b then entries_of (nows (a ∷ more)) else AreMisused) twice

pub distinct_pairs : (words : List (Bor (List ℕ))) → ¬ (length words ≡ 0) → are_distinct_pairs (nows words) ≡ true → pairs_asks (nows words) ≡ entries_of (nows words)
unfolding pairs_asks
distinct_pairs [] some distinct = absurd (some refl)
distinct_pairs (a ∷ more) some distinct = ap (λ (b : Bool). if b then entries_of (nows (a ∷ more)) else AreMisused) distinct

-- ---- edits of whole columns and rows

pub read-none : {A : Type 0} (word : List ℕ) (o : Option A) (asks : A → EditAsks) → o ≡ None → with_read word o asks ≡ NoNumber word
read-none {A} word o asks e = ap (λ (p : Option A). with_read word p asks) e

pub read-then : {A : Type 0} (word : List ℕ) (o : Option A) (asks : A → EditAsks) (x : A) (all : EditAsks) → o ≡ Some x → asks x ≡ all → with_read word o asks ≡ all
read-then {A} word o asks x all e h = ap (λ (p : Option A). with_read word p asks) e ∙ h

pub entries-then : (found : EntriesAsk) (asks : Named → EditAsks) (is : EntriesAsk) (all : EditAsks) → found ≡ is → with_entries is asks ≡ all → with_entries found asks ≡ all
entries-then found asks is all e h = ap (λ (a : EntriesAsk). with_entries a asks) e ∙ h

pub addcol-read : (name which low high first second : List ℕ) (rest : Words) (int : Bool) (lo up : Option ℚ) (cost cost2 : ℚ)
    → int ≡ is_int_word which → lower_in low ≡ Some lo → upper_in high ≡ Some up → number_in first ≡ Some cost → number_in second ≡ Some cost2
    → addcol_asks (name ∷ which ∷ low ∷ high ∷ first ∷ second ∷ rest) ≡ with_entries (entries_of rest) (λ named. Edits (AddCol name int lo up cost cost2 named))
addcol-read name which low high first second rest int lo up cost cost2 a b d e f =
    (λ i. with_read low (b i) (λ l. with_read high (d i) (λ u. with_read first (e i) (λ x. with_read second (f i) (λ y. with_entries (entries_of rest) (λ named. Edits (AddCol name (sym a i) l u x y named)))))))

pub row-read : (place : RowPlace) (row low high : List ℕ) (rest : Words) (lo hi : Option ℚ) → side_in low ≡ Some lo → side_in high ≡ Some hi
    → whole_row_asks place (row ∷ low ∷ high ∷ rest) ≡ with_entries (entries_of rest) (λ named. Edits (whole_row_edit place row lo hi named))
row-read place row low high rest lo hi a b = (λ i. with_read low (a i) (λ l. with_read high (b i) (λ h. with_entries (entries_of rest) (λ named. Edits (whole_row_edit place row l h named)))))
