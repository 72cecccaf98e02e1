-- Words from the first one on.
use Rattle.std.proofs.Common.{◌≡◌, ℕ, ◌-◌, ◌≤◌, ◌<◌, List, [], ◌∷◌, length, get_or, take, drop, arith, sym, refl, Bor, Option}
use Rattle.std.specs.Prelude.{map, Bool, false, not, ◌&&◌, ◌||◌, bytes_eq}
use Rattle.std.proofs.lemmas.Grind.{common_steps}
use Rattle.edit_words.specs.declared.kinds.EditKind.{EditKind}
use Rattle.edit_words.specs.declared.forms.Slot.{Slot}
use Rattle.edit_words.specs.Forms.{is_named, are_distinct_pairs, fits}
use Rattle.edit_words.specs.declared.asked.RowPlace.{RowPlace}
use Rattle.edit_words.specs.EditWords.{Misused, cost_asks, cost2_asks, row_asks, bounds_asks, kind_asks, addcol_asks, delcol_asks, delrow_asks, whole_row_asks, edit_kind_of, formed_asks, edit_asks}

abbrev pub nows : List (Bor (List ℕ)) → List (List ℕ)
nows words = map (λ word. word.now) words

-- what a pattern of the code finds where there is no word
abbrev pub some_word : Bor (List ℕ)
some_word = record { ref_ptr = (0, 0); now = [] }

back-one : (a : Bor (List ℕ)) (more : List (Bor (List ℕ))) → take (length (a ∷ more) - 1) (drop 1 (a ∷ more)) ≡ more
back-one a more = grind (arith, common_steps)

back-two : (a b : Bor (List ℕ)) (more : List (Bor (List ℕ))) → take (length (a ∷ b ∷ more) - 2) (drop 2 (a ∷ b ∷ more)) ≡ more
back-two a b more = grind (arith, common_steps)

back-three : (a b c : Bor (List ℕ)) (more : List (Bor (List ℕ))) → take (length (a ∷ b ∷ c ∷ more) - 3) (drop 3 (a ∷ b ∷ c ∷ more)) ≡ more
back-three a b c more = grind (arith, common_steps)

back-six : (a b c e f g : Bor (List ℕ)) (more : List (Bor (List ℕ))) → take (length (a ∷ b ∷ c ∷ e ∷ f ∷ g ∷ more) - 6) (drop 6 (a ∷ b ∷ c ∷ e ∷ f ∷ g ∷ more)) ≡ more
back-six a b c e f g more = grind (arith, common_steps)

pub first_two : (words : List (Bor (List ℕ))) → 2 ≤ length words → nows words ≡ (get_or words 0 some_word).now ∷ (get_or words 1 some_word).now ∷ nows (take (length words - 2) (drop 2 words))
first_two [] h = absurd (omega arith)
first_two (a ∷ []) h = absurd (omega arith)
first_two (a ∷ b ∷ more) h = (λ i. a.now ∷ b.now ∷ nows (sym (back-two a b more) i))

pub first_three : (words : List (Bor (List ℕ))) → 3 ≤ length words
    → nows words ≡ (get_or words 0 some_word).now ∷ (get_or words 1 some_word).now ∷ (get_or words 2 some_word).now ∷ nows (take (length words - 3) (drop 3 words))
first_three [] h = absurd (omega arith)
first_three (a ∷ []) h = absurd (omega arith)
first_three (a ∷ b ∷ []) h = absurd (omega arith)
first_three (a ∷ b ∷ c ∷ more) h = (λ i. a.now ∷ b.now ∷ c.now ∷ nows (sym (back-three a b c more) i))

pub first_six : (words : List (Bor (List ℕ))) → 6 ≤ length words
    → nows words ≡ (get_or words 0 some_word).now ∷ (get_or words 1 some_word).now ∷ (get_or words 2 some_word).now ∷ (get_or words 3 some_word).now ∷ (get_or words 4 some_word).now ∷ (get_or words 5 some_word).now ∷ nows (take (length words - 6) (drop 6 words))
first_six [] h = absurd (omega arith)
first_six (a ∷ []) h = absurd (omega arith)
first_six (a ∷ b ∷ []) h = absurd (omega arith)
first_six (a ∷ b ∷ c ∷ []) h = absurd (omega arith)
first_six (a ∷ b ∷ c ∷ e ∷ []) h = absurd (omega arith)
first_six (a ∷ b ∷ c ∷ e ∷ f ∷ []) h = absurd (omega arith)
first_six (a ∷ b ∷ c ∷ e ∷ f ∷ g ∷ more) h = (λ i. a.now ∷ b.now ∷ c.now ∷ e.now ∷ f.now ∷ g.now ∷ nows (sym (back-six a b c e f g more) i))

-- ---- as many words as a kind's form has, fewer and more

pub just_one : (words : List (Bor (List ℕ))) → 1 ≤ length words → length words < 2 → nows words ≡ (get_or words 0 some_word).now ∷ []
just_one [] some few = absurd (omega arith)
just_one (a ∷ []) some few = refl
just_one (a ∷ b ∷ more) some few = absurd (omega arith)

pub just_two : (words : List (Bor (List ℕ))) → 2 ≤ length words → length words < 3 → nows words ≡ (get_or words 0 some_word).now ∷ (get_or words 1 some_word).now ∷ []
just_two [] some few = absurd (omega arith)
just_two (a ∷ []) some few = absurd (omega arith)
just_two (a ∷ b ∷ []) some few = refl
just_two (a ∷ b ∷ c ∷ more) some few = absurd (omega arith)

pub just_three : (words : List (Bor (List ℕ))) → 3 ≤ length words → length words < 4 → nows words ≡ (get_or words 0 some_word).now ∷ (get_or words 1 some_word).now ∷ (get_or words 2 some_word).now ∷ []
just_three [] some few = absurd (omega arith)
just_three (a ∷ []) some few = absurd (omega arith)
just_three (a ∷ b ∷ []) some few = absurd (omega arith)
just_three (a ∷ b ∷ c ∷ []) some few = refl
just_three (a ∷ b ∷ c ∷ e ∷ more) some few = absurd (omega arith)

pub cost_asks-short : (words : List (Bor (List ℕ))) → length words < 2 → cost_asks (nows words) ≡ Misused
cost_asks-short [] few = refl
cost_asks-short (a ∷ []) few = refl
cost_asks-short (a ∷ b ∷ more) few = absurd (omega arith)

pub cost_asks-long : (words : List (Bor (List ℕ))) → 3 ≤ length words → cost_asks (nows words) ≡ Misused
cost_asks-long [] many = absurd (omega arith)
cost_asks-long (a ∷ []) many = absurd (omega arith)
cost_asks-long (a ∷ b ∷ []) many = absurd (omega arith)
cost_asks-long (a ∷ b ∷ c ∷ more) many = refl

pub cost2_asks-short : (words : List (Bor (List ℕ))) → length words < 2 → cost2_asks (nows words) ≡ Misused
cost2_asks-short [] few = refl
cost2_asks-short (a ∷ []) few = refl
cost2_asks-short (a ∷ b ∷ more) few = absurd (omega arith)

pub cost2_asks-long : (words : List (Bor (List ℕ))) → 3 ≤ length words → cost2_asks (nows words) ≡ Misused
cost2_asks-long [] many = absurd (omega arith)
cost2_asks-long (a ∷ []) many = absurd (omega arith)
cost2_asks-long (a ∷ b ∷ []) many = absurd (omega arith)
cost2_asks-long (a ∷ b ∷ c ∷ more) many = refl

pub row_asks-short : (words : List (Bor (List ℕ))) → length words < 3 → row_asks (nows words) ≡ Misused
row_asks-short [] few = refl
row_asks-short (a ∷ []) few = refl
row_asks-short (a ∷ b ∷ []) few = refl
row_asks-short (a ∷ b ∷ c ∷ more) few = absurd (omega arith)

pub row_asks-long : (words : List (Bor (List ℕ))) → 4 ≤ length words → row_asks (nows words) ≡ Misused
row_asks-long [] many = absurd (omega arith)
row_asks-long (a ∷ []) many = absurd (omega arith)
row_asks-long (a ∷ b ∷ []) many = absurd (omega arith)
row_asks-long (a ∷ b ∷ c ∷ []) many = absurd (omega arith)
row_asks-long (a ∷ b ∷ c ∷ e ∷ more) many = refl

pub bounds_asks-short : (words : List (Bor (List ℕ))) → length words < 3 → bounds_asks (nows words) ≡ Misused
bounds_asks-short [] few = refl
bounds_asks-short (a ∷ []) few = refl
bounds_asks-short (a ∷ b ∷ []) few = refl
bounds_asks-short (a ∷ b ∷ c ∷ more) few = absurd (omega arith)

pub bounds_asks-long : (words : List (Bor (List ℕ))) → 4 ≤ length words → bounds_asks (nows words) ≡ Misused
bounds_asks-long [] many = absurd (omega arith)
bounds_asks-long (a ∷ []) many = absurd (omega arith)
bounds_asks-long (a ∷ b ∷ []) many = absurd (omega arith)
bounds_asks-long (a ∷ b ∷ c ∷ []) many = absurd (omega arith)
bounds_asks-long (a ∷ b ∷ c ∷ e ∷ more) many = refl

pub kind_asks-short : (words : List (Bor (List ℕ))) → length words < 2 → kind_asks (nows words) ≡ Misused
kind_asks-short [] few = refl
kind_asks-short (a ∷ []) few = refl
kind_asks-short (a ∷ b ∷ more) few = absurd (omega arith)

pub kind_asks-long : (words : List (Bor (List ℕ))) → 3 ≤ length words → kind_asks (nows words) ≡ Misused
kind_asks-long [] many = absurd (omega arith)
kind_asks-long (a ∷ []) many = absurd (omega arith)
kind_asks-long (a ∷ b ∷ []) many = absurd (omega arith)
kind_asks-long (a ∷ b ∷ c ∷ more) many = refl

pub delcol_asks-short : (words : List (Bor (List ℕ))) → length words < 1 → delcol_asks (nows words) ≡ Misused
delcol_asks-short [] few = refl
delcol_asks-short (a ∷ more) few = absurd (omega arith)

pub delcol_asks-long : (words : List (Bor (List ℕ))) → 2 ≤ length words → delcol_asks (nows words) ≡ Misused
delcol_asks-long [] many = absurd (omega arith)
delcol_asks-long (a ∷ []) many = absurd (omega arith)
delcol_asks-long (a ∷ b ∷ more) many = refl

pub delrow_asks-short : (words : List (Bor (List ℕ))) → length words < 1 → delrow_asks (nows words) ≡ Misused
delrow_asks-short [] few = refl
delrow_asks-short (a ∷ more) few = absurd (omega arith)

pub delrow_asks-long : (words : List (Bor (List ℕ))) → 2 ≤ length words → delrow_asks (nows words) ≡ Misused
delrow_asks-long [] many = absurd (omega arith)
delrow_asks-long (a ∷ []) many = absurd (omega arith)
delrow_asks-long (a ∷ b ∷ more) many = refl

pub addcol_asks-short : (words : List (Bor (List ℕ))) → length words < 6 → addcol_asks (nows words) ≡ Misused
addcol_asks-short [] few = refl
addcol_asks-short (a ∷ []) few = refl
addcol_asks-short (a ∷ b ∷ []) few = refl
addcol_asks-short (a ∷ b ∷ c ∷ []) few = refl
addcol_asks-short (a ∷ b ∷ c ∷ e ∷ []) few = refl
addcol_asks-short (a ∷ b ∷ c ∷ e ∷ f ∷ []) few = refl
addcol_asks-short (a ∷ b ∷ c ∷ e ∷ f ∷ g ∷ more) few = absurd (omega arith)

pub whole_row_asks-short : (place : RowPlace) (words : List (Bor (List ℕ))) → length words < 3 → whole_row_asks place (nows words) ≡ Misused
whole_row_asks-short place [] few = refl
whole_row_asks-short place (a ∷ []) few = refl
whole_row_asks-short place (a ∷ b ∷ []) few = refl
whole_row_asks-short place (a ∷ b ∷ c ∷ more) few = absurd (omega arith)

-- ---- the word behind `edit`

pub edit_asks-first : (words : List (Bor (List ℕ))) (k : Option EditKind) → 1 ≤ length words → k ≡ edit_kind_of (get_or words 0 some_word).now
    → edit_asks (nows words) ≡ formed_asks k (nows (take (length words - 1) (drop 1 words)))
unfolding edit_asks
edit_asks-first [] k h e = absurd (omega arith)
edit_asks-first (word ∷ more) k h e = (λ i. formed_asks (sym e i) (nows (sym (back-one word more) i)))

pub edit_asks-nothing : (words : List (Bor (List ℕ))) → length words < 1 → edit_asks (nows words) ≡ Misused
unfolding edit_asks
edit_asks-nothing [] h = refl
edit_asks-nothing (word ∷ more) h = absurd (omega arith)

-- ---- names with numbers

pub is_named_few : (name : List ℕ) (pairs : List (Bor (List ℕ))) → length pairs < 2 → is_named name (nows pairs) ≡ false
unfolding is_named
is_named_few name [] h = refl
is_named_few name (a ∷ []) h = refl
is_named_few name (a ∷ b ∷ more) h = absurd (omega arith)

pub is_named_first : (name : List ℕ) (pairs : List (Bor (List ℕ))) → 2 ≤ length pairs
    → is_named name (nows pairs) ≡ (bytes_eq (get_or pairs 0 some_word).now name || is_named name (nows (take (length pairs - 2) (drop 2 pairs))))
unfolding is_named
is_named_first name [] h = absurd (omega arith)
is_named_first name (a ∷ []) h = absurd (omega arith)
is_named_first name (a ∷ b ∷ more) h = (λ i. bytes_eq a.now name || is_named name (nows (sym (back-two a b more) i)))

pub are_distinct_one : (words : List (Bor (List ℕ))) → ¬ (length words ≡ 0) → length words < 2 → are_distinct_pairs (nows words) ≡ false
unfolding are_distinct_pairs
are_distinct_one [] some few = absurd (some refl)
are_distinct_one (a ∷ []) some few = refl
are_distinct_one (a ∷ b ∷ more) some few = absurd (omega arith)

pub are_distinct_first : (words : List (Bor (List ℕ))) → 2 ≤ length words
    → are_distinct_pairs (nows words) ≡ (not (is_named (get_or words 0 some_word).now (nows (take (length words - 2) (drop 2 words)))) && are_distinct_pairs (nows (take (length words - 2) (drop 2 words))))
unfolding are_distinct_pairs
are_distinct_first [] h = absurd (omega arith)
are_distinct_first (a ∷ []) h = absurd (omega arith)
are_distinct_first (a ∷ b ∷ more) h = (λ i. not (is_named a.now (nows (sym (back-two a b more) i))) && are_distinct_pairs (nows (sym (back-two a b more) i)))

-- ---- a slot without a word

pub fits_none : (slots : List Slot) (pairs : Bool) (words : List (Bor (List ℕ))) → 1 ≤ length slots → length words ≡ 0 → fits slots pairs (nows words) ≡ false
unfolding fits
fits_none [] pairs words some none = absurd (omega arith)
fits_none (slot ∷ slots) pairs [] some none = refl
fits_none (slot ∷ slots) pairs (word ∷ words) some none = absurd (omega arith)
