-- Names with numbers that stand behind a command of bounds have one name each.
use Rattle.std.proofs.Common.{◌≡◌, ◌≢◌, ℕ, Bool, true, false, List, [], ◌∷◌, arith, refl, sym, subst, ap, if◌then◌else◌, Option, Some, None}
use Rattle.std.specs.Prelude.{not, ◌&&◌, ◌||◌, bytes_eq, AllPairs}
use Rattle.std.specs.List.{All}
use Rattle.std.proofs.lemmas.List.Elements.{All-nil, All-cons}
use Rattle.std.proofs.lemmas.List.Kept.{AllPairs-cons}
use Rattle.frac128.specs.Rational.{ℚ}
use Rattle.lp_model.specs.Edits.{Named}
use Rattle.lp_model.proofs.NameLemmas.{not_same}
use Rattle.text_lines.specs.Words.{Words}
use Rattle.edit_words.specs.Forms.{is_named, are_distinct_pairs}
use Rattle.edit_words.specs.EditWords.{EntriesAsk, AreRead, AreMisused, HasNoNumber, number_in, with_first, entries_of, names_in, pairs_asks}

abbrev named_in : EntriesAsk → Named
named_in (AreRead named) = named
named_in AreMisused = []
named_in (HasNoNumber word) = []

both_left : (a b : Bool) → a && b ≡ true → a ≡ true
both_left true b h = refl
both_left false b h = h

both_right : (a b : Bool) → a && b ≡ true → b ≡ true
both_right true b h = h
both_right false b h = absurd (cc)

neither_left : (a b : Bool) → a || b ≡ false → a ≡ false
neither_left true b h = h
neither_left false b h = refl

neither_right : (a b : Bool) → a || b ≡ false → b ≡ false
neither_right true b h = absurd (cc)
neither_right false b h = h

is_false : (a : Bool) → not a ≡ true → a ≡ false
is_false true h = absurd (cc)
is_false false h = refl

-- a name that none of the pairs has differs from each
apart : (name : List ℕ) (words : Words) (named : Named) → is_named name words ≡ false → entries_of words ≡ AreRead named → All (λ other. name ≢ other) (names_in named)
unfolding is_named entries_of
apart name [] named none read = subst (λ (n : Named). All (λ other. name ≢ other) (names_in n)) (ap named_in read) (All-nil (λ other. name ≢ other))
apart name (first ∷ []) named none read = let clash : AreMisused ≡ AreRead named = read in absurd (cc)
apart name (first ∷ word ∷ rest) named none read =
    let neither : (bytes_eq first name || is_named name rest) ≡ false = none in
    by (λ e. not_same first name (neither_left (bytes_eq first name) (is_named name rest) neither) (sym e)) (number_in word) (entries_of rest)
    (λ tail is. apart name rest tail (neither_right (bytes_eq first name) (is_named name rest) neither) is) read
  where
    by : name ≢ first → (o : Option ℚ) (more : EntriesAsk) → ((tail : Named) → more ≡ AreRead tail → All (λ other. name ≢ other) (names_in tail)) → with_first first word o more ≡ AreRead named → All (λ other. name ≢ other) (names_in named)
    by differs None more rec is = let clash : HasNoNumber word ≡ AreRead named = is in absurd (cc)
    by differs (Some x) (AreRead tail) rec is = subst (λ (n : Named). All (λ other. name ≢ other) (names_in n)) (ap named_in is) (All-cons (λ other. name ≢ other) first (names_in tail) differs (rec tail refl))
    by differs (Some x) AreMisused rec is = let clash : AreMisused ≡ AreRead named = is in absurd (cc)
    by differs (Some x) (HasNoNumber other) rec is = let clash : HasNoNumber other ≡ AreRead named = is in absurd (cc)

entries-distinct : (words : Words) (named : Named) → are_distinct_pairs words ≡ true → entries_of words ≡ AreRead named → AllPairs (λ a b. a ≢ b) (names_in named)
unfolding are_distinct_pairs entries_of
entries-distinct [] named once read = subst (λ (n : Named). AllPairs (λ a b. a ≢ b) (names_in n)) (ap named_in read) (λ i j d early late. absurd (omega arith))
entries-distinct (name ∷ []) named once read = let clash : AreMisused ≡ AreRead named = read in absurd (cc)
entries-distinct (name ∷ word ∷ rest) named once read =
    let both : (not (is_named name rest) && are_distinct_pairs rest) ≡ true = once in
    by (number_in word) (entries_of rest)
    (λ tail is. apart name rest tail (is_false (is_named name rest) (both_left (not (is_named name rest)) (are_distinct_pairs rest) both)) is)
    (λ tail is. entries-distinct rest tail (both_right (not (is_named name rest)) (are_distinct_pairs rest) both) is) read
  where
    by : (o : Option ℚ) (more : EntriesAsk) → ((tail : Named) → more ≡ AreRead tail → All (λ other. name ≢ other) (names_in tail)) → ((tail : Named) → more ≡ AreRead tail → AllPairs (λ a b. a ≢ b) (names_in tail))
        → with_first name word o more ≡ AreRead named → AllPairs (λ a b. a ≢ b) (names_in named)
    by None more first rec is = let clash : HasNoNumber word ≡ AreRead named = is in absurd (cc)
    by (Some x) (AreRead tail) first rec is =
        subst (λ (n : Named). AllPairs (λ a b. a ≢ b) (names_in n)) (ap named_in is) (AllPairs-cons (λ a b. a ≢ b) name (names_in tail) (first tail refl) (rec tail refl))
    by (Some x) AreMisused first rec is = let clash : AreMisused ≡ AreRead named = is in absurd (cc)
    by (Some x) (HasNoNumber other) first rec is = let clash : HasNoNumber other ≡ AreRead named = is in absurd (cc)

pub pairs-distinct : (words : Words) (named : Named) → pairs_asks words ≡ AreRead named → AllPairs (λ a b. a ≢ b) (names_in named)
unfolding pairs_asks
pairs-distinct [] named read = let clash : AreMisused ≡ AreRead named = read in absurd (cc)
pairs-distinct (word ∷ words) named read = by (are_distinct_pairs (word ∷ words)) refl read
  where
    by : (b : Bool) → are_distinct_pairs (word ∷ words) ≡ b → (if b then entries_of (word ∷ words) else AreMisused) ≡ AreRead named → AllPairs (λ a b. a ≢ b) (names_in named)
    by true once is = entries-distinct (word ∷ words) named once is
    by false once is = let clash : AreMisused ≡ AreRead named = is in absurd (cc)
