-- The words of a line, one at a time.
use Rattle.std.proofs.Common.{◌≡◌, ℕ, ◌<◌, List, [], ◌∷◌, ◌++◌, length, refl, sym, ◌∙◌, ap, arith, true, false, OnOk, Result, Ok, Err}
use Rattle.std.specs.List.{slice_split, filter}
use Rattle.std.proofs.lemmas.List.Splits.{slice_split_at, slice_split_none, slice_split-cons_yes}
use Rattle.text_lines.specs.Lines.{is_nothing}
use Rattle.text_lines.specs.Words.{is_blank, HasNoBlank, is_piece, word_in, words_of}

pub nothing : (bytes : List ℕ) → length bytes ≡ 0 → is_nothing bytes ≡ true
nothing [] none = refl
nothing (byte ∷ more) none = absurd (omega arith)

pub something : (bytes : List ℕ) → 0 < length bytes → is_nothing bytes ≡ false
something [] some = absurd (omega arith)
something (byte ∷ more) some = refl

-- bytes are a piece where there is one
pub a_piece : (bytes : List ℕ) → 0 < length bytes → is_piece bytes ≡ true
a_piece [] some = absurd (omega arith)
a_piece (byte ∷ more) some = refl

pub words-none : words_of [] ≡ []
unfolding words_of
words-none = refl

-- a blank in front
pub words-blank : (byte : ℕ) (more : List ℕ) → is_blank byte ≡ true → words_of (byte ∷ more) ≡ words_of more
unfolding words_of
words-blank byte more h = ap (filter is_piece) (slice_split-cons_yes is_blank byte more h)

kept : (word : List ℕ) (others : List (List ℕ)) → is_nothing word ≡ false → filter is_piece (word ∷ others) ≡ word ∷ filter is_piece others
kept [] others h = absurd (cc)
kept (x ∷ xs) others h = refl

-- a word alone
pub words-one : (word : List ℕ) → HasNoBlank word → is_nothing word ≡ false → words_of word ≡ word ∷ []
unfolding words_of
words-one word clean some = ap (filter is_piece) (slice_split_none is_blank word clean) ∙ kept word [] some

-- a word that a blank follows
pub words-more : (word : List ℕ) (byte : ℕ) (rest : List ℕ) → HasNoBlank word → is_nothing word ≡ false → is_blank byte ≡ true → words_of (word ++ byte ∷ rest) ≡ word ∷ words_of rest
unfolding words_of
words-more word byte rest clean some blank = ap (filter is_piece) (slice_split_at is_blank word byte rest clean blank) ∙ kept word (slice_split is_blank rest) some

-- what stands before a blank and behind it
pub words_piece : (piece : List ℕ) (blank : ℕ) (rest : List ℕ) → HasNoBlank piece → is_blank blank ≡ true → words_of (piece ++ blank ∷ rest) ≡ word_in piece ++ words_of rest
words_piece [] blank rest clean is = words-blank blank rest is
words_piece (byte ∷ piece) blank rest clean is = words-more (byte ∷ piece) blank rest clean refl is

-- a line without blanks
pub words_last : (piece : List ℕ) → HasNoBlank piece → words_of piece ≡ word_in piece
words_last [] clean = words-none
words_last (byte ∷ piece) clean = words-one (byte ∷ piece) clean refl

pub word_in-nothing : (piece : List ℕ) → length piece ≡ 0 → word_in piece ≡ []
word_in-nothing [] none = refl
word_in-nothing (byte ∷ piece) none = absurd (omega arith)

pub word_in-some : (piece : List ℕ) → 0 < length piece → word_in piece ≡ piece ∷ []
word_in-some [] some = absurd (omega arith)
word_in-some (byte ∷ piece) some = refl

-- words that are put behind others, where there was memory
pub pushed_last : {T F : Type 0} (pushed : Result T F) (front last all now : List (List ℕ)) → all ≡ front ++ last → OnOk pushed (now ≡ front ++ last) → OnOk pushed (now ≡ all)
pushed_last (Ok x) front last all now same h = h ∙ sym same
pushed_last (Err x) front last all now same h = tt
