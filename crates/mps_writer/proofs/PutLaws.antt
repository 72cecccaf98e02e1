-- Lines put behind a text: words behind words, lines behind lines, and one item further of a list whose items have their lines.
use Rattle.std.proofs.Common.{◌≡◌, ℕ, ◌+◌, ◌<◌, ◌≤◌, List, [], ◌∷◌, ◌++◌, length, drop, get_or, map, refl, sym, ap, ◌∙◌, append_assoc}
use Rattle.std.specs.Prelude.{flat_map, Result, Ok, Err, IfOk}
use Rattle.std.proofs.lemmas.List.{drop_more, drop_all}
use Rattle.mps_writer.specs.Canonical.{WrittenLine, Header, Data, written_line_text, written_text}
use Rattle.text_lines.specs.Words.{spaced, Words}

pub nil_right : {A : Type 0} (l : List A) → l ++ [] ≡ l
nil_right [] = refl
nil_right (x ∷ l) = ap (λ m. x ∷ m) (nil_right l)

-- what was put so far, and what is to be put of the items that are left, is what is to be put of all
module _ {A : Type 0} (all : List A → List ℕ) (one : A → List ℕ) (step : (x : A) (xs : List A) → all (x ∷ xs) ≡ one x ++ all xs) (items : List A) (k : ℕ) (whole old : List ℕ) (before : whole ≡ old ++ all (drop k items)) where
  pub put_next : (x : A) (new : List ℕ) → k < length items → x ≡ get_or items k x → new ≡ old ++ one x → whole ≡ new ++ all (drop (k + 1) items)
  put_next x new below is after =
      let rest = drop (k + 1) items in
      let cut : drop k items ≡ x ∷ rest = drop_more items k x below ∙ ap (λ y. y ∷ rest) (sym is) in
      before ∙ ap (λ l. old ++ all l) cut ∙ ap (λ l. old ++ l) (step x rest) ∙ sym (append_assoc old (one x) (all rest)) ∙ ap (λ l. l ++ all rest) (sym after)

  pub put_end : length items ≤ k → all [] ≡ [] → old ≡ whole
  put_end past none = sym (before ∙ ap (λ l. old ++ all l) (drop_all k items past) ∙ ap (λ l. old ++ l) none ∙ nil_right old)

-- what follows from what a call gives, where it is handed on
pub handed_on : {E P Q : Type 0} (r : Result (Unit {0}) E) → (P → Q) → IfOk r (λ _. P) → IfOk r (λ _. Q)
handed_on (Ok done) f h = f h
handed_on (Err e) f h = tt

-- ---- words

pub spaced_append : (a b : Words) → spaced (a ++ b) ≡ spaced a ++ spaced b
spaced_append [] b = refl
spaced_append (word ∷ a) b = ap (λ l. 32 ∷ (word ++ l)) (spaced_append a b) ∙ ap (λ l. 32 ∷ l) (sym (append_assoc word (spaced a) (spaced b)))

-- words behind words
pub words_put : (a b : Words) (old one new : List ℕ) → one ≡ old ++ spaced a → new ≡ one ++ spaced b → new ≡ old ++ spaced (a ++ b)
words_put a b old one new first second = second ∙ ap (λ l. l ++ spaced b) first ∙ append_assoc old (spaced a) (spaced b) ∙ ap (λ l. old ++ l) (sym (spaced_append a b))

-- a newline behind the words of a line
pub data_put : (words : Words) (old one new : List ℕ) → one ≡ old ++ spaced words → new ≡ one ++ 10 ∷ [] → new ≡ old ++ written_text (Data words ∷ [])
data_put words old one new first second = second ∙ ap (λ l. l ++ 10 ∷ []) first ∙ append_assoc old (spaced words) (10 ∷ [])

pub header_put : (word : List ℕ) (old one new : List ℕ) → one ≡ old ++ word → new ≡ one ++ 10 ∷ [] → new ≡ old ++ written_text (Header (word ∷ []) ∷ [])
header_put word old one new first second =
    second ∙ ap (λ l. l ++ 10 ∷ []) first ∙ append_assoc old word (10 ∷ []) ∙ ap (λ l. old ++ (l ++ 10 ∷ [])) (sym (nil_right word))

-- a header of more words
pub headed_put : (word : List ℕ) (words : Words) (old one two new : List ℕ) → one ≡ old ++ word → two ≡ one ++ spaced words → new ≡ two ++ 10 ∷ [] → new ≡ old ++ written_text (Header (word ∷ words) ∷ [])
headed_put word words old one two new first second third =
    third ∙ ap (λ l. l ++ 10 ∷ []) (second ∙ ap (λ l. l ++ spaced words) first ∙ append_assoc old word (spaced words)) ∙ append_assoc old (word ++ spaced words) (10 ∷ [])

-- a word before the others of a line
pub first_put : (word : List ℕ) (words : Words) (old one new : List ℕ) → one ≡ old ++ spaced (word ∷ []) → new ≡ one ++ written_text (Data words ∷ []) → new ≡ old ++ written_text (Data (word ∷ words) ∷ [])
first_put word words old one new first second =
    second
    ∙ ap (λ l. l ++ written_text (Data words ∷ [])) first
    ∙ append_assoc old (spaced (word ∷ [])) (spaced words ++ 10 ∷ [])
    ∙ ap (λ l. old ++ l) (sym (append_assoc (spaced (word ∷ [])) (spaced words) (10 ∷ [])) ∙ ap (λ l. l ++ 10 ∷ []) (sym (spaced_append (word ∷ []) words)))

-- ---- lines

pub lines_append : (a b : List WrittenLine) → written_text (a ++ b) ≡ written_text a ++ written_text b
lines_append [] b = refl
lines_append (line ∷ a) b = ap (λ l. written_line_text line ++ 10 ∷ l) (lines_append a b) ∙ sym (append_assoc (written_line_text line) (10 ∷ written_text a) (written_text b))

-- lines behind lines
pub lines_put : (a b : List WrittenLine) (old one new : List ℕ) → one ≡ old ++ written_text a → new ≡ one ++ written_text b → new ≡ old ++ written_text (a ++ b)
lines_put a b old one new first second = second ∙ ap (λ l. l ++ written_text b) first ∙ append_assoc old (written_text a) (written_text b) ∙ ap (λ l. old ++ l) (sym (lines_append a b))

pub line_step : {A : Type 0} (f : A → WrittenLine) (x : A) (xs : List A) → written_text (map f (x ∷ xs)) ≡ written_text (f x ∷ []) ++ written_text (map f xs)
line_step f x xs = lines_append (f x ∷ []) (map f xs)

pub lines_step : {A : Type 0} (f : A → List WrittenLine) (x : A) (xs : List A) → written_text (flat_map f (x ∷ xs)) ≡ written_text (f x) ++ written_text (flat_map f xs)
lines_step f x xs = lines_append (f x) (flat_map f xs)
