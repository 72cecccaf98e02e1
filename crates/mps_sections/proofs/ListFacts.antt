-- Lists of names, numbers and columns: a test of what is taken from each item, and the last column.
use Rattle.std.proofs.Common.{◌≡◌, ℕ, List, [], ◌∷◌, ◌++◌, map, length, refl, sym, ap, ◌∙◌, arith, Bool, true, false, ◌||◌}
use Rattle.std.specs.Prelude.{bytes_eq, Option, None, Some, option_to_list, Result, Ok, Err, OnOk}
use Rattle.std.specs.List.{list_any}
use Rattle.std.proofs.lemmas.List.{append-nil}
use Rattle.std.proofs.lemmas.List.Folds.{list_any-append}
use Rattle.std.proofs.lemmas.Slice.Eq.{bytes_eq-Decides}
use Rattle.std.proofs.lemmas.Bool.Decides.{same_from_decides}
use Rattle.mps_sections.specs.Faults.{is_last, numbers_of_last}
use Rattle.mps_sections.specs.Shown.{with_more}
use Rattle.mps_sections.specs.private.Shown.{open_shown}
use Rattle.mps_sections.specs.declared.columns.OpenColumn.{OpenColumn}
use Rattle.mps_sections.specs.declared.statements.ColumnLines.{ColumnLines}
use Rattle.mps_sections.specs.declared.statements.RowNumber.{RowNumber}

pub bytes_eq-flips : (xs ys : List ℕ) → bytes_eq xs ys ≡ bytes_eq ys xs
bytes_eq-flips xs ys = same_from_decides (bytes_eq xs ys) (bytes_eq ys xs) (bytes_eq-Decides xs ys) ((λ h. sym ((bytes_eq-Decides ys xs).0 h)), (λ e. (bytes_eq-Decides ys xs).1 (sym e)))

pub empty : {A : Type 0} (xs : List A) → length xs ≡ 0 → xs ≡ []
empty [] h = refl
empty (x ∷ xs) h = absurd (omega arith)

pub is_last-more : (xs : List ColumnLines) (c : ColumnLines) (name : List ℕ) → is_last (xs ++ c ∷ []) name ≡ bytes_eq c.name name
is_last-more [] c name = refl
is_last-more (x ∷ []) c name = refl
is_last-more (x ∷ next ∷ xs) c name = is_last-more (next ∷ xs) c name

pub numbers_of_last-more : (xs : List ColumnLines) (c : ColumnLines) → numbers_of_last (xs ++ c ∷ []) ≡ c.numbers
numbers_of_last-more [] c = refl
numbers_of_last-more (x ∷ []) c = refl
numbers_of_last-more (x ∷ next ∷ xs) c = numbers_of_last-more (next ∷ xs) c

pub with_more-more : (xs : List ColumnLines) (c : ColumnLines) (more : List RowNumber) → with_more (xs ++ c ∷ []) more ≡ xs ++ record { name = c.name; line = c.line; marked = c.marked; numbers = c.numbers ++ more } ∷ []
with_more-more [] c more = refl
with_more-more (x ∷ []) c more = refl
with_more-more (x ∷ next ∷ xs) c more = ap (λ found. x ∷ found) (with_more-more (next ∷ xs) c more)

-- the last column stands apart
pub held_some : (done : List ColumnLines) (last : Option OpenColumn) (c : OpenColumn) → last ≡ Some c → done ++ map open_shown (option_to_list last) ≡ done ++ open_shown c ∷ []
held_some done last c e = ap (λ (l : Option OpenColumn). done ++ map open_shown (option_to_list l)) e

-- nothing stands behind the columns before it
pub held_none : (done : List ColumnLines) (last : Option OpenColumn) (x : ColumnLines) → last ≡ None → done ++ x ∷ [] ≡ (done ++ map open_shown (option_to_list last)) ++ x ∷ []
held_none done last x e = sym (ap (λ (l : Option OpenColumn). (done ++ map open_shown (option_to_list l)) ++ x ∷ []) e ∙ ap (λ (found : List ColumnLines). found ++ x ∷ []) (append-nil done))

-- one more line of the last column
pub more_of_last : {T F : Type 0} (added : Result T F) (done : List ColumnLines) (last : Option OpenColumn) (c d : OpenColumn) (more : List RowNumber) → last ≡ Some c
    → OnOk added (open_shown d ≡ record { name = c.name; line = c.line; marked = c.marked; numbers = c.numbers.numbers ++ more })
    → OnOk added (done ++ open_shown d ∷ [] ≡ with_more (done ++ map open_shown (option_to_list last)) more)
more_of_last (Ok x) done last c d more is e =
    ap (λ (l : ColumnLines). done ++ l ∷ []) e
    ∙ sym (ap (λ (found : List ColumnLines). with_more found more) (held_some done last c is) ∙ with_more-more done (open_shown c) more)
more_of_last (Err x) done last c d more is e = tt

-- what holds anyway holds where there was memory
pub holds_on_ok : {T F P : Type 0} (done : Result T F) → P → OnOk done P
holds_on_ok (Ok x) p = p
holds_on_ok (Err x) p = tt

turned : (a b : Bool) → (a || (b || false)) ≡ (b || a)
turned true true = refl
turned true false = refl
turned false true = refl
turned false false = refl

-- a set that holds the names of a list holds those of a longer list where the name of the last item is put in
pub known_more : {A : Type 0} (old new : List ℕ → Bool) (f : List ℕ → A → Bool) (xs ys : List A) (x : A) → ((q : List ℕ) → old q ≡ list_any (f q) xs) → ((q : List ℕ) → new q ≡ (f q x || old q)) → ys ≡ xs ++ x ∷ []
    → (q : List ℕ) → new q ≡ list_any (f q) ys
known_more old new f xs ys x holds more e q = more q ∙ ap (λ b. f q x || b) (holds q) ∙ sym (ap (list_any (f q)) e ∙ list_any-append (f q) xs (x ∷ []) ∙ turned (list_any (f q) xs) (f q x))
