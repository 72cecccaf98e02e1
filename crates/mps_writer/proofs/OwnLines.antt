-- The lines of a column are those of its pairs: each cost that is not 0 beside its objective's name, then its entries beside their rows'; or its
-- cost alone. So there is one at least.
use Rattle.std.proofs.Common.{◌≡◌, ℕ, suc, ◌+◌, ◌<◌, Bool, true, false, ◌&&◌, List, [], ◌∷◌, ◌++◌, map, length, refl, sym, ◌∙◌, ap, arith}
use Rattle.std.specs.Prelude.{if◌then◌else◌}
use Rattle.frac128.specs.Rational.{ℚ}
use Rattle.lp_model.specs.Program.{Program}
use Rattle.lp_model.specs.Lawful.{row_name}
use Rattle.lp_model.specs.Edits.{is_zero}
use Rattle.lp_model.specs.declared.types.RowId.{RowId}
use Rattle.lp_model.specs.declared.types.Col.{Col}
use Rattle.mps_writer.specs.Canonical.{WrittenLine, entry_line, number_line, entry_lines, number_lines, own_lines, is_none, has_no_number}
use Rattle.mps_writer.proofs.RecordLaws.{entry_of, entries_from}
use Rattle.mps_writer.proofs.PairsBack.{Named, as_line}

abbrev pub named_number : List ℕ → ℚ → List Named
named_number name x = if is_zero x then [] else (name, x) ∷ []

abbrev pub entry_pairs : Program → Col → List Named
entry_pairs M c = map (λ (e : RowId × ℚ). (row_name M e.0.0, e.1)) c.rows

abbrev pub number_pairs : Program → Col → List Named
number_pairs M c = named_number M.obj c.cost ++ (named_number M.obj2 c.cost2 ++ entry_pairs M c)

abbrev pub own_pairs : Program → Col → List Named
own_pairs M c = if has_no_number c then (M.obj, c.cost) ∷ [] else number_pairs M c

pub map_append : {A B : Type 0} (f : A → B) (xs ys : List A) → map f (xs ++ ys) ≡ map f xs ++ map f ys
map_append f [] ys = refl
map_append f (x ∷ xs) ys = ap (λ more. f x ∷ more) (map_append f xs ys)

pub one_line : (first name : List ℕ) (x : ℚ) → number_line first name x ≡ map (as_line first) (named_number name x)
one_line first name x = by (is_zero x)
  where
    by : (b : Bool) → (if b then [] else entry_line first name x ∷ []) ≡ map (as_line first) (if b then [] else (name, x) ∷ [])
    by true = refl
    by false = refl

entry_ones : (M : Program) (first : List ℕ) (es : List (RowId × ℚ)) → map (λ (e : RowId × ℚ). entry_line first (row_name M e.0.0) e.1) es ≡ map (as_line first) (map (λ (e : RowId × ℚ). (row_name M e.0.0, e.1)) es)
entry_ones M first [] = refl
entry_ones M first (e ∷ es) = ap (λ more. entry_line first (row_name M e.0.0) e.1 ∷ more) (entry_ones M first es)

numbers_are : (M : Program) (c : Col) → number_lines M c ≡ map (as_line c.name) (number_pairs M c)
numbers_are M c =
    let first = named_number M.obj c.cost in
    let second = named_number M.obj2 c.cost2 in
    ap (λ l. l ++ (number_line c.name M.obj2 c.cost2 ++ entry_lines M c)) (one_line c.name M.obj c.cost)
    ∙ ap (λ l. map (as_line c.name) first ++ (l ++ entry_lines M c)) (one_line c.name M.obj2 c.cost2)
    ∙ ap (λ l. map (as_line c.name) first ++ (map (as_line c.name) second ++ l)) (entry_ones M c.name c.rows)
    ∙ ap (λ l. map (as_line c.name) first ++ l) (sym (map_append (as_line c.name) second (entry_pairs M c)))
    ∙ sym (map_append (as_line c.name) first (second ++ entry_pairs M c))

pub own_are : (M : Program) (c : Col) → own_lines M c ≡ map (as_line c.name) (own_pairs M c)
own_are M c = by (has_no_number c)
  where
    by : (b : Bool) → (if b then entry_line c.name M.obj c.cost ∷ [] else number_lines M c) ≡ map (as_line c.name) (if b then (M.obj, c.cost) ∷ [] else number_pairs M c)
    by true = refl
    by false = numbers_are M c

-- there is one at least
pub own_some : (M : Program) (c : Col) → 0 < length (own_pairs M c)
own_some M c = by (is_zero c.cost) (is_zero c.cost2) c.rows
  where
    by : (a b : Bool) (es : List (RowId × ℚ))
        → 0 < length {A = Named} (if a && (b && is_none es) then (M.obj, c.cost) ∷ [] else (if a then [] else (M.obj, c.cost) ∷ []) ++ ((if b then [] else (M.obj2, c.cost2) ∷ []) ++ map (λ (e : RowId × ℚ). (row_name M e.0.0, e.1)) es))
    by true true [] = omega arith
    by true true (e ∷ es) = omega arith
    by true false es = omega arith
    by false b es = omega arith

-- entries of lines one after the other
pub entries_append : (number : ℕ) (xs ys : List WrittenLine) → entries_from number (xs ++ ys) ≡ entries_from number xs ++ entries_from (number + length xs) ys
entries_append number [] ys = let none : number ≡ number + 0 = omega arith in ap (λ n. entries_from n ys) none
entries_append number (x ∷ xs) ys =
    let later : suc number + length xs ≡ number + length (x ∷ xs) = omega arith in
    ap (λ more. entry_of number x ∷ more) (entries_append (suc number) xs ys ∙ ap (λ n. entries_from (suc number) xs ++ entries_from n ys) later)
