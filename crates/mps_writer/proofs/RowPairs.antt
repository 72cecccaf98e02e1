-- Pairs of names and numbers: what holds of each, that no name stands twice, and the number that stands beside a name. Rows whose names
-- differ give one pair at most each.
use Rattle.std.proofs.Common.{◌≡◌, ◌≢◌, ℕ, zero, suc, ◌<◌, Bool, true, false, List, [], ◌∷◌, ◌++◌, map, length, get_or, refl, sym, ◌∙◌, ap, pos, arith}
use Rattle.std.specs.Prelude.{if◌then◌else◌, flat_map, bytes_eq, Option, None, Some, All, AllPairs}
use Rattle.std.proofs.lemmas.Bool.{or_from}
use Rattle.std.proofs.lemmas.List.Elements.{All-nil, All-cons, All-head, All-tail, All-append}
use Rattle.std.proofs.lemmas.List.Kept.{AllPairs-cons}
use Rattle.frac128.specs.Rational.{ℚ, int}
use Rattle.frac128.proofs.Comparison.{eq_by_cmp-decides}
use Rattle.lp_model.specs.Edits.{is_zero}
use Rattle.lp_model.specs.declared.types.Row.{Row}
use Rattle.mps_sections.specs.Statements.{is_numbered}
use Rattle.mps_model.specs.Meaning.{row_number_beside, range_beside}
use Rattle.mps_writer.proofs.PairsBack.{Named, as_number}
use Rattle.mps_writer.proofs.OwnLines.{named_number}
use Rattle.mps_writer.proofs.SetsPass.{AreApart, ranges_at}
use Rattle.mps_writer.proofs.EntriesBack.{beside_absent, beside_first}
use Rattle.mps_writer.proofs.NamePremises.{unequal, equal_self}

-- ---- what holds of each pair

pub named_all : (P : Named → Type 0) (name : List ℕ) (x : ℚ) → P (name, x) → All P (named_number name x)
named_all P name x h = by (is_zero x)
  where
    by : (b : Bool) → All P (if b then [] else (name, x) ∷ [])
    by true = All-nil P
    by false = All-cons P (name, x) [] h (All-nil P)

pub all_flat : {A : Type 0} (f : A → List Named) (Q : A → Type 0) (P : Named → Type 0) → ((x : A) → Q x → All P (f x)) → (xs : List A) → All Q xs → All P (flat_map f xs)
all_flat f Q P h [] all = All-nil P
all_flat f Q P h (x ∷ xs) all = All-append P (f x) (flat_map f xs) (h x (All-head Q x xs all)) (all_flat f Q P h xs (All-tail Q x xs all))

-- ---- no name twice

pub none_apart : AreApart []
none_apart = λ i j d below within. absurd (omega (arith, within))

-- a pair before those of other names
pub pair_before : (p : Named) (more : List Named) → All (λ (q : Named). p.0 ≢ q.0) more → AreApart more → AreApart (p ∷ more)
pair_before p more h apart = AllPairs-cons (λ (a b : Named). a.0 ≢ b.0) p more h apart

pub named_before : (name : List ℕ) (x : ℚ) (more : List Named) → All (λ (q : Named). name ≢ q.0) more → AreApart more → AreApart (named_number name x ++ more)
named_before name x more h apart = by (is_zero x)
  where
    by : (b : Bool) → AreApart ((if b then [] else (name, x) ∷ []) ++ more)
    by true = apart
    by false = pair_before (name, x) more h apart

-- ---- the number beside a name

pub unnumbered : (pairs : List Named) (name : List ℕ) → All (λ (p : Named). p.0 ≢ name) pairs → is_numbered (map as_number pairs) name ≡ false
unnumbered [] name h = refl
unnumbered (p ∷ pairs) name h =
    or_from (bytes_eq p.0 name) (is_numbered (map as_number pairs) name) (unequal p.0 name (All-head (λ (q : Named). q.0 ≢ name) p pairs h)) (unnumbered pairs name (All-tail (λ (q : Named). q.0 ≢ name) p pairs h))

-- a number that is left out where it is 0 is found, where no other has its name
pub named_first : (name : List ℕ) (x : ℚ) (more : List Named) → All (λ (q : Named). q.0 ≢ name) more → row_number_beside name (map as_number (named_number name x ++ more)) ≡ x
named_first name x more h = by (is_zero x) refl
  where
    by : (b : Bool) → is_zero x ≡ b → row_number_beside name (map as_number ((if b then [] else (name, x) ∷ []) ++ more)) ≡ x
    by true e = beside_absent (map as_number more) name (unnumbered more name h) ∙ sym ((eq_by_cmp-decides x (int (pos 0))).0 e)
    by false e = beside_first (map as_number more) name x

-- one of another name is passed
pub named_passed : (other name : List ℕ) (x : ℚ) (more : List Named) → other ≢ name → row_number_beside name (map as_number (named_number other x ++ more)) ≡ row_number_beside name (map as_number more)
named_passed other name x more differs = by (is_zero x)
  where
    by : (b : Bool) → row_number_beside name (map as_number ((if b then [] else (other, x) ∷ []) ++ more)) ≡ row_number_beside name (map as_number more)
    by true = refl
    by false = ap (λ b. if b then x else row_number_beside name (map as_number more)) (unequal other name differs)

pub unranged : (pairs : List Named) (number : ℕ) (name : List ℕ) → All (λ (p : Named). p.0 ≢ name) pairs → range_beside name (ranges_at number pairs) ≡ None
unranged [] number name h = refl
unranged (p ∷ pairs) number name h =
    ap (λ b. if b then Some p.1 else range_beside name (ranges_at (suc number) pairs)) (unequal p.0 name (All-head (λ (q : Named). q.0 ≢ name) p pairs h))
    ∙ unranged pairs (suc number) name (All-tail (λ (q : Named). q.0 ≢ name) p pairs h)

-- ---- pairs of rows

abbrev pub pair_of : List ℕ → Option ℚ → List Named
pair_of name None = []
pair_of name (Some x) = (name, x) ∷ []

-- the pairs of rows with the number that each has, if it has one
abbrev pub pairs_of : (Row → Option ℚ) → List Row → List Named
pairs_of g rows = flat_map (λ (r : Row). pair_of r.name (g r)) rows

abbrev pub number_in : Option ℚ → ℚ
number_in None = int (pos 0)
number_in (Some x) = x

abbrev pub HaveNamesApart : List Row → Type 0
HaveNamesApart rows = AllPairs (λ (a b : Row). a.name ≢ b.name) rows

pub rows_later : (r : Row) (rows : List Row) → HaveNamesApart (r ∷ rows) → HaveNamesApart rows
rows_later r rows apart = λ i j d below within. apart (suc i) (suc j) d (omega (arith, below)) (omega (arith, within))

pub first_apart : (r : Row) (rows : List Row) → HaveNamesApart (r ∷ rows) → All (λ (q : Row). r.name ≢ q.name) rows
first_apart r rows apart = λ i d below. apart 0 (suc i) d (omega arith) (omega (arith, below))

later_apart : (r : Row) (rows : List Row) → HaveNamesApart (r ∷ rows) → All (λ (q : Row). q.name ≢ r.name) rows
later_apart r rows apart = λ i d below. λ e. first_apart r rows apart i d below (sym e)

module _ (g : Row → Option ℚ) where
  pub all_pairs : (Q : Row → Type 0) (P : Named → Type 0) → ((r : Row) (x : ℚ) → g r ≡ Some x → Q r → P (r.name, x)) → (rows : List Row) → All Q rows → All P (pairs_of g rows)
  all_pairs Q P h rows all = all_flat (λ (r : Row). pair_of r.name (g r)) Q P (λ r q. by r q (g r) refl) rows all
    where
      by : (r : Row) → Q r → (o : Option ℚ) → g r ≡ o → All P (pair_of r.name o)
      by r q None e = All-nil P
      by r q (Some x) e = All-cons P (r.name, x) [] (h r x e q) (All-nil P)

  pub all_named : (P : List ℕ → Type 0) (rows : List Row) → All (λ (r : Row). P r.name) rows → All (λ (p : Named). P p.0) (pairs_of g rows)
  all_named P rows h = all_pairs (λ (r : Row). P r.name) (λ (p : Named). P p.0) (λ r x e q. q) rows h

  pub pairs_apart : (rows : List Row) → HaveNamesApart rows → AreApart (pairs_of g rows)
  pairs_apart [] apart = none_apart
  pairs_apart (r ∷ rows) apart = by (g r) (pairs_apart rows (rows_later r rows apart))
    where
      by : (o : Option ℚ) → AreApart (pairs_of g rows) → AreApart (pair_of r.name o ++ pairs_of g rows)
      by None rest = rest
      by (Some x) rest = pair_before (r.name, x) (pairs_of g rows) (all_named (λ name. r.name ≢ name) rows (first_apart r rows apart)) rest

  -- the number beside a row's name is its own, and 0 where it has none
  pub number_at : (rows : List Row) (i : ℕ) (d : Row) → i < length rows → HaveNamesApart rows → row_number_beside (get_or rows i d).name (map as_number (pairs_of g rows)) ≡ number_in (g (get_or rows i d))
  number_at [] i d below apart = absurd (omega (arith, below))
  number_at (r ∷ rows) zero d below apart = by (g r)
    where
      by : (o : Option ℚ) → row_number_beside r.name (map as_number (pair_of r.name o ++ pairs_of g rows)) ≡ number_in o
      by None = beside_absent (map as_number (pairs_of g rows)) r.name (unnumbered (pairs_of g rows) r.name (all_named (λ name. name ≢ r.name) rows (later_apart r rows apart)))
      by (Some x) = beside_first (map as_number (pairs_of g rows)) r.name x
  number_at (r ∷ rows) (suc i) d below apart = by (g r) (number_at rows i d (omega (arith, below)) (rows_later r rows apart))
    where
      by : (o : Option ℚ) → row_number_beside (get_or rows i d).name (map as_number (pairs_of g rows)) ≡ number_in (g (get_or rows i d))
          → row_number_beside (get_or rows i d).name (map as_number (pair_of r.name o ++ pairs_of g rows)) ≡ number_in (g (get_or rows i d))
      by None rest = rest
      by (Some x) rest =
          ap (λ b. if b then x else row_number_beside (get_or rows i d).name (map as_number (pairs_of g rows))) (unequal r.name (get_or rows i d).name (first_apart r rows apart i d (omega (arith, below)))) ∙ rest

  -- and so is that of RANGES, wherever the lines stand
  pub range_at_row : (rows : List Row) (number i : ℕ) (d : Row) → i < length rows → HaveNamesApart rows → range_beside (get_or rows i d).name (ranges_at number (pairs_of g rows)) ≡ g (get_or rows i d)
  range_at_row [] number i d below apart = absurd (omega (arith, below))
  range_at_row (r ∷ rows) number zero d below apart = by (g r)
    where
      by : (o : Option ℚ) → range_beside r.name (ranges_at number (pair_of r.name o ++ pairs_of g rows)) ≡ o
      by None = unranged (pairs_of g rows) number r.name (all_named (λ name. name ≢ r.name) rows (later_apart r rows apart))
      by (Some x) = ap (λ b. if b then Some x else range_beside r.name (ranges_at (suc number) (pairs_of g rows))) (equal_self r.name)
  range_at_row (r ∷ rows) number (suc i) d below apart = by (g r) (λ n. range_at_row rows n i d (omega (arith, below)) (rows_later r rows apart))
    where
      by : (o : Option ℚ) → ((n : ℕ) → range_beside (get_or rows i d).name (ranges_at n (pairs_of g rows)) ≡ g (get_or rows i d))
          → range_beside (get_or rows i d).name (ranges_at number (pair_of r.name o ++ pairs_of g rows)) ≡ g (get_or rows i d)
      by None rest = rest number
      by (Some x) rest =
          ap (λ b. if b then Some x else range_beside (get_or rows i d).name (ranges_at (suc number) (pairs_of g rows))) (unequal r.name (get_or rows i d).name (first_apart r rows apart i d (omega (arith, below)))) ∙ rest (suc number)
