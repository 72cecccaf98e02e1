-- How many non-zero numbers of the columns stand beside rows with sides. They are counted line by line, each beside a row or
-- an objective that is known when its line comes; no later row has the name of a known one, so none is counted twice or
-- missed. A column has no more entries than such numbers.
use Rattle.std.proofs.Common.{◌≡◌, ℕ, ◌+◌, ◌<◌, Bool, true, false, not, ◌&&◌, ◌||◌, List, [], ◌∷◌, ◌++◌, map, length, refl, sym, ◌∙◌, ap, arith, inl, inr, length-append}
use Rattle.std.specs.Prelude.{Option, None, Some, if◌then◌else◌, bytes_eq}
use Rattle.std.specs.List.{list_any}
use Rattle.std.proofs.lemmas.Bool.{or_left, or_right, or_parts, or_cases, or_from, true≢false, false≢true, false_from_ne_true}
use Rattle.std.proofs.lemmas.List.Elements.{filter-append}
use Rattle.std.proofs.lemmas.List.Folds.{list_any-append}
use Rattle.std.proofs.lemmas.List.Sums.{sum_by-cons, sum_by_push}
use Rattle.std.proofs.lemmas.Slice.Eq.{bytes_eq-Decides}
use Rattle.mps_fields.specs.Words.{among}
use Rattle.lp_model.specs.Edits.{is_zero}
use Rattle.mps_sections.specs.Statements.{read_pair, is_row_name, as_row, as_objective, is_coefficient, coefficients_in}
use Rattle.mps_fields.specs.Fields.{Pair}
use Rattle.mps_sections.specs.Faults.{is_last}
use Rattle.mps_sections.specs.Shown.{with_more}
use Rattle.mps_sections.specs.Limits.{coefficient_count}
use Rattle.mps_fields.specs.declared.words.RowKind.{RowKind}
use Rattle.mps_fields.specs.declared.words.RowKind.TheVariants.{Free, AtMost, AtLeast, Equal}
use Rattle.mps_sections.specs.declared.statements.RowLine.{RowLine}
use Rattle.mps_sections.specs.declared.statements.RowNumber.{RowNumber}
use Rattle.mps_sections.specs.declared.statements.ColumnLines.{ColumnLines}

-- a row or an objective has the name
abbrev pub is_one : List RowLine → List (List ℕ) → List ℕ → Bool
is_one sided objectives name = is_row_name sided name || among objectives name

-- some number stands beside neither
abbrev pub unknown_in : List RowLine → List (List ℕ) → List RowNumber → Bool
unknown_in sided objectives found = list_any (λ p. not (is_one sided objectives p.row)) found

abbrev pub AllKnown : List RowLine → List (List ℕ) → List ColumnLines → Type 0
AllKnown sided objectives [] = Unit {0}
AllKnown sided objectives (c ∷ more) = (unknown_in sided objectives c.numbers ≡ false) × AllKnown sided objectives more

-- the numbers stand beside known rows and objectives, and the coefficients are counted
pub record AreCounted (sided : List RowLine) (objectives : List (List ℕ)) (found : List ColumnLines) (count : ℕ) : Type 0 where
  pub known : AllKnown sided objectives found
  pub counted : coefficient_count sided found ≡ count

known_not : (b : Bool) → not b ≡ false → b ≡ true
known_not true e = refl
known_not false e = absurd (cc)

or_none : (a b : Bool) → b ≡ false → (a || b) ≡ a
or_none true b e = refl
or_none false b e = e

-- ---- a line of ROWS

first_name : (name x : List ℕ) → (bytes_eq name x || false) ≡ true → name ≡ x
first_name name x e = elim (or_cases (bytes_eq name x) false e) [ inl is ↦ (bytes_eq-Decides name x).0 is | inr never ↦ absurd (false≢true never) ]

row_name : (kind : Option RowKind) (name x : List ℕ) → is_row_name (as_row kind name) x ≡ true → name ≡ x
row_name None name x e = absurd (false≢true e)
row_name (Some Free) name x e = absurd (false≢true e)
row_name (Some AtMost) name x e = first_name name x e
row_name (Some AtLeast) name x e = first_name name x e
row_name (Some Equal) name x e = first_name name x e

module _ (sided : List RowLine) (objectives : List (List ℕ)) (kind : Option RowKind) (name : List ℕ) (new : is_one sided objectives name ≡ false) where
  abbrev rows : List RowLine
  rows = sided ++ as_row kind name

  abbrev names : List (List ℕ)
  names = objectives ++ as_objective kind name

  same_row : (x : List ℕ) → is_one sided objectives x ≡ true → is_row_name rows x ≡ is_row_name sided x
  same_row x known =
      let none : is_row_name (as_row kind name) x ≡ false = false_from_ne_true (is_row_name (as_row kind name) x) (λ e. true≢false (sym known ∙ ap (is_one sided objectives) (sym (row_name kind name x e)) ∙ new)) in
      list_any-append (λ (q : RowLine). bytes_eq q.name x) sided (as_row kind name) ∙ or_none (is_row_name sided x) (is_row_name (as_row kind name) x) none

  still_known : (x : List ℕ) → is_one sided objectives x ≡ true → is_one rows names x ≡ true
  still_known x known =
      elim (or_cases (is_row_name sided x) (among objectives x) known) [
        | inl row ↦ or_left (is_row_name rows x) (among names x) (list_any-append (λ (q : RowLine). bytes_eq q.name x) sided (as_row kind name) ∙ or_left (is_row_name sided x) (is_row_name (as_row kind name) x) row)
        | inr own ↦
            or_right (is_row_name rows x) (among names x)
            (list_any-append (λ (other : List ℕ). bytes_eq other x) objectives (as_objective kind name) ∙ or_left (among objectives x) (among (as_objective kind name) x) own)
      ]

  same_coefficients : (found : List RowNumber) → unknown_in sided objectives found ≡ false → coefficients_in rows found ≡ coefficients_in sided found
  same_coefficients [] e = refl
  same_coefficients (p ∷ more) e =
      let parts = or_parts (not (is_one sided objectives p.row)) (unknown_in sided objectives more) e in
      let row = same_row p.row (known_not (is_one sided objectives p.row) parts.0) in
      ap (λ b. if b && not (is_zero p.number) then p ∷ coefficients_in rows more else coefficients_in rows more) row
      ∙ ap (λ (kept : List RowNumber). if is_row_name sided p.row && not (is_zero p.number) then p ∷ kept else kept) (same_coefficients more parts.1)

  same_known : (found : List RowNumber) → unknown_in sided objectives found ≡ false → unknown_in rows names found ≡ false
  same_known [] e = refl
  same_known (p ∷ more) e =
      let parts = or_parts (not (is_one sided objectives p.row)) (unknown_in sided objectives more) e in
      or_from (not (is_one rows names p.row)) (unknown_in rows names more) (ap not (still_known p.row (known_not (is_one sided objectives p.row) parts.0))) (same_known more parts.1)

  all_known : (found : List ColumnLines) → AllKnown sided objectives found → AllKnown rows names found
  all_known [] known = tt
  all_known (c ∷ more) known = (same_known c.numbers known.0, all_known more known.1)

  same_count : (found : List ColumnLines) → AllKnown sided objectives found → coefficient_count rows found ≡ coefficient_count sided found
  same_count [] known = refl
  same_count (c ∷ more) known =
      sum_by-cons (λ (d : ColumnLines). length (coefficients_in rows d.numbers)) c more
      ∙ ap (λ (kept : List RowNumber). length kept + coefficient_count rows more) (same_coefficients c.numbers known.0)
      ∙ ap (λ n. length (coefficients_in sided c.numbers) + n) (same_count more known.1)
      ∙ sym (sum_by-cons (λ (d : ColumnLines). length (coefficients_in sided d.numbers)) c more)

  pub counted_row : (found : List ColumnLines) (count : ℕ) → AreCounted sided objectives found count → AreCounted rows names found count
  counted_row found count h = record { known = all_known found h.known; counted = same_count found h.known ∙ h.counted }

-- ---- a line of COLUMNS

pub unknown_read : (sided : List RowLine) (objectives : List (List ℕ)) (found : List Pair) → unknown_in sided objectives (map read_pair found) ≡ list_any (λ p. not (is_one sided objectives p.row)) found
unknown_read sided objectives [] = refl
unknown_read sided objectives (p ∷ found) = ap (λ b. not (is_one sided objectives p.row) || b) (unknown_read sided objectives found)

has_last : (found : List ColumnLines) (name : List ℕ) → is_last found name ≡ true → 0 < length found
has_last [] name e = absurd (false≢true e)
has_last (c ∷ found) name e = omega arith

module _ (sided : List RowLine) (objectives : List (List ℕ)) (more : List RowNumber) where
  abbrev coefficients_of : ColumnLines → ℕ
  coefficients_of c = length (coefficients_in sided c.numbers)

  abbrev longer : ColumnLines → ColumnLines
  longer c = record { name = c.name; line = c.line; marked = c.marked; numbers = c.numbers ++ more }

  longer_count : (c : ColumnLines) → coefficients_of (longer c) ≡ coefficients_of c + length (coefficients_in sided more)
  longer_count c = ap length (filter-append (is_coefficient sided) c.numbers more) ∙ length-append (coefficients_in sided c.numbers) (coefficients_in sided more)

  count_more : (found : List ColumnLines) → 0 < length found → coefficient_count sided (with_more found more) ≡ coefficient_count sided found + length (coefficients_in sided more)
  count_more [] some = absurd (omega arith)
  count_more (c ∷ []) some = omega (arith, sum_by-cons coefficients_of (longer c) [], sum_by-cons coefficients_of c [], longer_count c)
  count_more (c ∷ next ∷ others) some =
      omega (arith, sum_by-cons coefficients_of c (with_more (next ∷ others) more), sum_by-cons coefficients_of c (next ∷ others), count_more (next ∷ others) (omega arith))

  known_more : (found : List ColumnLines) → AllKnown sided objectives found → unknown_in sided objectives more ≡ false → AllKnown sided objectives (with_more found more)
  known_more [] known e = tt
  known_more (c ∷ []) known e = (
    list_any-append (λ (p : RowNumber). not (is_one sided objectives p.row)) c.numbers more ∙ or_from (unknown_in sided objectives c.numbers) (unknown_in sided objectives more) known.0 e,
    tt,
  )
  known_more (c ∷ next ∷ others) known e = (known.0, known_more (next ∷ others) known.1 e)

  known_push : (found : List ColumnLines) (c : ColumnLines) → AllKnown sided objectives found → unknown_in sided objectives c.numbers ≡ false → AllKnown sided objectives (found ++ c ∷ [])
  known_push [] c known e = (e, tt)
  known_push (d ∷ found) c known e = (known.0, known_push found c known.1 e)

pub counted_column : (sided : List RowLine) (objectives : List (List ℕ)) (found : List ColumnLines) (count : ℕ) (c : ColumnLines) (last : Bool)
    → is_last found c.name ≡ last → unknown_in sided objectives c.numbers ≡ false → AreCounted sided objectives found count
    → AreCounted sided objectives (if last then with_more found c.numbers else found ++ c ∷ []) (count + length (coefficients_in sided c.numbers))
counted_column sided objectives found count c true is known h = record {
  known = known_more sided objectives c.numbers found h.known known;
  counted = count_more sided objectives c.numbers found (has_last found c.name is) ∙ ap (λ n. n + length (coefficients_in sided c.numbers)) h.counted;
}
counted_column sided objectives found count c false is known h = record {
  known = known_push sided objectives c.numbers found c h.known known;
  counted = sum_by_push (λ (d : ColumnLines). length (coefficients_in sided d.numbers)) found c ∙ ap (λ n. n + length (coefficients_in sided c.numbers)) h.counted;
}
