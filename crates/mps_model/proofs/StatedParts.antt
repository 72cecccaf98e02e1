-- What a text without fault states has lawful names, and each number that a bound has is below 10^20 in magnitude.
use Rattle.std.proofs.Common.{◌≡◌, ℕ, zero, suc, refl, ◌<◌, ◌≤◌, Bool, true, false, not, ◌&&◌, List, [], ◌∷◌, ◌++◌, length, map, sym, subst, arith, append_assoc, if◌then◌else◌}
use Rattle.std.specs.Prelude.{nat_le, Option, None, Some, All, Ok}
use Rattle.std.specs.List.{list_all}
use Rattle.std.proofs.lemmas.Bool.{and_from, lt-ltb, le-leb, ltb-false, or_from, or_parts}
use Rattle.std.proofs.lemmas.List.Elements.{All-nil, All-cons, All-append, All-head, All-tail, All-get_or, All-push}
use Rattle.frac128.specs.Rational.{ℚ, neg_ℚ, rational_le}
use Rattle.frac_text.specs.Sides.{numeral_of}
use Rattle.frac_text.specs.Spelling.{reading_of, is_minus}
use Rattle.frac_text.specs.declared.numeral.Numeral.{Numeral}
use Rattle.frac_text.specs.declared.numeral.Numeral.TheVariants as numeral
use Rattle.frac_text.specs.declared.numeral.Side.{Side}
use Rattle.frac_text.specs.declared.numeral.Side.TheVariants.{Above, Between, Below}
use Rattle.text_lines.specs.Words.{IsWord}
use Rattle.mps_text.specs.Text.{Entry, records_of}
use Rattle.mps_fields.specs.Words.{word, row_kind, bound_kind, line_kind}
use Rattle.mps_fields.specs.Numbers.{is_infinite_word, limit_beside, limit_at, limit_at_side, limit_read, infinite, limit_or_plus, limit}
use Rattle.mps_fields.specs.Fields.{is_long_name, bound_field, column_pairs}
use Rattle.mps_fields.specs.declared.numbers.Limit.{Limit}
use Rattle.mps_fields.specs.declared.numbers.Limit.TheVariants.{Finite, Plus, Minus}
use Rattle.mps_fields.specs.declared.words.BoundKind.{BoundKind}
use Rattle.mps_fields.specs.declared.words.LineKind.{LineKind}
use Rattle.mps_fields.specs.declared.words.LineKind.TheVariants.{Header, SenseLine, Row, Marker, Column, RightSide, Range, Bound, Stray}
use Rattle.mps_fields.specs.declared.words.RowKind.{RowKind}
use Rattle.mps_fields.specs.declared.words.RowKind.TheVariants.{Free, AtMost, AtLeast, Equal}
use Rattle.mps_sections.specs.Statements.{StatedModel, stated, gathered_behind, as_objective, as_row, as_bound, read_pair}
use Rattle.mps_sections.specs.Faults.{least, tests_of, row_tests, column_tests, is_last, code_at, Clean, IsWholeText}
use Rattle.mps_sections.specs.Shown.{with_more, with_line, after_kind, after}
use Rattle.mps_sections.specs.declared.statements.BoundLine.{BoundLine}
use Rattle.mps_sections.specs.declared.statements.ColumnLines.{ColumnLines}
use Rattle.mps_sections.specs.declared.statements.RowLine.{RowLine}
use Rattle.mps_sections.specs.declared.statements.RowNumber.{RowNumber}
use Rattle.mps_sections.proofs.TestFacts.{none_holds, code_of_kind}
use Rattle.mps_sections.proofs.StatedSteps.{nothing_more, stated_more}
use Rattle.mps_sections.proofs.PlainNames.{IsPlainEntry, plain_entries}
use Rattle.lp_model.specs.Names.{is_name_byte, is_lawful_name}
use Rattle.frac_text.specs.Sides.{far}
use Rattle.word_names.specs.ScriptModels.{is_far}
use Rattle.mps_model.proofs.VisibleWords.{IsSeen, seen-entries}

abbrev pub IsLawfulName : List ℕ → Type 0
IsLawfulName name = is_lawful_name name ≡ true

abbrev pub IsNearLimit : Limit → Type 0
IsNearLimit (Finite x) = is_far (Some x) ≡ false
IsNearLimit Plus = Unit {0}
IsNearLimit Minus = Unit {0}

pub lawful-by : (name : List ℕ) → 0 < length name → length name ≤ 255 → IsSeen name → IsLawfulName name
lawful-by name some short seen =
    and_from (nat_le 1 (length name) && nat_le (length name) 255) (list_all is_name_byte name)
    (and_from (nat_le 1 (length name)) (nat_le (length name) 255) (lt-ltb 0 (length name) some) (le-leb (length name) 255 short)) seen

-- ---- limits

near-at : (x : ℚ) → IsNearLimit (limit_at x)
near-at x = by (rational_le far x) (rational_le x (neg_ℚ far)) refl refl
  where
    by : (a b : Bool) → rational_le far x ≡ a → rational_le x (neg_ℚ far) ≡ b → IsNearLimit (limit_beside (if a then Above else if b then Below else Between) x)
    by true b e f = tt
    by false true e f = tt
    by false false e f = or_from (rational_le far x) (rational_le x (neg_ℚ far)) e f

near-limit : (field : List ℕ) → IsNearLimit (limit field)
near-limit field = by (is_infinite_word field)
  where
    at-side : (side : Side) → IsNearLimit (limit_or_plus (limit_at_side side))
    at-side Above = tt
    at-side Below = tt
    at-side Between = tt

    read : (n : Numeral) → IsNearLimit (limit_or_plus (limit_read n))
    read (numeral.Number x) = near-at x
    read (numeral.Wide side) = at-side side
    read numeral.NotNumber = tt

    endless : (minus : Bool) → IsNearLimit (infinite minus)
    endless true = tt
    endless false = tt

    by : (b : Bool) → IsNearLimit (limit_or_plus (if b then Ok (infinite (is_minus field)) else limit_read (numeral_of (reading_of field))))
    by true = endless (is_minus field)
    by false = read (numeral_of (reading_of field))

-- ---- what the lines state

abbrev pub IsLawfulRow : RowLine → Type 0
IsLawfulRow r = IsLawfulName r.name

abbrev pub IsLawfulLines : ColumnLines → Type 0
IsLawfulLines c = IsLawfulName c.name

abbrev pub IsNearLine : BoundLine → Type 0
IsNearLine b = IsNearLimit b.limit

pub record HasLawfulParts (names : List (List ℕ)) (sided : List RowLine) (found : List ColumnLines) (lines : List BoundLine) : Type 0 where
  pub objectives : All IsLawfulName names
  pub rows : All IsLawfulRow sided
  pub columns : All IsLawfulLines found
  pub bounds : All IsNearLine lines

abbrev StatesLawfully : StatedModel → Type 0
StatesLawfully s = HasLawfulParts s.objectives s.rows s.columns s.bounds

-- the words of an entry
record IsNamedEntry (e : Entry) : Type 0 where
  plain : IsPlainEntry e
  seen : All IsSeen e.words

word-at : (e : Entry) (k : ℕ) → IsNamedEntry e → k < length e.words → is_long_name (word k e) ≡ false → IsLawfulName (word k e)
word-at e k p within short =
    let own : IsWord (word k e) = All-get_or IsWord e.words k [] within p.plain.all in
    lawful-by (word k e) own.some (ltb-false 255 (length (word k e)) short) (All-get_or IsSeen e.words k [] within p.seen)

-- ---- a line of ROWS

objective-there : (kind : Option RowKind) (name : List ℕ) → IsLawfulName name → All IsLawfulName (as_objective kind name)
objective-there None name p = All-nil IsLawfulName
objective-there (Some Free) name p = All-cons IsLawfulName name [] p (All-nil IsLawfulName)
objective-there (Some AtMost) name p = All-nil IsLawfulName
objective-there (Some AtLeast) name p = All-nil IsLawfulName
objective-there (Some Equal) name p = All-nil IsLawfulName

row-there : (kind : Option RowKind) (name : List ℕ) → IsLawfulName name → All IsLawfulRow (as_row kind name)
row-there None name p = All-nil IsLawfulRow
row-there (Some Free) name p = All-nil IsLawfulRow
row-there (Some AtMost) name p = All-cons IsLawfulRow (record { name = name; kind = AtMost }) [] p (All-nil IsLawfulRow)
row-there (Some AtLeast) name p = All-cons IsLawfulRow (record { name = name; kind = AtLeast }) [] p (All-nil IsLawfulRow)
row-there (Some Equal) name p = All-cons IsLawfulRow (record { name = name; kind = Equal }) [] p (All-nil IsLawfulRow)

two : (n : ℕ) → not (nat_le 2 n && nat_le n 2) ≡ false → 1 < n
two zero e = absurd (cc)
two (suc zero) e = absurd (cc)
two (suc (suc n)) e = omega arith

row-step : (s : StatedModel) (e : Entry) → IsNamedEntry e → least (row_tests s e) ≡ None → StatesLawfully s → StatesLawfully (after_kind Row s e)
row-step s e p none h =
    let tests = none_holds (row_tests s e) none in
    let name = word-at e 1 p (two (length e.words) tests.0) tests.1.0 in
    record {
      objectives = All-append IsLawfulName s.objectives (as_objective (row_kind (word 0 e)) (word 1 e)) h.objectives (objective-there (row_kind (word 0 e)) (word 1 e) name);
      rows = All-append IsLawfulRow s.rows (as_row (row_kind (word 0 e)) (word 1 e)) h.rows (row-there (row_kind (word 0 e)) (word 1 e) name);
      columns = h.columns;
      bounds = h.bounds;
    }

-- ---- a line of COLUMNS

more-numbers : (found : List ColumnLines) (more : List RowNumber) → All IsLawfulLines found → All IsLawfulLines (with_more found more)
more-numbers [] more h = h
more-numbers (c ∷ []) more h =
    All-cons IsLawfulLines (record { name = c.name; line = c.line; marked = c.marked; numbers = c.numbers ++ more }) [] (All-head IsLawfulLines c [] h) (All-nil IsLawfulLines)
more-numbers (c ∷ next ∷ others) more h =
    All-cons IsLawfulLines c (with_more (next ∷ others) more) (All-head IsLawfulLines c (next ∷ others) h) (more-numbers (next ∷ others) more (All-tail IsLawfulLines c (next ∷ others) h))

line-there : (found : List ColumnLines) (name : List ℕ) (line : ℕ) (marked : Bool) (more : List RowNumber) → IsLawfulName name → All IsLawfulLines found → All IsLawfulLines (with_line found name line marked more)
line-there found name line marked more p h = by (is_last found name)
  where
    by : (b : Bool) → All IsLawfulLines (if b then with_more found more else found ++ record { name = name; line = line; marked = marked; numbers = more } ∷ [])
    by true = more-numbers found more h
    by false = All-push IsLawfulLines found (record { name = name; line = line; marked = marked; numbers = more }) h p

column-step : (s : StatedModel) (e : Entry) → IsNamedEntry e → least (column_tests s e) ≡ None → StatesLawfully s → StatesLawfully (after_kind Column s e)
column-step s e p none h =
    let tests = none_holds (column_tests s e) none in
    let short = or_parts (is_long_name (word 0 e)) _ tests.1.0 in
    record {
      objectives = h.objectives;
      rows = h.rows;
      columns = line-there s.columns (word 0 e) e.line s.marked (map read_pair (column_pairs e)) (word-at e 0 p p.plain.some short.0) h.columns;
      bounds = h.bounds;
    }

-- ---- a line of BOUNDS

bound-there : (kind : Option BoundKind) (e : Entry) → All IsNearLine (as_bound kind e)
bound-there None e = All-nil IsNearLine
bound-there (Some kind) e = All-cons IsNearLine _ [] (near-limit (bound_field e)) (All-nil IsNearLine)

-- ---- all lines

kept-by-kind : (kind : LineKind) (s : StatedModel) (e : Entry) → IsNamedEntry e → least (tests_of kind s e) ≡ None → StatesLawfully s → StatesLawfully (after_kind kind s e)
kept-by-kind Header s e p none h = h
kept-by-kind SenseLine s e p none h = h
kept-by-kind Row s e p none h = row-step s e p none h
kept-by-kind Marker s e p none h = h
kept-by-kind Column s e p none h = column-step s e p none h
kept-by-kind RightSide s e p none h = h
kept-by-kind Range s e p none h = h
kept-by-kind Bound s e p none h = record {
  objectives = h.objectives;
  rows = h.rows;
  columns = h.columns;
  bounds = All-append IsNearLine s.bounds (as_bound (bound_kind (word 0 e)) e) h.bounds (bound-there (bound_kind (word 0 e)) e);
}
kept-by-kind Stray s e p none h = h

kept-behind : (seen : List Entry) (e : Entry) → IsNamedEntry e → code_at seen e ≡ None → StatesLawfully (stated seen) → StatesLawfully (stated (seen ++ e ∷ []))
unfolding code_at after
kept-behind seen e p none h =
    let s = stated seen in
    subst StatesLawfully (sym (stated_more seen e none)) (kept-by-kind (line_kind s.section e) s e p (code_of_kind s e (line_kind s.section e) refl none) h)

kept-at-start : StatesLawfully (stated [])
unfolding stated gathered_behind
kept-at-start = record { objectives = All-nil IsLawfulName; rows = All-nil IsLawfulRow; columns = All-nil IsLawfulLines; bounds = All-nil IsNearLine }

kept-clean : (seen more : List Entry) → All IsNamedEntry more → Clean seen more → StatesLawfully (stated seen) → StatesLawfully (stated (seen ++ more))
kept-clean seen [] p clean h = subst (λ (es : List Entry). StatesLawfully (stated es)) (sym (nothing_more seen)) h
kept-clean seen (e ∷ more) p clean h =
    subst (λ (es : List Entry). StatesLawfully (stated es)) (append_assoc seen (e ∷ []) more)
    (kept-clean (seen ++ e ∷ []) more (All-tail IsNamedEntry e more p) clean.2 (kept-behind seen e (All-head IsNamedEntry e more p) clean.0 h))

split-last : (before : List Entry) (last : Entry) → All IsNamedEntry (before ++ last ∷ []) → All IsNamedEntry before × IsNamedEntry last
split-last [] last h = (All-nil IsNamedEntry, All-head IsNamedEntry last [] h)
split-last (e ∷ before) last h =
    let rest = split-last before last (All-tail IsNamedEntry e (before ++ last ∷ []) h) in
    (All-cons IsNamedEntry e before (All-head IsNamedEntry e (before ++ last ∷ []) h) rest.0, rest.1)

named-entries : (text : List ℕ) (entries : List Entry) → IsWholeText [] (records_of text) entries → All IsNamedEntry entries
named-entries text entries w =
    let plain = plain_entries text entries w in
    let seen = seen-entries text entries w in
    λ k d below. record { plain = plain k d below; seen = seen k d below }

pub whole-parts : (text : List ℕ) (entries : List Entry) → IsWholeText [] (records_of text) entries → HasLawfulParts (stated entries).objectives (stated entries).rows (stated entries).columns (stated entries).bounds
whole-parts text entries w =
    let named = split-last w.before w.last (subst (All IsNamedEntry) w.all (named-entries text entries w)) in
    subst (λ (es : List Entry). StatesLawfully (stated es)) (sym w.all) (kept-behind w.before w.last named.1 w.clean_last (kept-clean [] w.before named.0 w.clean kept-at-start))
