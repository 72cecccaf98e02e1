-- A text means a model that scripts may have: lawful names, bounds below 10^20 in magnitude, and not widened.
use Rattle.std.proofs.Common.{◌≡◌, ℕ, zero, suc, ◌+◌, ◌<◌, ◌≤◌, ◌^◌, ◌%◌, arith, Bool, true, false, not, ◌&&◌, List, [], ◌∷◌, ◌++◌, map, length, refl, sym, ◌∙◌, subst, length-append, pos, neg_ℤ}
use Rattle.std.specs.Prelude.{Option, None, Some, IfSome, if◌then◌else◌, codes, bytes_eq, All}
use Rattle.std.specs.Fmt.{decimal}
use Rattle.std.specs.List.{list_all, filter, fold}
use Rattle.std.specs.Prelude.{◌≤ℤ◌}
use Rattle.std.proofs.lemmas.Bool.{and_from, false_from_ne_true, or_from}
use Rattle.std.proofs.lemmas.Bool.Decides.{nat_tests}
use Rattle.std.proofs.lemmas.Fmt.{decimal_by_steps, length-decimal-le}
use Rattle.std.proofs.lemmas.Int.{ints}
use Rattle.std.proofs.lemmas.List.{length-map}
use Rattle.std.proofs.lemmas.List.Elements.{All-cons, All-head, All-tail, All-map, All-weaker}
use Rattle.std.proofs.lemmas.List.Folds.{list_all-append}
use Rattle.frac128.specs.Rational.{ℚ, int, neg_ℚ, rational_le, ◌≤ℚ◌}
use Rattle.frac128.proofs.Comparison.{rational_le-decides}
use Rattle.frac128.specs.RationalRing.{int-neg_ℤ}
use Rattle.frac128.proofs.Integers.{int-≤ℚ-int}
use Rattle.lp_model.specs.Limits.{row_limit}
use Rattle.lp_model.specs.Lawful.{row_names}
use Rattle.lp_model.specs.declared.types.Col.{Col}
use Rattle.lp_model.specs.declared.types.Row.{Row}
use Rattle.lp_model.specs.Names.{is_name_byte}
use Rattle.frac_text.specs.Sides.{far}
use Rattle.word_names.specs.ScriptModels.{is_far, IsScriptModel}
use Rattle.mps_fields.specs.Words.{among}
use Rattle.mps_fields.specs.Numbers.{finite, is_below_zero}
use Rattle.mps_fields.specs.declared.numbers.Limit.{Limit}
use Rattle.mps_fields.specs.declared.numbers.Limit.TheVariants.{Finite, Plus, Minus}
use Rattle.mps_fields.specs.declared.words.BoundKind.{BoundKind}
use Rattle.mps_fields.specs.declared.words.BoundKind.TheVariants.{Lower, Upper, Fixed, Unbounded, NoLower, NoUpper, Binary, IntegerLower, IntegerUpper}
use Rattle.mps_text.specs.Text.{records_of}
use Rattle.mps_sections.specs.Statements.{stated_sections, stated_row_names}
use Rattle.mps_sections.specs.declared.statements.BoundLine.{BoundLine}
use Rattle.mps_sections.specs.declared.statements.ColumnLines.{ColumnLines}
use Rattle.mps_sections.specs.declared.statements.RowLine.{RowLine}
use Rattle.mps_sections.specs.declared.statements.Sections.{Sections}
use Rattle.mps_sections.proofs.StatedLimits.{whole-keeps_limits}
use Rattle.mps_model.specs.Laws.{ScriptModelLaw}
use Rattle.mps_model.specs.Meaning.{candidate, free_from, free_name, objective_or, objective_name, second_or, second_name, start_span, span_of, upper_or, column_of, row_of, model_of}
use Rattle.mps_model.specs.Spans.{bounded, with_lower, with_upper}
use Rattle.mps_model.specs.declared.spans.Span.{Span}
use Rattle.mps_model.proofs.VisibleWords.{IsSeen}
use Rattle.mps_model.proofs.StatedParts.{IsLawfulName, IsNearLimit, IsLawfulLines, IsNearLine, HasLawfulParts, lawful-by, whole-parts}

-- ---- free names

digit-seen : (d : ℕ) → d < 10 → is_name_byte (48 + d) ≡ true
digit-seen d below = grind (arith, nat_tests)

both-seen : (a b : List ℕ) → IsSeen a → IsSeen b → IsSeen (a ++ b)
both-seen a b h k = list_all-append is_name_byte a b ∙ and_from (list_all is_name_byte a) (list_all is_name_byte b) h k

digits-seen : (n : ℕ) → n < 2 ^ 64 → IsSeen (decimal n)
digits-seen = decimal_by_steps (λ m ds. IsSeen ds) (λ m l. one m l) (λ m ds l h. both-seen ds ((48 + m % 10) ∷ []) h (one (m % 10) (omega arith)))
  where
    one : (d : ℕ) → d < 10 → IsSeen ((48 + d) ∷ [])
    one d below = and_from (is_name_byte (48 + d)) true (digit-seen d below) refl

module _ (base : List ℕ) (some : 0 < length base) (short : length base ≤ 100) (seen : IsSeen base) where
  candidate-lawful : (j : ℕ) → j ≤ 1100 → IsLawfulName (candidate base j)
  candidate-lawful zero few = lawful-by base some (omega (arith, short)) seen
  candidate-lawful (suc j) few =
      let digits = length-decimal-le 4 (suc j) (omega arith) (omega (arith, few)) (omega (arith, few)) in
      let front = length-append base (codes "_") in
      let whole = length-append (base ++ codes "_") (decimal (suc j)) in
      lawful-by (base ++ codes "_" ++ decimal (suc j)) (omega (arith, front, whole, some)) (omega (arith, front, whole, digits, short))
      (both-seen (base ++ codes "_") (decimal (suc j)) (both-seen base (codes "_") seen refl) (digits-seen (suc j) (omega (arith, few))))

  free-from : (taken : List (List ℕ)) (k n : ℕ) → k + n ≤ 1100 → IsLawfulName (free_from taken base k n)
  free-from taken k zero few = candidate-lawful k (omega (arith, few))
  free-from taken k (suc n) few = by (among taken (candidate base k)) (free-from taken (suc k) n (omega (arith, few)))
    where
      by : (b : Bool) → IsLawfulName (free_from taken base (suc k) n) → IsLawfulName (if b then free_from taken base (suc k) n else candidate base k)
      by true rest = rest
      by false rest = candidate-lawful k (omega (arith, few))

  free-lawful : (taken : List (List ℕ)) → length taken ≤ 1100 → IsLawfulName (free_name taken base)
  unfolding free_name
  free-lawful taken few = free-from taken 0 (length taken) (omega (arith, few))

objective-lawful : (found : List (List ℕ)) (missing : List ℕ) → All IsLawfulName found → IsLawfulName missing → IsLawfulName (objective_or found missing)
objective-lawful [] missing h k = k
objective-lawful (name ∷ ignored) missing h k = All-head IsLawfulName name ignored h

second-lawful : (found : List (List ℕ)) (missing : List ℕ) → All IsLawfulName found → IsLawfulName missing → IsLawfulName (second_or found missing)
second-lawful [] missing h k = k
second-lawful (first ∷ []) missing h k = k
second-lawful (first ∷ name ∷ ignored) missing h k = All-head IsLawfulName name ignored (All-tail IsLawfulName first (name ∷ ignored) h)

module _ (s : Sections) (few : length s.rows ≤ row_limit false) (names : All IsLawfulName s.objectives) where
  few-names : length (stated_row_names s.rows) ≤ row_limit false
  few-names = omega (arith, few, length-map s.rows (λ (r : RowLine). r.name))

  first-name : IsLawfulName (objective_name s)
  first-name = objective-lawful s.objectives (free_name (stated_row_names s.rows) (codes "OBJ")) names (free-lawful (codes "OBJ") (omega arith) (omega arith) refl (stated_row_names s.rows) (omega (arith, few-names)))

  other-name : IsLawfulName (second_name s)
  other-name =
      second-lawful s.objectives (free_name (stated_row_names s.rows ++ objective_name s ∷ []) (codes "OBJ2")) names
      (free-lawful (codes "OBJ2") (omega arith) (omega arith) refl (stated_row_names s.rows ++ objective_name s ∷ []) (omega (arith, few-names, length-append (stated_row_names s.rows) (objective_name s ∷ []))))

-- ---- bounds

IsNear : Option ℚ → Type 0
IsNear bound = is_far bound ≡ false

whole-near : (n : ℕ) → n < 10 ^ 20 → IsNear (Some (int (pos n)))
unfolding IsNear
whole-near n below =
    or_from (rational_le far (int (pos n))) (rational_le (int (pos n)) (neg_ℚ far))
    (false_from_ne_true (rational_le far (int (pos n))) (λ e. above ((int-≤ℚ-int (pos (10 ^ 20)) (pos n)).0 ((rational_le-decides far (int (pos n))).0 e))))
    (false_from_ne_true (rational_le (int (pos n)) (neg_ℚ far)) (λ e. below-zero ((int-≤ℚ-int (pos n) (neg_ℤ (pos (10 ^ 20)))).0 (subst (λ (y : ℚ). int (pos n) ≤ℚ y) (sym (int-neg_ℤ (pos (10 ^ 20)))) ((rational_le-decides (int (pos n)) (neg_ℚ far)).0 e)))))
  where
    above : pos (10 ^ 20) ≤ℤ pos n → ⊥
    above h = omega (arith, ints, below, h)

    below-zero : pos n ≤ℤ neg_ℤ (pos (10 ^ 20)) → ⊥
    below-zero h = omega (arith, ints, h)

record IsNearSpan (span : Span) : Type 0 where
  lower : IsNear span.lower
  upper : IsNear span.upper

near-finite : (l : Limit) → IsNearLimit l → IsNear (finite l)
unfolding IsNear
near-finite (Finite x) h = h
near-finite Plus h = refl
near-finite Minus h = refl

near-none : IsNear None
unfolding IsNear
near-none = refl

lower-near : (l : Limit) (span : Span) → IsNearLimit l → IsNearSpan span → IsNearSpan (with_lower l span)
lower-near l span near h = record { lower = near-finite l near; upper = h.upper }

upper-near : (l : Limit) (span : Span) → IsNearLimit l → IsNearSpan span → IsNearSpan (with_upper l span)
upper-near l span near h = record { lower = by (is_below_zero l && not span.named); upper = near-finite l near }
  where
    by : (b : Bool) → IsNear (if b then None else span.lower)
    by true = near-none
    by false = h.lower

near-step : (kind : BoundKind) (l : Limit) (span : Span) → IsNearLimit l → IsNearSpan span → IsNearSpan (bounded span kind l)
near-step Lower l span near h = lower-near l span near h
near-step Upper l span near h = upper-near l span near h
near-step Fixed l span near h = record { lower = near-finite l near; upper = near-finite l near }
near-step Unbounded l span near h = record { lower = near-none; upper = near-none }
near-step NoLower l span near h = record { lower = near-none; upper = h.upper }
near-step NoUpper l span near h = record { lower = h.lower; upper = near-none }
near-step Binary l span near h = record { lower = whole-near 0 (omega arith); upper = whole-near 1 (omega arith) }
near-step IntegerLower l span near h = let k = lower-near l span near h in record { lower = k.lower; upper = k.upper }
near-step IntegerUpper l span near h = let k = upper-near l span near h in record { lower = k.lower; upper = k.upper }

near-lines : (name : List ℕ) (bounds : List BoundLine) (span : Span) → All IsNearLine bounds → IsNearSpan span → IsNearSpan (fold (λ span b. bounded span b.kind b.limit) span (filter (λ b. bytes_eq b.column name) bounds))
near-lines name [] span near h = h
near-lines name (b ∷ bounds) span near h =
    by (bytes_eq b.column name) (near-lines name bounds (bounded span b.kind b.limit) rest (near-step b.kind b.limit span (All-head IsNearLine b bounds near) h)) (near-lines name bounds span rest h)
  where
    rest : All IsNearLine bounds
    rest = All-tail IsNearLine b bounds near

    by : (own : Bool) → IsNearSpan (fold (λ span b. bounded span b.kind b.limit) (bounded span b.kind b.limit) (filter (λ b. bytes_eq b.column name) bounds))
        → IsNearSpan (fold (λ span b. bounded span b.kind b.limit) span (filter (λ b. bytes_eq b.column name) bounds))
        → IsNearSpan (fold (λ span b. bounded span b.kind b.limit) span (if own then b ∷ filter (λ b. bytes_eq b.column name) bounds else filter (λ b. bytes_eq b.column name) bounds))
    by true with_it without = with_it
    by false with_it without = without

near-upper : (intupper : Option ℕ) (integer : Bool) (bound : Option ℚ) → IfSome intupper (λ n. n < 10 ^ 20) → IsNear bound → IsNear (upper_or intupper integer bound)
near-upper None integer bound below h = h
near-upper (Some n) false bound below h = h
near-upper (Some n) true None below h = whole-near n below
near-upper (Some n) true (Some x) below h = h

near-column : (s : Sections) (intupper : Option ℕ) (c : ColumnLines) → IfSome intupper (λ n. n < 10 ^ 20) → All IsNearLine s.bounds → (is_far (column_of s intupper c).lo ≡ false) × (is_far (column_of s intupper c).up ≡ false)
unfolding IsNear
near-column s intupper c below near =
    let span = near-lines c.name s.bounds (start_span c.marked) near (record { lower = whole-near 0 (omega arith); upper = near-none }) in
    (span.lower, near-upper intupper (span_of s.bounds c).integer (span_of s.bounds c).upper below span.upper)

-- ---- the model

meant-parts : (s : Sections) (intupper : Option ℕ) → IfSome intupper (λ n. n < 10 ^ 20) → length s.rows ≤ row_limit false → HasLawfulParts s.objectives s.rows s.columns s.bounds → IsScriptModel (model_of s intupper)
unfolding model_of
meant-parts s intupper below few h =
    let rows : All IsLawfulName (map (λ (r : Row). r.name) (map (row_of s) s.rows)) =
    All-map IsLawfulName (λ (r : Row). r.name) (map (row_of s) s.rows) (All-map (λ (r : Row). IsLawfulName r.name) (row_of s) s.rows h.rows) in
    let names = map (λ (r : Row). r.name) (map (row_of s) s.rows) in
    record {
      row_names = All-cons IsLawfulName (objective_name s) (second_name s ∷ names) (first-name s few h.objectives) (All-cons IsLawfulName (second_name s) names (other-name s few h.objectives) rows);
      column_names = All-map (λ (c : Col). IsLawfulName c.name) (column_of s intupper) s.columns h.columns;
      bounds = All-map (λ (c : Col). (is_far c.lo ≡ false) × (is_far c.up ≡ false)) (column_of s intupper) s.columns (All-weaker IsLawfulLines (λ (c : ColumnLines). (is_far (column_of s intupper c).lo ≡ false) × (is_far (column_of s intupper c).up ≡ false)) (λ c lawful. near-column s intupper c below h.bounds) s.columns h.columns);
      plain = refl;
    }

pub meant-script : ScriptModelLaw
meant-script text intupper M below m =
    subst IsScriptModel (sym m.is)
    (meant-parts (stated_sections m.entries) intupper below (whole-keeps_limits (records_of text) m.entries m.whole).few_rows (whole-parts text m.entries m.whole))
