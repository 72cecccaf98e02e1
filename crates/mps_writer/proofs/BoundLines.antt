-- The bound lines of a column are found by its name among those of all columns, and give its bounds back.
use Rattle.std.proofs.Common.{◌≡◌, ◌≢◌, ℕ, zero, suc, ◌<◌, Bool, true, false, ◌||◌, ◌&&◌, List, [], ◌∷◌, ◌++◌, length, get_or, refl, sym, ◌∙◌, ap, arith}
use Rattle.std.specs.Prelude.{if◌then◌else◌, flat_map, filter, fold, bytes_eq, Option, None, Some, IsTrue, IsSome, All, AllPairs}
use Rattle.std.proofs.lemmas.Bool.{false≢true}
use Rattle.std.proofs.lemmas.List.Elements.{All-head, All-tail}
use Rattle.frac128.specs.Rational.{ℚ}
use Rattle.lp_model.specs.declared.types.Col.{Col}
use Rattle.mps_fields.specs.Numbers.{limit}
use Rattle.mps_sections.specs.declared.statements.BoundLine.{BoundLine}
use Rattle.mps_model.specs.Spans.{bounded}
use Rattle.mps_model.specs.Meaning.{start_span, span_of}
use Rattle.mps_model.specs.Faults.{is_none_of}
use Rattle.mps_model.specs.declared.spans.Span.{Span}
use Rattle.mps_writer.proofs.BoundsBack.{lower_stated, upper_stated}
use Rattle.mps_writer.proofs.ModelBack.{lower_set, upper_set, whole_span, bounds_back}
use Rattle.mps_writer.proofs.PairsBack.{Named}
use Rattle.mps_writer.proofs.ColumnPass.{column_at}
use Rattle.mps_writer.proofs.SetsPass.{stated_bounds}
use Rattle.mps_writer.proofs.NamePremises.{unequal, equal_self}

-- ---- the lines of a name

abbrev pub is_bound_of : List ℕ → BoundLine → Bool
is_bound_of name b = bytes_eq b.column name

lower_column : (name : List ℕ) (lo : Option ℚ) → (lower_stated name lo).column ≡ name
lower_column name None = refl
lower_column name (Some x) = refl

upper_column : (name : List ℕ) (up : Option ℚ) → (upper_stated name up).column ≡ name
upper_column name None = refl
upper_column name (Some x) = refl

two_kept : (p : BoundLine → Bool) (a b : BoundLine) (more : List BoundLine) (t : Bool) → p a ≡ t → p b ≡ t → filter p (a ∷ b ∷ more) ≡ (if t then a ∷ b ∷ filter p more else filter p more)
two_kept p a b more true e f = ap (λ t. if t then a ∷ filter p (b ∷ more) else filter p (b ∷ more)) e ∙ ap (λ t. a ∷ (if t then b ∷ filter p more else filter p more)) f
two_kept p a b more false e f = ap (λ t. if t then a ∷ filter p (b ∷ more) else filter p (b ∷ more)) e ∙ ap (λ t. if t then b ∷ filter p more else filter p more) f

-- both lines of a column have its name
both_kept : (name : List ℕ) (c : Col) (more : List BoundLine) (t : Bool) → bytes_eq c.name name ≡ t → filter (is_bound_of name) (stated_bounds c ++ more) ≡ (if t then stated_bounds c ++ filter (is_bound_of name) more else filter (is_bound_of name) more)
both_kept name c more t e =
    two_kept (is_bound_of name) (lower_stated c.name c.lo) (upper_stated c.name c.up) more t (ap (λ n. bytes_eq n name) (lower_column c.name c.lo) ∙ e) (ap (λ n. bytes_eq n name) (upper_column c.name c.up) ∙ e)

none_kept : (name : List ℕ) (cols : List Col) → All (λ (c : Col). c.name ≢ name) cols → filter (is_bound_of name) (flat_map stated_bounds cols) ≡ []
none_kept name [] h = refl
none_kept name (c ∷ cols) h =
    both_kept name c (flat_map stated_bounds cols) false (unequal c.name name (All-head (λ (d : Col). d.name ≢ name) c cols h))
    ∙ none_kept name cols (All-tail (λ (d : Col). d.name ≢ name) c cols h)

pub own_kept : (cols : List Col) (i : ℕ) (d : Col) → i < length cols → AllPairs (λ (a b : Col). a.name ≢ b.name) cols
    → filter (is_bound_of (get_or cols i d).name) (flat_map stated_bounds cols) ≡ stated_bounds (get_or cols i d)
own_kept [] i d below apart = absurd (omega (arith, below))
own_kept (c ∷ cols) zero d below apart =
    both_kept c.name c (flat_map stated_bounds cols) true (equal_self c.name)
    ∙ ap (λ more. stated_bounds c ++ more) (none_kept c.name cols (λ i e within. λ s. apart 0 (suc i) e (omega arith) (omega (arith, within)) (sym s)))
own_kept (c ∷ cols) (suc i) d below apart =
    let q = get_or cols i d in
    both_kept q.name c (flat_map stated_bounds cols) false (unequal c.name q.name (apart 0 (suc i) d (omega arith) below))
    ∙ own_kept cols i d (omega (arith, below)) (λ k l e first second. apart (suc k) (suc l) e (omega (arith, first)) (omega (arith, second)))

-- ---- its span

lower_step : (name : List ℕ) (lo : Option ℚ) (s : Span) → bounded s (lower_stated name lo).kind (lower_stated name lo).limit ≡ lower_set (limit name) lo s
lower_step name None s = refl
lower_step name (Some x) s = refl

upper_step : (name : List ℕ) (up : Option ℚ) (s : Span) → bounded s (upper_stated name up).kind (upper_stated name up).limit ≡ upper_set (limit name) up s
upper_step name None s = refl
upper_step name (Some x) s = refl

pub span_back : (bounds : List BoundLine) (c : Col) (line : ℕ) (pairs : List Named) → filter (is_bound_of c.name) bounds ≡ stated_bounds c → span_of bounds (column_at c.name line c.int pairs) ≡ whole_span c.int c.lo c.up
span_back bounds c line pairs kept =
    ap (λ (found : List BoundLine). fold (λ (span : Span) (b : BoundLine). bounded span b.kind b.limit) (start_span c.int) found) kept
    ∙ ap (λ (s : Span). bounded s (upper_stated c.name c.up).kind (upper_stated c.name c.up).limit) (lower_step c.name c.lo (start_span c.int))
    ∙ upper_step c.name c.up (lower_set (limit c.name) c.lo (start_span c.int))
    ∙ bounds_back (limit c.name) c.int c.lo c.up

abbrev pub bound_code : Bool → Option ℕ
bound_code bad = if bad then Some 24 else None

-- an integer column has two bounds
pub no_bound_code : (integer : Bool) (lower upper : Option ℚ) → (IsTrue integer → IsSome lower × IsSome upper) → bound_code (integer && (is_none_of lower || is_none_of upper)) ≡ None
no_bound_code false lower upper h = refl
no_bound_code true (Some x) (Some y) h = refl
no_bound_code true (Some x) None h = absurd (false≢true (h refl).1)
no_bound_code true None upper h = absurd (false≢true (h refl).0)
