-- One more bound line changes the kind and bounds of the column that it names, and of no other.
use Rattle.std.proofs.Common.{◌≡◌, ℕ, suc, ◌<◌, drop, Bool, true, false, List, [], ◌∷◌, ◌++◌, map, length, get_or, refl, sym, ◌∙◌, ap, subst}
use Rattle.std.specs.Prelude.{if◌then◌else◌, fold, filter, bytes_eq, Option, Some}
use Rattle.std.proofs.Math.ListN.{set}
use Rattle.std.proofs.Math.Seq.{drop-cons}
use Rattle.std.proofs.lemmas.Grind.{fold-append}
use Rattle.std.proofs.lemmas.List.Elements.{filter-append}
use Rattle.std.proofs.lemmas.Slice.Eq.{bytes_eq-Decides}
use Rattle.mps_text.specs.Text.{Flaw}
use Rattle.mps_fields.specs.Words.{among}
use Rattle.mps_sections.specs.Limits.{AreNamesApart, names_of_columns}
use Rattle.mps_sections.specs.declared.statements.BoundLine.{BoundLine}
use Rattle.mps_sections.specs.declared.statements.ColumnLines.{ColumnLines}
use Rattle.mps_sections.proofs.ListFacts.{bytes_eq-flips}
use Rattle.mps_model.specs.Spans.{bounded}
use Rattle.mps_model.specs.Meaning.{start_span, span_of}
use Rattle.mps_model.specs.Faults.{column_code, code_on, column_flaw}
use Rattle.mps_model.specs.private.Places.{IsFoundAt}
use Rattle.mps_model.specs.declared.spans.Span.{Span}
use Rattle.mps_model.proofs.BesideSteps.{mapped_at}
use Rattle.mps_model.proofs.NamedItems.{unnamed, named}

module _ (before : List BoundLine) (b : BoundLine) where
  next : Span → Span
  next span = bounded span b.kind b.limit

  last_bound : (t : Bool) (s : Span) → fold (λ span x. bounded span x.kind x.limit) s (if t then b ∷ [] else []) ≡ (if t then next s else s)
  unfolding next
  last_bound true s = refl
  last_bound false s = refl

  span_more : (c : ColumnLines) → span_of (before ++ b ∷ []) c ≡ (if bytes_eq b.column c.name then next (span_of before c) else span_of before c)
  span_more c =
      ap (fold (λ span x. bounded span x.kind x.limit) (start_span c.marked)) (filter-append (λ (x : BoundLine). bytes_eq x.column c.name) before (b ∷ []))
      ∙ fold-append (λ (span : Span) (x : BoundLine). bounded span x.kind x.limit) (start_span c.marked) (filter (λ (x : BoundLine). bytes_eq x.column c.name) before) (filter (λ (x : BoundLine). bytes_eq x.column c.name) (b ∷ []))
      ∙ last_bound (bytes_eq b.column c.name) (span_of before c)

  here : (c : ColumnLines) → c.name ≡ b.column → span_of (before ++ b ∷ []) c ≡ next (span_of before c)
  here c e = span_more c ∙ ap (λ t. if t then next (span_of before c) else span_of before c) ((bytes_eq-Decides b.column c.name).1 (sym e))

  other : (c : ColumnLines) → bytes_eq c.name b.column ≡ false → span_of (before ++ b ∷ []) c ≡ span_of before c
  other c e = span_more c ∙ ap (λ t. if t then next (span_of before c) else span_of before c) (bytes_eq-flips b.column c.name ∙ e)

  pub span_set : (columns : List ColumnLines) (names : List (List ℕ)) (spans : List Span) (k : ℕ) (x y : Span) → names ≡ names_of_columns columns → AreNamesApart names → IsFoundAt names b.column (Some k)
      → k < length columns → x ≡ get_or spans k x → y ≡ bounded x b.kind b.limit → spans ≡ map (span_of before) columns → set spans k y ≡ map (span_of (before ++ b ∷ [])) columns
  unfolding next
  span_set columns names spans k x y n apart found below old new e =
      ap (λ (all : List Span). set all k y) e
      ∙ named (λ (c : ColumnLines). c.name) (span_of before) (span_of (before ++ b ∷ [])) next b.column here other columns k x y (subst AreNamesApart n apart) below (ap (λ (ns : List (List ℕ)). get_or ns k []) (sym n) ∙ found.1)
      (old ∙ ap (λ (all : List Span). get_or all k x) e) new

  pub span_unset : (columns : List ColumnLines) (names : List (List ℕ)) (spans : List Span) → names ≡ names_of_columns columns → among names b.column ≡ false → spans ≡ map (span_of before) columns → spans ≡ map (span_of (before ++ b ∷ [])) columns
  span_unset columns names spans n none e =
      e ∙ unnamed (λ (c : ColumnLines). c.name) (span_of before) (span_of (before ++ b ∷ [])) next b.column here other columns (ap (λ (ns : List (List ℕ)). among ns b.column) (sym n) ∙ none)

-- the fault of a column with a code
abbrev pub flaw_here : ℕ → ColumnLines → Option Flaw
flaw_here code c = Some (record { line = c.line; code = code })

-- the fault from a column on: its own, or that of those behind it
pub flaw_at : (intupper : Option ℕ) (bounds : List BoundLine) (columns : List ColumnLines) (spans : List Span) (k : ℕ) (c : ColumnLines) (span : Span) (code : Option ℕ) → k < length columns → spans ≡ map (span_of bounds) columns → c ≡ get_or columns k c → span ≡ get_or spans k span → code ≡ column_code intupper span
    → column_flaw intupper bounds (drop k columns) ≡ code_on c.line code (column_flaw intupper bounds (drop (suc k) columns))
flaw_at intupper bounds columns spans k c span code below e is there found =
    ap (column_flaw intupper bounds) (drop-cons columns k c below ∙ ap (λ d. d ∷ drop (suc k) columns) (sym is))
    ∙ ap (λ x. code_on c.line x (column_flaw intupper bounds (drop (suc k) columns))) (ap (column_code intupper) (sym (mapped_at (span_of bounds) columns spans k c span below e is there)) ∙ sym found)
