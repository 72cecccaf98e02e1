-- The totals of a leaf's number that are kept: after the rows, after the cuts, and after each 64th column, as far as the first term
-- that is missing or whose step has no room.
--     Question                     what a number is asked of
--     AreTrueTotals q t            the kept totals are those of q, what they end in is so, and where a denominator is noted all terms are
--                                  short numbers over it, and the running total is the number
--     AreComplete q t              as many are kept as there are before the end
--     steps_left q t               how many terms stand behind the last one
use Rattle.std.specs.Prelude.{◌≡◌, ◌≢◌, ◌<◌, ◌≤◌, ◌+◌, ◌-◌, ◌*◌, ◌/◌, ℕ, zero, suc, ℤ, Bool, List, length, take, Option, Some, None, IfSome, Result}
use Rattle.frac128.specs.Rational.{ℚ}
use Rattle.whole_sums.specs.Wholes.{IsDenominator}
use Rattle.kept_totals.specs.Kept.{RunningTotals}
use Rattle.kept_totals.specs.declared.walk.Stop.{Stop}
use Rattle.kept_totals.specs.declared.walk.Stop.TheVariants as stop
use Rattle.kept_totals.specs.Walk.{AreReached, IsTotalAt, AllFrom}
use Rattle.lp_model.specs.Regions.{Path}
use Rattle.lp_model.specs.Formulations.{Formulation}
use Rattle.lp_model.specs.WideSteps.{Entry}
use Rattle.lp_model.specs.declared.types.Var.{Var}
use Rattle.lp_model.specs.declared.types.Var.TheVariants.{Col, Row, Cut}
use Rattle.lp_model.specs.declared.types.WideStep.{WideStep}
use Rattle.leaf_dual.specs.declared.dual.LagValue.{LagValue}
use Rattle.leaf_dual.specs.declared.leaf.Leaf.{Leaf}
use Rattle.leaf_dual.specs.declared.whole_leaf.WholeLeaf.{WholeLeaf}
use Rattle.leaf_dual.specs.Dual.{Multipliers, multiplier, cut_weight, row_side, cut_side, column_side, column_reduced_cost}
use Rattle.leaf_dual.specs.Answers.{row_number, cut_number, bound_number, rows_total, cuts_total, EntriesFit, IsFirstWideEntry, IsFirstWideTerm, IsFirstWidePlace, IsFirstWideStep, IsDualAnswer}
use Rattle.leaf_dual.specs.ShortTerms.{AreShortTerms}
use Rattle.leaf_dual.specs.Parts.{constant_of, cost_of, leaf_formulation, leaf_constant, costs, weights, cut_weights}
use Rattle.leaf_totals.specs.declared.end.End.{End}
use Rattle.leaf_totals.specs.declared.end.End.TheVariants.{Missing, Wide, WideEntry}
use Rattle.leaf_totals.specs.declared.keeping.LeafTotals.{LeafTotals}

-- ---- what is asked

-- of which formulation and region, under which multipliers of rows and weights of cuts, for which constant and costs
pub record Question : Type 0 where
  pub form : Formulation
  pub path : Path
  pub row_weights : ℕ → ℚ
  pub live_weights : ℕ → ℚ
  pub constant : ℚ
  pub costs : ℕ → ℚ

abbrev pub question_of : Leaf → Question
question_of leaf = record { form = leaf_formulation leaf; path = leaf.region.now; row_weights = weights leaf; live_weights = cut_weights leaf; constant = leaf_constant leaf; costs = costs leaf }

-- under a list, with the model's costs or with none
abbrev pub list_question : Formulation → Path → Multipliers → Bool → Question
list_question F path mult costed =
    record { form = F; path = path; row_weights = multiplier mult; live_weights = cut_weight F.cuts mult; constant = constant_of costed F.model; costs = cost_of costed F.model }

abbrev pub AnswersQuestion : Question → Result LagValue WideStep → Type 0
AnswersQuestion q r = IsDualAnswer q.form q.path q.row_weights q.live_weights q.constant q.costs r

abbrev pub IsFirstWideFor : Question → WideStep → Type 0
IsFirstWideFor q step = IsFirstWideStep q.form q.path q.row_weights q.live_weights q.constant q.costs step

-- ---- the terms that are there

abbrev pub HasSideOfRow : Question → ℕ → Type 0
HasSideOfRow q i = row_side q.form.model q.row_weights i ≢ None

abbrev pub HasSideOfCut : Question → ℕ → Type 0
HasSideOfCut q k = cut_side q.form.cuts q.live_weights k ≢ None

-- each step of the column's reduced cost has room, and its bound is there
abbrev pub HasTermOfColumn : Question → ℕ → Type 0
HasTermOfColumn q j = EntriesFit q.form q.row_weights q.live_weights q.costs j × (column_side q.form q.path q.row_weights q.live_weights q.costs j ≢ None)

-- ---- the totals

abbrev pub rows_start : Question → ℚ
rows_start q = q.constant

abbrev pub cuts_start : Question → ℚ
cuts_start q = rows_total q.form.model q.row_weights q.constant

abbrev pub columns_start : Question → ℚ
columns_start q = cuts_total q.form q.row_weights q.live_weights q.constant

abbrev pub asked_reduced : Question → ℕ → ℚ
asked_reduced q = column_reduced_cost q.form q.row_weights q.live_weights q.costs

abbrev pub asked_bound : Question → ℕ → ℚ
asked_bound q = bound_number q.form q.path q.row_weights q.live_weights q.costs

-- v is the total before row i, cut k, column j; all terms before it are there, and their steps have room
abbrev pub IsBeforeRow : Question → ℕ → ℚ → Type 0
IsBeforeRow q i v = IsTotalAt (rows_start q) q.row_weights (row_number q.form.model q.row_weights) (HasSideOfRow q) i v

abbrev pub AreRowsReached : Question → Type 0
AreRowsReached q = AreReached (rows_start q) q.row_weights (row_number q.form.model q.row_weights) (HasSideOfRow q) (length q.form.model.rows)

abbrev pub IsBeforeCut : Question → ℕ → ℚ → Type 0
IsBeforeCut q k v = IsTotalAt (cuts_start q) q.live_weights (cut_number q.form.cuts q.live_weights) (HasSideOfCut q) k v

abbrev pub AreCutsReached : Question → Type 0
AreCutsReached q = AreReached (cuts_start q) q.live_weights (cut_number q.form.cuts q.live_weights) (HasSideOfCut q) (length q.form.cuts)

abbrev pub IsBeforeColumn : Question → ℕ → ℚ → Type 0
IsBeforeColumn q j v = IsTotalAt (columns_start q) (asked_reduced q) (asked_bound q) (HasTermOfColumn q) j v

-- the kept total at a place: after the rows, after the cuts and no column, after 64 columns, ..
abbrev pub IsKeptTotal : Question → ℕ → ℚ → Type 0
IsKeptTotal q zero v = IsBeforeRow q (length q.form.model.rows) v
IsKeptTotal q (suc b) v = AreRowsReached q × (AreCutsReached q × IsBeforeColumn q (64 * b) v)

abbrev pub AreKeptTotals : Question → List ℚ → Type 0
AreKeptTotals q kept = AllFrom (IsKeptTotal q) 0 kept

-- how many there are where no term is missing and each step has room
abbrev pub kept_most : Question → ℕ
kept_most q = length q.form.model.cols / 64 + 2

-- how many terms stand behind so many of them
abbrev pub terms_behind : Question → ℕ → ℕ
terms_behind q zero = length q.form.model.rows + (length q.form.cuts + length q.form.model.cols)
terms_behind q (suc zero) = length q.form.cuts + length q.form.model.cols
terms_behind q (suc (suc b)) = length q.form.model.cols - 64 * b

-- ---- what they end in

-- the term of the row, of the cut or of the column lacks its side or bound
abbrev pub IsMissingTerm : Question → Var → Type 0
IsMissingTerm q (Row row) = (row.0 < length q.form.model.rows) × (row_side q.form.model q.row_weights row.0 ≡ None)
IsMissingTerm q (Cut cut) = (cut.0 < length q.form.cuts) × (cut_side q.form.cuts q.live_weights cut.0 ≡ None)
IsMissingTerm q (Col col) =
    (col.0 < length q.form.model.cols)
    × (EntriesFit q.form q.row_weights q.live_weights q.costs col.0 × (column_side q.form q.path q.row_weights q.live_weights q.costs col.0 ≡ None))

-- the walk ends in this term, which is missing, or in the first step that has no room
abbrev pub IsTermsEnd : Question → End → Type 0
IsTermsEnd q (Missing of) = IsMissingTerm q of
IsTermsEnd q (Wide of) = IsFirstWideTerm q.form q.path q.row_weights q.live_weights q.constant q.costs of
IsTermsEnd q (WideEntry col by) = IsFirstWidePlace q.form q.path q.row_weights q.live_weights q.constant q.costs (Entry col.0 by)

abbrev pub IsEnding : Question → Option End → Type 0
IsEnding q None = Unit {0}
IsEnding q (Some end) = IsTermsEnd q end

-- all terms of a question are short numbers over a denominator
abbrev pub AreShortFor : ℤ → Question → Type 0
AreShortFor d q = AreShortTerms d q.form q.path q.row_weights q.live_weights q.constant q.costs

-- all terms are there, each step has room, and the total is that of all; all totals are kept
pub record AreAllAdded (q : Question) (t : RunningTotals) : Type 0 where
  pub rows : AreRowsReached q
  pub cuts : AreCutsReached q
  pub columns : IsBeforeColumn q (length q.form.model.cols) t.total
  pub count : length t.kept ≡ kept_most q

-- all were added, so that the running total is the number, and each is a short number over d
pub record IsSumOfShortTerms (q : Question) (t : LeafTotals) (d : ℤ) : Type 0 where
  pub denominator : IsDenominator d
  pub terms : AreShortFor d q
  pub added : AreAllAdded q t.totals
  pub ended : t.ending ≡ None

pub record AreTrueTotals (q : Question) (t : LeafTotals) : Type 0 where
  pub kept : AreKeptTotals q t.totals.kept
  pub few : length t.totals.kept ≤ kept_most q
  pub ending : IsEnding q t.ending
  pub over : IfSome t.over (IsSumOfShortTerms q t)

-- ---- how many are kept

-- before the term of a variable
abbrev pub kept_before : Var → ℕ
kept_before (Row row) = 0
kept_before (Cut cut) = 1
kept_before (Col col) = col.0 / 64 + 2

abbrev pub kept_at : End → ℕ
kept_at (Missing of) = kept_before of
kept_at (Wide of) = kept_before of
kept_at (WideEntry col by) = col.0 / 64 + 2

-- those before the end, and all where there is none
abbrev pub kept_to : Question → Option End → ℕ
kept_to q None = kept_most q
kept_to q (Some end) = kept_at end

abbrev pub AreComplete : Question → LeafTotals → Type 0
AreComplete q t = length t.totals.kept ≡ kept_to q t.ending

-- ---- what is left to be added

-- none where it is known what they end in
abbrev pub left_behind : Question → ℕ → Option End → ℕ
left_behind q count None = terms_behind q count
left_behind q count (Some end) = 0

abbrev pub steps_left : Question → LeafTotals → ℕ
steps_left q t = left_behind q (length t.totals.kept) t.ending

-- ---- the walk

-- that of a leaf in whole numbers
abbrev pub question_by : WholeLeaf → Question
question_by whole = question_of whole.leaf

-- what a stop at a row or a cut is
abbrev pub row_end : Stop → End
row_end (stop.Missing i) = Missing (Row (record { 0 = i }))
row_end (stop.Wide i) = Wide (Row (record { 0 = i }))

abbrev pub cut_end : Stop → End
cut_end (stop.Missing k) = Missing (Cut (record { 0 = k }))
cut_end (stop.Wide k) = Wide (Cut (record { 0 = k }))

-- and at a column: where its term is missing, its bound is, or a step of its reduced cost has no room
abbrev pub IsColumnEnd : Question → Stop → End → Type 0
IsColumnEnd q (stop.Missing j) (Missing of) = (of ≡ Col (record { 0 = j })) × EntriesFit q.form q.row_weights q.live_weights q.costs j
IsColumnEnd q (stop.Missing j) (Wide of) = ⊥
IsColumnEnd q (stop.Missing j) (WideEntry col by) = (col ≡ record { 0 = j }) × IsFirstWideEntry q.form q.row_weights q.live_weights q.costs j by
IsColumnEnd q (stop.Wide j) end = end ≡ Wide (Col (record { 0 = j }))

-- those before the end are kept
pub record IsEndedBy (q : Question) (t : RunningTotals) (end : End) : Type 0 where
  pub ends : IsTermsEnd q end
  pub count : length t.kept ≡ kept_at end

-- ---- what an edit leaves of them

-- the first k of them, and no end
pub record AreCutTo (k : ℕ) (old new : LeafTotals) : Type 0 where
  pub kept : new.totals.kept ≡ take k old.totals.kept
  pub ending : new.ending ≡ None
  pub over : new.over ≡ None
  pub room : new.totals.room ≡ old.totals.room
