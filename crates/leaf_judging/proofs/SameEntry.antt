-- What is kept of a leaf depends on its region by the bounds alone.
use Rattle.std.specs.Prelude.{◌≡◌, ℕ, ℤ, Bool, true, false, [], ◌∷◌, length}
use Rattle.std.proofs.Common.{refl, sym, subst, ◌∙◌, arith}
use Rattle.frac128.specs.Rational.{ℚ}
use Rattle.checked_sum.specs.Steps.{StepFitsAt, AllFit, partial}
use Rattle.kept_totals.specs.Short.{AreShortProducts}
use Rattle.lp_model.specs.Regions.{Path}
use Rattle.lp_model.specs.Formulations.{Formulation}
use Rattle.lp_model.specs.declared.types.Var.TheVariants.{Col, Row, Cut}
use Rattle.tight_regions.specs.SameBounds.{SameBounds}
use Rattle.leaf_dual.specs.Dual.{Multipliers, multiplier, cut_weight, column_reduced_cost}
use Rattle.leaf_dual.specs.Answers.{bound_number, cuts_total, IsReachedColumn}
use Rattle.leaf_dual.specs.Parts.{constant_of, cost_of}
use Rattle.leaf_dual.proofs.SameRegion.{empty-same, side-same}
use Rattle.leaf_dual.proofs.SameRegion as region
use Rattle.leaf_totals.specs.declared.end.End.{End}
use Rattle.leaf_totals.specs.declared.end.End.TheVariants.{Missing, Wide, WideEntry}
use Rattle.leaf_totals.specs.declared.keeping.LeafTotals.{LeafTotals}
use Rattle.leaf_totals.specs.Keeping.{list_question, IsBeforeColumn, IsTermsEnd, IsSumOfShortTerms}
use Rattle.leaf_totals.specs.Likeness.{AreLikeTo, question_with}
use Rattle.leaf_judging.specs.declared.entry.LeafEntry.{LeafEntry}
use Rattle.leaf_judging.specs.Totals.{AreListTotals, AreFarkasTotals, IsEntryOf}
use Rattle.leaf_judging.proofs.LikeEntries.{like-ready, like-complete}
use Rattle.leaf_judging.proofs.SameNumber.{number-same}

module _ (F : Formulation) (R P : Path) (s : SameBounds R P) (y z c : ℕ → ℚ) (c₀ : ℚ) where
  abbrev start : ℚ
  start = cuts_total F y z c₀

  numbers-same : bound_number F R y z c ≡ bound_number F P y z c
  numbers-same = region.number-same F R P s y z c

  before-same : (k : ℕ) (v : ℚ) → IsBeforeColumn (question_with F R y z c₀ c) k v → IsBeforeColumn (question_with F P y z c₀ c) k v
  before-same k v at = record {
    reached = record {
      fits = subst (λ b. AllFit start (column_reduced_cost F y z c) b k) numbers-same at.reached.fits;
      all = λ j below. let has = at.reached.all j below in (has.0, λ e. has.1 (side-same F R P s y z c j ∙ e));
    };
    is = subst (λ b. v ≡ partial start (column_reduced_cost F y z c) b k) numbers-same at.is;
  }

  reached-same : (j : ℕ) → IsReachedColumn F R y z c₀ c j → IsReachedColumn F P y z c₀ c j
  reached-same j r = record {
    rows = r.rows;
    cuts = r.cuts;
    within = r.within;
    before = λ k below. record { entries = (r.before k below).entries; term = subst (λ b. StepFitsAt start (column_reduced_cost F y z c) b k) numbers-same (r.before k below).term };
  }

  ends-same : (e : End) → IsTermsEnd (question_with F R y z c₀ c) e → IsTermsEnd (question_with F P y z c₀ c) e
  ends-same (Missing (Row row)) h = h
  ends-same (Missing (Cut cut)) h = h
  ends-same (Missing (Col col)) h = (h.0, (h.1.0, sym (side-same F R P s y z c col.0) ∙ h.1.1))
  ends-same (Wide (Row row)) h = h
  ends-same (Wide (Cut cut)) h = h
  ends-same (Wide (Col col)) h = (reached-same col.0 h.0, h.1, λ t. h.2 (subst (λ b. StepFitsAt start (column_reduced_cost F y z c) b col.0) (sym numbers-same) t))
  ends-same (WideEntry col by) h = (reached-same col.0 h.0, h.1)

  like-region : AreLikeTo (length F.model.cols) (question_with F R y z c₀ c) (question_with F P y z c₀ c)
  like-region = record {
    before = omega arith;
    within = omega arith;
    rows = λ h. h;
    rows_total = refl;
    cuts = λ h. h;
    cuts_total = refl;
    columns = λ k v within at. before-same k v at;
    ends = λ e before h. ends-same e h;
  }

  short-region : (t : LeafTotals) (over : ℤ) → IsSumOfShortTerms (question_with F R y z c₀ c) t over → IsSumOfShortTerms (question_with F P y z c₀ c) t over
  short-region t over h = record {
    denominator = h.denominator;
    terms = record {
      start = h.terms.start;
      rows = h.terms.rows;
      cuts = h.terms.cuts;
      columns = subst (λ b. AreShortProducts over (column_reduced_cost F y z c) b (length F.model.cols)) numbers-same h.terms.columns;
    };
    added = record { rows = h.added.rows; cuts = h.added.cuts; columns = before-same (length F.model.cols) t.totals.total h.added.columns; count = h.added.count };
    ended = h.ended;
  }

module _ (F : Formulation) (R P : Path) (s : SameBounds R P) where
  like-list : (mult : Multipliers) (costed : Bool) → AreLikeTo (length F.model.cols) (list_question F R mult costed) (list_question F P mult costed)
  like-list mult costed = like-region F R P s (multiplier mult) (cut_weight F.cuts mult) (cost_of costed F.model) (constant_of costed F.model)

  short-list : (mult : Multipliers) (costed : Bool) (t : LeafTotals) (over : ℤ) → IsSumOfShortTerms (list_question F R mult costed) t over → IsSumOfShortTerms (list_question F P mult costed) t over
  short-list mult costed = short-region F R P s (multiplier mult) (cut_weight F.cuts mult) (cost_of costed F.model) (constant_of costed F.model)

  totals-same : (mult : Multipliers) (costed : Bool) (t : LeafTotals) → AreListTotals F R mult costed t → AreListTotals F P mult costed t
  totals-same mult costed t h = record {
    ready = like-ready (list_question F R mult costed) (list_question F P mult costed) refl (like-list mult costed) t (short-list mult costed t) h.ready;
    room = h.room;
  }

  farkas-same : (mult : Multipliers) (t : LeafTotals) → AreFarkasTotals F R mult t → AreFarkasTotals F P mult t
  farkas-same [] t h = h
  farkas-same (m ∷ ms) t h = (
    totals-same (m ∷ ms) false t h.0,
    λ some. like-complete (list_question F R (m ∷ ms) false) (list_question F P (m ∷ ms) false) refl (like-list (m ∷ ms) false) t (h.1 (λ empty. some (empty-same F.model R P s empty))),
  )

pub entry-same : (F : Formulation) (R P : Path) → SameBounds R P → (mult farkas : Multipliers) (e : LeafEntry) → IsEntryOf F R mult farkas e → IsEntryOf F P mult farkas e
entry-same F R P s mult farkas e h = record {
  number = number-same F R P s mult farkas e.number h.number;
  lag = totals-same F R P s mult true e.lag h.lag;
  refuting = farkas-same F R P s farkas e.farkas h.refuting;
  complete = λ some. like-complete (list_question F R mult true) (list_question F P mult true) refl (like-list F R P s mult true) e.lag (h.complete some);
}
