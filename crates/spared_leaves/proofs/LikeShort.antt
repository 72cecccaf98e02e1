-- Numbers whose terms are known to be short over one denominator, in models and cuts that give a leaf the same answers.
use Rattle.std.specs.Prelude.{◌≡◌, ◌≢◌, ℕ, ◌+◌, ◌/◌, ◌<◌, ◌≤◌, ℤ, List, length, pos, None}
use Rattle.std.proofs.Common.{sym, ap, subst, ◌∙◌, inl, inr, arith}
use Rattle.frac128.specs.Rational.{ℚ, int, ◌*ℚ◌}
use Rattle.whole_sums.specs.Wholes.{IsDenominator}
use Rattle.whole_sums.proofs.SumLemmas.{zero_over}
use Rattle.kept_totals.specs.Short.{IsShortFraction, AreShortProducts}
use Rattle.lp_model.specs.Program.{Program}
use Rattle.lp_model.specs.Regions.{Path}
use Rattle.lp_model.specs.Formulations.{formulation}
use Rattle.lp_model.specs.declared.types.CutRow.{CutRow}
use Rattle.leaf_dual.specs.Dual.{column_reduced_cost, column_side}
use Rattle.leaf_dual.specs.Answers.{row_number, cut_number, bound_number, cuts_total, ColumnsFit}
use Rattle.leaf_totals.specs.declared.keeping.LeafTotals.{LeafTotals}
use Rattle.leaf_totals.specs.Keeping.{Question, IsSumOfShortTerms, AreShortFor, AreAllAdded}
use Rattle.leaf_totals.specs.Likeness.{AreLikeTo, question_with}
use Rattle.spared_leaves.specs.Questions.{IsLikeQuestion}
use Rattle.spared_leaves.specs.Laws.{LikeShortLaw}
use Rattle.spared_leaves.proofs.LikeTerms.{IsLikeTerm, product-none, partial-like}
use Rattle.spared_leaves.proofs.LikeQuestions.{side-like, quiet-there, row_terms, cut_terms, cuts_total-like, column_terms, all_columns-like}
use Rattle.spared_leaves.proofs.LikeTotals.{like_totals}

-- ---- short terms

none_short : (d : ℤ) (v : ℚ) → IsDenominator d → v ≡ int (pos 0) → IsShortFraction d v
none_short d v is none = record { number = pos 0; short = omega arith; is = none ∙ sym (zero_over d is.positive) }

short-like : (d : ℤ) → IsDenominator d → (a x b w : ℕ → ℚ) (n m : ℕ) → ((k : ℕ) → IsLikeTerm a x b w n m k) → AreShortProducts d a x n → AreShortProducts d b w m
short-like d is a x b w n m like short k below = elim (like k) [
  | inl same ↦ subst (IsShortFraction d) (λ i. same.0 i *ℚ same.1.0 i) (short k (same.1.1.1 below))
  | inr quiet ↦ none_short d (b k *ℚ w k) is (product-none b w k (quiet.1 below))
]

-- ---- the number

module _ (M N : Program) (path : Path) (cuts others : List CutRow) (y z c d : ℕ → ℚ) (c₀ : ℚ) (q : IsLikeQuestion M N path cuts others y z c d) (more : length M.cols ≤ length N.cols) (blocks : length M.cols / 64 ≡ length N.cols / 64) where
  abbrev old : Question
  old = question_with (formulation M cuts) path y z c₀ c

  abbrev new : Question
  new = question_with (formulation N others) path y z c₀ d

  like : AreLikeTo (length M.cols) old new
  like = like_totals M N path cuts others y z c d c₀ q more

  there : (j : ℕ) → j < length N.cols → ((k : ℕ) → k < length M.cols → column_side (formulation M cuts) path y z c k ≢ None) → column_side (formulation N others) path y z d j ≢ None
  there j below all = elim (q.columns_are j) [
    | inl same ↦ λ e. all j (same.there.1 below) (side-like M N path cuts others y z c d c₀ q j same ∙ e)
    | inr quiet ↦ quiet-there (formulation N others) path y z d j (quiet.1 below)
  ]

  module _ (t : LeafTotals) (over : ℤ) (h : IsSumOfShortTerms old t over) where
    own : ColumnsFit (formulation M cuts) path y z c (cuts_total (formulation M cuts) y z c₀) (length M.cols)
    own j below = record { entries = (h.added.columns.reached.all j below).0; term = h.added.columns.reached.fits j below }

    fit : ColumnsFit (formulation N others) path y z d (cuts_total (formulation N others) y z c₀) (length N.cols)
    fit = all_columns-like M N path cuts others y z c d c₀ q own

    added : AreAllAdded new t.totals
    added = record {
      rows = like.rows h.added.rows;
      cuts = like.cuts h.added.cuts;
      columns = record {
        reached = record {
          fits = λ j below. (fit j below).term;
          all = λ j below. ((fit j below).entries, there j below (λ k within. (h.added.columns.reached.all k within).1));
        };
        is = h.added.columns.is
            ∙ partial-like (column_reduced_cost (formulation M cuts) y z c) (bound_number (formulation M cuts) path y z c) (column_reduced_cost (formulation N others) y z d) (bound_number (formulation N others) path y z d)
            (length M.cols) (length N.cols) (column_terms M N path cuts others y z c d c₀ q) (cuts_total (formulation M cuts) y z c₀) (cuts_total (formulation N others) y z c₀) (cuts_total-like M N path cuts others y z c d c₀ q);
      };
      count = h.added.count ∙ ap (λ n. n + 2) blocks;
    }

    terms : AreShortFor over new
    terms = record {
      start = h.terms.start;
      rows = short-like over h.denominator y (row_number M y) y (row_number N y) (length M.rows) (length N.rows) (row_terms M N path cuts others y z c d c₀ q) h.terms.rows;
      cuts = short-like over h.denominator z (cut_number cuts z) z (cut_number others z) (length cuts) (length others) (cut_terms M N path cuts others y z c d c₀ q) h.terms.cuts;
      columns = short-like over h.denominator (column_reduced_cost (formulation M cuts) y z c) (bound_number (formulation M cuts) path y z c) (column_reduced_cost (formulation N others) y z d) (bound_number (formulation N others) path y z d)
          (length M.cols) (length N.cols) (column_terms M N path cuts others y z c d c₀ q) h.terms.columns;
    }

    pub short_like : IsSumOfShortTerms new t over
    short_like = record { denominator = h.denominator; terms = terms; added = added; ended = h.ended }

pub like_short : LikeShortLaw
like_short M N path cuts others y z c d c₀ q more blocks t over h = short_like M N path cuts others y z c d c₀ q more blocks t over h
