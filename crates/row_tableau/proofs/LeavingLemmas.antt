-- The first of the rows that may leave, row by row.
use Rattle.std.specs.Prelude.{◌≡◌, ◌↔◌, ℕ, ◌+◌, ◌≤◌, pos, Bool, true, false, not, IsTrue, List, Some, None}
use Rattle.std.proofs.Common.{refl, arith, below_more}
use Rattle.std.proofs.lemmas.Bool.{false≢true}
use Rattle.frac128.specs.Rational.{int}
use Rattle.table_entries.specs.Relaxation.{Table}
use Rattle.table_entries.specs.Bases.{Lists, MayLeave}
use Rattle.row_tableau.specs.Dense.{Dense, table_of}
use Rattle.row_tableau.specs.private.Answers.{IsFirstLeaving}

module _ (t : Dense) (list : List ℕ) (place row : ℕ) where
  abbrev d : Table
  d = table_of t

  pub none_leaves : IsFirstLeaving t list place row None → ¬ (MayLeave list d place row) → IsFirstLeaving t list place (row + 1) None
  none_leaves none stays = below_more (λ i. ¬ (MayLeave list d place i)) row none stays

  pub one_leaves : IsFirstLeaving t list place row None → MayLeave list d place row → IsFirstLeaving t list place (row + 1) (Some row)
  one_leaves none may = (
    omega arith,
    may,
    below_more (λ i. MayLeave list d place i → d.basic row ≤ d.basic i) row (λ i q m. absurd (none i q m)) (λ m. omega arith),
  )

  module _ (other : ℕ) (before : IsFirstLeaving t list place row (Some other)) where
    pub other_leaves : (MayLeave list d place row → d.basic other ≤ d.basic row) → IsFirstLeaving t list place (row + 1) (Some other)
    other_leaves first = (
      (let w = before.0 in omega (arith, w)),
      before.1,
      below_more (λ i. MayLeave list d place i → d.basic other ≤ d.basic i) row before.2 first,
    )

    pub lesser_leaves : ¬ (d.basic other ≤ d.basic row) → MayLeave list d place row → IsFirstLeaving t list place (row + 1) (Some row)
    lesser_leaves lesser may = (
      omega arith,
      may,
      below_more (λ i. MayLeave list d place i → d.basic row ≤ d.basic i) row (λ i q m. let a = before.2 i q m in omega (arith, a, lesser)) (λ m. omega arith),
    )

-- an unlisted variable may leave where its entry is not 0
pub unlisted_leaves : (list : List ℕ) (d : Table) (place row : ℕ) (zero : Bool) → ¬ (Lists list (d.basic row)) → IsTrue zero ↔ d.entry row place ≡ int (pos 0) → IsTrue (not zero) ↔ MayLeave list d place row
unlisted_leaves list d place row true unlisted is = ((λ t. absurd (false≢true t)), (λ m. absurd (m.some (is.0 refl))))
unlisted_leaves list d place row false unlisted is = ((λ _. record { unlisted = unlisted; some = λ e. false≢true (is.1 e) }), (λ _. refl))
