use Rattle.std.proofs.Common.{◌≡◌, ◌<◌, ◌+◌, ◌∙◌, ◌++◌, [], ◌∷◌, ℕ, sym, ap, subst, arith, length, pos, below_more}
use Rattle.std.proofs.lemmas.List.{get_or_push, get_or_append_left, length-append}
use Rattle.frac128.specs.Rational.{int}
use Rattle.lp_model.specs.Program.{coordinate}
use Rattle.table_entries.specs.Relaxation.{point}
use Rattle.basic_solution.specs.Held.{relaxation, state, table}
use Rattle.basic_solution.specs.Numbers.{NumberFits}
use Rattle.basic_solution.proofs.sided.SidedBasis.point_list.Goals as goal

pub loop-column-init : goal.loop-column-init
loop-column-init c = record { size = ap length c.new-list.ensures; numbers = λ j below. absurd (omega (arith, below)); fits = λ j below. absurd (omega (arith, below)) }

pub listed_number-requires-clause-variable : goal.listed_number-requires-clause-variable
listed_number-requires-clause-variable c =
    let less = c.loop-column-test.true in let f = c.columns-column-end.ensures.value in omega (arith, less, f)

pub loop-column-preserved : goal.loop-column-preserved
loop-column-preserved c =
    let s = c.args.self.now in
    let xs = c.loop-column.list in
    let x = c.in-Ok.number in
    let inv = c.loop-column.invariant in
    let pushed = c.in-Ok-push.ensures.pushed in
    record {
      size = ap length pushed ∙ length-append xs (x ∷ []) ∙ ap (λ n. n + 1) inv.size;
      numbers = subst (λ ys. (j : ℕ) → j < c.loop-column.column + 1 → coordinate ys j ≡ point (relaxation s) (table s) (state s).at j) (sym pushed)
          (below_more (λ j. coordinate (xs ++ x ∷ []) j ≡ point (relaxation s) (table s) (state s).at j) c.loop-column.column
          (λ j q. get_or_append_left xs (x ∷ []) (int (pos 0)) j (let e = inv.size in omega (arith, q, e)) ∙ inv.numbers j q)
          (get_or_push xs x (int (pos 0)) c.loop-column.column inv.size ∙ c.in-Ok.ensures.1));
      fits = below_more (NumberFits s) c.loop-column.column inv.fits c.in-Ok.ensures.0;
    }

pub returns-in-Err : goal.returns-in-Err
returns-in-Err c =
    let s = c.args.self.now in
    let within : c.loop-column.column < s.tableau.columns = let less = c.loop-column-test.true in let f = c.columns-column-end.ensures.value in omega (arith, less, f) in
    record { column = c.loop-column.column; within = within; before = c.loop-column.invariant.fits; wide = c.in-Err.ensures }

pub returns : goal.returns
returns c =
    let s = c.args.self.now in
    let inv = c.loop-column.invariant in
    let whole : c.loop-column.column ≡ s.tableau.columns = let past = c.loop-column-test.false in let most = c.loop-column.auto.column-end in let f = c.columns-column-end.ensures.value in omega (arith, past, most, f) in
    let all : (j : ℕ) → j < s.tableau.columns → j < c.loop-column.column = λ j w. omega (arith, whole, w) in
    (record { size = inv.size ∙ whole; numbers = λ j w. inv.numbers j (all j w) }, (λ j w. inv.fits j (all j w)))
