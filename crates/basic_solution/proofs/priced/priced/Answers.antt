use Rattle.std.proofs.Common.{sym, ap, subst, ◌∙◌, ◌≡◌, ◌<◌, ◌≤◌, ◌-◌, get_or, pos, length, arith, ⊎_elim}
use Rattle.std.proofs.lemmas.Bool.{cases_eq}
use Rattle.std.proofs.lemmas.List.{get_or_past, get_or_default}
use Rattle.frac128.specs.Rational.{int}
use Rattle.basic_solution.specs.RowTotals.{AreFreeFrom}
use Rattle.basic_solution.proofs.priced.priced.Goals as goal

pub loop-end-init : goal.loop-end-init
loop-end-init c = record { within = omega arith; free = λ v past. get_or_past c.args.list.now v (int (pos 0)) past }

pub loop-end-preserved : goal.loop-end-preserved
loop-end-preserved c =
    let list = c.args.list.now in
    let end = c.loop-end.end in
    let some : 0 < end = c.loop-end-test.true in
    let within : end ≤ length list = c.loop-end.invariant.within in
    let there : end - 1 < length list = omega (arith, some, within) in
    let read = c.index-list-last.is ∙ get_or_default list (end - 1) c.index-list-last.result (int (pos 0)) there in
    let zero : get_or list (end - 1) (int (pos 0)) ≡ int (pos 0) = sym read ∙ c.is_zero.ensures.0 c.if-not-is_zero.false in
    record {
      within = omega (arith, within);
      free = λ v past. ⊎_elim (λ same. ap (λ k. get_or list k (int (pos 0))) same ∙ zero) (λ other. c.loop-end.invariant.free v (omega (arith, some, past, other))) (cases_eq v (end - 1));
    }

pub returns : goal.returns
returns c =
    let past = c.loop-end-test.false in
    let all : c.loop-end.end ≡ 0 = omega (arith, past) in
    record { within = omega arith; free = subst (AreFreeFrom c.args.list.now) all c.loop-end.invariant.free }
