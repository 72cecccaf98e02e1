use Rattle.std.proofs.Common.{◌<◌, sym, ap, subst, arith, get_or, below_more}
use Rattle.table_entries.specs.declared.stand.Stand.TheVariants.{Free}
use Rattle.row_tableau.specs.Variables.{numbers}
use Rattle.basic_solution.specs.Held.{relaxation, table}
use Rattle.basic_solution.specs.ListedStates.{IsStandBy}
use Rattle.basic_solution.proofs.AskedLemmas.{restood_trans}
use Rattle.basic_solution.proofs.ListedLemmas.{restood_stand}
use Rattle.basic_solution.proofs.sided.SidedBasis.stand_by.Goals as goal

pub loop-place-preserved : goal.loop-place-preserved
loop-place-preserved c =
    let inv = c.loop-place.invariant in
    let place = c.loop-place.place in
    let high = c.args.high.now in
    let old = c.args.self.now in
    let new = c.set_stand.new.self in
    let stand = c.named_stand-stand.result in
    record {
      same = restood_trans old c.loop-place.self new inv.same c.set_stand.ensures.same;
      stands = below_more (λ k. IsStandBy (relaxation old) (numbers old.tableau high) ((table old).nonbasic k) (get_or new.stands k Free)) place
          (λ k q. subst (λ st. IsStandBy (relaxation old) (numbers old.tableau high) ((table old).nonbasic k) st) (sym (c.set_stand.ensures.others k (λ e. omega (arith, q, e)))) (inv.stands k q))
          (subst (λ st. IsStandBy (relaxation old) (numbers old.tableau high) ((table old).nonbasic place) st) (sym c.set_stand.ensures.here)
          (subst (λ u. IsStandBy (relaxation u) (numbers u.tableau high) ((table u).nonbasic place) stand) inv.same c.named_stand-stand.ensures));
    }

pub returns-clause-stands : goal.returns-clause-stands
returns-clause-stands c = λ k w.
    let inv = c.loop-place.invariant in
    let same = ap (λ s. s.tableau.columns) inv.same in
    let within : k < c.loop-place.place = let past = c.loop-place-test.false in let f = c.columns-place-end.ensures.value in omega (arith, past, f, same, w) in
    restood_stand c.args.high.now c.args.self.now c.loop-place.self inv.same k (inv.stands k within)
