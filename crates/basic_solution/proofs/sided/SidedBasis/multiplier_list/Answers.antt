use Rattle.std.proofs.Common.{◌≡◌, ◌<◌, ◌≤◌, sym, subst, arith, below_more}
use Rattle.table_entries.specs.Relaxation.{multipliers}
use Rattle.basic_solution.specs.Held.{relaxation, table, variables}
use Rattle.basic_solution.specs.Numbers.{MultiplierFits}
use Rattle.basic_solution.specs.private.Lists.{AreMultipliersBelow}
use Rattle.basic_solution.proofs.ListLemmas.{multipliers_none, multipliers_all}
use Rattle.basic_solution.proofs.sided.SidedBasis.multiplier_list.Goals as goal

pub loop-variable-init : goal.loop-variable-init
loop-variable-init c =
    let s = c.args.self.now in
    let y = multipliers (relaxation s) (table s) (relaxation s).cost in
    let columns_is = c.columns-columns.ensures.value in
    record {
      listed = subst (AreMultipliersBelow s y c.columns-columns.result) (sym c.new-list.ensures) (multipliers_none s y c.columns-columns.result columns_is);
      fits = λ u below from. absurd (omega (arith, below, from, columns_is));
    }

pub add_multiplier-requires-clause-activity : goal.add_multiplier-requires-clause-activity
add_multiplier-requires-clause-activity c =
    let a = c.loop-variable.auto.variable in subst (λ n. n ≤ c.loop-variable.variable) c.columns-columns.ensures.value a

pub add_multiplier-requires-clause-within : goal.add_multiplier-requires-clause-within
add_multiplier-requires-clause-within c = let less = c.loop-variable-test.true in let e = c.variables-variable-end.ensures in omega (arith, less, e)

pub loop-variable-preserved : goal.loop-variable-preserved
loop-variable-preserved c =
    let s = c.args.self.now in
    let v = c.loop-variable.variable in
    let y = multipliers (relaxation s) (table s) (relaxation s).cost in
    let before = c.loop-variable.invariant in
    record {
      listed = c.in-Ok-add_multiplier.ensures y c.in-Ok.ensures.1 before.listed;
      fits = below_more (λ u. s.tableau.columns ≤ u → MultiplierFits s u) v before.fits (λ _. c.in-Ok.ensures.0);
    }

pub returns-in-Err : goal.returns-in-Err
returns-in-Err c =
    let s = c.args.self.now in
    let v = c.loop-variable.variable in
    let first : s.tableau.columns ≤ v = let a = c.loop-variable.auto.variable in subst (λ n. n ≤ v) c.columns-columns.ensures.value a in
    let within : v < variables s = let less = c.loop-variable-test.true in let e = c.variables-variable-end.ensures in omega (arith, less, e) in
    record { activity = v; behind = first; within = within; before = λ u from q. c.loop-variable.invariant.fits u q from; wide = c.in-Err.ensures }

pub returns : goal.returns
returns c =
    let s = c.args.self.now in
    let v = c.loop-variable.variable in
    let y = multipliers (relaxation s) (table s) (relaxation s).cost in
    let inv = c.loop-variable.invariant in
    let columns_is = c.columns-columns.ensures.value in
    let whole : v ≡ variables s = let past = c.loop-variable-test.false in let most = c.loop-variable.auto.variable-end in let e = c.variables-variable-end.ensures in omega (arith, past, most, e, columns_is) in
    (multipliers_all s y v whole c.loop-variable.list inv.listed, (λ u from q. inv.fits u (omega (arith, whole, q)) from))
