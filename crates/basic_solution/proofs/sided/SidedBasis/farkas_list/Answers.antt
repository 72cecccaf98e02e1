use Rattle.std.proofs.Common.{◌≡◌, ◌≤◌, sym, subst, arith}
use Rattle.table_entries.specs.States.{farkas_weights}
use Rattle.basic_solution.specs.Held.{relaxation, state, variables}
use Rattle.basic_solution.specs.private.Lists.{AreMultipliersBelow}
use Rattle.basic_solution.proofs.ListLemmas.{multipliers_none, multipliers_all}
use Rattle.basic_solution.proofs.sided.SidedBasis.farkas_list.Goals as goal

pub loop-variable-init : goal.loop-variable-init
loop-variable-init c =
    let s = c.args.self.now in
    let y = farkas_weights (relaxation s) (state s) c.args.row c.args.side in
    let columns_is = c.columns-columns.ensures.value in
    subst (AreMultipliersBelow s y c.columns-columns.result) (sym c.new-list.ensures) (multipliers_none s y c.columns-columns.result columns_is)

pub farkas_of-number-requires-clause-row : goal.farkas_of-number-requires-clause-row
farkas_of-number-requires-clause-row c = c.requires

pub farkas_of-number-requires-clause-variable : goal.farkas_of-number-requires-clause-variable
farkas_of-number-requires-clause-variable c = let less = c.loop-variable-test.true in let e = c.variables-variable-end.ensures in omega (arith, less, e)

pub add_multiplier-requires-clause-activity : goal.add_multiplier-requires-clause-activity
add_multiplier-requires-clause-activity c =
    let a = c.loop-variable.auto.variable in subst (λ n. n ≤ c.loop-variable.variable) c.columns-columns.ensures.value a

pub add_multiplier-requires-clause-within : goal.add_multiplier-requires-clause-within
add_multiplier-requires-clause-within c = let less = c.loop-variable-test.true in let e = c.variables-variable-end.ensures in omega (arith, less, e)

pub loop-variable-preserved : goal.loop-variable-preserved
loop-variable-preserved c =
    let s = c.args.self.now in
    c.in-Ok.ensures (farkas_weights (relaxation s) (state s) c.args.row c.args.side) c.farkas_of-number.ensures c.loop-variable.invariant

pub returns : goal.returns
returns c =
    let s = c.args.self.now in
    let v = c.loop-variable.variable in
    let columns_is = c.columns-columns.ensures.value in
    let whole : v ≡ variables s = let past = c.loop-variable-test.false in let most = c.loop-variable.auto.variable-end in let e = c.variables-variable-end.ensures in omega (arith, past, most, e, columns_is) in
    multipliers_all s (farkas_weights (relaxation s) (state s) c.args.row c.args.side) v whole c.loop-variable.list c.loop-variable.invariant
