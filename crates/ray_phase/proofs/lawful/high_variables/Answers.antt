use Rattle.std.proofs.Common.{◌≡◌, ◌∙◌, ◌+◌, sym, subst, arith}
use Rattle.std.proofs.lemmas.Bool.{false≢true}
use Rattle.row_tableau.specs.Variables.{numbers}
use Rattle.basic_solution.specs.Held.{variables}
use Rattle.basic_solution.specs.Lists.{AreRising}
use Rattle.basic_solution.proofs.ListLemmas.{rising_none, rising_named, rising_skip}
use Rattle.ray_phase.specs.Answers.{IsModelHigh}
use Rattle.ray_phase.proofs.lawful.high_variables.Goals as goal
use Rattle.ray_phase.proofs.lawful.high_variables.Goals.{then-is_model_high+in-Ok, else-is_model_high}

pub loop-variable-init : goal.loop-variable-init
loop-variable-init c =
    let P = IsModelHigh c.args.model.now c.args.state.now in
    subst (λ list. AreRising P 0 (numbers c.args.state.now.tableau list)) (sym c.new-list.ensures) (rising_none P 0 (λ v below h. omega (arith, below)))

pub is_model_high-requires-clause-count : goal.is_model_high-requires-clause-count
is_model_high-requires-clause-count c = c.requires

pub is_model_high-requires-clause-variable : goal.is_model_high-requires-clause-variable
is_model_high-requires-clause-variable c = let less = c.loop-variable-test.true in let e = c.variables-variable-end.ensures in omega (arith, less, e)

pub variable-requires : goal.variable-requires
variable-requires c = let less = c.loop-variable-test.true in let e = c.variables-variable-end.ensures in omega (arith, less, e)

pub loop-variable-preserved : goal.loop-variable-preserved
loop-variable-preserved c =
    let t = c.args.state.now.tableau in
    let v = c.loop-variable.variable in
    let P = IsModelHigh c.args.model.now c.args.state.now in
    elim c.if-is_model_high.branch [
      | then-is_model_high+in-Ok w ↦ rising_named t P v c.loop-variable.list c.if-is_model_high.list w.variable.result (w.list-is ∙ w.in-Ok.ensures.pushed)
          w.variable.ensures c.loop-variable.invariant (c.is_model_high.ensures.0 w.if-is_model_high.true)
      | else-is_model_high w ↦ subst (λ list. AreRising P (v + 1) (numbers t list)) (sym w.list-is) (rising_skip P v (numbers t c.loop-variable.list) c.loop-variable.invariant (λ h. false≢true (sym w.if-is_model_high.false ∙ c.is_model_high.ensures.1 h)))
    ]

pub returns : goal.returns
returns c =
    let s = c.args.state.now in
    let whole : c.loop-variable.variable ≡ variables s = let past = c.loop-variable-test.false in let most = c.loop-variable.auto.variable-end in let e = c.variables-variable-end.ensures in omega (arith, past, most, e) in
    subst (λ n. AreRising (IsModelHigh c.args.model.now s) n (numbers s.tableau c.loop-variable.list)) whole c.loop-variable.invariant
