use Rattle.std.proofs.Common.{◌≡◌, ◌∙◌, ◌+◌, sym, subst, arith}
use Rattle.std.proofs.lemmas.Bool.{false≢true}
use Rattle.row_tableau.specs.Variables.{numbers}
use Rattle.basic_solution.specs.Held.{variables}
use Rattle.basic_solution.specs.Lists.{AreRising, StandsHigh}
use Rattle.basic_solution.proofs.ListLemmas.{rising_none, rising_named, rising_skip}
use Rattle.basic_solution.proofs.sided.SidedBasis.high_variables.Goals as goal
use Rattle.basic_solution.proofs.sided.SidedBasis.high_variables.Goals.{then-stands_high+in-Ok, else-stands_high}

pub loop-variable-init : goal.loop-variable-init
loop-variable-init c =
    let s = c.args.self.now in
    subst (λ list. AreRising (StandsHigh s) 0 (numbers s.tableau list)) (sym c.new-list.ensures) (rising_none (StandsHigh s) 0 (λ v below h. omega (arith, below)))

pub stands_high-requires : goal.stands_high-requires
stands_high-requires c = let less = c.loop-variable-test.true in let e = c.variables-variable-end.ensures in omega (arith, less, e)

pub variable-requires : goal.variable-requires
variable-requires c = let less = c.loop-variable-test.true in let e = c.variables-variable-end.ensures in omega (arith, less, e)

pub loop-variable-preserved : goal.loop-variable-preserved
loop-variable-preserved c =
    let t = c.args.self.now.tableau in
    let v = c.loop-variable.variable in
    let P = StandsHigh c.args.self.now in
    elim c.if-stands_high.branch [
      | then-stands_high+in-Ok w ↦ rising_named t P v c.loop-variable.list c.if-stands_high.list w.variable.result (w.list-is ∙ w.in-Ok.ensures.pushed)
          w.variable.ensures c.loop-variable.invariant (c.stands_high.ensures.0 w.if-stands_high.true)
      | else-stands_high w ↦ subst (λ list. AreRising P (v + 1) (numbers t list)) (sym w.list-is) (rising_skip P v (numbers t c.loop-variable.list) c.loop-variable.invariant (λ h. false≢true (sym w.if-stands_high.false ∙ c.stands_high.ensures.1 h)))
    ]

pub returns : goal.returns
returns c =
    let s = c.args.self.now in
    let whole : c.loop-variable.variable ≡ variables s = let past = c.loop-variable-test.false in let most = c.loop-variable.auto.variable-end in let e = c.variables-variable-end.ensures in omega (arith, past, most, e) in
    subst (λ n. AreRising (StandsHigh s) n (numbers s.tableau c.loop-variable.list)) whole c.loop-variable.invariant
