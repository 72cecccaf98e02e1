use Rattle.std.proofs.Common.{◌≡◌, ◌+◌, length, arith, refl}
use Rattle.std.proofs.lemmas.Bool.{iff_false}
use Rattle.front_check.proofs.TreeSteps.{same_count, named-more, misnamed, named-all}
use Rattle.front_check.proofs.trees.are_named.Goals as goal

pub loop-index-init : goal.loop-index-init
loop-index-init c = refl

pub loop-index-preserved : goal.loop-index-preserved
loop-index-preserved c =
    let trees = c.args.trees.now in
    let rest = c.args.outcomes.now.rest.items in
    let count : length trees ≡ length rest + 2 = omega arith in
    named-more trees rest c.loop-index.index c.index-trees-index.result (omega arith) c.index-trees-index.is count c.loop-index.invariant (c.is_due.ensures.0 c.if-not-is_due.false)

pub returns-then-not-is_due : goal.returns-then-not-is_due
returns-then-not-is_due c =
    let trees = c.args.trees.now in
    let rest = c.args.outcomes.now.rest.items in
    let count : length trees ≡ length rest + 2 = omega arith in (
      λ e. absurd cc,
      λ e.
          absurd
          (misnamed trees rest c.loop-index.index c.index-trees-index.result (omega arith) c.index-trees-index.is count (λ due. iff_false c.is_due.ensures c.if-not-is_due.true due) e),
    )

pub returns : goal.returns
returns c =
    let trees = c.args.trees.now in
    let rest = c.args.outcomes.now.rest.items in
    let count : length trees ≡ length rest + 2 = omega arith in ((λ t. named-all trees rest c.loop-index.index (omega arith) count c.loop-index.invariant), (λ e. refl))

pub returns-then-trees-len : goal.returns-then-trees-len
returns-then-trees-len c = (
  λ e. absurd cc,
  λ e. let count = same_count c.args.trees.now c.args.outcomes.now.rest.items e in absurd (omega (arith, count)),
)
