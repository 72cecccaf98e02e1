use Rattle.std.specs.Prelude.{◌*ℤ◌}
use Rattle.std.specs.Int.{w128}
use Rattle.std.proofs.Common.{◌≡◌, ◌∙◌, ap, sym, subst}
use Rattle.std.proofs.lemmas.Int.{to_z-of_z}
use Rattle.frac128.specs.Rational.{int}
use Rattle.frac128.specs.Range.{IsNarrow}
use Rattle.frac128.proofs.ReadLemmas.{narrow_read}
use Rattle.frac128.proofs.frac.whole_product.Goals as goal

pub of_whole-requires : goal.of_whole-requires
of_whole-requires c =
    let left_read = to_z-of_z w128 c.args.left c.ranges.left in
    let right_read = to_z-of_z w128 c.args.right c.ranges.right in
    let is = subst (λ t. IsNarrow t × (c.in-Ok.value ≡ t)) (λ i. left_read i *ℤ right_read i) c.in-Ok.ensures in
    let narrow = subst IsNarrow (sym is.1) is.0 in
    subst IsNarrow (sym (narrow_read c.in-Ok.value narrow)) narrow

pub returns-in-Ok : goal.returns-in-Ok
returns-in-Ok c =
    let left_read = to_z-of_z w128 c.args.left c.ranges.left in
    let right_read = to_z-of_z w128 c.args.right c.ranges.right in
    let is = subst (λ t. IsNarrow t × (c.in-Ok.value ≡ t)) (λ i. left_read i *ℤ right_read i) c.in-Ok.ensures in
    (is.0, c.of_whole.ensures ∙ ap int (narrow_read c.in-Ok.value (subst IsNarrow (sym is.1) is.0) ∙ is.1))

pub returns-in-Err : goal.returns-in-Err
returns-in-Err c =
    let left_read = to_z-of_z w128 c.args.left c.ranges.left in
    let right_read = to_z-of_z w128 c.args.right c.ranges.right in
    subst (λ t. ¬ (IsNarrow t)) (λ i. left_read i *ℤ right_read i) c.in-Err.ensures
