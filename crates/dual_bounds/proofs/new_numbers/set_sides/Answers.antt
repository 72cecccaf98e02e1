use Rattle.std.proofs.Common.{◌≡◌, ◌<◌, ◌+◌, ◌≤◌, ◌++◌, ◌∷◌, [], List, length, take, ap, sym, subst, ◌∙◌, arith}
use Rattle.std.proofs.lemmas.List.{take_more, take_all}
use Rattle.frac128.specs.Rational.{ℚ}
use Rattle.lp_model.specs.Elements.{changed_at}
use Rattle.lp_model.specs.declared.types.RowId.{RowId}
use Rattle.lp_model.specs.declared.types.Row.{Row}
use Rattle.lp_model.proofs.ChangedLaws.{length-changed_at}
use Rattle.dual_bounds.specs.NewNumbers.{changed_all, with_side, row_index}
use Rattle.dual_bounds.proofs.ChangedLists.{changed_all-push}
use Rattle.dual_bounds.proofs.new_numbers.set_sides.Goals as goal

pub set_side_at-requires : goal.set_side_at-requires
set_side_at-requires c =
    let sides = c.args.sides.now in
    let i = c.loop-side.side-index in
    let small : i < length sides = omega (arith, c.loop-side-test.true) in
    let there : c.side-item.result.0.0 < length c.args.rows.now = subst (λ (e : RowId × ℚ). e.0.0 < length c.args.rows.now) (sym c.side-item.is) (c.requires i c.side-item.result small) in
    let long = c.loop-side.invariant.long in
    omega (arith, there, long)

pub loop-side-preserved : goal.loop-side-preserved
loop-side-preserved c =
    let sides = c.args.sides.now in
    let i = c.loop-side.side-index in
    let e = c.side-item.result in
    let small : i < length sides = omega (arith, c.loop-side-test.true) in
    let one : take (i + 1) sides ≡ take i sides ++ e ∷ [] = take_more sides i e small ∙ ap (λ b. take i sides ++ b ∷ []) (sym c.side-item.is) in
    record {
      long = ap length c.set_side_at.ensures ∙ length-changed_at (with_side e.1) c.loop-side.rows e.0.0 ∙ c.loop-side.invariant.long;
      made = c.set_side_at.ensures
          ∙ ap (λ (items : List Row). changed_at (with_side e.1) items e.0.0) c.loop-side.invariant.made
          ∙ sym (changed_all-push row_index with_side (take i sides) e c.args.rows.now)
          ∙ ap (λ (named : List (RowId × ℚ)). changed_all row_index with_side named c.args.rows.now) (sym one);
    }

pub returns : goal.returns
returns c =
    let sides = c.args.sides.now in
    let end : length sides ≤ c.loop-side.side-index = omega (arith, c.loop-side-test.false) in
    c.loop-side.invariant.made ∙ ap (λ (named : List (RowId × ℚ)). changed_all row_index with_side named c.args.rows.now) (take_all c.loop-side.side-index sides end)
