use Rattle.std.proofs.Common.{◌∙◌, ◌<◌, List, length, sym, subst}
use Rattle.std.specs.Prelude.{None}
use Rattle.lp_model.specs.declared.types.Row.{Row}
use Rattle.lp_model.proofs.ElementLemmas.{of_element-read}
use Rattle.dual_bounds.proofs.spared.is_same_row.Goals as goal

pub returns-then-place-others : goal.returns-then-place-others
returns-then-place-others c =
    let M = c.args.one.now in
    let N = c.args.other.now in
    let k = c.args.place in
    let here : k < length M.rows = subst (λ (rows : List Row). k < length rows) c.rows-rows.ensures.items c.if-place-rows.true in
    let there : k < length N.rows = subst (λ (rows : List Row). k < length rows) c.rows-others.ensures.items c.if-place-others.true in
    let a = c.index-rows-place.result in
    let b = c.index-others-place.result in
    λ same. record {
      there = ((λ h. there), (λ h. here));
      low = sym (of_element-read None (λ (r : Row). r.lo) M.rows c.rows-rows.result.now k a c.rows-rows.ensures.items here c.index-rows-place.is) ∙ c.have_same_sides.ensures.low same ∙ of_element-read None (λ (r : Row). r.lo) N.rows c.rows-others.result.now k b c.rows-others.ensures.items there c.index-others-place.is;
      high = sym (of_element-read None (λ (r : Row). r.hi) M.rows c.rows-rows.result.now k a c.rows-rows.ensures.items here c.index-rows-place.is) ∙ c.have_same_sides.ensures.high same ∙ of_element-read None (λ (r : Row). r.hi) N.rows c.rows-others.result.now k b c.rows-others.ensures.items there c.index-others-place.is;
    }
