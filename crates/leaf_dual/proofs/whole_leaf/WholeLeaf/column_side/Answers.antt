use Rattle.std.proofs.Common.{◌≡◌, ◌∙◌, ap, arith, pos, Some, ◌<ℤ◌}
use Rattle.std.proofs.lemmas.Int.{ints}
use Rattle.lp_model.specs.Regions.{region_low, region_high}
use Rattle.leaf_dual.proofs.WholeLemmas.{takes_low, takes_high, takes_none}
use Rattle.leaf_dual.proofs.whole_leaf.WholeLeaf.column_side.Goals as goal

pub returns-then-reduced-gt0 : goal.returns-then-reduced-gt0
returns-then-reduced-gt0 c = λ d p.
    let M = c.args.self.now.leaf.model.now in
    let path = c.args.self.now.leaf.region.now in
    let above : pos 0 <ℤ c.args.reduced = let e = c.if-reduced-gt0.true in omega (arith, ints, e) in
    c.region_low.ensures ∙ c.changes_of-changes.ensures.low _ ∙ takes_low c.args.reduced d p (region_low M path c.args.col) (region_high M path c.args.col) above

pub returns-then-reduced-lt0 : goal.returns-then-reduced-lt0
returns-then-reduced-lt0 c = λ d p.
    let M = c.args.self.now.leaf.model.now in
    let path = c.args.self.now.leaf.region.now in
    let below : c.args.reduced <ℤ pos 0 = let e = c.if-reduced-lt0.true in omega (arith, ints, e) in
    c.region_high.ensures ∙ c.changes_of-changes.ensures.high _ ∙ takes_high c.args.reduced d p (region_low M path c.args.col) (region_high M path c.args.col) below

pub returns : goal.returns
returns c = λ d p.
    let M = c.args.self.now.leaf.model.now in
    let path = c.args.self.now.leaf.region.now in
    let none : c.args.reduced ≡ pos 0 = let e = c.if-reduced-gt0.false in let f = c.if-reduced-lt0.false in omega (arith, ints, e, f) in
    ap Some c.whole.ensures ∙ takes_none c.args.reduced d p (region_low M path c.args.col) (region_high M path c.args.col) none
