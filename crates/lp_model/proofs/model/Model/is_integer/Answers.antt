use Rattle.std.proofs.Common.{◌≡◌, ◌∙◌, ◌<◌, ◌≤◌, sym, ap, false, length, arith}
use Rattle.lp_model.proofs.ElementLemmas.{of_element-read, of_element-past}
use Rattle.lp_model.proofs.model.Model.is_integer.Goals as goal

pub returns-then-col-cols-clause-integer : goal.returns-then-col-cols-clause-integer
returns-then-col-cols-clause-integer c =
    let items : length c.cols-cols.result.now ≡ length c.args.self.now.cols = ap length c.cols-cols.ensures.items in
    let past : length c.args.self.now.cols ≤ c.args.col = let h = c.if-col-cols.true in omega (arith, h, items) in
    sym (of_element-past false (λ col. col.int) c.args.self.now.cols c.args.col past)

pub returns-clause-integer : goal.returns-clause-integer
returns-clause-integer c =
    let items : length c.cols-cols.result.now ≡ length c.args.self.now.cols = ap length c.cols-cols.ensures.items in
    let below : c.args.col < length c.args.self.now.cols = let h = c.if-col-cols.false in omega (arith, h, items) in
    ap (λ col. col.int) (sym c.index-cols-col.is) ∙ of_element-read false (λ col. col.int) c.args.self.now.cols c.cols-cols.result.now c.args.col c.index-cols-col.result c.cols-cols.ensures.items below c.index-cols-col.is

pub returns-clause-there : goal.returns-clause-there
returns-clause-there c =
    let items : length c.cols-cols.result.now ≡ length c.args.self.now.cols = ap length c.cols-cols.ensures.items in
    λ integer. let h = c.if-col-cols.false in omega (arith, h, items)
