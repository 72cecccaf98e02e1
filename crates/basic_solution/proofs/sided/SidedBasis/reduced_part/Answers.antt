use Rattle.std.proofs.Common.{◌≡◌, ◌<◌, ◌-◌, ◌∙◌, subst, arith, length, get_or}
use Rattle.std.proofs.lemmas.List.{get_or_default}
use Rattle.basic_solution.proofs.PartLemmas.{first_answer, later_answer}
use Rattle.basic_solution.proofs.sided.SidedBasis.reduced_part.Goals as goal

pub returns-then-part-eq0 : goal.returns-then-part-eq0
returns-then-part-eq0 c = first_answer c.args.self.now c.args.place c.args.part c.reduced_cost.result c.if-part-eq0.true c.reduced_cost.ensures

pub returns-else-part-eq0 : goal.returns-else-part-eq0
returns-else-part-eq0 c =
    let now = c.args.self.now in
    let part = c.args.part in
    let own = c.index.result.now in
    let within : part - 1 < length now.order = let some = c.if-part-eq0.false in let most = c.requires.part in omega (arith, some, most) in
    let read : own ≡ get_or now.order (part - 1) 0 = subst (λ s. own ≡ get_or s.order (part - 1) own) c.self.view_is c.index.ensures ∙ get_or_default now.order (part - 1) own 0 within in
    later_answer now c.args.place part own c.own_reduced.result c.if-part-eq0.false c.requires.part read c.own_reduced.ensures
