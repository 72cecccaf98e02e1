use Rattle.std.proofs.Common.{ap, sym, ◌∙◌, refl, true, false, ◌≡◌}
use Rattle.lp_model.proofs.ElementLemmas.{of_element-read}
use Rattle.cert_check.proofs.judging.judge_split.Goals as goal

pub returns-then-cols-col : goal.returns-then-cols-col
returns-then-cols-col c =
    sym (of_element-read false (λ col. col.int) c.args.model.now.cols c.cols.result.now c.args.col.0 c.index-cols-col.result c.cols.ensures.items c.requires c.index-cols-col.is)
    ∙ ap (λ col. col.int) c.index-cols-col.is ∙ c.if-cols-col.true

pub returns-else-cols-col : goal.returns-else-cols-col
returns-else-cols-col c =
    let is = of_element-read false (λ col. col.int) c.args.model.now.cols c.cols.result.now c.args.col.0 c.index-cols-col.result c.cols.ensures.items c.requires c.index-cols-col.is in
    ((λ e. let f : false ≡ true = sym c.if-cols-col.false ∙ sym (ap (λ col. col.int) c.index-cols-col.is) ∙ is ∙ e in absurd cc), refl)
