use Rattle.std.proofs.Common.{subst}
use Rattle.leaf_dual.specs.Dual.{multiplier, cut_weight}
use Rattle.leaf_dual.specs.Parts.{constant_of, cost_of}
use Rattle.leaf_totals.specs.Keeping.{question_of, IsTermsEnd}
use Rattle.leaf_totals.proofs.EndLemmas.{missing_answer}
use Rattle.leaf_totals.proofs.keeping.answer_of_end.Goals as goal

pub returns-in-Missing : goal.returns-in-Missing
returns-in-Missing c =
    let leaf = c.args.leaf.now in
    let M = leaf.model.now in
    let cuts = leaf.cuts.now in
    missing_answer M cuts leaf.region.now (multiplier leaf.mult.now) (cut_weight cuts leaf.mult.now) (cost_of leaf.costed M) (constant_of leaf.costed M) _ (subst (IsTermsEnd (question_of leaf)) c.in-Missing.is c.requires.end)
