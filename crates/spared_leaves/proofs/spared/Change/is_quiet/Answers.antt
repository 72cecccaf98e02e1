use Rattle.std.proofs.Common.{ℕ, ◌<◌, length}
use Rattle.lp_model.specs.Formulations.{Formulation, formulation}
use Rattle.leaf_dual.specs.Dual.{multiplier, cut_weight}
use Rattle.leaf_dual.specs.Parts.{cost_of}
use Rattle.spared_leaves.specs.Questions.{IsQuietColumn}
use Rattle.spared_leaves.proofs.ColumnLemmas.{at-given}
use Rattle.spared_leaves.proofs.spared.Change.is_quiet.Goals as goal

pub returns-then-is_quiet-clause-quiet : goal.returns-then-is_quiet-clause-quiet
returns-then-is_quiet-clause-quiet c = λ quiet.
    let region = c.args.region.now in
    let mult = c.args.mult.now in
    let F : Formulation = formulation c.args.self.now.before.model.now c.args.self.now.before.cuts.now in
    let G : Formulation = formulation c.args.self.now.after.model.now c.args.self.now.after.cuts.now in
    let Q : Formulation → ℕ → Type 0 = λ H j. IsQuietColumn H region (multiplier mult) (cut_weight H.cuts mult) (cost_of c.args.costed H.model) j in
    at-given c.args.of.now c.in-Some.col c.in-Some.is (λ j. (j < length F.model.cols → Q F j) × (j < length G.model.cols → Q G j)) (c.is_quiet.ensures.quiet c.if-is_quiet.true, c.is_quiet-then-is_quiet.ensures.quiet quiet)
