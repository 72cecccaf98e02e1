use Rattle.std.proofs.Common.{inl}
use Rattle.ray_phase.specs.Answers.{IsDualBasis}
use Rattle.relaxation_rows.proofs.firsts.ray_basis.Goals as goal

pub returns-in-DualBasis : goal.returns-in-DualBasis
returns-in-DualBasis c =
    let M = c.args.model.now in
    let basis = c.in-DualBasis.basis in
    let dual : IsDualBasis M basis = c.in-DualBasis.ensures.1.1.1.1.1.1.1.1 in
    record { starts = c.first_law.ensures M basis dual; root = c.root_law.ensures M basis (inl dual) }
