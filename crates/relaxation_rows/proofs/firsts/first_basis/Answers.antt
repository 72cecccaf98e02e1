use Rattle.std.proofs.Common.{subst, inr}
use Rattle.dual_simplex.specs.SlackBases.{IsLawfulSlackBasis, IsSlackBasisAnswer}
use Rattle.relaxation_rows.proofs.firsts.first_basis.Goals as goal

pub returns-in-Ok-Some : goal.returns-in-Ok-Some
returns-in-Ok-Some c =
    let M = c.args.model.now in
    let slack : IsLawfulSlackBasis M c.in-Ok-Some.basis = subst (IsSlackBasisAnswer M) c.in-Ok-Some.field-0-is c.in-Ok-Some.ensures in
    record { starts = slack.lawful; root = c.root_law.ensures M c.in-Ok-Some.basis (inr slack) }
