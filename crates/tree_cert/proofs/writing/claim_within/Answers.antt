use Rattle.std.proofs.Common.{ap, ◌∙◌, ◌≡◌}
use Rattle.std.specs.Prelude.{Some, None}
use Rattle.lp_model.specs.Program.{in_least_form}
use Rattle.cert_text.specs.declared.cert.Claim.TheVariants.{Within}
use Rattle.tree_cert.proofs.AcceptedLaws.{value_some}
use Rattle.tree_cert.proofs.writing.claim_within.Goals as goal

pub returns : goal.returns
returns c = λ best is.
    let S = c.args.search.now in
    let same : c.sense.result ≡ S.model.sense = c.sense.ensures ∙ ap (λ m. m.sense) c.model.ensures in
    ap (Within c.args.gap.now) (c.own_sense.ensures ∙ ap (λ s. in_least_form s c.in-Some.value) same ∙ value_some S.model S.points best c.in-Some.value c.in-Some.ensures is)

pub unreachable-requires : goal.unreachable-requires
unreachable-requires c = let f : None ≡ Some c.requires.is.best = c.in-None.ensures ∙ c.requires.is.best_is in absurd cc
