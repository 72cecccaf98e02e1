use Rattle.std.proofs.Common.{ap, ◌∙◌, ◌≡◌}
use Rattle.lp_model.specs.Program.{in_least_form}
use Rattle.cert_text.specs.declared.cert.Claim.TheVariants.{Optimal}
use Rattle.tree_cert.proofs.AcceptedLaws.{claim_some, claim_none}
use Rattle.tree_cert.proofs.writing.claim.Goals as goal

pub returns-in-Some : goal.returns-in-Some
returns-in-Some c = λ best is.
    let S = c.args.search.now in
    let same : c.sense.result ≡ S.model.sense = c.sense.ensures ∙ ap (λ m. m.sense) c.model.ensures in
    ap (λ v. Optimal v) (c.own_sense.ensures ∙ ap (λ s. in_least_form s c.in-Some.value) same) ∙ claim_some S.model S.points best c.in-Some.value c.in-Some.ensures is

pub returns-in-None : goal.returns-in-None
returns-in-None c = λ best is. claim_none c.args.search.now.model c.args.search.now.points best c.in-None.ensures is
