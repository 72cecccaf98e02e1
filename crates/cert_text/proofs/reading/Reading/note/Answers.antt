use Rattle.std.proofs.Common.{ap, sym, subst, ◌∙◌}
use Rattle.std.specs.Prelude.{Ok, None, ◌≡◌}
use Rattle.cert_text.specs.Text.{code_in}
use Rattle.cert_text.specs.Reading.{held, after}
use Rattle.cert_text.specs.Whole.{IsLawfulStatement}
use Rattle.cert_text.proofs.KeptLemmas.{handed_on, both_handed_on, node_kept, node_noted, claim_kept, claim_noted, point_kept, point_noted, ray_kept, ray_noted, cut_kept, cut_noted, last_kept}
use Rattle.cert_text.proofs.reading.Reading.note.Goals as goal

pub returns-in-Claims-clause-stated : goal.returns-in-Claims-clause-stated
returns-in-Claims-clause-stated c =
    let old = c.args.self.now in
    claim_noted old c.in-Claims.claim (subst (λ s. code_in (held old) (Ok s) ≡ None) c.in-Claims.is c.requires.clean) ∙ ap (λ s. after (held old) (Ok s)) (sym c.in-Claims.is)

pub returns-in-Claims-clause-kept : goal.returns-in-Claims-clause-kept
returns-in-Claims-clause-kept c =
    let old = c.args.self.now in
    claim_kept old c.in-Claims.claim (subst (λ s. code_in (held old) (Ok s) ≡ None) c.in-Claims.is c.requires.clean) (subst IsLawfulStatement c.in-Claims.is c.requires.narrow) c.requires.kept

pub returns-in-Point-clause-stated : goal.returns-in-Point-clause-stated
returns-in-Point-clause-stated c =
    let old = c.args.self.now in
    point_noted old c.in-Point.point (subst (λ s. code_in (held old) (Ok s) ≡ None) c.in-Point.is c.requires.clean) ∙ ap (λ s. after (held old) (Ok s)) (sym c.in-Point.is)

pub returns-in-Point-clause-kept : goal.returns-in-Point-clause-kept
returns-in-Point-clause-kept c =
    let old = c.args.self.now in
    point_kept old c.in-Point.point (subst (λ s. code_in (held old) (Ok s) ≡ None) c.in-Point.is c.requires.clean) c.requires.kept

pub returns-in-Ray-clause-stated : goal.returns-in-Ray-clause-stated
returns-in-Ray-clause-stated c =
    let old = c.args.self.now in
    ray_noted old c.in-Ray.ray (subst (λ s. code_in (held old) (Ok s) ≡ None) c.in-Ray.is c.requires.clean) ∙ ap (λ s. after (held old) (Ok s)) (sym c.in-Ray.is)

pub returns-in-Ray-clause-kept : goal.returns-in-Ray-clause-kept
returns-in-Ray-clause-kept c =
    let old = c.args.self.now in
    ray_kept old c.in-Ray.ray (subst (λ s. code_in (held old) (Ok s) ≡ None) c.in-Ray.is c.requires.clean) c.requires.kept

pub returns-in-Cut-clause-stated : goal.returns-in-Cut-clause-stated
returns-in-Cut-clause-stated c =
    let old = c.args.self.now in
    handed_on c.push.result (λ pushed. cut_noted old c.in-Cut.cut c.push.new.self pushed ∙ ap (λ s. after (held old) (Ok s)) (sym c.in-Cut.is)) c.push.ensures.pushed

pub returns-in-Cut-clause-kept : goal.returns-in-Cut-clause-kept
returns-in-Cut-clause-kept c =
    let old = c.args.self.now in
    handed_on c.push.result (λ pushed. cut_kept old c.in-Cut.cut c.push.new.self (subst (λ s. code_in (held old) (Ok s) ≡ None) c.in-Cut.is c.requires.clean) c.requires.kept) c.push.ensures.pushed

pub returns-in-Node-clause-stated : goal.returns-in-Node-clause-stated
returns-in-Node-clause-stated c =
    let old = c.args.self.now in
    handed_on c.add_node.result (λ stated. node_noted old c.in-Node.node (held c.add_node.new.self) stated ∙ ap (λ s. after (held old) (Ok s)) (sym c.in-Node.is)) c.add_node.ensures.stated

pub returns-in-Node-clause-kept : goal.returns-in-Node-clause-kept
returns-in-Node-clause-kept c =
    both_handed_on c.add_node.result
    (λ nodes parts.
    node_kept c.args.self.now c.add_node.new.self c.in-Node.node
    (subst (λ s. code_in (held c.args.self.now) (Ok s) ≡ None) c.in-Node.is c.requires.clean)
    (subst IsLawfulStatement c.in-Node.is c.requires.narrow) c.requires.kept
    nodes parts.0 parts.1 parts.2 parts.3 parts.4) c.add_node.ensures.nodes c.add_node.ensures.parts

pub returns-in-End-clause-kept : goal.returns-in-End-clause-kept
returns-in-End-clause-kept c =
    let old = c.args.self.now in
    last_kept old (subst (λ s. code_in (held old) (Ok s) ≡ None) c.in-End.is c.requires.clean) c.requires.kept
