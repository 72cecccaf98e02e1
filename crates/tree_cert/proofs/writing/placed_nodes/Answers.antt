use Rattle.std.proofs.Common.{◌≡◌, suc, List, [], length, ap, sym, subst, ◌∙◌, arith}
use Rattle.lp_model.specs.Formulations.{formulation}
use Rattle.branch_tree.specs.Plain.{preorder}
use Rattle.sound_searches.specs.Sound.{formulation_of}
use Rattle.std.proofs.lemmas.Result.{IfOk-weaker}
use Rattle.cert_text.specs.declared.cert.CertNode.{CertNode}
use Rattle.tree_cert.specs.private.Walked.{AreFit, AreNodesOf, AreOfTree}
use Rattle.tree_cert.proofs.TreeWalk.{sound-fit, of_tree}
use Rattle.tree_cert.proofs.writing.placed_nodes.Goals as goal

pub cert_nodes-certs-requires-clause-places : goal.cert_nodes-certs-requires-clause-places
cert_nodes-certs-requires-clause-places c = let same = ap length c.rows.ensures.rows in omega (arith, same, c.rows.ensures.few)

pub cert_nodes-certs-requires-clause-fit : goal.cert_nodes-certs-requires-clause-fit
cert_nodes-certs-requires-clause-fit c =
    let S = c.args.search.now in
    let nodes : c.deref.result.now ≡ preorder S.tree.root = c.deref.ensures.value ∙ c.in-Ok.ensures.nodes ∙ ap (λ t. preorder t.root) c.tree.ensures.tree in
    let cuts : c.rows.result.now ≡ S.cuts = c.rows.ensures.rows ∙ c.pool.ensures.pool in
    let form : formulation c.model.result.now c.rows.result.now ≡ formulation_of S = (λ i. formulation (c.model.ensures i) (cuts i)) in
    subst (λ T. T) (λ i. AreFit (sym form i) (sym nodes i)) (sound-fit (formulation_of S) S.tree.root c.tree.ensures.sound.tree)

pub returns : goal.returns
returns c =
    let S = c.args.search.now in
    let nodes : c.deref.result.now ≡ preorder S.tree.root = c.deref.ensures.value ∙ c.in-Ok.ensures.nodes ∙ ap (λ t. preorder t.root) c.tree.ensures.tree in
    let cuts : c.rows.result.now ≡ S.cuts = c.rows.ensures.rows ∙ c.pool.ensures.pool in
    let form : formulation c.model.result.now c.rows.result.now ≡ formulation_of S = (λ i. formulation (c.model.ensures i) (cuts i)) in
    IfOk-weaker c.cert_nodes-certs.result _ (λ (certs : List CertNode). AreOfTree (formulation_of S) suc S.tree.root certs)
    (λ certs are. of_tree (formulation_of S) suc S.tree.root certs (subst (λ T. T) (λ i. AreNodesOf (form i) suc [] (nodes i) certs) are)) c.cert_nodes-certs.ensures
