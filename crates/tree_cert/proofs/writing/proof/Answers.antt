use Rattle.std.proofs.Common.{◌≡◌, ◌<◌, false, length, map, ap, sym, subst, ◌∙◌, arith}
use Rattle.std.specs.Prelude.{All, replicate}
use Rattle.sound_searches.specs.Sound.{formulation_of}
use Rattle.tree_cert.specs.Certificates.{IsProofOf}
use Rattle.tree_cert.specs.Cuts.{derivation_at, named_cuts}
use Rattle.tree_cert.specs.private.Marked.{marks_in, NodeNamesFirst, places_of, counts_of, renumbered_node, IsDerivationThere}
use Rattle.tree_cert.proofs.CutNames.{used_there, used_within}
use Rattle.tree_cert.proofs.UsedLaws.{names_first, used_live, counts_size, proof_of}
use Rattle.tree_cert.proofs.writing.proof.Goals as goal

pub used_by-requires-clause-few : goal.used_by-requires-clause-few
used_by-requires-clause-few c = let same = ap length c.rows-pool.ensures.rows in omega (arith, same, c.rows-pool.ensures.few)

pub used_by-requires-clause-within : goal.used_by-requires-clause-within
used_by-requires-clause-within c =
    let S = c.args.search.now in
    let cuts : c.rows-pool.result.now ≡ S.cuts = c.rows-pool.ensures.rows ∙ c.pool.ensures.pool in
    let placed = c.in-Ok.placed in
    subst (λ T. T) (λ i. All (NodeNamesFirst (length (sym cuts i))) (sym c.as_slice.ensures i)) (names_first (formulation_of S) S.tree.root placed c.in-Ok.ensures)

pub renumbered_nodes-requires : goal.renumbered_nodes-requires
renumbered_nodes-requires c =
    let S = c.args.search.now in
    let cuts : c.rows-pool.result.now ≡ S.cuts = c.rows-pool.ensures.rows ∙ c.pool.ensures.pool in
    let placed = c.in-Ok.placed in
    let of = c.in-Ok.ensures in
    let counts : c.deref.result.now ≡ counts_of 0 (marks_in (replicate (length S.cuts) false) placed) =
    c.deref.ensures.value ∙ c.in-Ok-used_by.ensures.counts ∙ (λ i. counts_of 0 (marks_in (replicate (length (cuts i)) false) (c.as_slice.ensures i))) in
    let size : length c.deref.result.now ≡ length S.cuts = ap length counts ∙ counts_size S placed of in
    subst (λ T. T) (λ i. All (NodeNamesFirst (sym size i)) (sym c.as_slice-2.ensures i)) (names_first (formulation_of S) S.tree.root placed of)

pub named_cuts-requires-clause-within : goal.named_cuts-requires-clause-within
named_cuts-requires-clause-within c =
    let S = c.args.search.now in
    let cuts : c.rows-pool.result.now ≡ S.cuts = c.rows-pool.ensures.rows ∙ c.pool.ensures.pool in
    let placed = c.in-Ok.placed in
    let places : c.deref-2.result.now ≡ places_of 0 (marks_in (replicate (length S.cuts) false) placed) =
    c.deref-2.ensures.value ∙ c.in-Ok-used_by.ensures.places ∙ (λ i. places_of 0 (marks_in (replicate (length (cuts i)) false) (c.as_slice.ensures i))) in
    subst (λ T. T) (λ i. All (λ k. k < length (sym cuts i)) (sym places i))
    (used_within S.model S.cuts c.points-sound.ensures.sound.pool (places_of 0 (marks_in (replicate (length S.cuts) false) placed)) (used_live S placed c.in-Ok.ensures))

pub named_cuts-requires-clause-there : goal.named_cuts-requires-clause-there
named_cuts-requires-clause-there c =
    let S = c.args.search.now in
    let cuts : c.rows-pool.result.now ≡ S.cuts = c.rows-pool.ensures.rows ∙ c.pool.ensures.pool in
    let placed = c.in-Ok.placed in
    let places : c.deref-2.result.now ≡ places_of 0 (marks_in (replicate (length S.cuts) false) placed) =
    c.deref-2.ensures.value ∙ c.in-Ok-used_by.ensures.places ∙ (λ i. places_of 0 (marks_in (replicate (length (cuts i)) false) (c.as_slice.ensures i))) in
    subst (λ T. T) (λ i. All (λ k. IsDerivationThere (sym c.model.ensures i) (derivation_at (sym cuts i) k)) (sym places i))
    (used_there S.model S.cuts c.points-sound.ensures.sound.pool (places_of 0 (marks_in (replicate (length S.cuts) false) placed)) (used_live S placed c.in-Ok.ensures))

pub returns : goal.returns
returns c =
    let S = c.args.search.now in
    let cuts : c.rows-pool.result.now ≡ S.cuts = c.rows-pool.ensures.rows ∙ c.pool.ensures.pool in
    let placed = c.in-Ok.placed in
    let of = c.in-Ok.ensures in
    let counts : c.deref.result.now ≡ counts_of 0 (marks_in (replicate (length S.cuts) false) placed) =
    c.deref.ensures.value ∙ c.in-Ok-used_by.ensures.counts ∙ (λ i. counts_of 0 (marks_in (replicate (length (cuts i)) false) (c.as_slice.ensures i))) in
    let places : c.deref-2.result.now ≡ places_of 0 (marks_in (replicate (length S.cuts) false) placed) =
    c.deref-2.ensures.value ∙ c.in-Ok-used_by.ensures.places ∙ (λ i. places_of 0 (marks_in (replicate (length (cuts i)) false) (c.as_slice.ensures i))) in
    let nodes_are : c.in-Ok-renumbered_nodes.nodes ≡ map (renumbered_node (counts_of 0 (marks_in (replicate (length S.cuts) false) placed))) placed =
    c.in-Ok-renumbered_nodes.ensures ∙ (λ i. map (renumbered_node (counts i)) (c.as_slice-2.ensures i)) in
    let cuts_are : c.in-Ok-named_cuts.cuts ≡ named_cuts S.model S.cuts (places_of 0 (marks_in (replicate (length S.cuts) false) placed)) =
    c.in-Ok-named_cuts.ensures ∙ (λ i. named_cuts (c.model.ensures i) (cuts i) (places i)) in
    subst (λ T. T) (λ i. IsProofOf S (sym cuts_are i) (sym nodes_are i)) (proof_of S placed of)
