use Rattle.std.proofs.Common.{◌≡◌, ◌<◌, [], ◌∷◌, ◌++◌, length, get_or, take, sym, ap, subst, ◌∙◌}
use Rattle.std.proofs.lemmas.List.{take_more, map-append}
use Rattle.lp_model.specs.declared.types.CutRow.{CutRow}
use Rattle.lp_model.proofs.ElementLemmas.{of_element-get}
use Rattle.tree_cert.specs.Cuts.{named_cut, no_derivation, derivation_at, named_cuts}
use Rattle.tree_cert.specs.private.Marked.{IsDerivationThere}
use Rattle.tree_cert.proofs.names.named_cuts.Goals as goal

pub push_named_cut-requires : goal.push_named_cut-requires
push_named_cut-requires c =
    let cuts = c.args.cuts.now in
    let k = get_or c.args.used.now c.loop-index.index 0 in
    let found = c.index-cuts-used.result in
    let below : k < length cuts = c.requires.within c.loop-index.index 0 c.loop-index-test.true in
    let from : derivation_at cuts k ≡ (get_or cuts k found).from =
    of_element-get no_derivation (λ (x : CutRow). x.from) cuts k found below c.index-cuts-used.is ∙ ap (λ (x : CutRow). x.from) c.index-cuts-used.is in
    subst (IsDerivationThere c.args.model.now) from (c.requires.there c.loop-index.index 0 c.loop-index-test.true)

pub loop-index-preserved : goal.loop-index-preserved
loop-index-preserved c =
    let M = c.args.model.now in
    let cuts = c.args.cuts.now in
    let used = c.args.used.now in
    let i = c.loop-index.index in
    let k = get_or used i 0 in
    let found = c.index-cuts-used.result in
    let below : k < length cuts = c.requires.within i 0 c.loop-index-test.true in
    let from : derivation_at cuts k ≡ (get_or cuts k found).from =
    of_element-get no_derivation (λ (x : CutRow). x.from) cuts k found below c.index-cuts-used.is ∙ ap (λ (x : CutRow). x.from) c.index-cuts-used.is in
    c.in-Ok.ensures
    ∙ ap (λ d. c.loop-index.named ++ named_cut M d ∷ []) (sym from)
    ∙ ap (λ named. named ++ named_cut M (derivation_at cuts k) ∷ []) c.loop-index.invariant
    ∙ sym (map-append (λ p. named_cut M (derivation_at cuts p)) (take i used) (k ∷ []))
    ∙ ap (named_cuts M cuts) (sym (take_more used i 0 c.loop-index-test.true))
