use Rattle.std.proofs.Common.{◌≡◌, ◌∙◌, false, length, sym, ap, subst}
use Rattle.std.specs.Prelude.{All, replicate}
use Rattle.std.proofs.lemmas.List.{length-replicate, with_items_is}
use Rattle.tree_cert.specs.private.Marked.{marks_in, NodeNamesFirst, places_of, counts_of}
use Rattle.tree_cert.proofs.used.used_by.Goals as goal

pub mark_nodes-requires : goal.mark_nodes-requires
mark_nodes-requires c =
    let made = c.in-Ok.ensures.items_if_clones_equal (λ y is. is) in
    let long : length c.deref_mut.result.now ≡ c.args.size = ap length (c.deref_mut.ensures.value ∙ made) ∙ length-replicate c.args.size false in
    subst (λ n. All (NodeNamesFirst n) c.args.nodes.now) (sym long) c.requires.within

pub returns-clause-places : goal.returns-clause-places
returns-clause-places c =
    let made = c.in-Ok.ensures.items_if_clones_equal (λ y is. is) in
    let marks = c.mark_nodes.new.marks in
    let same : length marks ≡ c.in-Ok.marks.len = c.mark_nodes.auto.marks ∙ ap length c.deref_mut.ensures.value ∙ sym c.in-Ok.marks.ok.0 in
    let marked : marks ≡ marks_in (replicate c.args.size false) c.args.nodes.now = c.mark_nodes.ensures ∙ ap (λ l. marks_in l c.args.nodes.now) (c.deref_mut.ensures.value ∙ made) in
    c.in-Ok-places_of.ensures ∙ ap (places_of 0) (c.deref.ensures.value ∙ with_items_is c.in-Ok.marks marks same ∙ marked)

pub returns-clause-counts : goal.returns-clause-counts
returns-clause-counts c =
    let made = c.in-Ok.ensures.items_if_clones_equal (λ y is. is) in
    let marks = c.mark_nodes.new.marks in
    let same : length marks ≡ c.in-Ok.marks.len = c.mark_nodes.auto.marks ∙ ap length c.deref_mut.ensures.value ∙ sym c.in-Ok.marks.ok.0 in
    let marked : marks ≡ marks_in (replicate c.args.size false) c.args.nodes.now = c.mark_nodes.ensures ∙ ap (λ l. marks_in l c.args.nodes.now) (c.deref_mut.ensures.value ∙ made) in
    c.in-Ok-counts_of.ensures ∙ ap (counts_of 0) (c.deref-2.ensures.value ∙ with_items_is c.in-Ok.marks marks same ∙ marked)
