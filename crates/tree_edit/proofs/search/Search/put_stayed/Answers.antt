use Rattle.std.specs.Prelude.{Some, None}
use Rattle.std.proofs.Common.{◌∙◌, sym, subst}
use Rattle.sound_searches.specs.Sound.{PlainSearch}
use Rattle.sound_searches.specs.Edited.{HasParts}
use Rattle.tree_edit.specs.Indexed.{IsIndexed}
use Rattle.tree_edit.specs.private.Staying.{AreJudgedOrKept, IsStayed}
use Rattle.tree_edit.proofs.StayedSearch.{judged-indexed, judged-parts, kept-indexed, kept-parts}
use Rattle.tree_edit.proofs.search.Search.put_stayed.Goals as goal

pub put_judged-requires : goal.put_judged-requires
put_judged-requires c =
    let i = c.self.inside in
    let S : PlainSearch = record { model = i.model; cuts = i.pool; tree = i.tree; points = i.points.items } in
    let M = c.args.model in
    let s = c.args.stayed in
    let own : IsStayed S M s = subst (λ (R : PlainSearch). IsStayed R M s) (sym c.self.view_is) c.requires in
    let is : AreJudgedOrKept S M s.pool s.kept.points.items (Some c.in-Some.judged) = subst (AreJudgedOrKept S M s.pool s.kept.points.items) (sym c.take.ensures.value ∙ c.in-Some.is) own.judged in
    is.0.enough

pub invariant_of-self-in-Some : goal.invariant_of-self-in-Some
invariant_of-self-in-Some c =
    let i = c.self.inside in
    let S : PlainSearch = record { model = i.model; cuts = i.pool; tree = i.tree; points = i.points.items } in
    let M = c.args.model in
    let s = c.args.stayed in
    let own : IsStayed S M s = subst (λ (R : PlainSearch). IsStayed R M s) (sym c.self.view_is) c.requires in
    let is : AreJudgedOrKept S M s.pool s.kept.points.items (Some c.in-Some.judged) = subst (AreJudgedOrKept S M s.pool s.kept.points.items) (sym c.take.ensures.value ∙ c.in-Some.is) own.judged in
    subst (λ P. P)
    (λ j. IsIndexed (record { model = M; cuts = sym c.put_kept.ensures.pool j; tree = sym c.put_judged.ensures.tree j; points = (sym c.put_kept.ensures.points j).items })
    (sym c.put_kept.ensures.values j).items (sym c.put_judged.ensures.numbers j) (sym c.put_judged.ensures.queue j))
    (judged-indexed S M s own c.in-Some.judged is)

pub invariant_of-self : goal.invariant_of-self
invariant_of-self c =
    let i = c.self.inside in
    let S : PlainSearch = record { model = i.model; cuts = i.pool; tree = i.tree; points = i.points.items } in
    let M = c.args.model in
    let s = c.args.stayed in
    let own : IsStayed S M s = subst (λ (R : PlainSearch). IsStayed R M s) (sym c.self.view_is) c.requires in
    let is : AreJudgedOrKept S M s.pool s.kept.points.items None = subst (AreJudgedOrKept S M s.pool s.kept.points.items) (sym c.take.ensures.value ∙ c.in-None.is) own.judged in
    subst (λ P. P)
    (λ j. IsIndexed (record { model = M; cuts = sym c.put_kept.ensures.pool j; tree = i.tree; points = (sym c.put_kept.ensures.points j).items }) (sym c.put_kept.ensures.values j).items i.numbers i.queue)
    (kept-indexed S M s own is i.values.items i.numbers i.queue c.self.invariant)

pub returns : goal.returns
returns c =
    let i = c.self.inside in
    let S : PlainSearch = record { model = i.model; cuts = i.pool; tree = i.tree; points = i.points.items } in
    let M = c.args.model in
    let s = c.args.stayed in
    let own : IsStayed S M s = subst (λ (R : PlainSearch). IsStayed R M s) (sym c.self.view_is) c.requires in
    let is : AreJudgedOrKept S M s.pool s.kept.points.items (Some c.in-Some.judged) = subst (AreJudgedOrKept S M s.pool s.kept.points.items) (sym c.take.ensures.value ∙ c.in-Some.is) own.judged in
    subst (λ P. P)
    (λ j. HasParts M s.pool ((c.self.view_is) j).tree s.kept.points.items
    (record { model = M; cuts = sym c.put_kept.ensures.pool j; tree = sym c.put_judged.ensures.tree j; points = (sym c.put_kept.ensures.points j).items }))
    (judged-parts S M s own c.in-Some.judged is)

pub returns-in-None : goal.returns-in-None
returns-in-None c =
    let i = c.self.inside in
    let S : PlainSearch = record { model = i.model; cuts = i.pool; tree = i.tree; points = i.points.items } in
    let M = c.args.model in
    let s = c.args.stayed in
    let own : IsStayed S M s = subst (λ (R : PlainSearch). IsStayed R M s) (sym c.self.view_is) c.requires in
    let is : AreJudgedOrKept S M s.pool s.kept.points.items None = subst (AreJudgedOrKept S M s.pool s.kept.points.items) (sym c.take.ensures.value ∙ c.in-None.is) own.judged in
    subst (λ P. P)
    (λ j. HasParts M s.pool ((c.self.view_is) j).tree s.kept.points.items
    (record { model = M; cuts = sym c.put_kept.ensures.pool j; tree = i.tree; points = (sym c.put_kept.ensures.points j).items }))
    (kept-parts S M s own is)
