use Rattle.std.proofs.Common.{◌∙◌, subst, sym}
use Rattle.std.proofs.lemmas.Bool.{false≢true}
use Rattle.lp_model.specs.Formulations.{formulation}
use Rattle.lp_model.specs.Regions.{Path}
use Rattle.leaf_judging.specs.declared.entry.LeafEntry.{LeafEntry}
use Rattle.leaf_judging.specs.Closing.{ClosesBy}
use Rattle.leaf_judging.specs.Totals.{IsEntryOf}
use Rattle.leaf_judging.proofs.JudgeLemmas.{closes_same}
use Rattle.search_parts.specs.Lists.{HasLists}
use Rattle.sound_searches.specs.Sound.{PlainSearch, formulation_of}
use Rattle.tree_edit.specs.private.PlacingSteps.{ClosesByEntry}
use Rattle.tree_edit.proofs.search.Search.closing.Goals as goal

pub returns-in-Ok-false-clause-open : goal.returns-in-Ok-false-clause-open
returns-in-Ok-false-clause-open c =
    subst (λ (R : PlainSearch). ¬ HasLists (formulation_of R) c.args.kept.now) c.self.view_is (λ h. false≢true (sym c.in-Ok-false.field-0-test ∙ c.in-Ok-false.ensures.1 h))

pub returns-then-closes-clause-closes : goal.returns-then-closes-clause-closes
returns-then-closes-clause-closes c =
    let i = c.self.inside in
    let e : LeafEntry = c.in-Ok.entry in
    let kept = c.args.kept.now in
    let path = c.args.region.now in
    let t = c.args.target.now in
    let is : IsEntryOf (formulation i.model i.pool) path kept.mult kept.farkas e = subst (λ (p : Path). IsEntryOf (formulation i.model i.pool) p kept.mult kept.farkas e) c.as_slice.ensures c.in-Ok.ensures in
    subst (λ (S : PlainSearch). ClosesByEntry (formulation_of S) t path kept e) c.self.view_is (record {
      lists = c.in-Ok-true.ensures.0 c.in-Ok-true.field-0-test;
      entry_is = is;
      closes = (e.number, (is.number, c.number_closes-closes.ensures.0 c.if-closes.true));
    })

pub returns-else-closes-clause-open : goal.returns-else-closes-clause-open
returns-else-closes-clause-open c =
    let i = c.self.inside in
    let e : LeafEntry = c.in-Ok.entry in
    let kept = c.args.kept.now in
    let path = c.args.region.now in
    let t = c.args.target.now in
    let is : IsEntryOf (formulation i.model i.pool) path kept.mult kept.farkas e = subst (λ (p : Path). IsEntryOf (formulation i.model i.pool) p kept.mult kept.farkas e) c.as_slice.ensures c.in-Ok.ensures in
    subst (λ (S : PlainSearch). HasLists (formulation_of S) kept × (¬ ClosesBy (formulation_of S) t path kept)) c.self.view_is (
      c.in-Ok-true.ensures.0 c.in-Ok-true.field-0-test,
      (λ k. false≢true (sym c.if-closes.false ∙ c.number_closes-closes.ensures.1 (closes_same (formulation i.model i.pool) path kept.mult kept.farkas t e.number k.0 is.number k.1.0 k.1.1))),
    )
