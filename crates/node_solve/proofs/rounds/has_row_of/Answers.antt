use Rattle.std.proofs.Common.{◌≡◌, ◌∙◌, refl, sym, subst, arith, get_or, below_more}
use Rattle.std.proofs.lemmas.Bool.{false≢true}
use Rattle.lp_model.specs.declared.types.CutRow.{CutRow}
use Rattle.lp_model.proofs.ElementLemmas.{get_or-read}
use Rattle.node_solve.proofs.TaskLemmas.{is_not, is_so}
use Rattle.node_solve.proofs.rounds.has_row_of.Goals as goal

pub returns-then-is_same_row : goal.returns-then-is_same_row
returns-then-is_same_row c =
    let cut = c.args.cut.now in
    let i = c.loop-index.index in
    let el = c.index-cuts-index.result in
    let is = get_or-read cut c.args.cuts.now c.args.cuts.now i el refl (omega arith) c.index-cuts-index.is in
    is_so (i, (omega arith, subst (λ (x : CutRow). (x.terms ≡ cut.terms) × (x.hi ≡ cut.hi)) is (c.is_same_row.ensures.0 c.if-is_same_row.true)))

pub loop-index-preserved : goal.loop-index-preserved
loop-index-preserved c =
    let cut = c.args.cut.now in
    let i = c.loop-index.index in
    let el = c.index-cuts-index.result in
    let is = get_or-read cut c.args.cuts.now c.args.cuts.now i el refl (omega arith) c.index-cuts-index.is in
    below_more (λ k. ¬ (((get_or c.args.cuts.now k cut).terms ≡ cut.terms) × ((get_or c.args.cuts.now k cut).hi ≡ cut.hi))) i c.loop-index.invariant
    (λ h. false≢true (sym c.if-is_same_row.false ∙ c.is_same_row.ensures.1 (subst (λ (x : CutRow). (x.terms ≡ cut.terms) × (x.hi ≡ cut.hi)) (sym is) h)))

pub returns : goal.returns
returns c = is_not (λ h. c.loop-index.invariant h.0 (let w = h.1.0 in omega (arith, w)) h.1.1)
