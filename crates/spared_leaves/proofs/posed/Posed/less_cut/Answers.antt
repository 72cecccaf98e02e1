use Rattle.std.proofs.Common.{◌≡◌, ◌∙◌, sym, ap, subst, pos, true, false, if◌then◌else◌, OkIff, []}
use Rattle.frac128.specs.Rational.{int, neg_ℚ, ◌+ℚ◌, ◌*ℚ◌}
use Rattle.frac128.specs.RationalRing.{ring, reads_ℚ}
use Rattle.checked_sum.specs.Steps.{StepFits}
use Rattle.checked_sum.proofs.StepLaws.{skip_factor}
use Rattle.lp_model.specs.Cuts.{is_live}
use Rattle.lp_model.specs.CutTerms.{term_of}
use Rattle.lp_model.specs.Formulations.{cut_coefficient}
use Rattle.lp_model.specs.declared.types.CutRow.{CutRow}
use Rattle.leaf_dual.proofs.CutLemmas.{live-is, coefficient-is}
use Rattle.spared_leaves.proofs.posed.Posed.less_cut.Goals as goal

pub returns-then-row : goal.returns-then-row
returns-then-row c = λ w is.
    let cuts = c.args.self.now.cuts.now in
    let row = c.index-self-cut.result in
    let live : is_live cuts c.args.cut ≡ true = live-is cuts c.args.cut row c.requires c.index-self-cut.is ∙ ap (λ (r : CutRow). r.live) c.index-self-cut.is ∙ c.if-row.true in
    let w_is : w ≡ c.args.weight.now = is ∙ (λ i. if live i then c.args.weight.now else int (pos 0)) in
    let number_is : c.term_of.result ≡ cut_coefficient cuts c.args.cut c.args.col = c.term_of.ensures ∙ ap (term_of c.args.col) (c.as_slice.ensures ∙ ap (λ (r : CutRow). r.terms) (sym c.index-self-cut.is)) ∙ sym (coefficient-is cuts c.args.cut row c.requires c.index-self-cut.is c.args.col) in
    subst (λ P. P) (λ i. OkIff c.less_product.result (StepFits c.args.total.now (neg_ℚ (sym w_is i)) (number_is i)) (c.args.total.now +ℚ neg_ℚ (sym w_is i) *ℚ number_is i)) c.less_product.ensures

pub returns-else-row : goal.returns-else-row
returns-else-row c = λ w is.
    let cuts = c.args.self.now.cuts.now in
    let row = c.index-self-cut.result in
    let dead : is_live cuts c.args.cut ≡ false = live-is cuts c.args.cut row c.requires c.index-self-cut.is ∙ ap (λ (r : CutRow). r.live) c.index-self-cut.is ∙ c.if-row.false in
    let none : w ≡ int (pos 0) = is ∙ (λ i. if dead i then c.args.weight.now else int (pos 0)) in
    let zeroed : neg_ℚ (int (pos 0)) ≡ int (pos 0) = ring [] (search reads_ℚ) tt in
    skip_factor c.args.total.now (neg_ℚ w) (cut_coefficient cuts c.args.cut c.args.col) (ap neg_ℚ none ∙ zeroed)
