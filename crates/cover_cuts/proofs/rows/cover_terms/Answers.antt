use Rattle.std.proofs.Common.{◌∙◌, ◌++◌, ◌∷◌, [], sym, ap, arith, false}
use Rattle.std.proofs.lemmas.List.{map_more, take_all}
use Rattle.lp_model.specs.declared.types.Literal.{Literal}
use Rattle.cover_cuts.specs.Cuts.{literal_term, cover_terms}
use Rattle.cover_cuts.proofs.rows.cover_terms.Goals as goal

abbrev none : Literal
none = record { col = record { 0 = 0 }; plus = false }

pub loop-literal-preserved : goal.loop-literal-preserved
loop-literal-preserved c =
    c.in-Ok.ensures.pushed
    ∙ (λ i. c.loop-literal.invariant i ++ c.literal_term.ensures i ∷ [])
    ∙ sym (map_more literal_term c.args.literals.now c.loop-literal.literal-index none c.loop-literal-test.true)

pub returns : goal.returns
returns c = c.loop-literal.invariant ∙ ap cover_terms (take_all c.loop-literal.literal-index c.args.literals.now (omega (arith, c.loop-literal-test.false)))
