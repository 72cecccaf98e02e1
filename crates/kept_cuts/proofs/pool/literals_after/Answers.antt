use Rattle.std.proofs.Common.{◌∙◌, ◌∷◌, ◌++◌, [], false, map, take, get_or, sym, ap, arith}
use Rattle.std.proofs.lemmas.List.{map-append, take_more, take_all}
use Rattle.lp_model.specs.declared.types.Literal.{Literal}
use Rattle.kept_cuts.specs.Kept.{literal_after}
use Rattle.kept_cuts.proofs.pool.literals_after.Goals as goal

abbrev none : Literal
none = record { col = record { 0 = 0 }; plus = false }

pub loop-literal-preserved : goal.loop-literal-preserved
loop-literal-preserved c =
    let literals = c.args.literals.now in
    let i = c.loop-literal.literal-index in
    let literal : Literal = get_or literals i none in
    c.in-Ok.ensures.pushed
    ∙ ap (λ l. c.loop-literal.after ++ l ∷ []) c.literal_after.ensures
    ∙ ap (λ ls. ls ++ literal_after c.args.gone literal ∷ []) c.loop-literal.invariant
    ∙ sym (map-append (literal_after c.args.gone) (take i literals) (literal ∷ []))
    ∙ ap (map (literal_after c.args.gone)) (sym (take_more literals i none c.loop-literal-test.true))

pub returns : goal.returns
returns c = c.loop-literal.invariant ∙ ap (map (literal_after c.args.gone)) (take_all c.loop-literal.literal-index c.args.literals.now (omega (arith, c.loop-literal-test.false)))
