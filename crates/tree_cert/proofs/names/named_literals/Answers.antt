use Rattle.std.proofs.Common.{◌∙◌, ◌∷◌, ◌++◌, [], false, map, take, get_or, sym, ap, arith}
use Rattle.std.proofs.lemmas.List.{map-append, take_more, take_all}
use Rattle.lp_model.specs.declared.types.Literal.{Literal}
use Rattle.tree_cert.specs.Cuts.{named_literal}
use Rattle.tree_cert.proofs.names.named_literals.Goals as goal

abbrev none : Literal
none = record { col = record { 0 = 0 }; plus = false }

pub column_name-requires : goal.column_name-requires
column_name-requires c = c.requires c.loop-literal.literal-index none c.loop-literal-test.true

pub loop-literal-preserved : goal.loop-literal-preserved
loop-literal-preserved c =
    let M = c.args.model.now in
    let literals = c.args.literals.now in
    let i = c.loop-literal.literal-index in
    let literal : Literal = get_or literals i none in
    c.in-Ok-push.ensures.pushed
    ∙ ap (λ name. c.loop-literal.named ++ (name, literal.plus) ∷ []) c.in-Ok.ensures
    ∙ ap (λ named. named ++ named_literal M literal ∷ []) c.loop-literal.invariant
    ∙ sym (map-append (named_literal M) (take i literals) (literal ∷ []))
    ∙ ap (map (named_literal M)) (sym (take_more literals i none c.loop-literal-test.true))

pub returns : goal.returns
returns c = c.loop-literal.invariant ∙ ap (map (named_literal c.args.model.now)) (take_all c.loop-literal.literal-index c.args.literals.now (omega (arith, c.loop-literal-test.false)))
