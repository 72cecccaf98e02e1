use Rattle.std.proofs.Common.{◌≡◌, ◌∙◌, [], ◌∷◌, ◌++◌, sym}
use Rattle.std.proofs.lemmas.Bool.{false≢true}
use Rattle.std.proofs.lemmas.Result.{IfOk-weaker}
use Rattle.basic_solution.proofs.ListLemmas.{multipliers_skip, multipliers_more}
use Rattle.basic_solution.proofs.sided.SidedBasis.add_multiplier.Goals as goal

pub variable-requires : goal.variable-requires
variable-requires c = c.requires.within

pub returns-then-is_zero : goal.returns-then-is_zero
returns-then-is_zero c = λ y is before. multipliers_skip c.args.self.now y c.args.variable c.args.list.now before (sym is ∙ c.is_zero.ensures.0 c.if-is_zero.true)

pub returns : goal.returns
returns c =
    let s = c.args.self.now in
    IfOk-weaker c.push.result (λ _. c.push.new.self ≡ c.args.list.now ++ (c.variable.result, c.args.number) ∷ []) _
    (λ _ pushed y is before. multipliers_more s y c.args.variable c.args.list.now before c.push.new.self c.variable.result c.args.number pushed c.variable.ensures is c.requires.activity
    (λ none. false≢true (sym c.if-is_zero.false ∙ c.is_zero.ensures.1 none)))
    c.push.ensures.pushed
