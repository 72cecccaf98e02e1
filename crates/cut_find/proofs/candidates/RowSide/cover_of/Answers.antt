use Rattle.std.proofs.Common.{◌≡◌, ◌∙◌, ◌++◌, ◌∷◌, [], sym, ap, arith, length, List}
use Rattle.lp_model.specs.declared.types.Literal.{Literal}
use Rattle.lp_model.specs.declared.types.Derivation.{Derivation}
use Rattle.cut_find.specs.Greedy.{literals_below}
use Rattle.cut_find.proofs.CoverLemmas.{literal_more, literals_same}
use Rattle.cut_find.proofs.candidates.RowSide.cover_of.Goals.{then-is_in+in-Ok, else-is_in}
use Rattle.cut_find.proofs.candidates.RowSide.cover_of.Goals as goal

pub loop-col-init : goal.loop-col-init
loop-col-init c = c.new-literals.ensures

pub loop-col-preserved : goal.loop-col-preserved
loop-col-preserved c =
    let self = c.args.self.now in
    let M = self.model.now in
    let l = c.loop-col in
    let js = c.args.columns.now in
    elim c.if-is_in.branch [
      | then-is_in+in-Ok w ↦
          w.literals-is ∙ w.in-Ok.ensures.pushed ∙ (λ t. l.invariant t ++ w.literal.ensures t ∷ []) ∙ sym (literal_more M self.row.0 self.side js l.col (sym c.is_in.ensures ∙ w.if-is_in.true))
      | else-is_in w ↦ w.literals-is ∙ l.invariant ∙ sym (literals_same M self.row.0 self.side js l.col (sym c.is_in.ensures ∙ w.if-is_in.false))
    ]

pub returns : goal.returns
returns c =
    let self = c.args.self.now in
    let M = self.model.now in
    let l = c.loop-col in
    let all : l.col ≡ length M.cols = let past = c.loop-col-test.false in let most = c.loop-col.auto.col-end in let items = ap length c.cols-col-end.ensures.items in omega (arith, past, most, items) in
    let made : List Literal → Derivation = λ literals. record { row = self.row; side = self.side; literals = literals } in
    ap made (l.invariant ∙ ap (λ n. literals_below M self.row.0 self.side n c.args.columns.now) all)
