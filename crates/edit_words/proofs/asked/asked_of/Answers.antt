use Rattle.std.proofs.Common.{map, subst, sym}
use Rattle.edit_words.specs.declared.kinds.EditKind.{EditKind}
use Rattle.edit_words.specs.EditWords.{meaning, IsAskedOf}
use Rattle.edit_words.proofs.asked.asked_of.Goals as goal

pub returns-in-Cost : goal.returns-in-Cost
returns-in-Cost c = subst (λ (k : EditKind). IsAskedOf (meaning k (map (λ word. word.now) c.args.words.now)) c.cost_asked.result) (sym c.in-Cost.is) c.cost_asked.ensures

pub returns-in-Cost2 : goal.returns-in-Cost2
returns-in-Cost2 c = subst (λ (k : EditKind). IsAskedOf (meaning k (map (λ word. word.now) c.args.words.now)) c.cost2_asked.result) (sym c.in-Cost2.is) c.cost2_asked.ensures

pub returns-in-Row : goal.returns-in-Row
returns-in-Row c = subst (λ (k : EditKind). IsAskedOf (meaning k (map (λ word. word.now) c.args.words.now)) c.row_asked.result) (sym c.in-Row.is) c.row_asked.ensures

pub returns-in-Bounds : goal.returns-in-Bounds
returns-in-Bounds c = subst (λ (k : EditKind). IsAskedOf (meaning k (map (λ word. word.now) c.args.words.now)) c.bounds_asked.result) (sym c.in-Bounds.is) c.bounds_asked.ensures

pub returns-in-Kind : goal.returns-in-Kind
returns-in-Kind c = subst (λ (k : EditKind). IsAskedOf (meaning k (map (λ word. word.now) c.args.words.now)) c.kind_asked.result) (sym c.in-Kind.is) c.kind_asked.ensures

pub returns-in-AddCol : goal.returns-in-AddCol
returns-in-AddCol c = subst (λ (k : EditKind). IsAskedOf (meaning k (map (λ word. word.now) c.args.words.now)) c.addcol_asked.result) (sym c.in-AddCol.is) c.addcol_asked.ensures

pub returns-in-DelCol : goal.returns-in-DelCol
returns-in-DelCol c = subst (λ (k : EditKind). IsAskedOf (meaning k (map (λ word. word.now) c.args.words.now)) c.delcol_asked.result) (sym c.in-DelCol.is) c.delcol_asked.ensures

pub returns-in-AddRow : goal.returns-in-AddRow
returns-in-AddRow c = subst (λ (k : EditKind). IsAskedOf (meaning k (map (λ word. word.now) c.args.words.now)) c.whole_row_asked.result) (sym c.in-AddRow.is) c.whole_row_asked.ensures

pub returns-in-DelRow : goal.returns-in-DelRow
returns-in-DelRow c = subst (λ (k : EditKind). IsAskedOf (meaning k (map (λ word. word.now) c.args.words.now)) c.delrow_asked.result) (sym c.in-DelRow.is) c.delrow_asked.ensures

pub returns-in-ReplaceRow : goal.returns-in-ReplaceRow
returns-in-ReplaceRow c = subst (λ (k : EditKind). IsAskedOf (meaning k (map (λ word. word.now) c.args.words.now)) c.whole_row_asked-in-ReplaceRow.result) (sym c.in-ReplaceRow.is) c.whole_row_asked-in-ReplaceRow.ensures
