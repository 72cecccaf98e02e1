use Rattle.std.proofs.Common.{◌∙◌, pos}
use Rattle.frac128.specs.Rational.{int}
use Rattle.lp_model.specs.Program.{entry_of}
use Rattle.lp_model.proofs.ElementLemmas.{of_element-read}
use Rattle.lp_model.proofs.model.Model.coefficient.Goals as goal

pub returns : goal.returns
returns c =
    c.entry.ensures
    ∙ of_element-read (int (pos 0)) (λ col. entry_of c.args.row col.rows) c.args.self.now.cols c.cols.result.now c.args.col c.index-cols-col.result c.cols.ensures.items c.requires c.index-cols-col.is
