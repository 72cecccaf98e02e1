use Rattle.std.proofs.Common.{◌∙◌, if◌then◌else◌, nat_eq, pos}
use Rattle.frac128.specs.Rational.{int}
use Rattle.lp_model.proofs.ElementLemmas.{of_element-read}
use Rattle.lp_model.proofs.model.Model.cost_at.Goals as goal

pub returns : goal.returns
returns c =
    c.cost_in.ensures
    ∙ of_element-read (int (pos 0)) (λ col. if nat_eq c.args.which 2 then col.cost2 else col.cost) c.args.self.now.cols c.cols.result.now c.args.col c.index-cols-col.result c.cols.ensures.items c.requires c.index-cols-col.is
