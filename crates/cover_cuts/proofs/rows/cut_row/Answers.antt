use Rattle.std.specs.Prelude.{◌≡◌, IfOk}
use Rattle.std.proofs.Common.{subst}
use Rattle.lp_model.specs.declared.types.CutRow.{CutRow}
use Rattle.lp_model.specs.declared.types.Derivation.{Derivation}
use Rattle.cover_cuts.proofs.rows.cut_row.Goals as goal

pub returns-clause-from : goal.returns-clause-from
returns-clause-from c =
    subst (λ (d : Derivation). IfOk c.row_of.result (λ (r : CutRow). r.from ≡ d)) (λ i. record c.args.derivation.now { literals = c.in-Ok.ensures i }) c.row_of.ensures.from

pub returns-clause-cut : goal.returns-clause-cut
returns-clause-cut c = c.row_of.ensures.cut
