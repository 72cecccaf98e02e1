use Rattle.std.proofs.Common.{◌≡◌, ◌∙◌, length, sym, ap}
use Rattle.std.specs.Prelude.{Option, Some}
use Rattle.std.proofs.lemmas.Result.{IfOk-weaker}
use Rattle.lp_model.specs.Program.{Program, Point}
use Rattle.lp_model.specs.Edits.{Named}
use Rattle.search_parts.specs.Points.{IsIncumbent}
use Rattle.tree_cert.specs.Certificates.{nonzero_numbers, point_numbers}
use Rattle.tree_cert.proofs.AcceptedLaws.{point_shape}
use Rattle.tree_cert.proofs.writing.point.Goals as goal

pub returns-in-Some : goal.returns-in-Some
returns-in-Some c =
    let S = c.args.search.now in
    let x = c.in-Some.point.now in
    IfOk-weaker c.nonzero_numbers.result _ (λ (named : Named). (best : Option Point) × (IsIncumbent S.model S.points best × (named ≡ point_numbers S.model best)))
    (λ named is. (Some x, (c.in-Some.ensures, is ∙ ap (λ (M : Program). nonzero_numbers M.cols x) c.model.ensures))) c.nonzero_numbers.ensures

pub nonzero_numbers-requires : goal.nonzero_numbers-requires
nonzero_numbers-requires c = point_shape c.args.search.now c.in-Some.point.now c.points-sound.ensures.sound c.in-Some.ensures ∙ ap (λ (M : Program). length M.cols) (sym c.model.ensures)
