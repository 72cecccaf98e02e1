-- What contracts of private functions alone cite, beside specs/Cuts.
use Rattle.std.specs.Prelude.{◌≡◌, ◌≢◌, List, []}
use Rattle.lp_model.specs.Program.{Program}
use Rattle.lp_model.specs.declared.types.CutRow.{CutRow}
use Rattle.cert_text.specs.declared.cert.NamedCut.{NamedCut}
use Rattle.cert_check.specs.declared.cuts.PlacedCut.{PlacedCut}
use Rattle.cert_check.specs.declared.cuts.PlacedCut.TheVariants.{Stands, Fails}
use Rattle.cert_check.specs.declared.cuts.CutRows.{CutRows}
use Rattle.cert_check.specs.declared.cuts.CutRows.TheVariants.{Stand, Fail}
use Rattle.cert_check.specs.declared.verdict.Judgement.{Judgement}
use Rattle.cert_check.specs.declared.verdict.Judgement.TheVariants.{Passes}
use Rattle.cert_check.specs.Cuts.{row_of_cut, IsCutJudged}

abbrev pub IsPlacedCut : Program → NamedCut → PlacedCut → Type 0
IsPlacedCut M cut (Stands row) = IsCutJudged M cut Passes × (row ≡ row_of_cut M cut)
IsPlacedCut M cut (Fails j) = IsCutJudged M cut j × (j ≢ Passes)

abbrev pub judgement_in : CutRows → Judgement
judgement_in (Stand rows) = Passes
judgement_in (Fail j) = j

abbrev pub rows_in : CutRows → List CutRow
rows_in (Stand rows) = rows.items
rows_in (Fail j) = []
