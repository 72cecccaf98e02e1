-- Searches as data.
use Rattle.std.specs.Prelude.{List, refl}
use Rattle.std.specs.Coded.{Coded, code_by, coded×, coded_list}
use Rattle.frac128.specs.contracts.frac.Frac.{the_row as frac_row}
use Rattle.lp_model.specs.Program.{Program, Point}
use Rattle.lp_model.specs.contracts.model.Model.{the_row as model_row}
use Rattle.cover_cuts.specs.contracts.pool.CutPool.{the_row as pool_row}
use Rattle.lp_model.specs.declared.types.CutRow.{CutRow}
use Rattle.branch_tree.specs.Numbered.{NumberedTree}
use Rattle.branch_tree.specs.NumberedCode.{tree_code}
use Rattle.sound_searches.specs.Sound.{PlainSearch}

abbrev pub search_code : Coded PlainSearch
search_code =
    code_by (Program × (List CutRow × (NumberedTree × List Point))) (coded× model_row.coded (coded× pool_row.coded (coded× tree_code (coded_list (coded_list frac_row.coded)))))
    (λ S. (S.model, (S.cuts, (S.tree, S.points)))) (λ p. record { model = p.0; cuts = p.1.0; tree = p.1.1.0; points = p.1.1.1 }) (λ _. refl)
