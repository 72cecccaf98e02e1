use Rattle.tree_rows.proofs.counting.count_edit.Given as goal

abbrev pub ghosts-edit_second_cost_by : goal.ghosts-edit_second_cost_by
ghosts-edit_second_cost_by a = record { name = a.blank.name; parts = a.blank.parts }
