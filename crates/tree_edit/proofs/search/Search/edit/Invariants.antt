use Rattle.tree_edit.proofs.search.Search.edit.Given as goal

abbrev pub ghosts-edit_by : goal.ghosts-edit_by
ghosts-edit_by a = record { name = a.blank.name; parts = a.blank.parts }
