use Rattle.tree_edit.proofs.search.Search.of_parts.Given as goal

abbrev pub ghosts-with_kept_by : goal.ghosts-with_kept_by
ghosts-with_kept_by a = record { name = a.blank.name; parts = a.blank.parts }
