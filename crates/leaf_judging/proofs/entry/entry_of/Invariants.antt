use Rattle.leaf_judging.proofs.entry.entry_of.Given as goal

abbrev pub ghosts-entry_with : goal.ghosts-entry_with
ghosts-entry_with a = record { name = a.blank.name; parts = a.blank.parts }
