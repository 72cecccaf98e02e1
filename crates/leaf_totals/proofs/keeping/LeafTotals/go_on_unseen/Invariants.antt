use Rattle.leaf_totals.proofs.keeping.LeafTotals.go_on_unseen.Given as goal

abbrev pub ghosts-go_on_with : goal.ghosts-go_on_with
ghosts-go_on_with a = record { name = a.blank.name; parts = a.blank.parts }
