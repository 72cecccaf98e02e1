use Rattle.leaf_judging.proofs.judging.judge_all_unseen.Given as goal

abbrev pub ghosts-judge_all_with : goal.ghosts-judge_all_with
ghosts-judge_all_with a = record { name = a.blank.name; parts = a.blank.parts }
