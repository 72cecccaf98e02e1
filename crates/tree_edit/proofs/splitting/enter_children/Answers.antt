use Rattle.tree_edit.proofs.CloseLemmas.{on-ok}
use Rattle.tree_edit.proofs.splitting.enter_children.Goals as goal

pub put_both-requires : goal.put_both-requires
put_both-requires c = c.requires.apart

pub add_both-requires : goal.add_both-requires
add_both-requires c = c.requires.first

pub returns-in-Ok-clause-put : goal.returns-in-Ok-clause-put
returns-in-Ok-clause-put c = on-ok c.add_both.result c.in-Ok.ensures.put

pub returns-in-Ok-clause-others : goal.returns-in-Ok-clause-others
returns-in-Ok-clause-others c = c.put_both.ensures.others

pub returns-in-Ok-clause-added : goal.returns-in-Ok-clause-added
returns-in-Ok-clause-added c = c.add_both.ensures.added

pub returns-in-Ok-clause-same : goal.returns-in-Ok-clause-same
returns-in-Ok-clause-same c = c.add_both.ensures.kept

pub returns-in-Err-clause-others : goal.returns-in-Err-clause-others
returns-in-Err-clause-others c = c.put_both.ensures.others

pub returns-in-Err-clause-same : goal.returns-in-Err-clause-same
returns-in-Err-clause-same c = λ d. ((λ h. h), (λ h. h))
