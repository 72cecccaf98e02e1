use Rattle.std.proofs.Common.{subst, refl}
use Rattle.branch_tree.specs.Numbered.{IsNumbered}
use Rattle.sound_searches.specs.Calls.{IsNext}
use Rattle.tree_search.proofs.ExtendLemmas.{extends-self}
use Rattle.tree_search.proofs.StepLemmas.{next-open_leaf, no-leaf_open}
use Rattle.tree_search.specs.Warm.{Still, SomeOpen}
use Rattle.sym_env.proofs.WarmLemmas.{finished-bounded, finished-ended}
use Rattle.sym_env.proofs.warming.warm_limited.Goals as goal

pub finished-answer-requires : goal.finished-answer-requires
finished-answer-requires c = no-leaf_open c.args.search (subst (IsNext c.args.search) c.in-None.is c.next_leaf.ensures)

pub resume-requires : goal.resume-requires
resume-requires c =
    let S = c.args.search in
    record { workers = c.requires.workers; gap = c.requires.gap; some = next-open_leaf S c.in-Some.field-0 (subst IsNumbered c.tree.ensures.tree c.nodes-numbered.ensures.numbered) (subst (IsNext S) c.in-Some.is c.next_leaf.ensures) }

pub returns-in-None-clause-warms : goal.returns-in-None-clause-warms
returns-in-None-clause-warms c = Still (no-leaf_open c.args.search (subst (IsNext c.args.search) c.in-None.is c.next_leaf.ensures)) refl c.finished-answer.ensures

pub returns-in-None-clause-extends : goal.returns-in-None-clause-extends
returns-in-None-clause-extends c = extends-self c.args.search.tree.root

pub returns-in-None-clause-ray : goal.returns-in-None-clause-ray
returns-in-None-clause-ray c = finished-bounded c.args.search c.finished-answer.result c.finished-answer.ensures

pub returns-in-None-clause-complete : goal.returns-in-None-clause-complete
returns-in-None-clause-complete c = λ enough. finished-ended c.args.search c.finished-answer.result c.finished-answer.ensures

pub returns-in-Some-clause-warms : goal.returns-in-Some-clause-warms
returns-in-Some-clause-warms c =
    let S = c.args.search in
    SomeOpen (next-open_leaf S c.in-Some.field-0 (subst IsNumbered c.tree.ensures.tree c.nodes-numbered.ensures.numbered) (subst (IsNext S) c.in-Some.is c.next_leaf.ensures)) c.resume.ensures.resumes
