use Rattle.std.specs.Prelude.{IsTrue}
use Rattle.std.proofs.Common.{subst}
use Rattle.sound_searches.specs.Laws.{HasNoOpenLeaf}
use Rattle.tree_manager.specs.Managers.{PlainManager}
use Rattle.tree_manager.specs.Laws.{ShowsEnd}
use Rattle.tree_manager.proofs.EndLemmas.{tells-end}
use Rattle.tree_manager.proofs.AnswerLemmas.{shows-end}
use Rattle.tree_manager.proofs.manager.Manager.finished.Goals as goal

pub returns-clause-finished : goal.returns-clause-finished
returns-clause-finished c =
    let tells = tells-end c.self.inside.search c.next_leaf.result c.next_leaf.ensures c.is_none.result c.is_none.ensures in
    subst (λ (P : PlainManager). (IsTrue c.is_none.result → HasNoOpenLeaf P.search) × (HasNoOpenLeaf P.search → IsTrue c.is_none.result)) c.self.view_is tells

pub returns-clause-shows : goal.returns-clause-shows
returns-clause-shows c =
    let tells = tells-end c.self.inside.search c.next_leaf.result c.next_leaf.ensures c.is_none.result c.is_none.ensures in
    subst (λ (P : PlainManager). IsTrue c.is_none.result → ShowsEnd P.search) c.self.view_is (λ t. shows-end c.self.inside.search c.points-sound.ensures.sound (tells.0 t))
