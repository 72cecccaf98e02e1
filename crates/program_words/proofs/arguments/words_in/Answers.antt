use Rattle.std.proofs.Common.{refl, ◌≡◌, sym, subst, IfOk}
use Rattle.std.specs.Vec.Iter.{into_iter_items}
use Rattle.std.proofs.lemmas.Iterator.{items_from_collect}
use Rattle.std.proofs.lemmas.Iterator.Adapters.{YieldsList-from_vec}
use Rattle.program_words.proofs.arguments.words_in.Goals as goal

pub returns-in-Ok-clause-given : goal.returns-in-Ok-clause-given
returns-in-Ok-clause-given c =
    subst (λ r. IfOk r (λ arguments. IfOk c.collect.result (λ words. words.items ≡ into_iter_items arguments))) (sym c.in-Ok.is)
    (items_from_collect c.collect.result c.collect.ensures.ran (YieldsList-from_vec (into_iter_items c.in-Ok.arguments) refl c.in-Ok.arguments.rest.ok.0))
