use Rattle.std.specs.Prelude.{◌≡◌, List, [], ◌∷◌, map}
use Rattle.std.proofs.Common.{refl, sym, ap, ◌∙◌}
use Rattle.std.proofs.lemmas.Iterator.Adapters.{YieldsList-from_vec}
use Rattle.std.proofs.lemmas.Iterator.Consumers.{YieldsList-end}
use Rattle.wcn_driver.specs.declared.found.Found.{Found}
use Rattle.wcn_driver.proofs.sweeping.shown_of.Goals as goal

same : (l : List Found) → map (λ (f : Found). f) l ≡ l
same [] = refl
same (f ∷ l) = ap (λ (k : List Found). f ∷ k) (same l)

pub returns : goal.returns
returns c =
    let start = c.into_iter-item-iterator.ensures in
    let end =
    YieldsList-end (YieldsList-from_vec {s = c.into_iter-item-iterator.result} c.args.found.items (cc) (cc)) c.loop-item.yielded c.loop-item.item-iterator c.loop-item.yielded_by
    c.next.result c.next.new.self c.in-None.is c.next.ensures.steps in
    c.loop-item.invariant ∙ ap (map (λ (f : Found). f.shown)) (sym (same c.loop-item.yielded) ∙ end.0)
