use Rattle.std.specs.Prelude.{List, map}
use Rattle.std.proofs.Common.{◌∙◌, ap, sym, subst}
use Rattle.std.proofs.lemmas.Result.{IfOk-weaker}
use Rattle.frontier.specs.Covers.{IsFront}
use Rattle.wcn_driver.specs.declared.found.Found.{Found}
use Rattle.wcn_driver.specs.private.Told.{shown_outcome}
use Rattle.wcn_driver.proofs.told.last_front.Goals as goal

pub front_of-front-requires : goal.front_of-front-requires
front_of-front-requires c = subst (λ (l : List Found). IsFront (map shown_outcome l)) (sym c.deref.ensures.value) c.requires

pub returns : goal.returns
returns c = IfOk-weaker c.front_of-front.result _ _ (λ front h. h ∙ ap (map shown_outcome) c.deref.ensures.value) c.front_of-front.ensures
