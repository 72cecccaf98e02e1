use Rattle.std.specs.Prelude.{List, [], map}
use Rattle.std.proofs.Common.{sym, subst}
use Rattle.frontier.specs.Covers.{IsFront}
use Rattle.wcn_driver.specs.declared.found.Found.{Found}
use Rattle.wcn_driver.specs.private.Kept.{UnlessMemory}
use Rattle.wcn_driver.specs.private.Told.{shown_outcome, IsToldAtPart}
use Rattle.wcn_driver.proofs.EndHalts.{unless_memory}
use Rattle.wcn_driver.proofs.Ended.{front_none}
use Rattle.wcn_driver.proofs.told.told_without.Goals as goal

pub told-requires : goal.told-requires
told-requires c = subst (λ (l : List Found). UnlessMemory (IsFront (map shown_outcome l)) c.args.halt) (sym c.new.ensures.items) (unless_memory (IsFront []) front_none c.args.halt)

pub returns : goal.returns
returns c = subst (λ (l : List Found). IsToldAtPart (map shown_outcome l) c.args.part c.args.halt c.told.result) c.new.ensures.items c.told.ensures
