use Rattle.std.proofs.Common.{inl, inr}
use Rattle.wcn_driver.proofs.sweeping.restored.Goals as goal

pub put_back-requires : goal.put_back-requires
put_back-requires g c = elim c.requires [
  | inl none ↦ absurd (cc (c.is_memory.ensures.1 none))
  | inr kept ↦ kept
]

pub returns-in-Ok-clause-kept : goal.returns-in-Ok-clause-kept
returns-in-Ok-clause-kept g c = inr c.in-Ok.ensures
