use Rattle.std.proofs.Common.{◌≡◌, ◌∙◌, sym, inl, inr, arith}
use Rattle.cover_cuts.specs.declared.pool.PoolFault.{PoolFault}
use Rattle.cover_cuts.specs.declared.pool.PoolFault.TheVariants.{Full, Memory}
use Rattle.kept_cuts.proofs.pool.add_derivation.Goals as goal

pub returns-in-Ok : goal.returns-in-Ok
returns-in-Ok c = c.in-Ok.ensures.added

pub unreachable-requires : goal.unreachable-requires
unreachable-requires c = elim c.in-Err-Full.ensures.fault [
  | inl memory ↦ let apart : ◌≡◌ {A = PoolFault} Full Memory = sym c.in-Err-Full.field-0-is ∙ memory in cc
  | inr full ↦ absurd (omega (arith, full.1, c.requires))
]
