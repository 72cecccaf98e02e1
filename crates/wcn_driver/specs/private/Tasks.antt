-- What a sweep stands on.
use Rattle.std.specs.Prelude.{◌<◌, ◌^◌}
use Rattle.frac128.specs.Range.{IsNarrow}
use Rattle.inner_models.specs.Room.{HasInnerRoom}
use Rattle.front_sweeps.specs.Steps.{IsBase}
use Rattle.wcn_driver.specs.declared.task.Task.{Task}

pub record IsSweepTask (g : Task) : Type 0 where
  pub base : IsBase g.base
  pub room : HasInnerRoom g.base
  pub first : IsNarrow g.constant1
  pub second : IsNarrow g.constant2
  pub few : g.nodes < 2 ^ 64
