-- What is told where a sweep ends.
use Rattle.std.specs.Prelude.{◌≡◌, ◌⊎◌, List, length, All}
use Rattle.frac128.specs.Range.{IsNarrow}
use Rattle.frontier.specs.declared.outcomes.Outcome.{Outcome}
use Rattle.frontier.specs.Outcomes.{IsLeastFrontier}
use Rattle.front_sweeps.specs.Steps.{with_constants}
use Rattle.front_text.specs.Whole.{IsFrontCertificate}
use Rattle.front_check.specs.Accepted.{outcome_of, outcomes_of}
use Rattle.front_check.specs.Verdict.{IsFrontVerdict}
use Rattle.front_check.specs.declared.verdict.FrontVerdict.TheVariants.{Accepted}
use Rattle.wcn_driver.specs.declared.task.Task.{Task}
use Rattle.wcn_driver.specs.declared.found.Found.{Found}
use Rattle.wcn_driver.specs.declared.settling.Halt.{Halt}
use Rattle.wcn_driver.specs.declared.settling.Halt.TheVariants.{Stopped, Wide, Memory}
use Rattle.wcn_driver.specs.declared.answers.Part.{Part}
use Rattle.wcn_driver.specs.declared.answers.Mc.{Mc}
use Rattle.wcn_driver.specs.declared.answers.Mc.TheVariants as mc

-- with the constants
abbrev pub shown_outcome : Found → Outcome
shown_outcome f = outcome_of f.shown

abbrev pub IsToldAtPart : List Outcome → Part → Halt → Mc → Type 0
IsToldAtPart front part (Stopped why results bound best) answer = (answer ≡ mc.Memory) ⊎ (answer ≡ mc.Stopped front part why results bound best)
IsToldAtPart front part (Wide at) answer = (answer ≡ mc.Memory) ⊎ (answer ≡ mc.WideScale front part at)
IsToldAtPart front part Memory answer = answer ≡ mc.Memory

-- the whole front with its certificate, or want of memory
abbrev pub IsCompleted : Task → Mc → Type 0
IsCompleted g (mc.Complete front cert) =
    IsLeastFrontier (with_constants g.constant1 g.constant2 g.base) front
    × (IsFrontVerdict (with_constants g.constant1 g.constant2 g.base) cert (Accepted (length cert.outcomes)) × IsFrontCertificate cert) × (outcomes_of cert ≡ front)
    × All (λ (o : Outcome). IsNarrow o.f1 × IsNarrow o.f2) front
IsCompleted g (mc.Infeasible cert results) = ⊥
IsCompleted g (mc.Stopped front part why results bound best) = ⊥
IsCompleted g (mc.NotWhole which col) = ⊥
IsCompleted g (mc.WideScale front part place) = ⊥
IsCompleted g mc.Memory = Unit {0}
