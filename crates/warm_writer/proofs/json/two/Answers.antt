use Rattle.std.proofs.Common.{◌≡◌}
use Rattle.std.proofs.lemmas.Result.{IfOk-at_ok}
use Rattle.serde_json.specs.View.{view}
use Rattle.warm_writer.proofs.Objects.{two-view}
use Rattle.warm_writer.proofs.json.two.Goals as goal

pub returns-in-Ok-from_array : goal.returns-in-Ok-from_array
returns-in-Ok-from_array c =
    λ a b ha hb.
    let is = c.in-Ok.ensures in
    two-view c.in-Ok-from_array.values c.in-Ok.first c.in-Ok.second a b c.in-Ok-from_array.ensures.items (IfOk-at_ok (λ v. view v ≡ a) is.0 ha) (IfOk-at_ok (λ v. view v ≡ b) is.1 hb)
