use Rattle.std.proofs.Common.{◌≡◌, ◌∙◌, ap}
use Rattle.std.proofs.lemmas.Result.{IfOk-at_ok}
use Rattle.serde_json.specs.Data.{object}
use Rattle.serde_json.specs.View.{members_view}
use Rattle.serde_json.proofs.Views.{view-Object}
use Rattle.warm_writer.proofs.json.object.Goals as goal

pub returns-in-Ok : goal.returns-in-Ok
returns-in-Ok c = λ ms h. view-Object c.in-Ok.members ∙ ap object (IfOk-at_ok (λ m. members_view m.entries ≡ ms) c.in-Ok.is h)
