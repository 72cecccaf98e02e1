use Rattle.std.proofs.Common.{◌≡◌, ◌∙◌, ap, subst}
use Rattle.std.specs.Prelude.{IfOk}
use Rattle.std.proofs.lemmas.Result.{IfOk-weaker}
use Rattle.serde_json.specs.Data.{put}
use Rattle.serde_json.specs.View.{view, members_view}
use Rattle.warm_writer.proofs.json.with.Goals as goal

pub returns-in-Ok-value : goal.returns-in-Ok-value
returns-in-Ok-value c =
    λ d ms hd hms.
    let value : view c.in-Ok-value.value ≡ d = subst (λ r. IfOk r (λ v. view v ≡ d)) c.in-Ok-value.is hd in
    let members : members_view c.in-Ok.members.entries ≡ ms = subst (λ r. IfOk r (λ m. members_view m.entries ≡ ms)) c.in-Ok.is hms in
    IfOk-weaker c.with_value.result _ (λ m. members_view m.entries ≡ put c.args.key.now d ms)
    (λ m e. e ∙ ap (λ x. put c.args.key.now x (members_view c.in-Ok.members.entries)) value ∙ ap (put c.args.key.now d) members) c.with_value.ensures
