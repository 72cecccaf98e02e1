use Rattle.std.proofs.Common.{◌≡◌, ◌∙◌, subst}
use Rattle.std.specs.Prelude.{IfOk}
use Rattle.std.proofs.lemmas.Result.{IfOk-at_ok, IfOk-weaker}
use Rattle.serde_json.specs.View.{view}
use Rattle.warm_writer.specs.Written.{three_json}
use Rattle.warm_writer.proofs.json.three.Goals as goal

pub returns-in-Ok-third : goal.returns-in-Ok-third
returns-in-Ok-third c =
    λ a b d ha hb hd.
    let is = c.in-Ok.ensures in
    let first : view c.in-Ok.first ≡ a = IfOk-at_ok (λ v. view v ≡ a) is.0 ha in
    let second : view c.in-Ok.second ≡ b = IfOk-at_ok (λ v. view v ≡ b) is.1 hb in
    let third : view c.in-Ok-third.third ≡ d = subst (λ r. IfOk r (λ v. view v ≡ d)) c.in-Ok-third.is hd in
    IfOk-weaker c.of_three.result _ (λ v. view v ≡ three_json a b d) (λ v e. e ∙ (λ i. three_json (first i) (second i) (third i))) c.of_three.ensures
