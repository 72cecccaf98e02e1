use Rattle.std.proofs.Common.{subst, Err}
use Rattle.serde_json.specs.View.{view}
use Rattle.warm_file.specs.private.Faults.{SaysFault}
use Rattle.warm_file.specs.Rising.{variable_rank, multiplier_at, dual_kind_of, multiplier_by}
use Rattle.warm_file.specs.private.RisingItems.{past_variable}
use Rattle.warm_file.proofs.Saying.{says-there, says-missing, says-first, says-next}
use Rattle.warm_file.proofs.PastLemmas.{behind-past}
use Rattle.warm_file.proofs.rising.MultipliersElementTuple2VarFrac.read.Goals as goal

pub returns-in_default : goal.returns-in_default
unfolding multiplier_by
returns-in_default g c = says-missing 3 _ _ c.bad.result c.in_default.ensures c.bad.ensures

pub returns-in-Ok : goal.returns-in-Ok
unfolding multiplier_by
returns-in-Ok g c =
    let n = c.args.self.now.counts in
    let a = view c.in-Some.first.now in
    let b = view c.in-Some.second.now in
    let d = view c.in-Some.third.now in
    let r = c.multiplier_at.result in
    let said = past_variable n dual_kind_of (λ e. variable_rank e.0) c.args.before.now a b in
    says-there 3 _ _ (a, b, d) r c.in-Some.ensures
    (subst (λ q. SaysFault q r) (behind-past n dual_kind_of (λ e. variable_rank e.0) c.args.before.now a b (λ v. multiplier_at (g.N.Part.states c.args.self.now.numbers) v d))
    (says-next said (λ v. multiplier_at (g.N.Part.states c.args.self.now.numbers) v d) c.in-Ok.var r c.in-Ok.ensures c.multiplier_at.ensures))

pub returns-in-Err : goal.returns-in-Err
unfolding multiplier_by
returns-in-Err g c =
    let n = c.args.self.now.counts in
    let a = view c.in-Some.first.now in
    let b = view c.in-Some.second.now in
    let d = view c.in-Some.third.now in
    let said = past_variable n dual_kind_of (λ e. variable_rank e.0) c.args.before.now a b in
    says-there 3 _ _ (a, b, d) (Err c.in-Err.fault) c.in-Some.ensures
    (subst (λ q. SaysFault q (Err c.in-Err.fault)) (behind-past n dual_kind_of (λ e. variable_rank e.0) c.args.before.now a b (λ v. multiplier_at (g.N.Part.states c.args.self.now.numbers) v d))
    (says-first said (λ v. multiplier_at (g.N.Part.states c.args.self.now.numbers) v d) c.in-Err.fault c.in-Err.ensures))
