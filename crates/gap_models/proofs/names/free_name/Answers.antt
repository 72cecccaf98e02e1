use Rattle.std.proofs.Common.{◌≡◌, ◌∙◌, ◌+◌, ap, sym, subst, length, Contains}
use Rattle.std.specs.Prelude.{sum_by}
use Rattle.std.proofs.lemmas.Bool.{false≢true}
use Rattle.inner_models.specs.Names.{free_within, free_name}
use Rattle.gap_models.specs.private.Spaces.{names_of_space}
use Rattle.gap_models.proofs.Search.{one_more, found}
use Rattle.gap_models.proofs.names.free_name.Goals as goal

pub tries-init : goal.tries-init
tries-init c =
    let names = names_of_space c.args.space c.args.model.now in
    (sum_by length names + 1, ap (λ n. free_within (sum_by length names + 1) names n) c.in_ok-name.ensures)

pub returns-then-not-is_taken : goal.returns-then-not-is_taken
returns-then-not-is_taken c =
    let names = names_of_space c.args.space c.args.model.now in
    found names c.args.base.now c.tries.name c.tries.invariant.0 c.tries.invariant.1
    (λ there. false≢true (sym c.if-not-is_taken.true ∙ c.is_taken.ensures.1 (subst (Contains names) (sym c.as_slice.ensures) there)))

pub tries-preserved : goal.tries-preserved
tries-preserved c =
    let names = names_of_space c.args.space c.args.model.now in
    let base = c.args.base.now in
    let more = one_more names base c.tries.name c.tries.invariant.0 c.tries.invariant.1 (subst (Contains names) c.as_slice.ensures (c.is_taken.ensures.0 c.if-not-is_taken.false)) in
    (more.0, subst (λ n. free_within more.0 names n ≡ free_name names base) (sym c.in_ok-push.ensures.pushed) more.1)
