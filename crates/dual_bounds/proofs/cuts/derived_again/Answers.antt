use Rattle.std.proofs.Common.{◌≤◌, ◌∙◌, sym, subst, ap, arith, length, List, take}
use Rattle.std.proofs.lemmas.List.{length-take-le, take_all}
use Rattle.lp_model.specs.Program.{Program}
use Rattle.lp_model.specs.declared.types.CutRow.{CutRow}
use Rattle.cover_cuts.specs.Cuts.{IsCutOf, IsPoolOf}
use Rattle.kept_cuts.proofs.KeptLemmas.{take-next}
use Rattle.dual_bounds.specs.NewNumbers.{with_new_numbers}
use Rattle.dual_bounds.specs.TreeBounds.{AreDerivedAgain}
use Rattle.dual_bounds.proofs.CutLemmas.{derived-none, derived-more, derived-many}
use Rattle.dual_bounds.proofs.cuts.derived_again.Goals as goal

pub loop-cut-init : goal.loop-cut-init
loop-cut-init c = derived-none c.args.model.now c.new-again.result c.new-again.ensures

pub add_again-requires-clause-room : goal.add_again-requires-clause-room
add_again-requires-clause-room c =
    let cuts = c.rows-cuts.result.now in
    let i = c.loop-cut.cut-index in
    let many = derived-many c.args.model.now (take i cuts) c.loop-cut.again c.loop-cut.invariant in
    let long = length-take-le i cuts (omega (arith, c.loop-cut-test.true)) in
    omega (arith, many, long, c.loop-cut-test.true, c.rows-cuts.ensures.few, ap length c.rows-cuts.ensures.rows)

pub add_again-requires-clause-cut : goal.add_again-requires-clause-cut
add_again-requires-clause-cut c =
    let own = c.model-own.result.now in
    let same = c.rows-cuts.ensures.rows ∙ c.pool-pool.ensures.pool in
    let pool : IsPoolOf own c.rows-cuts.result.now = subst (λ P. P) (λ i. IsPoolOf (sym c.model-own.ensures i) (sym same i)) c.pool-pool.ensures.sound.pool in
    subst (IsCutOf own) (sym c.cut-item.is) (pool c.loop-cut.cut-index c.cut-item.result c.loop-cut-test.true)

pub add_again-requires-clause-given : goal.add_again-requires-clause-given
add_again-requires-clause-given c = c.requires ∙ ap (λ (M : Program). with_new_numbers M c.args.given.now) (sym c.model-own.ensures)

pub loop-cut-preserved : goal.loop-cut-preserved
loop-cut-preserved c =
    let cuts = c.rows-cuts.result.now in
    let i = c.loop-cut.cut-index in
    let cut = c.cut-item.result in
    subst (λ (l : List CutRow). AreDerivedAgain c.args.model.now l c.add_again.new.again) (sym (take-next cuts i cut c.loop-cut-test.true c.cut-item.is))
    (derived-more c.args.model.now (take i cuts) c.loop-cut.again c.add_again.new.again cut c.loop-cut.invariant c.in_ok-add_again.ensures)

pub returns-clause-derived : goal.returns-clause-derived
returns-clause-derived c =
    let cuts = c.rows-cuts.result.now in
    let end : length cuts ≤ c.loop-cut.cut-index = omega (arith, c.loop-cut-test.false) in
    subst (λ (l : List CutRow). AreDerivedAgain c.args.model.now l c.loop-cut.again) (take_all c.loop-cut.cut-index cuts end ∙ c.rows-cuts.ensures.rows ∙ c.pool-pool.ensures.pool) c.loop-cut.invariant

pub returns-clause-sound : goal.returns-clause-sound
returns-clause-sound c = c.pool-pool.ensures.sound
