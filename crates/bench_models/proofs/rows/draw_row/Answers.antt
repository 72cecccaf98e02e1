use Rattle.std.specs.Prelude.{◌≡◌, ◌*◌, ◌≤◌}
use Rattle.std.proofs.Common.{arith}
use Rattle.bench_models.specs.BenchModels.{total}
use Rattle.bench_models.proofs.NextLemmas.{total-most}
use Rattle.bench_models.proofs.rows.draw_row.Goals as goal

pub overflow_add-total : goal.overflow_add-total
overflow_add-total c =
    let most : total c.args.words.now c.loop-place.place ≤ 9 * c.loop-place.place = total-most c.args.words.now c.loop-place.place in
    let same : c.loop-place.total ≡ total c.args.words.now c.loop-place.place = c.loop-place.invariant.1 in
    omega (arith, most, same, c.loop-place-test.true, c.from-total.ensures)
