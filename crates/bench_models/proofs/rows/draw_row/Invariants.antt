use Rattle.std.specs.Prelude.{◌≡◌}
use Rattle.turn_order.specs.Words.{after_words}
use Rattle.bench_models.specs.BenchModels.{row_coefficients, total}
use Rattle.bench_models.proofs.rows.draw_row.Given as goal

abbrev pub invariant-loop-place : goal.invariant-loop-place
invariant-loop-place l = (l.named ≡ row_coefficients l.fn.words l.place) × (l.total ≡ total l.fn.words l.place) × (l.words ≡ after_words l.place l.fn.words)
