use Rattle.std.proofs.Common.{refl, sym, ◌∙◌, ap, subst, inl, inr, arith}
use Rattle.std.specs.Prelude.{Err}
use Rattle.script_session.specs.Run.{outside}
use Rattle.program_words.specs.Forms.{AskedForm, form_shown}
use Rattle.sym_shell.specs.Run.{around, RunsAs}
use Rattle.sym_shell.proofs.RunLemmas.{run_form, check_form, bench_form, not_usage, below_seven}
use Rattle.sym_shell.proofs.program.run.Goals as goal

pub returns-in-Ok-Run-clause-run_form : goal.returns-in-Ok-Run-clause-run_form
returns-in-Ok-Run-clause-run_form g c = run_form c.args.words.now c.run_commands.result (λ _. c.run_commands.ensures.known.0)

pub returns-in-Ok-Run-clause-check_form : goal.returns-in-Ok-Run-clause-check_form
returns-in-Ok-Run-clause-check_form g c = check_form c.args.words.now c.run_commands.result (λ _. c.run_commands.ensures.known.0)

pub returns-in-Ok-Run-clause-ran : goal.returns-in-Ok-Run-clause-ran
returns-in-Ok-Run-clause-ran g c = λ _.
    let left = g.R.Source.left in
    let handed = g.R.Source.handed in
    let written = g.W.Sink.written in
    let before = outside (left c.args.script.now) (handed c.args.script.now) (g.R.Source.faults c.args.script.now) (written c.args.out.now) (g.W.Sink.faults c.args.out.now) in
    let after = outside (left c.run_commands.new.script) (handed c.run_commands.new.script) (g.R.Source.faults c.run_commands.new.script) (written c.run_commands.new.out) (g.W.Sink.faults c.run_commands.new.out) in
    let all = around before after (g.S.Store.files c.args.store.now) (g.S.Store.files c.run_commands.new.store) (g.S.Store.faults c.args.store.now) (g.S.Store.faults c.run_commands.new.store) in
    inl (subst (λ (form : AskedForm). RunsAs form all c.run_commands.result) (sym (ap form_shown c.in-Ok-Run.field-0-is) ∙ c.in-Ok-Run.ensures.asked) c.run_commands.ensures.ran)

pub returns-in-Ok-Check-clause-run_form : goal.returns-in-Ok-Check-clause-run_form
returns-in-Ok-Check-clause-run_form g c = run_form c.args.words.now c.run_check.result (λ _. not_usage c.run_check.result c.run_check.ensures.known)

pub returns-in-Ok-Check-clause-check_form : goal.returns-in-Ok-Check-clause-check_form
returns-in-Ok-Check-clause-check_form g c = check_form c.args.words.now c.run_check.result (λ _. not_usage c.run_check.result c.run_check.ensures.known)

pub returns-in-Ok-Check-clause-ran : goal.returns-in-Ok-Check-clause-ran
returns-in-Ok-Check-clause-ran g c = λ _.
    let left = g.R.Source.left c.args.script.now in
    let handed = g.R.Source.handed c.args.script.now in
    let written = g.W.Sink.written in
    let before = outside left handed (g.R.Source.faults c.args.script.now) (written c.args.out.now) (g.W.Sink.faults c.args.out.now) in
    let after = outside left handed (g.R.Source.faults c.args.script.now) (written c.run_check.new.out) (g.W.Sink.faults c.run_check.new.out) in
    let all = around before after (g.S.Store.files c.args.store.now) (g.S.Store.files c.run_check.new.store) (g.S.Store.faults c.args.store.now) (g.S.Store.faults c.run_check.new.store) in
    inl (subst (λ (form : AskedForm). RunsAs form all c.run_check.result) (sym (ap form_shown c.in-Ok-Check.field-0-is) ∙ c.in-Ok-Check.ensures.asked)
    (record { printed = c.run_check.ensures.printed; left = refl; handed = refl; source_faults = refl; files = c.run_check.ensures.files }))

pub returns-in-Err-Refused-clause-run_form : goal.returns-in-Err-Refused-clause-run_form
returns-in-Err-Refused-clause-run_form g c = run_form c.args.words.now c.write_usage.result (λ takes. absurd (c.in-Err-Refused.ensures.refused (ap Err c.in-Err-Refused.field-0-is) takes))

pub returns-in-Err-Refused-clause-check_form : goal.returns-in-Err-Refused-clause-check_form
returns-in-Err-Refused-clause-check_form g c = check_form c.args.words.now c.write_usage.result (λ takes. absurd (c.in-Err-Refused.ensures.refused (ap Err c.in-Err-Refused.field-0-is) takes))

pub returns-in-Err-Memory-clause-run_form : goal.returns-in-Err-Memory-clause-run_form
returns-in-Err-Memory-clause-run_form g c = run_form c.args.words.now 5 (λ _ two. absurd (omega arith))

pub returns-in-Err-Memory-clause-check_form : goal.returns-in-Err-Memory-clause-check_form
returns-in-Err-Memory-clause-check_form g c = check_form c.args.words.now 5 (λ _ two. absurd (omega arith))

pub returns-in-Ok-Run-clause-usage : goal.returns-in-Ok-Run-clause-usage
returns-in-Ok-Run-clause-usage g c = λ two. absurd (c.run_commands.ensures.known.0 two)

pub returns-in-Ok-Run-clause-usage_only : goal.returns-in-Ok-Run-clause-usage_only
returns-in-Ok-Run-clause-usage_only g c = λ no. absurd (no c.in-Ok-Run.ensures.taken)

pub returns-in-Ok-Run-clause-usage_line : goal.returns-in-Ok-Run-clause-usage_line
returns-in-Ok-Run-clause-usage_line g c = λ two. absurd (c.run_commands.ensures.known.0 two)

pub returns-in-Ok-Run-clause-unwritten : goal.returns-in-Ok-Run-clause-unwritten
returns-in-Ok-Run-clause-unwritten g c = λ no five. absurd (no c.in-Ok-Run.ensures.taken)

pub returns-in-Ok-Run-clause-untouched : goal.returns-in-Ok-Run-clause-untouched
returns-in-Ok-Run-clause-untouched g c = λ no. absurd (no c.in-Ok-Run.ensures.taken)

pub returns-in-Ok-Check-clause-usage : goal.returns-in-Ok-Check-clause-usage
returns-in-Ok-Check-clause-usage g c = λ two. absurd (not_usage c.run_check.result c.run_check.ensures.known two)

pub returns-in-Ok-Check-clause-usage_only : goal.returns-in-Ok-Check-clause-usage_only
returns-in-Ok-Check-clause-usage_only g c = λ no. absurd (no c.in-Ok-Check.ensures.taken)

pub returns-in-Ok-Check-clause-usage_line : goal.returns-in-Ok-Check-clause-usage_line
returns-in-Ok-Check-clause-usage_line g c = λ two. absurd (not_usage c.run_check.result c.run_check.ensures.known two)

pub returns-in-Ok-Check-clause-unwritten : goal.returns-in-Ok-Check-clause-unwritten
returns-in-Ok-Check-clause-unwritten g c = λ no five. absurd (no c.in-Ok-Check.ensures.taken)

pub returns-in-Ok-Check-clause-untouched : goal.returns-in-Ok-Check-clause-untouched
returns-in-Ok-Check-clause-untouched g c = λ no. absurd (no c.in-Ok-Check.ensures.taken)

pub returns-in-Ok-Run-clause-known : goal.returns-in-Ok-Run-clause-known
returns-in-Ok-Run-clause-known g c = c.run_commands.ensures.known.1

pub returns-in-Ok-Run-clause-source_later : goal.returns-in-Ok-Run-clause-source_later
returns-in-Ok-Run-clause-source_later g c = c.run_commands.ensures.source_later

pub returns-in-Ok-Run-clause-sink_later : goal.returns-in-Ok-Run-clause-sink_later
returns-in-Ok-Run-clause-sink_later g c = c.run_commands.ensures.sink_later

pub returns-in-Ok-Run-clause-store_later : goal.returns-in-Ok-Run-clause-store_later
returns-in-Ok-Run-clause-store_later g c = c.run_commands.ensures.store_later

pub returns-in-Ok-Check-clause-known : goal.returns-in-Ok-Check-clause-known
returns-in-Ok-Check-clause-known g c = below_seven c.run_check.result c.run_check.ensures.known

pub returns-in-Ok-Check-clause-sink_later : goal.returns-in-Ok-Check-clause-sink_later
returns-in-Ok-Check-clause-sink_later g c = c.run_check.ensures.sink_later

pub returns-in-Ok-Check-clause-store_later : goal.returns-in-Ok-Check-clause-store_later
returns-in-Ok-Check-clause-store_later g c = c.run_check.ensures.store_later

pub returns-in-Err-Refused-clause-usage : goal.returns-in-Err-Refused-clause-usage
returns-in-Err-Refused-clause-usage g c = λ two. c.in-Err-Refused.ensures.refused (ap Err c.in-Err-Refused.field-0-is)

pub returns-in-Err-Refused-clause-usage_only : goal.returns-in-Err-Refused-clause-usage_only
returns-in-Err-Refused-clause-usage_only g c = λ no. inl c.write_usage.ensures.status

pub returns-in-Err-Refused-clause-usage_line : goal.returns-in-Err-Refused-clause-usage_line
returns-in-Err-Refused-clause-usage_line g c = λ two. c.write_usage.ensures.line

pub returns-in-Err-Refused-clause-untouched : goal.returns-in-Err-Refused-clause-untouched
returns-in-Err-Refused-clause-untouched g c = λ no. (refl, refl, refl, refl, refl)

pub returns-in-Err-Refused-clause-ran : goal.returns-in-Err-Refused-clause-ran
returns-in-Err-Refused-clause-ran g c = λ takes. absurd (c.in-Err-Refused.ensures.refused (ap Err c.in-Err-Refused.field-0-is) takes)

pub returns-in-Err-Refused-clause-sink_later : goal.returns-in-Err-Refused-clause-sink_later
returns-in-Err-Refused-clause-sink_later g c = c.write_usage.ensures.sink_later

pub returns-in-Err-Memory-clause-usage_only : goal.returns-in-Err-Memory-clause-usage_only
returns-in-Err-Memory-clause-usage_only g c = λ no. inr refl

pub returns-in-Err-Memory-clause-unwritten : goal.returns-in-Err-Memory-clause-unwritten
returns-in-Err-Memory-clause-unwritten g c = λ no five. refl

pub returns-in-Err-Memory-clause-untouched : goal.returns-in-Err-Memory-clause-untouched
returns-in-Err-Memory-clause-untouched g c = λ no. (refl, refl, refl, refl, refl)

pub returns-in-Err-Memory-clause-ran : goal.returns-in-Err-Memory-clause-ran
returns-in-Err-Memory-clause-ran g c = λ takes. inr (refl, record { ends = refl; files = refl; faults = refl })

pub returns-in-Ok-Bench-clause-run_form : goal.returns-in-Ok-Bench-clause-run_form
returns-in-Ok-Bench-clause-run_form g c = run_form c.args.words.now c.run_bench.result (λ _. not_usage c.run_bench.result c.run_bench.ensures.known)

pub returns-in-Ok-Bench-clause-check_form : goal.returns-in-Ok-Bench-clause-check_form
returns-in-Ok-Bench-clause-check_form g c = check_form c.args.words.now c.run_bench.result (λ _. not_usage c.run_bench.result c.run_bench.ensures.known)

pub returns-in-Ok-Bench-clause-bench_form : goal.returns-in-Ok-Bench-clause-bench_form
returns-in-Ok-Bench-clause-bench_form g c = bench_form c.args.words.now c.run_bench.result (λ _. not_usage c.run_bench.result c.run_bench.ensures.known)

pub returns-in-Ok-Bench-clause-ran : goal.returns-in-Ok-Bench-clause-ran
returns-in-Ok-Bench-clause-ran g c = λ _.
    let left = g.R.Source.left c.args.script.now in
    let handed = g.R.Source.handed c.args.script.now in
    let written = g.W.Sink.written in
    let files = g.S.Store.files c.args.store.now in
    let faults = g.S.Store.faults c.args.store.now in
    let before = outside left handed (g.R.Source.faults c.args.script.now) (written c.args.out.now) (g.W.Sink.faults c.args.out.now) in
    let after = outside left handed (g.R.Source.faults c.args.script.now) (written c.run_bench.new.out) (g.W.Sink.faults c.run_bench.new.out) in
    let all = around before after files files faults faults in
    inl (subst (λ (form : AskedForm). RunsAs form all c.run_bench.result) (sym (ap form_shown c.in-Ok-Bench.field-0-is) ∙ c.in-Ok-Bench.ensures.asked)
    (record { printed = c.run_bench.ensures.printed; left = refl; handed = refl; source_faults = refl; files = refl }))

pub returns-in-Ok-Bench-clause-usage : goal.returns-in-Ok-Bench-clause-usage
returns-in-Ok-Bench-clause-usage g c = λ two. absurd (not_usage c.run_bench.result c.run_bench.ensures.known two)

pub returns-in-Ok-Bench-clause-usage_only : goal.returns-in-Ok-Bench-clause-usage_only
returns-in-Ok-Bench-clause-usage_only g c = λ no. absurd (no c.in-Ok-Bench.ensures.taken)

pub returns-in-Ok-Bench-clause-usage_line : goal.returns-in-Ok-Bench-clause-usage_line
returns-in-Ok-Bench-clause-usage_line g c = λ two. absurd (not_usage c.run_bench.result c.run_bench.ensures.known two)

pub returns-in-Ok-Bench-clause-unwritten : goal.returns-in-Ok-Bench-clause-unwritten
returns-in-Ok-Bench-clause-unwritten g c = λ no five. absurd (no c.in-Ok-Bench.ensures.taken)

pub returns-in-Ok-Bench-clause-untouched : goal.returns-in-Ok-Bench-clause-untouched
returns-in-Ok-Bench-clause-untouched g c = λ no. absurd (no c.in-Ok-Bench.ensures.taken)

pub returns-in-Ok-Bench-clause-known : goal.returns-in-Ok-Bench-clause-known
returns-in-Ok-Bench-clause-known g c = below_seven c.run_bench.result c.run_bench.ensures.known

pub returns-in-Ok-Bench-clause-sink_later : goal.returns-in-Ok-Bench-clause-sink_later
returns-in-Ok-Bench-clause-sink_later g c = c.run_bench.ensures.sink_later

pub returns-in-Ok-Run-clause-bench_form : goal.returns-in-Ok-Run-clause-bench_form
returns-in-Ok-Run-clause-bench_form g c = bench_form c.args.words.now c.run_commands.result (λ _. c.run_commands.ensures.known.0)

pub returns-in-Ok-Check-clause-bench_form : goal.returns-in-Ok-Check-clause-bench_form
returns-in-Ok-Check-clause-bench_form g c = bench_form c.args.words.now c.run_check.result (λ _. not_usage c.run_check.result c.run_check.ensures.known)

pub returns-in-Err-Refused-clause-bench_form : goal.returns-in-Err-Refused-clause-bench_form
returns-in-Err-Refused-clause-bench_form g c = bench_form c.args.words.now c.write_usage.result (λ takes. absurd (c.in-Err-Refused.ensures.refused (ap Err c.in-Err-Refused.field-0-is) takes))

pub returns-in-Err-Memory-clause-bench_form : goal.returns-in-Err-Memory-clause-bench_form
returns-in-Err-Memory-clause-bench_form g c = bench_form c.args.words.now 5 (λ _ two. absurd (omega arith))
