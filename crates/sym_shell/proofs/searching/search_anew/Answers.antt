use Rattle.std.proofs.Common.{◌<◌, ◌≤◌, arith, refl, inl, inr}
use Rattle.reply_texts.specs.Texts.{memory_text}
use Rattle.command_family.proofs.ReplyLemmas.{on_ok, on_ok_if, on_err, always}
use Rattle.search_replies.specs.Workers.{worker_limit}
use Rattle.sym_shell.proofs.searching.search_anew.Goals as goal

pub returns-then-workers-gt-WORKER_LIMIT-clause-answered : goal.returns-then-workers-gt-WORKER_LIMIT-clause-answered
returns-then-workers-gt-WORKER_LIMIT-clause-answered c =
    let many : worker_limit < c.args.options.workers = omega (arith, c.if-workers-gt-WORKER_LIMIT.true) in
    on_ok_if c.tell_crowd.result (λ e. inr (many, record { unchanged = refl; answer = inl e })) c.tell_crowd.ensures

pub returns-then-workers-gt-WORKER_LIMIT-clause-unfinished : goal.returns-then-workers-gt-WORKER_LIMIT-clause-unfinished
returns-then-workers-gt-WORKER_LIMIT-clause-unfinished c =
    let many : worker_limit < c.args.options.workers = omega (arith, c.if-workers-gt-WORKER_LIMIT.true) in
    always c.tell_crowd.result (memory_text, inr (many, record { unchanged = refl; answer = inr refl }))

pub returns-else-workers-gt-WORKER_LIMIT-clause-answered : goal.returns-else-workers-gt-WORKER_LIMIT-clause-answered
returns-else-workers-gt-WORKER_LIMIT-clause-answered c =
    let few : c.args.options.workers ≤ worker_limit = omega (arith, c.if-workers-gt-WORKER_LIMIT.false) in
    on_ok c.work_anew.result (λ h. inl (few, h)) c.work_anew.ensures.answered

pub returns-else-workers-gt-WORKER_LIMIT-clause-unfinished : goal.returns-else-workers-gt-WORKER_LIMIT-clause-unfinished
returns-else-workers-gt-WORKER_LIMIT-clause-unfinished c =
    let few : c.args.options.workers ≤ worker_limit = omega (arith, c.if-workers-gt-WORKER_LIMIT.false) in
    on_err c.work_anew.result (λ h. (h.0, inl (few, h.1))) c.work_anew.ensures.unfinished
