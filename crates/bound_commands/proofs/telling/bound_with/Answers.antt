use Rattle.std.proofs.Common.{subst, sym, OnOk}
use Rattle.lp_model.specs.Program.{Program}
use Rattle.dual_bounds.specs.NewNumbers.{with_new_numbers, ArePresentNumbers}
use Rattle.command_words.specs.declared.words.OptimumBound.{OptimumBound}
use Rattle.command_family.proofs.ReplyLemmas.{on_ok}
use Rattle.bound_commands.specs.private.Placing.{IsLowerReply, IsUpperReply, IsBoundReply}
use Rattle.bound_commands.proofs.BoundLemmas.{lower-told, upper-told}
use Rattle.bound_commands.proofs.telling.bound_with.Goals as goal

pub returns-in-Lower : goal.returns-in-Lower
returns-in-Lower c =
    let S = c.args.search.now in
    let M = with_new_numbers S.model c.args.numbers.now in
    let own = ArePresentNumbers S.model c.args.numbers.now in
    let reply = c.tell_lower-told.new.reply.items in
    let answer = c.lower_bound_with-answer in
    subst (λ (which : OptimumBound). OnOk c.tell_lower-told.result (IsBoundReply which S M own reply)) (sym c.in-Lower.is)
    (on_ok c.tell_lower-told.result (lower-told S M own reply answer.result answer.ensures.bound answer.ensures.true_bound answer.ensures.exact)
    (subst (λ (N : Program). OnOk c.tell_lower-told.result (IsLowerReply N answer.result reply)) c.model.ensures c.tell_lower-told.ensures))

pub returns-in-Upper : goal.returns-in-Upper
returns-in-Upper c =
    let S = c.args.search.now in
    let M = with_new_numbers S.model c.args.numbers.now in
    let own = ArePresentNumbers S.model c.args.numbers.now in
    let reply = c.tell_upper-told.new.reply.items in
    let answer = c.upper_bound_with-answer in
    subst (λ (which : OptimumBound). OnOk c.tell_upper-told.result (IsBoundReply which S M own reply)) (sym c.in-Upper.is)
    (on_ok c.tell_upper-told.result (upper-told S M own reply answer.result answer.ensures.bound answer.ensures.true_bound answer.ensures.exact)
    (subst (λ (N : Program). OnOk c.tell_upper-told.result (IsUpperReply N answer.result reply)) c.model-in-Upper.ensures c.tell_upper-told.ensures))
