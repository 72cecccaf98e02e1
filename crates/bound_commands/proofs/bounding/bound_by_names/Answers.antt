use Rattle.std.proofs.Common.{Ok, subst, sym}
use Rattle.lp_model.specs.Program.{Program}
use Rattle.dual_bounds.specs.NewNumbers.{with_new_numbers, AreNewNumbers, ArePresentNumbers}
use Rattle.dual_bounds.specs.declared.new_numbers.OtherNumbers.{OtherNumbers}
use Rattle.shell_replies.specs.Placing.{AreNumbersPlaced, IsUnplaced, unplaced_text}
use Rattle.shell_replies.proofs.PlacingLemmas.{new-numbers}
use Rattle.command_family.proofs.ReplyLemmas.{on_ok, on_ok_if}
use Rattle.bound_commands.specs.private.Placing.{IsBoundReply}
use Rattle.bound_commands.proofs.BoundLemmas.{alone, numbers-told, unplaced-told, on-line}
use Rattle.bound_commands.proofs.bounding.bound_by_names.Goals as goal

pub bound_with-requires-clause-numbers : goal.bound_with-requires-clause-numbers
bound_with-requires-clause-numbers c =
    let M = c.args.search.now.model in
    let named = c.args.named.now in
    let h : AreNumbersPlaced c.args.numbers M named (Ok c.in-Ok.other) = subst (λ (N : Program). AreNumbersPlaced c.args.numbers N named (Ok c.in-Ok.other)) c.model.ensures c.in-Ok.ensures in
    subst (AreNewNumbers M) (sym h.2) (new-numbers c.args.numbers M named c.requires.distinct h.0 h.1)

pub returns-in-Ok : goal.returns-in-Ok
returns-in-Ok c =
    let S = c.args.search.now in
    let named = c.args.named.now in
    let reply = c.bound_with.new.reply.items in
    let h : AreNumbersPlaced c.args.numbers S.model named (Ok c.in-Ok.other) = subst (λ (N : Program). AreNumbersPlaced c.args.numbers N named (Ok c.in-Ok.other)) c.model.ensures c.in-Ok.ensures in
    on_ok c.bound_with.result
    (λ told. numbers-told S c.args.which c.args.numbers named reply h.0 h.1
    (subst (λ (other : OtherNumbers). IsBoundReply c.args.which S (with_new_numbers S.model other) (ArePresentNumbers S.model other) reply) h.2 told))
    c.bound_with.ensures

pub write_unplaced-requires : goal.write_unplaced-requires
write_unplaced-requires c = on-line c.args.numbers c.model.result.now c.args.named.now c.in-Err.unplaced c.in-Err.ensures

pub returns-in-Err : goal.returns-in-Err
returns-in-Err c =
    let S = c.args.search.now in
    let named = c.args.named.now in
    let u = c.in-Err.unplaced in
    on_ok_if c.write_unplaced.result
    (λ is. unplaced-told S c.args.which c.args.numbers named c.write_unplaced.new.reply.items u (subst (λ (N : Program). IsUnplaced c.args.numbers N named u) c.model.ensures c.in-Err.ensures)
    (alone c.args.reply.now.items c.write_unplaced.new.reply.items (unplaced_text named u) c.requires.empty is))
    c.write_unplaced.ensures
