use Rattle.std.specs.Prelude.{Some, None, Ok, IfOk, IfSome, false}
use Rattle.std.specs.Option.{option_copied}
use Rattle.std.proofs.Common.{◌≡◌, ◌++◌, ◌∙◌, ap, subst, sym, Option}
use Rattle.lp_model.specs.Program.{Program}
use Rattle.kept_env.specs.Env.{model_of}
use Rattle.reply_texts.specs.Texts.{no_model_text}
use Rattle.shell_replies.proofs.TextLemmas.{text-written}
use Rattle.front_commands.specs.Answering.{IsOfModel, FrontHasRoom, front_text}
use Rattle.front_commands.proofs.ReplyLemmas.{both}
use Rattle.front_commands.proofs.telling.tell_looked_for.Goals as goal

pub unreachable-requires : goal.unreachable-requires
unreachable-requires c = both IsOfModel c.args.answer.now (Ok c.in-Ok.answer) (model_of c.args.env.now) None c.in-Ok.is (sym c.model.ensures ∙ ap option_copied c.in-None.is) c.requires.answer

pub tell_found-requires : goal.tell_found-requires
tell_found-requires c = subst (λ (m : Option Program). IfSome m (λ M. M.wide ≡ false)) (sym c.model.ensures ∙ ap option_copied c.in-Some.is) c.requires.plain

pub returns-in-Err-clause-room : goal.returns-in-Err-clause-room
returns-in-Err-clause-room c = subst (λ r. IfOk r FrontHasRoom) (sym c.in-Err.is) tt

pub returns-in-Err-clause-text : goal.returns-in-Err-clause-text
returns-in-Err-clause-text c =
    let before = c.args.reply.now.items in
    let after = c.extend_from_slice.new.self.items in
    subst (λ r. IfOk c.extend_from_slice.result (λ _. after ≡ before ++ front_text r (model_of c.args.env.now))) (sym c.in-Err.is) (text-written c.extend_from_slice.result before after no_model_text c.extend_from_slice.ensures.items)

pub returns-in-Some-clause-room : goal.returns-in-Some-clause-room
returns-in-Some-clause-room c = subst (λ r. IfOk r FrontHasRoom) (sym c.in-Ok.is) c.show_room.ensures

pub returns-in-Some-clause-text : goal.returns-in-Some-clause-text
returns-in-Some-clause-text c =
    both (λ r m. IfOk c.tell_found.result (λ _. c.tell_found.new.reply.items ≡ c.args.reply.now.items ++ front_text r m)) (Ok c.in-Ok.answer) c.args.answer.now (Some c.in-Some.model.now) (model_of c.args.env.now) (sym c.in-Ok.is) (sym (sym c.model.ensures ∙ ap option_copied c.in-Some.is))
    c.tell_found.ensures
