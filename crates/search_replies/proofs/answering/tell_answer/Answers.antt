use Rattle.std.specs.Prelude.{Some, None, Ok, IfOk}
use Rattle.std.specs.Option.{option_copied}
use Rattle.std.proofs.Common.{◌≡◌, ◌++◌, ◌∙◌, ap, subst, sym}
use Rattle.kept_env.specs.Env.{model_of}
use Rattle.reply_texts.specs.Texts.{no_model_text}
use Rattle.shell_replies.proofs.TextLemmas.{text-written}
use Rattle.search_replies.specs.Answering.{IsAnswerOf, IsTellable, search_text}
use Rattle.search_replies.proofs.AnswerLemmas.{both}
use Rattle.search_replies.proofs.answering.tell_answer.Goals as goal

pub unreachable-requires : goal.unreachable-requires
unreachable-requires c = both IsAnswerOf c.args.answer.now (Ok c.in-Ok.answer) (model_of c.args.env.now) None c.in-Ok.is (sym c.model.ensures ∙ ap option_copied c.in-None.is) c.requires

pub write_answer-requires : goal.write_answer-requires
write_answer-requires c = both IsAnswerOf c.args.answer.now (Ok c.in-Ok.answer) (model_of c.args.env.now) (Some c.in-Some.model.now) c.in-Ok.is (sym c.model.ensures ∙ ap option_copied c.in-Some.is) c.requires

pub returns-in-Err-clause-tellable : goal.returns-in-Err-clause-tellable
returns-in-Err-clause-tellable c = subst (λ r. IsTellable r (model_of c.args.env.now)) (sym c.in-Err.is) tt

pub returns-in-Err-clause-text : goal.returns-in-Err-clause-text
returns-in-Err-clause-text c =
    let before = c.args.reply.now.items in
    let after = c.extend_from_slice.new.self.items in
    subst (λ r. IfOk c.extend_from_slice.result (λ _. after ≡ before ++ search_text r (model_of c.args.env.now))) (sym c.in-Err.is) (text-written c.extend_from_slice.result before after no_model_text c.extend_from_slice.ensures.items)

pub returns-in-Some-clause-tellable : goal.returns-in-Some-clause-tellable
returns-in-Some-clause-tellable c =
    both IsTellable (Ok c.in-Ok.answer) c.args.answer.now (Some c.in-Some.model.now) (model_of c.args.env.now) (sym c.in-Ok.is) (sym (sym c.model.ensures ∙ ap option_copied c.in-Some.is))
    (c.cols-lawful.ensures.lawful, c.answer_has_room.ensures)

pub returns-in-Some-clause-text : goal.returns-in-Some-clause-text
returns-in-Some-clause-text c =
    both (λ r m. IfOk c.write_answer.result (λ _. c.write_answer.new.reply.items ≡ c.args.reply.now.items ++ search_text r m)) (Ok c.in-Ok.answer) c.args.answer.now (Some c.in-Some.model.now) (model_of c.args.env.now) (sym c.in-Ok.is) (sym (sym c.model.ensures ∙ ap option_copied c.in-Some.is))
    c.write_answer.ensures
