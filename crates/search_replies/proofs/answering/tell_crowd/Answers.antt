use Rattle.std.specs.Option.{option_copied}
use Rattle.std.proofs.Common.{◌++◌, ◌∙◌, ap, sym}
use Rattle.std.proofs.lemmas.Result.{IfOk-weaker}
use Rattle.reply_texts.specs.Texts.{no_model_text, limit_text}
use Rattle.shell_replies.proofs.TextLemmas.{text-written}
use Rattle.search_replies.specs.Workers.{worker_limit, crowd_text}
use Rattle.search_replies.proofs.answering.tell_crowd.Goals as goal

pub returns-in-None : goal.returns-in-None
returns-in-None c =
    IfOk-weaker c.extend_from_slice.result _ _
    (λ _ e. e ∙ ap (λ t. t ++ no_model_text) c.requires ∙ sym (ap crowd_text (sym c.search.ensures.search ∙ ap option_copied c.in-None.is)))
    (text-written c.extend_from_slice.result c.args.reply.now.items c.extend_from_slice.new.self.items no_model_text c.extend_from_slice.ensures.items)

pub returns-in-Some : goal.returns-in-Some
returns-in-Some c =
    IfOk-weaker c.write_limit.result _ _
    (λ _ e. e ∙ ap (λ t. t ++ limit_text worker_limit) c.requires ∙ sym (ap crowd_text (sym c.search.ensures.search ∙ ap option_copied c.in-Some.is)))
    c.write_limit.ensures
