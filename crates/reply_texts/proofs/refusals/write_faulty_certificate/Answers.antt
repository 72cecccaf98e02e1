use Rattle.std.proofs.Common.{◌≡◌, ℕ, List, ◌++◌, ◌∙◌, subst}
use Rattle.std.specs.Prelude.{codes, decimal, IfOk}
use Rattle.reply_texts.proofs.refusals.write_faulty_certificate.Goals as goal

pub returns : goal.returns
returns c =
    subst (λ (t : List ℕ). IfOk c.write_fault.result (λ _. c.write_fault.new.reply.items ≡ c.args.reply.now.items ++ ((((codes "error 32 cert line " ++ t) ++ codes " code ") ++ decimal c.args.code) ++ codes "\n"))) (c.as_bytes.ensures.value ∙ c.format.ensures.text) c.write_fault.ensures
