use Rattle.std.proofs.Common.{ap, sym, subst, ◌∙◌}
use Rattle.std.specs.Prelude.{Err}
use Rattle.cert_text.specs.Reading.{Says, joined_items}
use Rattle.cert_text.specs.Mults.{mult_in}
use Rattle.cert_text.proofs.KeptLemmas.{both_handed_on}
use Rattle.cert_text.proofs.MultLemmas.{mult-code, joined-mult, joined-code}
use Rattle.cert_text.proofs.mults.add_mult.Goals as goal

pub returns-in-Ok : goal.returns-in-Ok
returns-in-Ok c =
    both_handed_on c.add.result
    (λ items least rest.
    joined-mult c.args.gathered.now.least c.args.gathered.now.items c.add.new.self.items _ c.in-Ok.mult c.in-Ok.ensures items rest
    ∙ ap (λ l. joined_items l c.add.new.self.items rest) (sym least)) c.add.ensures.items c.add.ensures.least

pub add_code-requires : goal.add_code-requires
add_code-requires c =
    let said = mult_in c.args.key.now c.args.word.now c.args.number.now in
    mult-code c.args.key.now c.args.word.now c.args.number.now c.in-Err-Code.code (subst (λ f. Says said (Err f)) c.in-Err-Code.field-0-is c.in-Err-Code.ensures)

pub returns-in-Err-Code : goal.returns-in-Err-Code
returns-in-Err-Code c = λ rest.
    let said = mult_in c.args.key.now c.args.word.now c.args.number.now in
    joined-code c.args.gathered.now.least c.args.gathered.now.items said c.in-Err-Code.code (subst (λ f. Says said (Err f)) c.in-Err-Code.field-0-is c.in-Err-Code.ensures) rest
    ∙ (λ i. joined_items (sym c.add_code.ensures.least i) (sym c.add_code.ensures.items i) rest)
