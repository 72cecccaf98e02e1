use Rattle.std.proofs.Common.{ap, sym, ◌∙◌, ◌∷◌, ◌++◌, []}
use Rattle.cert_text.specs.Lines.{beside}
use Rattle.cert_text.specs.Reading.{joined_items}
use Rattle.cert_text.proofs.KeptLemmas.{both_handed_on}
use Rattle.cert_text.proofs.NamedLemmas.{joined-named}
use Rattle.cert_text.proofs.named.add_named.Goals as goal

pub returns-in-Ok-from_slice : goal.returns-in-Ok-from_slice
returns-in-Ok-from_slice c =
    let least = c.args.gathered.now.least in
    let items = c.args.gathered.now.items in
    let new = c.add.new.self.items in
    both_handed_on c.add.result
    (λ pushed same rest.
    ap (λ r. joined_items least items (beside c.args.name.now r rest)) (sym c.in-Ok.ensures)
    ∙ joined-named least items new c.args.name.now c.in-Ok.value (pushed ∙ ap (λ n. items ++ (n, c.in-Ok.value) ∷ []) c.in-Ok-from_slice.ensures) rest
    ∙ ap (λ l. joined_items l new rest) (sym same)) c.add.ensures.items c.add.ensures.least
