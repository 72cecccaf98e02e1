use Rattle.std.proofs.Common.{map, [], ap, sym, subst, ◌∙◌, arith, Bor, List, ℕ}
use Rattle.std.proofs.lemmas.Grind.{common_steps}
use Rattle.cert_text.specs.Mults.{mults_in}
use Rattle.cert_text.specs.Reading.{Says, joined_items}
use Rattle.cert_text.proofs.NamedLemmas.{joined-nothing, joined-form}
use Rattle.cert_text.proofs.MultLemmas.{mults_in-none, mults_in-short, mults_in-first}
use Rattle.cert_text.proofs.mults.mults_in.Goals as goal

abbrev some_word : Bor (List ℕ)
some_word = record { ref_ptr = (0, 0); now = [] }

pub loop-rest-init : goal.loop-rest-init
loop-rest-init c =
    let said = mults_in (map (λ word. word.now) c.args.words.now) in
    joined-nothing said ∙ (λ i. joined_items (sym c.new-gathered.ensures.least i) (sym c.new-gathered.ensures.items i) said)

pub loop-rest-preserved : goal.loop-rest-preserved
loop-rest-preserved c =
    let g = c.loop-rest.gathered in
    c.loop-rest.invariant
    ∙ ap (joined_items g.least g.items) (mults_in-first c.loop-rest.rest.now some_word some_word some_word c.in-len3-up.len_at_least)
    ∙ c.in-Ok.ensures _

pub returns-else-is_empty : goal.returns-else-is_empty
returns-else-is_empty c =
    let g = c.loop-rest.gathered in
    c.loop-rest.invariant
    ∙ ap (joined_items g.least g.items) (mults_in-short c.loop-rest.rest.now (grind (arith, common_steps)) (grind (arith, common_steps)))
    ∙ joined-form g.least g.items g.high

pub returns-then-is_empty : goal.returns-then-is_empty
returns-then-is_empty c =
    let g = c.loop-rest.gathered in
    subst (λ said. Says said c.into_items.result) (sym (c.loop-rest.invariant ∙ ap (joined_items g.least g.items) (mults_in-none c.loop-rest.rest.now (grind (arith, common_steps))))) c.into_items.ensures
