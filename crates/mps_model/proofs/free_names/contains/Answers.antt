use Rattle.std.proofs.Common.{◌≡◌, ℕ, ◌+◌, List, ◌∷◌, drop, true, false, ap, sym, ◌∙◌, ◌||◌}
use Rattle.std.specs.Prelude.{bytes_eq}
use Rattle.std.proofs.lemmas.List.{at_drop_more, at_drop_all}
use Rattle.mps_fields.specs.Words.{among}
use Rattle.mps_model.proofs.free_names.contains.Goals as goal

pub returns-then-eq : goal.returns-then-eq
returns-then-eq c =
    let names = c.args.names.now in
    let name = c.args.name.now in
    let item = c.item-item.result in
    let rest = drop (c.loop-item.item-index + 1) names in
    let named : bytes_eq item name ≡ true = ap (λ (other : List ℕ). bytes_eq other name) (sym c.as_slice.ensures) ∙ sym c.eq.ensures ∙ c.if-eq.true in
    sym (
    c.loop-item.invariant
    ∙ at_drop_more (λ (others : List (List ℕ)). among others name) names c.loop-item.item-index item c.loop-item-test.true
    ∙ ap (λ (other : List ℕ). among (other ∷ rest) name) (sym c.item-item.is)
    ∙ ap (λ b. b || among rest name) named
    )

pub loop-item-preserved : goal.loop-item-preserved
loop-item-preserved c =
    let names = c.args.names.now in
    let name = c.args.name.now in
    let item = c.item-item.result in
    let rest = drop (c.loop-item.item-index + 1) names in
    let differs : bytes_eq item name ≡ false = ap (λ (other : List ℕ). bytes_eq other name) (sym c.as_slice.ensures) ∙ sym c.eq.ensures ∙ c.if-eq.false in
    c.loop-item.invariant
    ∙ at_drop_more (λ (others : List (List ℕ)). among others name) names c.loop-item.item-index item c.loop-item-test.true
    ∙ ap (λ (other : List ℕ). among (other ∷ rest) name) (sym c.item-item.is)
    ∙ ap (λ b. b || among rest name) differs

pub returns : goal.returns
returns c = sym (c.loop-item.invariant ∙ at_drop_all (λ (others : List (List ℕ)). among others c.args.name.now) c.args.names.now c.loop-item.item-index c.loop-item-test.false)
