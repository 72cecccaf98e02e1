use Rattle.std.proofs.Common.{◌≡◌, Bool, true, false, map, if◌then◌else◌, subst, sym, ap, ◌∙◌}
use Rattle.edit_words.specs.Forms.{fits}
use Rattle.edit_words.specs.EditWords.{slots_of, has_pairs, meaning, Misused, IsAskedOf}
use Rattle.edit_words.proofs.asked.formed_asked.Goals as goal

pub returns-then-fits : goal.returns-then-fits
returns-then-fits c =
    let words = map (λ word. word.now) c.args.words.now in
    let kind = c.args.kind in
    let formed : fits (slots_of kind) (has_pairs kind) words ≡ true = (λ i. fits (sym c.slots.ensures i) (sym c.has_pairs.ensures i) words) ∙ sym c.fits.ensures ∙ c.if-fits.true in
    subst (λ (b : Bool). IsAskedOf (if b then meaning kind words else Misused) c.asked_of.result) (sym formed) c.asked_of.ensures

pub returns-else-fits : goal.returns-else-fits
returns-else-fits c =
    let words = map (λ word. word.now) c.args.words.now in
    let kind = c.args.kind in
    let formed : fits (slots_of kind) (has_pairs kind) words ≡ false = (λ i. fits (sym c.slots.ensures i) (sym c.has_pairs.ensures i) words) ∙ sym c.fits.ensures ∙ c.if-fits.false in
    ap (λ (b : Bool). if b then meaning kind words else Misused) formed
