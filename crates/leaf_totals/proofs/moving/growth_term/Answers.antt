use Rattle.std.proofs.Common.{◌≡◌, ◌∙◌, [], ◌∷◌, sym, ap, to_z, of_z, w64}
use Rattle.frac128.specs.Rational.{ℚ, int, ◌-ℚ◌, ◌*ℚ◌}
use Rattle.frac128.specs.RationalRing.{ring, reads_ℚ}
use Rattle.frac128.specs.LowestTerms.{quotient_of}
use Rattle.whole_sums.proofs.ReadLemmas.{short_read, short_again, denominator_again, product_made, product_read}
use Rattle.kept_totals.specs.Forms.{Product}
use Rattle.kept_totals.proofs.ShortLemmas.{short_over}
use Rattle.leaf_totals.proofs.moving.growth_term.Goals as goal

distributes : (w a b : ℚ) → w *ℚ (a -ℚ b) ≡ w *ℚ a -ℚ w *ℚ b
distributes w a b = ring (w ∷ a ∷ b ∷ []) (search reads_ℚ) tt

pub returns-clause-growth : goal.returns-clause-growth
returns-clause-growth c =
    let d = to_z w64 (of_z w64 c.args.over) in
    let factor_is = ap (λ n. quotient_of n d) (short_read c.in-Some.factor c.in-Some.ensures.short) ∙ sym c.in-Some.ensures.value in
    let number_is = ap int (short_read c.in-Some-whole_number-2.number c.in-Some-whole_number-2.ensures.short) ∙ sym c.in-Some-whole_number-2.ensures.value ∙ c.in-Ok.ensures.1 in
    ap (λ (p : Product). p.factor *ℚ p.number) c.over.ensures ∙ (λ t. factor_is t *ℚ number_is t) ∙ distributes c.args.weight.now c.args.after.now c.args.before.now

pub returns-clause-short : goal.returns-clause-short
returns-clause-short c =
    let f = c.in-Some.factor in
    let n = c.in-Some-whole_number.side in
    let p = c.product.result in
    let read = short_read c.args.over c.requires.short in
    let made = product_made p f n c.in-Some.ensures.short c.in-Some-whole_number.ensures.short c.product.ensures in
    let m_is = c.in-Some-short_number.ensures.value ∙ product_read p f n c.in-Some.ensures.short c.in-Some-whole_number.ensures.short made in
    let over = short_over f n (to_z w64 (of_z w64 c.args.over)) c.args.over c.in-Some-short_number._product (denominator_again c.args.over c.requires) read c.in-Some-short_number.ensures.short m_is in
    record {
      number = c.in-Some-short_number._product;
      short = over.0;
      is = (λ t. c.in-Some.ensures.value t *ℚ c.in-Some-whole_number.ensures.value t) ∙ over.1;
    }

pub returns-in_default-clause-growth : goal.returns-in_default-clause-growth
returns-in_default-clause-growth c = tt

pub returns-in_default-clause-short : goal.returns-in_default-clause-short
returns-in_default-clause-short c = tt

pub returns-in_default-whole_number-clause-growth : goal.returns-in_default-whole_number-clause-growth
returns-in_default-whole_number-clause-growth c = tt

pub returns-in_default-whole_number-clause-short : goal.returns-in_default-whole_number-clause-short
returns-in_default-whole_number-clause-short c = tt

pub returns-in_default-short_number-clause-growth : goal.returns-in_default-short_number-clause-growth
returns-in_default-short_number-clause-growth c = tt

pub returns-in_default-short_number-clause-short : goal.returns-in_default-short_number-clause-short
returns-in_default-short_number-clause-short c = tt

pub returns-in_default-sub-clause-growth : goal.returns-in_default-sub-clause-growth
returns-in_default-sub-clause-growth c = tt

pub returns-in_default-sub-clause-short : goal.returns-in_default-sub-clause-short
returns-in_default-sub-clause-short c = tt

pub returns-in_default-whole_number-2-clause-growth : goal.returns-in_default-whole_number-2-clause-growth
returns-in_default-whole_number-2-clause-growth c = tt

pub returns-in_default-whole_number-2-clause-short : goal.returns-in_default-whole_number-2-clause-short
returns-in_default-whole_number-2-clause-short c = tt

pub short_over-requires : goal.short_over-requires
short_over-requires c = denominator_again c.args.over c.requires

pub product-requires-clause-first : goal.product-requires-clause-first
product-requires-clause-first c = short_again c.in-Some.factor c.in-Some.ensures.short

pub product-requires-clause-second : goal.product-requires-clause-second
product-requires-clause-second c = short_again c.in-Some-whole_number.side c.in-Some-whole_number.ensures.short

pub over-requires-clause-factor : goal.over-requires-clause-factor
over-requires-clause-factor c = short_again c.in-Some.factor c.in-Some.ensures.short

pub over-requires-clause-number : goal.over-requires-clause-number
over-requires-clause-number c = short_again c.in-Some-whole_number-2.number c.in-Some-whole_number-2.ensures.short

pub over-requires-clause-denominator : goal.over-requires-clause-denominator
over-requires-clause-denominator c = denominator_again c.args.over c.requires
