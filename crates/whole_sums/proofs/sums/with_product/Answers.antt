use Rattle.std.proofs.Common.{sym, ap, ◌∙◌, ◌≡◌, arith, ◌+ℤ◌, ◌*ℤ◌, ℤ, [], ◌∷◌, pos}
use Rattle.std.proofs.lemmas.Int.{ints}
use Rattle.frac128.specs.IntegerRing.{ring_ℤ, reads_ℤ}
use Rattle.whole_sums.proofs.ReadLemmas.{short_again, room_read, room_again, sum_fits, sum_read}
use Rattle.whole_sums.proofs.sums.with_product.Goals as goal

nothing_by_factor : (t f n : ℤ) → f ≡ pos 0 → t ≡ t +ℤ f *ℤ n
nothing_by_factor t f n none = ring_ℤ (t ∷ n ∷ []) (search reads_ℤ) (search reads_ℤ) tt ∙ ap (λ x. t +ℤ x *ℤ n) (sym none)

pub returns-then-factor-eq0-clause-value : goal.returns-then-factor-eq0-clause-value
returns-then-factor-eq0-clause-value c =
    let none : c.args.factor ≡ pos 0 = let e = c.if-factor-eq0.true in let h = c.requires.factor in omega (arith, ints, e, h) in
    room_read c.args.total c.requires.total ∙ nothing_by_factor c.args.total c.args.factor c.args.number none

pub returns-then-factor-eq0-clause-room : goal.returns-then-factor-eq0-clause-room
returns-then-factor-eq0-clause-room c = room_again c.args.total c.requires.total

pub product-requires-clause-first : goal.product-requires-clause-first
product-requires-clause-first c = short_again c.args.factor c.requires.factor

pub product-requires-clause-second : goal.product-requires-clause-second
product-requires-clause-second c = short_again c.args.number c.requires.number

pub overflow_add-next : goal.overflow_add-next
overflow_add-next c = sum_fits c.args.total c.args.factor c.args.number c.product.result c.requires.total c.requires.factor c.requires.number c.product.ensures

pub returns-then-next-le-MARGIN-clause-value : goal.returns-then-next-le-MARGIN-clause-value
returns-then-next-le-MARGIN-clause-value c = sum_read c.args.total c.args.factor c.args.number c.product.result c.requires.total c.requires.factor c.requires.number c.product.ensures
