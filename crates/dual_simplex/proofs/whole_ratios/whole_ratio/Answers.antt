use Rattle.std.proofs.Common.{◌≡◌, ◌∙◌, sym, subst, ℤ, pos, ◌-ℤ◌, ◌<ℤ◌, arith, to_z, of_z, w64}
use Rattle.std.specs.Int.{w128}
use Rattle.std.proofs.lemmas.Int.{ints}
use Rattle.table_entries.specs.WholeSteps.{IsShort, by_sign, magnitude}
use Rattle.whole_sums.specs.Wholes.{HasMargin}
use Rattle.table_entries.proofs.WholeLemmas.{by_sign-short}
use Rattle.basic_solution.specs.RowTotals.{IsCostTotal}
use Rattle.dual_simplex.proofs.WholeRatioLemmas.{own_sign, low_ratio, high_ratio}
use Rattle.table_entries.proofs.ReadLemmas.{short_read, short_again, positive_again, product_read}
use Rattle.dual_simplex.proofs.whole_ratios.whole_ratio.Goals as goal

negative_short : (n : ℤ) → IsShort n → IsShort (pos 0 -ℤ n)
negative_short n h = omega (arith, ints, h)

pub returns-in-Low : goal.returns-in-Low
returns-in-Low c =
    let now = c.args.state.now in
    let d = c.denominator-denominator.result in
    let d' = to_z w64 (of_z w64 d) in
    let entry = c.in-Some.entry in
    let total = c.in-Some-cost_total_by.total in
    let cost = c.in-Some-short_number.cost in
    let d_is : d' ≡ d = short_read d c.denominator-denominator.ensures.short in
    let positive : pos 0 <ℤ d' = subst (λ y. pos 0 <ℤ y) (sym d_is) c.denominator-denominator.ensures.positive in
    let margin : HasMargin total = c.in-Some-cost_total_by.ensures.margin in
    let t_is : to_z w128 (of_z w128 total) ≡ total = product_read total margin in
    let cost_is : cost ≡ total = c.in-Some-short_number.ensures.value ∙ t_is in
    let entry_short : IsShort entry = c.in-Some.ensures.short in
    let cost_short : IsShort cost = c.in-Some-short_number.ensures.short in
    let over_is : c.by_sign-over.result ≡ by_sign entry cost = c.by_sign-over.ensures ∙ (λ i. by_sign (short_read entry entry_short i) (short_read cost cost_short i)) in
    let bottom_is : c.by_sign-bottom.result ≡ magnitude entry = c.by_sign-bottom.ensures ∙ (λ i. by_sign (short_read entry entry_short i) (short_read entry entry_short i)) ∙ own_sign entry in
    let over_short : IsShort c.by_sign-over.result = subst IsShort (sym over_is) (by_sign-short entry cost cost_short) in
    let bottom_short : IsShort c.by_sign-bottom.result = subst IsShort (sym bottom_is) ((let short : IsShort (magnitude entry) = entry_short in short)) in
    low_ratio now c.args.row c.args.place d' entry cost positive entry_short cost_short c.in-Some.ensures.value c.requires.some
    (subst (λ t. IsCostTotal now c.args.place d' t) (sym cost_is) c.in-Some-cost_total_by.ensures) c.args.side c.in-Low.is _ _ (short_read _ over_short ∙ over_is) (short_read _ bottom_short ∙ bottom_is)

pub returns-in-High : goal.returns-in-High
returns-in-High c =
    let now = c.args.state.now in
    let d = c.denominator-denominator.result in
    let d' = to_z w64 (of_z w64 d) in
    let entry = c.in-Some.entry in
    let total = c.in-Some-cost_total_by.total in
    let cost = c.in-Some-short_number.cost in
    let d_is : d' ≡ d = short_read d c.denominator-denominator.ensures.short in
    let positive : pos 0 <ℤ d' = subst (λ y. pos 0 <ℤ y) (sym d_is) c.denominator-denominator.ensures.positive in
    let margin : HasMargin total = c.in-Some-cost_total_by.ensures.margin in
    let t_is : to_z w128 (of_z w128 total) ≡ total = product_read total margin in
    let cost_is : cost ≡ total = c.in-Some-short_number.ensures.value ∙ t_is in
    let entry_short : IsShort entry = c.in-Some.ensures.short in
    let cost_short : IsShort cost = c.in-Some-short_number.ensures.short in
    let over_is : c.by_sign-over.result ≡ by_sign entry cost = c.by_sign-over.ensures ∙ (λ i. by_sign (short_read entry entry_short i) (short_read cost cost_short i)) in
    let bottom_is : c.by_sign-bottom.result ≡ magnitude entry = c.by_sign-bottom.ensures ∙ (λ i. by_sign (short_read entry entry_short i) (short_read entry entry_short i)) ∙ own_sign entry in
    let over_short : IsShort c.by_sign-over.result = subst IsShort (sym over_is) (by_sign-short entry cost cost_short) in
    let bottom_short : IsShort c.by_sign-bottom.result = subst IsShort (sym bottom_is) ((let short : IsShort (magnitude entry) = entry_short in short)) in
    let top_is : c.turned-top.result ≡ pos 0 -ℤ by_sign entry cost = c.turned-top.ensures ∙ (λ i. pos 0 -ℤ (short_read _ over_short ∙ over_is) i) in
    let top_short : IsShort c.turned-top.result = subst IsShort (sym top_is) (negative_short (by_sign entry cost) (by_sign-short entry cost cost_short)) in
    high_ratio now c.args.row c.args.place d' entry cost positive entry_short cost_short c.in-Some.ensures.value c.requires.some
    (subst (λ t. IsCostTotal now c.args.place d' t) (sym cost_is) c.in-Some-cost_total_by.ensures) c.args.side c.in-High.is _ _ (short_read _ top_short ∙ top_is) (short_read _ bottom_short ∙ bottom_is)

pub cost_total_by-requires-clause-positive : goal.cost_total_by-requires-clause-positive
cost_total_by-requires-clause-positive c = positive_again c.denominator-denominator.result c.denominator-denominator.ensures.short c.denominator-denominator.ensures.positive

pub cost_total_by-requires-clause-denominator : goal.cost_total_by-requires-clause-denominator
cost_total_by-requires-clause-denominator c = short_again c.denominator-denominator.result c.denominator-denominator.ensures.short

pub by_sign-over-requires : goal.by_sign-over-requires
by_sign-over-requires c = short_again c.in-Some-short_number.cost c.in-Some-short_number.ensures.short

pub by_sign-bottom-requires : goal.by_sign-bottom-requires
by_sign-bottom-requires c = short_again c.in-Some.entry c.in-Some.ensures.short

pub turned-top-requires : goal.turned-top-requires
turned-top-requires c =
    let entry = c.in-Some.entry in
    let cost = c.in-Some-short_number.cost in
    let over_is : c.by_sign-over.result ≡ by_sign entry cost = c.by_sign-over.ensures ∙ (λ i. by_sign (short_read entry c.in-Some.ensures.short i) (short_read cost c.in-Some-short_number.ensures.short i)) in
    short_again c.by_sign-over.result (subst IsShort (sym over_is) (by_sign-short entry cost c.in-Some-short_number.ensures.short))
