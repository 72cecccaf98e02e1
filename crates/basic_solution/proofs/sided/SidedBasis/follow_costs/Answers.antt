use Rattle.std.proofs.Common.{◌≡◌, ◌∙◌, ◌<◌, pos, length, set, refl, sym, ap, subst, arith, below_more, to_z, of_z, w64, if◌then◌else◌, ◌==◌}
use Rattle.std.proofs.lemmas.List.{get_or-set_same, get_or-set_other}
use Rattle.table_entries.specs.WholeSteps.{IsShort, whole_number_at}
use Rattle.table_entries.proofs.ReadLemmas.{short_read, short_again, positive_again}
use Rattle.whole_sums.specs.Wholes.{IsDenominator}
use Rattle.basic_solution.specs.KeptCosts.{IsShortOrMark}
use Rattle.basic_solution.specs.private.Followed.{IsFollowed, number_but}
use Rattle.basic_solution.proofs.ReadLemmas.{none_below}
use Rattle.basic_solution.proofs.FollowLemmas.{kept_read, but_kept, set_kept, unknown_costs, costs_kept}
use Rattle.basic_solution.proofs.sided.SidedBasis.follow_costs.Goals as goal

pub loop-at-init : goal.loop-at-init
loop-at-init c = record { done = λ k below. absurd (none_below k below); rest = λ k w. refl; range = c.requires.range }

pub loop-at-preserved : goal.loop-at-preserved
loop-at-preserved c =
    let inv = c.loop-at.invariant in
    let at = c.loop-at.at in
    let numbers = c.loop-at.kept in
    let old = c.args.kept.now in
    let place = c.args.place in
    let entries = c.in-Some.entries.now in
    let before' = to_z w64 (of_z w64 c.args.before) in
    let after' = to_z w64 (of_z w64 c.denominator-after.result) in
    let factor' = to_z w64 (of_z w64 (whole_number_at old place)) in
    let n = to_z w64 (of_z w64 c.followed.result) in
    let less : at < length old = c.loop-at-test.true in
    let room : at < length numbers = let long = c.loop-at.auto.kept in omega (arith, less, long) in
    let n_is : n ≡ c.followed.result = kept_read c.followed.result c.followed.ensures.kept in
    let entry = whole_number_at entries at in
    let inside : at < length entries = let size = c.in-Some.ensures.size in let own = c.requires.size in omega (arith, less, size, own) in
    let entry_is : to_z w64 (of_z w64 entry) ≡ entry = short_read entry (c.in-Some.ensures.short at inside) in
    let number_is : to_z w64 (of_z w64 c.number_but.result) ≡ number_but place (pos 0) old at =
    ap (λ t. to_z w64 (of_z w64 t)) c.number_but.ensures
    ∙ kept_read (number_but place (pos 0) numbers at) (but_kept place (pos 0) numbers at (omega arith) inv.range)
    ∙ ap (λ t. if at == place then pos 0 else t) (inv.rest at (omega arith)) in
    let here : IsFollowed before' after' factor' entry (number_but place (pos 0) old at) n =
    subst (λ T. T) (λ i. IsFollowed before' after' factor' (entry_is i) (number_is i) (sym n_is i)) c.followed.ensures.value in
    record {
      done = below_more (λ k. IsFollowed before' after' factor' (whole_number_at entries k) (number_but place (pos 0) old k) (whole_number_at (set numbers at n) k)) at
          (λ k q. subst (λ v. IsFollowed before' after' factor' (whole_number_at entries k) (number_but place (pos 0) old k) v) (sym (get_or-set_other numbers at k n (pos 0) (λ e. omega (arith, e, q)))) (inv.done k q))
          (subst (λ v. IsFollowed before' after' factor' entry (number_but place (pos 0) old at) v) (sym (get_or-set_same numbers at n (pos 0) room)) here);
      rest = λ k past. get_or-set_other numbers at k n (pos 0) (λ e. omega (arith, e, past)) ∙ inv.rest k (omega (arith, past));
      range = set_kept numbers at n room (subst IsShortOrMark (sym n_is) c.followed.ensures.kept) inv.range;
    }

pub followed-requires-clause-entry : goal.followed-requires-clause-entry
followed-requires-clause-entry c =
    let entries = c.in-Some.entries.now in
    let at = c.loop-at.at in
    let inside : at < length entries = let less = c.loop-at-test.true in let size = c.in-Some.ensures.size in let own = c.requires.size in omega (arith, less, size, own) in
    short_again (whole_number_at entries at) (c.in-Some.ensures.short at inside)

pub returns-in_default : goal.returns-in_default
returns-in_default c = λ s side sided some move kept.
    unknown_costs c.args.self.now (to_z w64 (of_z w64 c.denominator-after.result)) c.forget.new.kept
    (record { positive = positive_again c.denominator-after.result c.denominator-after.ensures.short c.denominator-after.ensures.positive; short = short_again c.denominator-after.result c.denominator-after.ensures.short })
    (c.forget.ensures.size ∙ c.requires.size) c.forget.ensures.unknown

pub returns-then-not-is_short : goal.returns-then-not-is_short
returns-then-not-is_short c = λ s side sided some move kept.
    unknown_costs c.args.self.now (to_z w64 (of_z w64 c.denominator-after.result)) c.forget-then-not-is_short.new.kept
    (record { positive = positive_again c.denominator-after.result c.denominator-after.ensures.short c.denominator-after.ensures.positive; short = short_again c.denominator-after.result c.denominator-after.ensures.short })
    (c.forget-then-not-is_short.ensures.size ∙ c.requires.size) c.forget-then-not-is_short.ensures.unknown

pub returns : goal.returns
returns c = λ s side sided some move kept.
    let inv = c.loop-at.invariant in
    let now = c.args.self.now in
    let row = c.args.row in
    let place = c.args.place in
    let old = c.args.kept.now in
    let entries = c.in-Some.entries.now in
    let d = c.denominator-after.result in
    let d' = to_z w64 (of_z w64 d) in
    let over : IsDenominator d' = record { positive = positive_again d c.denominator-after.ensures.short c.denominator-after.ensures.positive; short = short_again d c.denominator-after.ensures.short } in
    let before_is : to_z w64 (of_z w64 c.args.before) ≡ c.args.before = short_read c.args.before c.requires.before in
    let factor_is : to_z w64 (of_z w64 (whole_number_at old place)) ≡ whole_number_at old place = kept_read (whole_number_at old place) (c.requires.range place) in
    let factor_short : IsShort (whole_number_at old place) = subst IsShort factor_is (c.is_short.ensures c.if-not-is_short.false) in
    let past = c.loop-at-test.false in
    let size = c.requires.size in
    let columns = move.columns in
    costs_kept s now sided row side place (subst (λ n. row < n) move.activities c.requires.row) (subst (λ n. place < n) move.columns c.requires.place) some move
    c.args.before d' old c.loop-at.kept entries kept over c.in-Some.ensures factor_short
    (λ k q. subst (λ T. T) (λ i. IsFollowed (before_is i) d' (factor_is i) (whole_number_at entries k) (number_but place (pos 0) old k) (whole_number_at c.loop-at.kept k)) (inv.done k (omega (arith, past, size, columns, q))))
    (c.loop-at.auto.kept ∙ size) inv.range
