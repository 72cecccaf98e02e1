use Rattle.std.proofs.Common.{◌≡◌, ◌∙◌, subst, sym, ap, arith, true, false, IsTrue}
use Rattle.std.specs.Prelude.{◌≢◌, AllPairs, not, take}
use Rattle.std.specs.BTreeSet.{Updates, contains}
use Rattle.std.specs.Ordering.{nat_cmp}
use Rattle.std.proofs.lemmas.Bool.{not-true, not-false}
use Rattle.std.proofs.lemmas.List.{length-map, take_all}
use Rattle.cert_check.specs.private.PlaceKeys.{place_keys}
use Rattle.cert_check.proofs.PairLemmas.{is_so, is_not, taken_more, once_more, once_none}
use Rattle.cert_check.proofs.SeenLemmas.{Sees, sees-none, sees-more}
use Rattle.cert_check.proofs.mults.stand_once.Goals as goal
use Rattle.lp_model.specs.Keys.{variable_key}

pub loop-place-init : goal.loop-place-init
loop-place-init c = record { once = λ i j d early late. absurd (omega (arith, late)); seen = sees-none c.new-seen.result c.new-seen.ensures.empty }

pub returns-then-not-is_new : goal.returns-then-not-is_new
returns-then-not-is_new c =
    let item = c.loop-place-item.result in
    let key = variable_key item.0 in
    let seen = c.loop-place.seen in
    let stands : IsTrue (contains nat_cmp seen key) = not-false (contains nat_cmp seen key) (sym (c.in-Ok.ensures.added ∙ ap (λ k. not (contains nat_cmp seen k)) c.key.ensures) ∙ c.if-not-is_new.true) in
    is_not (once_none (λ e. variable_key e.0) c.args.placed.now c.loop-place.place-index item c.loop-place-test.true c.loop-place-item.is ((c.loop-place.invariant.seen key).0 stands))

pub loop-place-preserved : goal.loop-place-preserved
loop-place-preserved c =
    let placed = c.args.placed.now in
    let k = c.loop-place.place-index in
    let item = c.loop-place-item.result in
    let key = variable_key item.0 in
    let seen = c.loop-place.seen in
    let none : contains nat_cmp seen key ≡ false = not-true (contains nat_cmp seen key) (sym (c.in-Ok.ensures.added ∙ ap (λ k. not (contains nat_cmp seen k)) c.key.ensures) ∙ c.if-not-is_new.false) in
    let updates : Updates nat_cmp seen c.insert.new.self key true = subst (λ n. Updates nat_cmp seen c.insert.new.self n true) c.key.ensures c.in-Ok.ensures.updates in
    record {
      once = once_more (λ e. variable_key e.0) placed k item c.loop-place-test.true c.loop-place-item.is c.loop-place.invariant.once (λ has. let both : true ≡ false = sym ((c.loop-place.invariant.seen key).1 has) ∙ none in cc);
      seen = subst (Sees c.insert.new.self) (sym (taken_more (λ e. variable_key e.0) placed k item c.loop-place-test.true c.loop-place-item.is)) (sees-more seen c.insert.new.self key (take k (place_keys placed)) updates c.loop-place.invariant.seen);
    }

pub returns : goal.returns
returns c =
    let placed = c.args.placed.now in
    let long = length-map placed (λ e. variable_key e.0) in
    is_so (subst (AllPairs (λ a b. a ≢ b)) (take_all c.loop-place.place-index (place_keys placed) (omega (arith, long))) c.loop-place.invariant.once)
