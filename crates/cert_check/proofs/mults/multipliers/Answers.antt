use Rattle.std.proofs.Common.{◌≡◌, ◌∙◌, subst, sym, true, false, IsTrue}
use Rattle.std.specs.Prelude.{◌≢◌, All, AllPairs, MatchOption}
use Rattle.leaf_dual.specs.Dual.{Multipliers}
use Rattle.cert_check.specs.Mults.{IsMultiplierThere, mults_of}
use Rattle.cert_check.specs.private.PlaceKeys.{place_keys}
use Rattle.cert_check.proofs.MultLemmas.{keys-once, mults-once}
use Rattle.cert_check.proofs.mults.multipliers.Goals as goal

pub returns-then-not-once : goal.returns-then-not-once
returns-then-not-once c =
    let M = c.args.model.now in
    let mults = c.args.mults.now in
    let found : All (IsMultiplierThere M c.args.count) mults × (c.in-Some.placed ≡ mults_of M mults) =
    subst (λ o. MatchOption o (¬ All (IsMultiplierThere M c.args.count) mults) (λ m. All (IsMultiplierThere M c.args.count) mults × (m ≡ mults_of M mults))) c.in-Some.is c.in_ok-placed.ensures in
    let placed = c.as_slice.ensures ∙ found.1 in
    λ are.
    let once : IsTrue c.in_ok-once.once = c.in_ok-once.ensures.1 (subst (λ (m : Multipliers). AllPairs (λ a b. a ≢ b) (place_keys m)) (sym placed) (keys-once M c.args.count mults are.there are.once)) in
    let both : true ≡ false = sym once ∙ c.if-not-once.true in
    cc

pub returns : goal.returns
returns c =
    let M = c.args.model.now in
    let mults = c.args.mults.now in
    let found : All (IsMultiplierThere M c.args.count) mults × (c.in-Some.placed ≡ mults_of M mults) =
    subst (λ o. MatchOption o (¬ All (IsMultiplierThere M c.args.count) mults) (λ m. All (IsMultiplierThere M c.args.count) mults × (m ≡ mults_of M mults))) c.in-Some.is c.in_ok-placed.ensures in
    let placed = c.as_slice.ensures ∙ found.1 in
    (record { there = found.0; once = mults-once M mults (subst (λ (m : Multipliers). AllPairs (λ a b. a ≢ b) (place_keys m)) placed (c.in_ok-once.ensures.0 c.if-not-once.false)) }, found.1)
