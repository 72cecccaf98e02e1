use Rattle.std.proofs.Common.{◌≡◌, ◌∙◌, ◌≤◌, ◌<◌, sym, subst, arith, length, map, get_or, All, Contains, []}
use Rattle.std.proofs.lemmas.Bool.{false≢true}
use Rattle.std.proofs.lemmas.List.{length-map, take_all, get_or_default}
use Rattle.std.proofs.lemmas.List.Elements.{All-more}
use Rattle.lp_model.proofs.NameLemmas.{get_or-map}
use Rattle.model_edits.proofs.names.first_unknown.Goals as goal

pub loop-place-preserved : goal.loop-place-preserved
loop-place-preserved g c =
    let known = Contains (map g.T.HasName.name c.args.items.now) in
    let k = c.loop-place.place in
    let named = c.args.named.now in
    let here : get_or (map (λ e. e.0) named) k [] ≡ c.index-named-place.result.0 = get_or-map (λ e. e.0) named k c.index-named-place.result [] c.loop-place-test.true c.index-named-place.is in
    let within : k < length (map (λ e. e.0) named) = rw (length-map named (λ e. e.0)) c.loop-place-test.true in
    All-more known (map (λ e. e.0) named) k [] within c.loop-place.invariant (subst known (sym here) (c.has_name.ensures.0 c.if-not-has_name.false))

pub returns : goal.returns
returns g c =
    let k = c.loop-place.place in
    let named = c.args.named.now in
    let past : length (map (λ e. e.0) named) ≤ k = let e = length-map named (λ e. e.0) in omega arith in
    subst (All (Contains (map g.T.HasName.name c.args.items.now))) (take_all k (map (λ e. e.0) named) past) c.loop-place.invariant

pub returns-then-not-has_name : goal.returns-then-not-has_name
returns-then-not-has_name g c =
    let known = map g.T.HasName.name c.args.items.now in
    let k = c.loop-place.place in
    let named = c.args.named.now in
    let here : get_or (map (λ e. e.0) named) k [] ≡ c.index-named-place.result.0 = get_or-map (λ e. e.0) named k c.index-named-place.result [] c.loop-place-test.true c.index-named-place.is in
    let within : k < length (map (λ e. e.0) named) = rw (length-map named (λ e. e.0)) c.loop-place-test.true in (
      c.loop-place-test.true,
      record {
        place = k;
        within = within;
        is = get_or_default (map (λ e. e.0) named) k [] (get_or (map (λ e. e.0) named) k []) within;
        before = c.loop-place.invariant;
        unknown = λ h. false≢true (sym c.if-not-has_name.true ∙ c.has_name.ensures.1 (subst (Contains known) here h));
      },
    )
