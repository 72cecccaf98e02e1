use Rattle.std.proofs.Common.{◌≡◌, ◌<◌, ◌+◌, ◌≤◌, ◌++◌, ◌∷◌, [], List, map, length, take, ap, sym, ◌∙◌, arith}
use Rattle.std.proofs.lemmas.List.{take_more, take_all, length-map}
use Rattle.lp_model.specs.declared.types.Col.{Col}
use Rattle.mps_model.specs.Meaning.{span_of, column_of}
use Rattle.mps_model.proofs.BesideSteps.{mapped_at, mapped_more}
use Rattle.mps_model.proofs.building.columns_of.Goals as goal

pub loop-place-preserved : goal.loop-place-preserved
loop-place-preserved c =
    let s = c.args.sections.now in
    let lines = c.args.lines.now in
    let place = c.loop-place.place in
    let line = c.index-lines-place.result in
    let columns = c.loop-place.columns in
    let small : place < length lines = omega (arith, c.loop-place-test.true) in
    let one : take (place + 1) lines ≡ take place lines ++ line ∷ [] = take_more lines place line small ∙ ap (λ r. take place lines ++ r ∷ []) (sym c.index-lines-place.is) in
    c.in-Ok-push.ensures.pushed
    ∙ ap (λ d. columns ++ d ∷ []) c.in-Ok.ensures
    ∙ ap (λ (found : List Col). found ++ column_of s c.args.intupper line ∷ []) c.loop-place.invariant
    ∙ mapped_more (column_of s c.args.intupper) (take place lines) line (take (place + 1) lines) one

pub returns : goal.returns
returns c =
    let lines = c.args.lines.now in
    let end : length lines ≤ c.loop-place.place = omega (arith, c.loop-place-test.false) in
    c.loop-place.invariant ∙ ap (map (column_of c.args.sections.now c.args.intupper)) (take_all c.loop-place.place lines end)

pub column_with-requires-clause-span : goal.column_with-requires-clause-span
column_with-requires-clause-span c =
    let s = c.args.sections.now in
    let lines = c.args.lines.now in
    let place = c.loop-place.place in
    let small : place < length lines = omega (arith, c.loop-place-test.true) in
    mapped_at (span_of s.bounds) lines c.args.spans.now place c.index-lines-place.result c.index-spans-place.result small c.requires.spans c.index-lines-place.is c.index-spans-place.is

pub bounds-spans-place : goal.bounds-spans-place
bounds-spans-place c =
    let lines = c.args.lines.now in
    let long : length c.args.spans.now ≡ length lines = ap length c.requires.spans ∙ length-map lines (span_of c.args.sections.now.bounds) in
    omega (arith, c.loop-place-test.true, long)
