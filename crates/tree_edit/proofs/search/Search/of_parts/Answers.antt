use Rattle.std.proofs.Common.{arith}
use Rattle.std.specs.Prelude.{Result, Ok, Err, IfOk}
use Rattle.sound_searches.specs.Edited.{HasParts}
use Rattle.sound_searches.specs.Parts.{IsOfParts}
use Rattle.sound_searches.specs.Sound.{PlainSearch}
use Rattle.search_parts.proofs.KeepableLemmas.{keepable-all, keepable-few}
use Rattle.tree_edit.proofs.search.Search.of_parts.Goals as goal

pub with_kept_by-requires-clause-points : goal.with_kept_by-requires-clause-points
with_kept_by-requires-clause-points c = keepable-all c.args.model c.args.points.now c.in-Ok.kept.points.items c.in-Ok.ensures.keepable

pub with_kept_by-requires-clause-few : goal.with_kept_by-requires-clause-few
with_kept_by-requires-clause-few c = omega (arith, c.requires.few, keepable-few c.args.model c.args.points.now c.in-Ok.kept.points.items c.in-Ok.ensures.keepable)

if_ok : {A E : Type 0} {P Q : A → Type 0} (r : Result A E) → ((a : A) → P a → Q a) → IfOk r P → IfOk r Q
if_ok (Ok a) w h = w a h
if_ok (Err e) w h = h

pub returns-in-Ok : goal.returns-in-Ok
returns-in-Ok c =
    let kept = c.in-Ok.kept in
    let M = c.args.model in
    let points = c.args.points.now in
    if_ok {P = λ (S : PlainSearch). HasParts M c.args.pool c.args.tree kept.points.items S} {Q = λ (S : PlainSearch). IsOfParts M c.args.pool c.args.tree points S} c.with_kept_by.result
    (λ s parts. record { kept = kept.points.items; keepable = c.in-Ok.ensures.keepable; parts = parts }) c.with_kept_by.ensures
