use Rattle.std.proofs.Common.{◌≡◌, ◌∙◌, sym, rules, false}
use Rattle.serde_json.specs.View.{view}
use Rattle.warm_file.specs.Numbers.{number_of, whole_at, whole_of}
use Rattle.warm_file.proofs.Saying.{says-first, says-next, says-else}
use Rattle.warm_file.proofs.numbers.read_whole.Goals as goal

pub returns-in-Err : goal.returns-in-Err
unfolding whole_of
returns-in-Err c = says-first (number_of (view c.args.value.now)) whole_at c.in-Err.fault c.in-Err.ensures

pub returns-then-not-is_whole : goal.returns-then-not-is_whole
unfolding whole_of
returns-then-not-is_whole c =
    let not_whole : c.is_whole.result ≡ false = search rules in
    says-next (number_of (view c.args.value.now)) whole_at c.in-Ok.number c.bad.result c.in-Ok.ensures (says-else _ _ _ c.bad.result (sym c.is_whole.ensures ∙ not_whole) c.bad.ensures)
