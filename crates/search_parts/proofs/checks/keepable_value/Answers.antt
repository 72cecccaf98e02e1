use Rattle.search_parts.proofs.CheckLemmas.{wide-not_keepable}
use Rattle.search_parts.proofs.checks.keepable_value.Goals as goal

pub returns-in-Err : goal.returns-in-Err
returns-in-Err c = wide-not_keepable c.args.model.now c.args.point.now c.in-Err.field-0 c.in-Err.ensures
