use Rattle.serde_json.specs.View.{view}
use Rattle.warm_file.proofs.TopLemmas.{answer_from_top}
use Rattle.warm_file.proofs.reading.read_text.Goals as goal

pub returns-in-Ok : goal.returns-in-Ok
returns-in-Ok c =
    let ok = c.in-Ok.ensures.ok in
    answer_from_top c.args.text.now (view c.in-Ok.value) c.in-Err-read_search.fault c.from_top.result (record { utf8 = ok.0; value = ok.1 }) c.in-Err-read_search.ensures c.from_top.ensures
