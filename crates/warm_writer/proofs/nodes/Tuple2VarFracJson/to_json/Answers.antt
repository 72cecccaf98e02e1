use Rattle.std.proofs.Common.{◌∙◌, ap}
use Rattle.warm_writer.specs.Written.{kind_word, place_json, place_of_variable, number_json}
use Rattle.warm_writer.proofs.nodes.Tuple2VarFracJson.to_json.Goals as goal

pub returns : goal.returns
returns c =
    let v = c.args.self.now.0 in
    c.three.ensures (kind_word v) (place_json (place_of_variable v)) (number_json c.args.self.now.1) c.kind_word-kind.ensures (c.place.ensures ∙ ap place_json c.place_of.ensures) c.number.ensures
