use Rattle.std.proofs.Common.{◌∙◌, ap}
use Rattle.warm_writer.specs.Written.{kind_word, place_json, place_of_variable}
use Rattle.warm_writer.proofs.nodes.VarJson.to_json.Goals as goal

pub returns : goal.returns
returns c = c.two.ensures (kind_word c.args.self.now) (place_json (place_of_variable c.args.self.now)) c.kind_word.ensures (c.place.ensures ∙ ap place_json c.place_of.ensures)
