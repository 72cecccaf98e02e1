use Rattle.std.proofs.Common.{rules}
use Rattle.serde_json.specs.Data.{boolean}
use Rattle.serde_json.specs.declared.value.Value.{the_lemmas}
use Rattle.warm_writer.specs.Written.{place_json}
use Rattle.warm_writer.proofs.nodes.LiteralJson.to_json.Goals as goal

pub returns : goal.returns
returns c = c.two.ensures (place_json c.args.self.now.col.0) (boolean c.args.self.now.plus) c.place.ensures (search (rules, the_lemmas))
