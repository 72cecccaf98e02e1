use Rattle.warm_writer.specs.Written.{place_json, number_json}
use Rattle.warm_writer.proofs.models.Tuple2RowIdFracJson.to_json.Goals as goal

pub returns : goal.returns
returns c = c.two.ensures (place_json c.args.self.now.0.0) (number_json c.args.self.now.1) c.place.ensures c.number.ensures
