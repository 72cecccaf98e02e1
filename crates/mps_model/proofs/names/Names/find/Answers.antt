use Rattle.std.proofs.Common.{ap, ◌∙◌}
use Rattle.mps_model.specs.Places.{is_found}
use Rattle.mps_model.proofs.PlaceFacts.{found_from}
use Rattle.mps_model.proofs.names.Names.find.Goals as goal

pub returns-clause-found : goal.returns-clause-found
returns-clause-found c =
    let names = c.args.self.now.names in
    let name = c.args.name.now in
    found_from names name c.find.result (ap (is_found names name) c.find.ensures ∙ c.args.self.now.index name)
