use Rattle.std.proofs.Common.{map}
use Rattle.mps_sections.specs.Statements.{read_pair}
use Rattle.mps_fields.specs.Fields.{pairs_shown}
use Rattle.mps_sections.proofs.ListFacts.{more_of_last}
use Rattle.mps_sections.proofs.columns.Columns.add_last.Goals as goal

pub returns-in-Some : goal.returns-in-Some
returns-in-Some c =
    let s = c.args.self.now in
    more_of_last c.add.result s.done s.last c.in-Some.column c.add.new.self (map read_pair (pairs_shown c.args.pairs.now)) c.in-Some.is c.add.ensures
