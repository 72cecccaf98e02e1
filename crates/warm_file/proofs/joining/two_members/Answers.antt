use Rattle.serde_json.specs.View.{view}
use Rattle.warm_file.specs.Values.{member}
use Rattle.warm_file.proofs.joining.two_members.Goals as goal

pub returns : goal.returns
returns g c =
    let states = g.P.Part.states c.args.part.now in
    let d = view c.args.object.now in
    c.both.ensures (member c.args.first.now states d) (member c.args.second.now states d) c.member-one.ensures c.member-other.ensures
