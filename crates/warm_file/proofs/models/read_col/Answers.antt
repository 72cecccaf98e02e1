use Rattle.std.proofs.Common.{codes, map, subst, Err}
use Rattle.serde_json.specs.View.{view}
use Rattle.warm_file.specs.private.Faults.{SaysFault}
use Rattle.warm_file.specs.Values.{truth_of, member}
use Rattle.warm_file.specs.Models.{name_of, bounded_of, col_in, col_of}
use Rattle.warm_file.proofs.JoinLemmas.{object-says, two-says, two-bad}
use Rattle.warm_file.proofs.models.read_col.Goals as goal

pub returns-in-Ok : goal.returns-in-Ok
unfolding col_of
returns-in-Ok c =
    let d = view c.args.value.now in
    let f = member (codes "name") (name_of (map (λ b. b.name) c.args.before.now)) d in
    let s = member (codes "int") truth_of d in
    let r = c.read_bounded.result in
    object-says d c.is_object.result (col_in c.args.rows c.args.before.now d) r c.is_object.ensures c.if-not-is_object.false
    (two-says f s _ (c.in-Ok.name, c.in-Ok.int) r (c.in-Ok.ensures f s c.member-name.ensures c.member-int.ensures)
    (subst (λ room. SaysFault (bounded_of c.args.rows room c.in-Ok.name c.in-Ok.int d) r) c.room_behind-room.ensures c.read_bounded.ensures))

pub returns-in-Err : goal.returns-in-Err
unfolding col_of
returns-in-Err c =
    let d = view c.args.value.now in
    let f = member (codes "name") (name_of (map (λ b. b.name) c.args.before.now)) d in
    let s = member (codes "int") truth_of d in
    object-says d c.is_object.result (col_in c.args.rows c.args.before.now d) (Err c.in-Err.fault) c.is_object.ensures c.if-not-is_object.false
    (two-bad f s _ c.in-Err.fault (c.in-Err.ensures f s c.member-name.ensures c.member-int.ensures))
