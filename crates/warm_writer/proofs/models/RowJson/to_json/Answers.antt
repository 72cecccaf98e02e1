use Rattle.std.proofs.Common.{IfOk, ap, codes, ◌≡◌}
use Rattle.serde_json.specs.Data.{no_members, put}
use Rattle.serde_json.specs.View.{members_view}
use Rattle.serde_json.proofs.OnLiterals.{serde_json_on_literals}
use Rattle.warm_writer.specs.Written.{side_json, name_json}
use Rattle.warm_writer.proofs.models.RowJson.to_json.Goals as goal

pub returns : goal.returns
unfolding serde_json_on_literals
returns c =
    let s = c.args.self.now in
    let m1 = put (codes "name") (name_json s.name) no_members in
    let h1 : IfOk c.with-from_name.result (λ m. members_view m.entries ≡ m1) = c.with-from_name.ensures (name_json s.name) no_members (c.name.ensures) (ap members_view c.new.ensures.empty) in
    let m2 = put (codes "lo") (side_json s.lo) m1 in
    let h2 : IfOk c.with-from_lo.result (λ m. members_view m.entries ≡ m2) = c.with-from_lo.ensures (side_json s.lo) m1 (c.side.ensures) h1 in
    let m3 = put (codes "hi") (side_json s.hi) m2 in
    let h3 : IfOk c.with-from_hi.result (λ m. members_view m.entries ≡ m3) = c.with-from_hi.ensures (side_json s.hi) m2 (c.side-2.ensures) h2 in
    c.object.ensures m3 h3
