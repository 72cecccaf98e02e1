use Rattle.std.proofs.Common.{IfOk, ap, codes, ◌≡◌}
use Rattle.serde_json.specs.Data.{no_members, put}
use Rattle.serde_json.specs.View.{members_view}
use Rattle.serde_json.proofs.OnLiterals.{serde_json_on_literals}
use Rattle.warm_writer.specs.Written.{place_json, list_json, row_side_word, literal_json}
use Rattle.warm_writer.proofs.nodes.DerivationJson.to_json.Goals as goal

pub returns : goal.returns
unfolding serde_json_on_literals
returns c =
    let s = c.args.self.now in
    let m1 = put (codes "side") (row_side_word s.side) no_members in
    let h1 : IfOk c.with-from_side.result (λ m. members_view m.entries ≡ m1) = c.with-from_side.ensures (row_side_word s.side) no_members (c.row_side_word-side.ensures) (ap members_view c.new.ensures.empty) in
    let m2 = put (codes "row") (place_json s.row.0) m1 in
    let h2 : IfOk c.with-from_row.result (λ m. members_view m.entries ≡ m2) = c.with-from_row.ensures (place_json s.row.0) m1 (c.place.ensures) h1 in
    let m3 = put (codes "lits") (list_json literal_json s.literals) m2 in
    let h3 : IfOk c.with_list-from_lits.result (λ m. members_view m.entries ≡ m3) = c.with_list-from_lits.ensures m2 h2 in
    c.object.ensures m3 h3
