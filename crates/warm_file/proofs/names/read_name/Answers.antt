use Rattle.std.proofs.Common.{◌∙◌, sym, ap, true, false}
use Rattle.std.specs.Prelude.{◌&&◌, not, List, ℕ}
use Rattle.warm_file.proofs.Saying.{says-there, says-missing, says-else, ok-there, ok-then, ok-is}
use Rattle.lp_model.specs.Names.{is_lawful_name}
use Rattle.warm_file.specs.Models.{is_among, name_of}
use Rattle.warm_file.proofs.names.read_name.Goals as goal

pub returns-in_default : goal.returns-in_default
unfolding name_of
returns-in_default g c = says-missing 3 _ _ c.bad.result c.in_default.ensures c.bad.ensures

pub returns-in-Ok : goal.returns-in-Ok
unfolding name_of
returns-in-Ok g c =
    let names = g.T.Taken.names c.args.taken.now in
    let same = c.as_bytes-name.ensures.value in
    let free = ap (λ (t : List ℕ). is_lawful_name t && not (is_among t names)) (sym same) ∙ sym c.is_free.ensures ∙ c.if-is_free.true in
    ok-there 3 _ _ c.in-Some.text.now _ c.in-Some.ensures (ok-then _ _ _ _ free (ok-is _ _ (sym (c.in-Ok.ensures ∙ same))))

pub returns : goal.returns
unfolding name_of
returns g c =
    let names = g.T.Taken.names c.args.taken.now in
    let same = c.as_bytes-name.ensures.value in
    let taken = ap (λ (t : List ℕ). is_lawful_name t && not (is_among t names)) (sym same) ∙ sym c.is_free.ensures ∙ c.if-is_free.false in
    says-there 3 _ _ c.in-Some.text.now c.bad-2.result c.in-Some.ensures (says-else _ _ _ c.bad-2.result taken c.bad-2.ensures)
