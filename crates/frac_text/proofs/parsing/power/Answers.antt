use Rattle.std.proofs.Common.{rules, FitsSigned, ◌≡◌, ◌<◌, ◌≤◌, ℤ, pos, ◌+ℤ◌, ◌-ℤ◌, unsigned_abs, MatchOption, subst}
use Rattle.std.specs.Int.{w128}
use Rattle.std.proofs.lemmas.Int.{to_z-of_z}
use Rattle.frac_text.proofs.parsing.power.Goals as goal

pub returns : goal.returns
returns c =
    let exponent_fits : FitsSigned w128 c.in-Some.exponent = search rules in
    subst (λ (e : ℤ). MatchOption c.moved_power.result (38 < unsigned_abs (e -ℤ pos c.args.point +ℤ pos c.args.dropped)) (λ r. (r ≡ e -ℤ pos c.args.point +ℤ pos c.args.dropped) × (unsigned_abs r ≤ 38)))
    c.in-Some.ensures.0 (simp to_z-of_z at c.moved_power.ensures)
