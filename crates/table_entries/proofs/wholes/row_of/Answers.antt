use Rattle.std.proofs.Common.{rules, ◌≤◌, ◌+◌, ◌*◌, length, arith}
use Rattle.std.proofs.lemmas.List.{places}
use Rattle.std.proofs.Math.Nat.{mul-le-mul_right}
use Rattle.table_entries.proofs.wholes.row_of.Goals as goal

pub returns-clause-numbers : goal.returns-clause-numbers
returns-clause-numbers c = λ k within.
    let a = c.args in
    let S = a.row * a.columns in
    let row_within = c.requires.row in
    let end : (a.row + 1) * a.columns ≤ a.rows * a.columns = mul-le-mul_right a.columns (omega (arith, row_within)) in
    let size = c.requires.size in
    let last : S + a.columns ≤ length a.numbers.now = omega (arith, end, size) in
    search (rules, places)
