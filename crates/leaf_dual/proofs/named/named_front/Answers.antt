use Rattle.std.proofs.Common.{sym, ap, take, arith}
use Rattle.std.proofs.lemmas.List.{length-take-le}
use Rattle.leaf_dual.proofs.named.named_front.Goals as goal

pub returns-clause-front : goal.returns-clause-front
returns-clause-front c =
    let cuts = c.args.cuts.now in
    let count = c.min-count.result in
    let long = length-take-le count cuts (omega (arith, c.min-count.ensures)) in
    ap (λ n. take n cuts) (sym long)

pub returns-clause-few : goal.returns-clause-few
returns-clause-few c =
    let cuts = c.args.cuts.now in
    let long = length-take-le c.min-count.result cuts (omega (arith, c.min-count.ensures)) in
    omega (arith, c.min-count.ensures, long)

pub returns-clause-behind : goal.returns-clause-behind
returns-clause-behind c = λ k past within.
    let cuts = c.args.cuts.now in
    let long = length-take-le c.min-count.result cuts (omega (arith, c.min-count.ensures)) in
    c.named_end.ensures k (omega (arith, c.min-count.ensures, long))
