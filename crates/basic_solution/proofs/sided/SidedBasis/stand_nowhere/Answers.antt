use Rattle.std.proofs.Common.{◌≡◌, ◌<◌, ◌∙◌, ap, arith, get_or, below_more}
use Rattle.table_entries.specs.declared.stand.Stand.TheVariants.{Free}
use Rattle.basic_solution.proofs.AskedLemmas.{restood_trans}
use Rattle.basic_solution.proofs.sided.SidedBasis.stand_nowhere.Goals as goal

pub set_stand-requires : goal.set_stand-requires
set_stand-requires c =
    let same = ap (λ s. s.tableau.columns) c.loop-place.invariant.same in
    let less = c.loop-place-test.true in let f = c.columns-place-end.ensures.value in omega (arith, less, f, same)

pub loop-place-preserved : goal.loop-place-preserved
loop-place-preserved c =
    let inv = c.loop-place.invariant in
    let new = c.set_stand.new.self in
    record {
      same = restood_trans c.args.self.now c.loop-place.self new inv.same c.set_stand.ensures.same;
      stands = below_more (λ k. get_or new.stands k Free ≡ Free) c.loop-place.place (λ k q. c.set_stand.ensures.others k (λ e. omega (arith, q, e)) ∙ inv.stands k q) c.set_stand.ensures.here;
    }

pub returns-clause-same : goal.returns-clause-same
returns-clause-same c = c.loop-place.invariant.same

pub returns-clause-nowhere : goal.returns-clause-nowhere
returns-clause-nowhere c = λ k w.
    let inv = c.loop-place.invariant in
    let same = ap (λ s. s.tableau.columns) inv.same in
    let within : k < c.loop-place.place = let past = c.loop-place-test.false in let f = c.columns-place-end.ensures.value in omega (arith, past, f, same, w) in
    inv.stands k within
