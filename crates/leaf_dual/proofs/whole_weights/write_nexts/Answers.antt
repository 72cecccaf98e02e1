use Rattle.std.proofs.Common.{◌≡◌, ◌<◌, ◌-◌, ◌+◌, sym, subst, ⊎_elim, arith, length, get_or}
use Rattle.std.specs.Prelude.{set}
use Rattle.std.proofs.lemmas.Bool.{cases_eq}
use Rattle.std.proofs.lemmas.List.{get_or-set_same, get_or-set_other}
use Rattle.leaf_dual.specs.Wholes.{IsNextOf}
use Rattle.leaf_dual.proofs.whole_weights.write_nexts.Goals as goal

pub loop-behind-init : goal.loop-behind-init
loop-behind-init c = record {
  at = λ j from below. absurd (omega (arith, from, below));
  written = λ k from below. absurd (omega (arith, from, below));
}

pub next_from-here-requires : goal.next_from-here-requires
next_from-here-requires c =
    let below = c.loop-behind-test.true in
    let same : c.args.count - c.loop-behind.behind ≡ c.args.count - 1 - c.loop-behind.behind + 1 = omega (arith, below) in
    subst (λ k. IsNextOf c.args.numbers.now k c.loop-behind.at) same c.loop-behind.invariant.at

pub loop-behind-preserved : goal.loop-behind-preserved
loop-behind-preserved c =
    let numbers = c.args.numbers.now in
    let count = c.args.count in
    let b = c.loop-behind.behind in
    let below = c.loop-behind-test.true in
    let place = count - 1 - b in
    let next = c.loop-behind.next in
    let here = c.next_from-here.result in
    let is : IsNextOf numbers place here = c.next_from-here.ensures in
    let same : place ≡ count - (b + 1) = omega (arith, below) in
    let within : place < length next = let size = c.loop-behind.auto.next in let few = c.requires in omega (arith, below, size, few) in
    record {
      at = subst (λ k. IsNextOf numbers k here) same is;
      written = λ k from under.
          ⊎_elim (λ e. subst (λ q. IsNextOf numbers q (get_or (set next place here) q 0)) (sym e) (subst (IsNextOf numbers place) (sym (get_or-set_same next place here 0 within)) is))
          (λ other. subst (IsNextOf numbers k) (sym (get_or-set_other next place k here 0 other)) (c.loop-behind.invariant.written k (omega (arith, from, below, other)) under)) (cases_eq k place);
    }

pub returns : goal.returns
returns c = λ k below. let past = c.loop-behind-test.false in c.loop-behind.invariant.written k (omega (arith, past)) below
