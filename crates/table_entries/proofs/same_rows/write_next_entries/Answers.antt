use Rattle.std.proofs.Common.{◌≡◌, ◌<◌, ◌-◌, ◌+◌, sym, subst, ⊎_elim, arith, length, get_or}
use Rattle.std.specs.Prelude.{set}
use Rattle.std.proofs.lemmas.Bool.{cases_eq}
use Rattle.std.proofs.lemmas.List.{get_or-set_same, get_or-set_other}
use Rattle.table_entries.specs.private.NextEntries.{HasNoEntryBetween}
use Rattle.table_entries.proofs.same_rows.write_next_entries.Goals as goal

pub loop-behind-init : goal.loop-behind-init
loop-behind-init c = record {
  at = λ j from below. absurd (omega (arith, from, below));
  written = λ k from below. absurd (omega (arith, from, below));
}

pub next_from-here-requires-clause-place : goal.next_from-here-requires-clause-place
next_from-here-requires-clause-place c = let below = c.loop-behind-test.true in let few = c.requires.count in omega (arith, below, few)

pub next_from-here-requires-clause-behind : goal.next_from-here-requires-clause-behind
next_from-here-requires-clause-behind c =
    let a = c.args in
    let below = c.loop-behind-test.true in
    let same : a.count - c.loop-behind.behind ≡ a.count - 1 - c.loop-behind.behind + 1 = omega (arith, below) in
    subst (λ k. HasNoEntryBetween a.columns a.numbers.now a.row k c.loop-behind.at) same c.loop-behind.invariant.at

pub loop-behind-preserved : goal.loop-behind-preserved
loop-behind-preserved c =
    let a = c.args in
    let b = c.loop-behind.behind in
    let below = c.loop-behind-test.true in
    let place = a.count - 1 - b in
    let nexts = c.loop-behind.nexts in
    let here = c.next_from-here.result in
    let is : HasNoEntryBetween a.columns a.numbers.now a.row place here = c.next_from-here.ensures in
    let same : place ≡ a.count - (b + 1) = omega (arith, below) in
    let within : place < length nexts = let size = c.loop-behind.auto.nexts in let few = c.requires.room in omega (arith, below, size, few) in
    record {
      at = subst (λ k. HasNoEntryBetween a.columns a.numbers.now a.row k here) same is;
      written = λ k from under.
          ⊎_elim (λ e. subst (λ q. HasNoEntryBetween a.columns a.numbers.now a.row q (get_or (set nexts place here) q 0)) (sym e) (subst (HasNoEntryBetween a.columns a.numbers.now a.row place) (sym (get_or-set_same nexts place here 0 within)) is))
          (λ other. subst (HasNoEntryBetween a.columns a.numbers.now a.row k) (sym (get_or-set_other nexts place k here 0 other)) (c.loop-behind.invariant.written k (omega (arith, from, below, other)) under)) (cases_eq k place);
    }

pub returns : goal.returns
returns c = λ k below. let past = c.loop-behind-test.false in c.loop-behind.invariant.written k (omega (arith, past)) below
