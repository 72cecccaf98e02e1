use Rattle.std.proofs.Common.{◌≡◌, ◌∷◌, ◌<◌, ◌+◌, ◌-◌, suc, [], length, get_or, drop, ap, sym, ◌∙◌, arith}
use Rattle.std.proofs.lemmas.List.{drop_all}
use Rattle.std.proofs.Math.Seq.{drop-cons}
use Rattle.mps_model.specs.Meaning.{row_numbers_beside}
use Rattle.mps_model.proofs.beside.set_numbers.Goals as goal

pub loop-done-init : goal.loop-done-init
loop-done-init c =
    let numbers = c.args.numbers.now in
    let none : drop (length numbers - 0) numbers ≡ [] = drop_all (length numbers - 0) numbers (omega arith) in
    record { long = c.requires; steps = λ e. e ∙ ap (row_numbers_beside c.args.names.now.names) (sym none) }

pub loop-done-preserved : goal.loop-done-preserved
loop-done-preserved c =
    let names = c.args.names.now.names in
    let numbers = c.args.numbers.now in
    let done = c.loop-done.done in
    let here = length numbers - 1 - done in
    let small : here < length numbers = omega (arith, c.loop-done-test.true) in
    let behind : suc here ≡ length numbers - done = omega (arith, c.loop-done-test.true) in
    let next : here ≡ length numbers - (done + 1) = omega (arith, c.loop-done-test.true) in
    let item = c.index-numbers-count.result in
    let split = drop-cons numbers here item small in
    record {
      long = c.set_number.ensures.length ∙ c.loop-done.invariant.long;
      steps = λ e.
          c.set_number.ensures.steps (drop (length numbers - done) numbers) (c.loop-done.invariant.steps e)
          ∙ ap (row_numbers_beside names) (
          ap (λ p. p ∷ drop (length numbers - done) numbers) c.index-numbers-count.is ∙ ap (λ n. get_or numbers here item ∷ drop n numbers) (sym behind) ∙ sym split ∙ ap (λ n. drop n numbers) next
          );
    }

pub returns : goal.returns
returns c =
    let numbers = c.args.numbers.now in
    let all : length numbers - c.loop-done.done ≡ 0 = omega (arith, c.loop-done-test.false) in
    λ e. c.loop-done.invariant.steps e ∙ ap (λ n. row_numbers_beside c.args.names.now.names (drop n numbers)) all
