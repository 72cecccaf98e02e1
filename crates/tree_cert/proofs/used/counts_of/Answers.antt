use Rattle.std.proofs.Common.{◌≡◌, ◌+◌, ◌≤◌, ◌∷◌, ◌++◌, [], false, length, get_or, take, sym, ap, ◌∙◌, arith}
use Rattle.std.proofs.lemmas.List.{take_all, take_more, length-take-le}
use Rattle.tree_cert.specs.private.Marked.{count_with, counts_of, count_all}
use Rattle.tree_cert.proofs.UsedLaws.{counts-push, count-push, count-few}
use Rattle.tree_cert.proofs.used.counts_of.Goals as goal

pub count_with-count-requires : goal.count_with-count-requires
count_with-count-requires c =
    let marks = c.args.marks.now in
    let i = c.loop-place.place in
    let size : length (take i marks) ≡ i = length-take-le i marks (omega (arith, c.loop-place-test.true)) in
    let few : count_all 0 (take i marks) ≤ 0 + length (take i marks) = count-few 0 (take i marks) in
    let is : c.loop-place.count ≡ count_all 0 (take i marks) = c.loop-place.invariant.count in
    omega (arith, size, few, is, c.loop-place-test.true, c.requires)

pub loop-place-preserved : goal.loop-place-preserved
loop-place-preserved c =
    let marks = c.args.marks.now in
    let i = c.loop-place.place in
    let b = get_or marks i false in
    let more = take_more marks i false c.loop-place-test.true in
    record {
      counts =
          c.in-Ok.ensures.items
          ∙ ap (λ l. l ++ c.loop-place.count ∷ []) c.loop-place.invariant.counts
          ∙ ap (λ n. counts_of 0 (take i marks) ++ n ∷ []) c.loop-place.invariant.count
          ∙ sym (counts-push 0 (take i marks) b)
          ∙ ap (counts_of 0) (sym more);
      count = c.count_with-count.ensures ∙ ap (λ n. count_with n b) c.loop-place.invariant.count ∙ sym (count-push 0 (take i marks) b) ∙ ap (count_all 0) (sym more);
    }

pub returns : goal.returns
returns c = c.loop-place.invariant.counts ∙ ap (counts_of 0) (take_all c.loop-place.place c.args.marks.now (omega (arith, c.loop-place-test.false)))
