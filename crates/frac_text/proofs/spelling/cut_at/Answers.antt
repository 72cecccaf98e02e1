use Rattle.std.proofs.Common.{◌≡◌, ◌+◌, ◌-◌, ◌<◌, ◌≤◌, ℕ, List, get_or, length, take, drop, true, false, sym, ap, ◌∙◌, arith, below_more}
use Rattle.std.proofs.lemmas.Grind.{common_steps}
use Rattle.frac_text.specs.private.Parts.{marks}
use Rattle.frac_text.proofs.Cuts.{none_any, some_any, place_of_none, place_of_first}
use Rattle.frac_text.proofs.spelling.cut_at.Goals as goal

rest_whole : (xs : List ℕ) (k : ℕ) → k < length xs → take (length xs - (k + 1)) (drop (k + 1) xs) ≡ drop (k + 1) xs
rest_whole xs k within = grind (arith, common_steps)

all_whole : (xs : List ℕ) → xs ≡ take (length xs) xs
all_whole xs = grind (arith, common_steps)

nothing_left : (xs : List ℕ) → take (length xs - length xs) (drop (length xs) xs) ≡ drop (length xs + 1) xs
nothing_left xs = grind (arith, common_steps)

pub loop-place-preserved : goal.loop-place-preserved
loop-place-preserved c =
    let clean : marks c.args.mark (get_or c.args.bytes.now c.loop-place.place 0) ≡ false = sym c.is.ensures ∙ c.if-is.false in
    below_more (λ k. marks c.args.mark (get_or c.args.bytes.now k 0) ≡ false) c.loop-place.place c.loop-place.invariant clean

pub returns-then-is-clause-found : goal.returns-then-is-clause-found
returns-then-is-clause-found c =
    let within : c.loop-place.place < length c.args.bytes.now = omega (arith, c.loop-place-test.true) in
    some_any (marks c.args.mark) c.args.bytes.now c.loop-place.place within (sym c.is.ensures ∙ c.if-is.true)

pub returns-then-is-clause-before : goal.returns-then-is-clause-before
returns-then-is-clause-before c =
    let within : c.loop-place.place < length c.args.bytes.now = omega (arith, c.loop-place-test.true) in
    ap (λ n. take n c.args.bytes.now) (sym (place_of_first (marks c.args.mark) c.args.bytes.now c.loop-place.place within c.loop-place.invariant (sym c.is.ensures ∙ c.if-is.true)))

pub returns-then-is-clause-after : goal.returns-then-is-clause-after
returns-then-is-clause-after c =
    let within : c.loop-place.place < length c.args.bytes.now = omega (arith, c.loop-place-test.true) in
    rest_whole c.args.bytes.now c.loop-place.place within
    ∙ ap (λ n. drop (n + 1) c.args.bytes.now) (sym (place_of_first (marks c.args.mark) c.args.bytes.now c.loop-place.place within c.loop-place.invariant (sym c.is.ensures ∙ c.if-is.true)))

pub returns-clause-found : goal.returns-clause-found
returns-clause-found c =
    let past : length c.args.bytes.now ≤ c.loop-place.place = omega (arith, c.loop-place-test.false) in
    none_any (marks c.args.mark) c.args.bytes.now (λ k h. c.loop-place.invariant k (omega (arith, h, past)))

pub returns-clause-before : goal.returns-clause-before
returns-clause-before c =
    let past : length c.args.bytes.now ≤ c.loop-place.place = omega (arith, c.loop-place-test.false) in
    all_whole c.args.bytes.now ∙ ap (λ n. take n c.args.bytes.now) (sym (place_of_none (marks c.args.mark) c.args.bytes.now (λ k h. c.loop-place.invariant k (omega (arith, h, past)))))

pub returns-clause-after : goal.returns-clause-after
returns-clause-after c =
    let past : length c.args.bytes.now ≤ c.loop-place.place = omega (arith, c.loop-place-test.false) in
    nothing_left c.args.bytes.now ∙ ap (λ n. drop (n + 1) c.args.bytes.now) (sym (place_of_none (marks c.args.mark) c.args.bytes.now (λ k h. c.loop-place.invariant k (omega (arith, h, past)))))
