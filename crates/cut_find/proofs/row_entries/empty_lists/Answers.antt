use Rattle.std.proofs.Common.{◌≡◌, ◌∙◌, [], ◌∷◌, ◌++◌, replicate, ap, arith}
use Rattle.std.proofs.lemmas.List.{replicate_more}
use Rattle.cut_find.proofs.row_entries.empty_lists.Goals as goal

pub loop-preserved : goal.loop-preserved
loop-preserved c = c.in-Ok.ensures.items ∙ (λ t. c.loop.invariant t ++ c.new.ensures t ∷ []) ∙ replicate_more c.loop.counter []

pub returns : goal.returns
returns c =
    let all : c.loop.counter ≡ c.args.count = let past = c.loop-test.false in let most = c.loop.auto.counter-end in omega (arith, past, most) in
    c.loop.invariant ∙ ap (λ n. replicate n []) all
