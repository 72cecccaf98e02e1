use Rattle.std.proofs.Common.{◌∙◌, ap, ◌++◌, ◌∷◌, [], arith}
use Rattle.cert_check.specs.Mults.{IsMultiplierThere, mult_of}
use Rattle.cert_check.proofs.PairLemmas.{pushed_more, pushed_all}
use Rattle.cert_check.proofs.MultLemmas.{each-more, each-none, each-done}
use Rattle.cert_check.proofs.mults.placed_mults.Goals as goal

pub returns-in_default : goal.returns-in_default
returns-in_default c = each-none c.args.mults.now c.loop-index.index c.index-mults-index.result c.loop-index-test.true c.index-mults-index.is (IsMultiplierThere c.args.model.now c.args.count) c.in_default.ensures

pub loop-index-preserved : goal.loop-index-preserved
loop-index-preserved c =
    let M = c.args.model.now in
    let mults = c.args.mults.now in
    let k = c.loop-index.index in
    let mult = c.index-mults-index.result in
    record {
      there = each-more mults k mult c.loop-index-test.true c.index-mults-index.is (IsMultiplierThere M c.args.count) c.loop-index.invariant.there c.in-Some.ensures.0;
      placed_is = pushed_more (mult_of M) mults k mult c.loop-index.placed c.push.new.self c.loop-index-test.true c.index-mults-index.is c.loop-index.invariant.placed_is
          (c.in-Ok.ensures.pushed ∙ ap (λ e. c.loop-index.placed ++ e ∷ []) c.in-Some.ensures.1);
    }

pub returns : goal.returns
returns c =
    let mults = c.args.mults.now in
    let k = c.loop-index.index in
    (each-done (IsMultiplierThere c.args.model.now c.args.count) mults k (omega (arith, c.loop-index-test.false)) c.loop-index.invariant.there, pushed_all (mult_of c.args.model.now) mults k c.loop-index.placed (omega (arith, c.loop-index-test.false)) c.loop-index.invariant.placed_is)
