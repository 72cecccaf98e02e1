use Rattle.std.proofs.Common.{◌+◌, Bool, drop, sym, ap, ◌∙◌, if◌then◌else◌}
use Rattle.lp_model.specs.Edits.{number_beside}
use Rattle.cert_check.proofs.PairLemmas.{number_next}
use Rattle.cert_check.proofs.names.number_beside.Goals as goal

pub loop-other-preserved : goal.loop-other-preserved
loop-other-preserved c =
    let name = c.args.name.now in
    let named = c.args.named.now in
    let k = c.loop-other.other-index in
    let e = c.loop-other-item.result in
    c.loop-other.invariant
    ∙ number_next name named k e c.loop-other-test.true c.loop-other-item.is
    ∙ ap (λ (b : Bool). if b then e.1 else number_beside name (drop (k + 1) named)) (sym c.is_same.ensures ∙ c.if-is_same.false)

pub returns-then-is_same : goal.returns-then-is_same
returns-then-is_same c =
    let name = c.args.name.now in
    let named = c.args.named.now in
    let k = c.loop-other.other-index in
    let e = c.loop-other-item.result in
    sym
    (c.loop-other.invariant
    ∙ number_next name named k e c.loop-other-test.true c.loop-other-item.is
    ∙ ap (λ (b : Bool). if b then e.1 else number_beside name (drop (k + 1) named)) (sym c.is_same.ensures ∙ c.if-is_same.true))
