use Rattle.std.proofs.Common.{◌≡◌, false, ◌<◌, ap, subst, ◌∙◌, arith, IsTrue, ◌++◌, ◌∷◌, [], length, get_or}
use Rattle.lp_model.specs.Edits.{number_beside}
use Rattle.cert_check.proofs.PairLemmas.{pushed_more, pushed_all}
use Rattle.cert_check.proofs.names.point.Goals as goal

pub loop-col-preserved : goal.loop-col-preserved
loop-col-preserved c =
    let M = c.args.model.now in
    let named = c.args.named.now in
    let x = c.col-item.result in
    let items = c.cols-col-items.ensures.items in
    pushed_more (λ col. number_beside col.name named) M.cols c.loop-col.col-index x c.loop-col.numbers c.push.new.self
    (subst (λ cols. c.loop-col.col-index < length cols) items c.loop-col-test.true) (c.col-item.is ∙ ap (λ cols. get_or cols c.loop-col.col-index x) items) c.loop-col.invariant
    (c.in-Ok.ensures.pushed ∙ ap (λ n. c.loop-col.numbers ++ n ∷ []) c.number_beside.ensures)

pub returns : goal.returns
returns c =
    let M = c.args.model.now in
    let cols : IsTrue c.are_columns.result = c.if-not-are_columns.false in
    let once : IsTrue c.stand_once.result = c.if-not-stand_once.false in
    let same = ap length c.cols-col-items.ensures.items in (
      record { there = c.are_columns.ensures.0 cols; once = c.stand_once.ensures.0 once },
      pushed_all (λ col. number_beside col.name c.args.named.now) M.cols c.loop-col.col-index c.loop-col.numbers (omega (arith, same)) c.loop-col.invariant,
    )

pub returns-then-not-are_columns : goal.returns-then-not-are_columns
returns-then-not-are_columns c = λ names.
    let t : IsTrue c.are_columns.result = c.are_columns.ensures.1 names.there in
    let f : c.are_columns.result ≡ false = c.if-not-are_columns.true in
    cc

pub returns-then-not-stand_once : goal.returns-then-not-stand_once
returns-then-not-stand_once c = λ names.
    let t : IsTrue c.stand_once.result = c.stand_once.ensures.1 names.once in
    let f : c.stand_once.result ≡ false = c.if-not-stand_once.true in
    cc
