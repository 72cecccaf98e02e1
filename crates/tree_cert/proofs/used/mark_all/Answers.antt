use Rattle.std.proofs.Common.{◌≡◌, length, take, sym, ap, subst, ◌∙◌, arith}
use Rattle.std.proofs.lemmas.List.{take_all}
use Rattle.kept_cuts.proofs.KeptLemmas.{take-next}
use Rattle.tree_cert.specs.Cuts.{IsOfFirst}
use Rattle.tree_cert.specs.private.Marked.{mark_of, marks_of}
use Rattle.tree_cert.proofs.UsedLaws.{marks-push, marks-length}
use Rattle.tree_cert.proofs.used.mark_all.Goals as goal

pub mark-requires : goal.mark-requires
mark-requires c =
    let mults = c.args.mults.now in
    let i = c.loop-mult.mult-index in
    let m = c.mult-item.result in
    let size : length c.loop-mult.marks ≡ length c.args.marks.now = ap length c.loop-mult.invariant ∙ marks-length c.args.marks.now (take i mults) in
    subst (λ n. IsOfFirst n m) (sym size) (subst (IsOfFirst (length c.args.marks.now)) (sym c.mult-item.is) (c.requires i m c.loop-mult-test.true))

pub loop-mult-preserved : goal.loop-mult-preserved
loop-mult-preserved c =
    let mults = c.args.mults.now in
    let i = c.loop-mult.mult-index in
    let m = c.mult-item.result in
    c.mark.ensures
    ∙ ap (λ marks. mark_of marks m) c.loop-mult.invariant
    ∙ sym (marks-push c.args.marks.now (take i mults) m)
    ∙ ap (marks_of c.args.marks.now) (sym (take-next mults i m c.loop-mult-test.true c.mult-item.is))

pub returns : goal.returns
returns c = c.loop-mult.invariant ∙ ap (marks_of c.args.marks.now) (take_all c.loop-mult.mult-index c.args.mults.now (omega (arith, c.loop-mult-test.false)))
