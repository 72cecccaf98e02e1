use Rattle.std.proofs.Common.{◌≡◌, suc, ◌+◌, Bool, true, false, List, [], ◌∷◌, ◌++◌, sym, ap, subst, ◌∙◌, arith, append-nil, if◌then◌else◌}
use Rattle.std.specs.Prelude.{IfOk}
use Rattle.lp_model.specs.Cuts.{is_live}
use Rattle.lp_model.specs.declared.types.CutRow.{CutRow}
use Rattle.leaf_dual.proofs.CutLemmas.{live-is}
use Rattle.cert_text.specs.declared.cert.CertMult.{CertMult}
use Rattle.cert_text.specs.declared.cert.CertMult.TheVariants as mult
use Rattle.tree_cert.proofs.names.add_cut.Goals as goal

pub returns-then-not-live : goal.returns-then-not-live
returns-then-not-live c =
    let cuts = c.args.cuts.now in
    let k = c.args.cut.0 in
    let off : is_live cuts k ≡ false = live-is cuts k c.index-cuts-cut.result c.requires c.index-cuts-cut.is ∙ ap (λ (x : CutRow). x.live) c.index-cuts-cut.is ∙ c.if-not-live.true in
    sym (append-nil c.args.mults.now) ∙ ap (λ (b : Bool). c.args.mults.now ++ (if b then mult.Cut (suc k) c.args.number ∷ [] else [])) (sym off)

pub returns : goal.returns
returns c =
    let cuts = c.args.cuts.now in
    let k = c.args.cut.0 in
    let on : is_live cuts k ≡ true = live-is cuts k c.index-cuts-cut.result c.requires c.index-cuts-cut.is ∙ ap (λ (x : CutRow). x.live) c.index-cuts-cut.is ∙ c.if-not-live.false in
    let next : c.from.result + 1 ≡ suc k = let same = c.from.ensures in omega (arith, same) in
    subst (λ (ms : List CertMult). IfOk c.push.result (λ _. c.push.new.self ≡ c.args.mults.now ++ ms))
    (ap (λ n. mult.Cut n c.args.number ∷ []) next ∙ ap (λ (b : Bool). if b then mult.Cut (suc k) c.args.number ∷ [] else []) (sym on)) c.push.ensures.pushed
