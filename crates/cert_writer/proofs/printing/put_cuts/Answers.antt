use Rattle.std.proofs.Common.{◌++◌, ◌∷◌, [], map, List, refl, arith}
use Rattle.cert_text.specs.declared.cert.NamedCut.{NamedCut}
use Rattle.cert_writer.specs.CertText.{cut_words, line_text, lines_text}
use Rattle.cert_writer.proofs.PutLaws.{put_next, put_end, cut_step, line_put}
use Rattle.cert_writer.proofs.printing.put_cuts.Goals as goal

pub loop-cut-preserved : goal.loop-cut-preserved
loop-cut-preserved c =
    let cut = c.cut-item.result in
    put_next (λ (cs : List NamedCut). lines_text (map cut_words cs)) (λ (c : NamedCut). line_text (cut_words c) ++ 10 ∷ []) cut_step c.args.cuts.now c.loop-cut.cut-index (c.args.text.now.items ++ lines_text (map cut_words c.args.cuts.now)) c.loop-cut.text.items c.loop-cut.invariant
    cut c.push.new.self.items c.loop-cut-test.true c.cut-item.is
    (line_put c.loop-cut.text.items (line_text (cut_words cut)) c.put_cut_line.new.text.items c.push.new.self.items c.in-Ok.ensures c.in-Ok-push.ensures.items)

pub returns : goal.returns
returns c =
    put_end (λ (cs : List NamedCut). lines_text (map cut_words cs)) (λ (c : NamedCut). line_text (cut_words c) ++ 10 ∷ []) cut_step c.args.cuts.now c.loop-cut.cut-index (c.args.text.now.items ++ lines_text (map cut_words c.args.cuts.now)) c.loop-cut.text.items c.loop-cut.invariant
    (omega (arith, c.loop-cut-test.false)) refl
