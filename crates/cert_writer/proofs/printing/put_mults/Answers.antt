use Rattle.std.proofs.Common.{◌++◌, List, arith, refl}
use Rattle.cert_text.specs.declared.cert.CertMult.{CertMult}
use Rattle.cert_writer.specs.CertText.{mult_words, all_mult_words}
use Rattle.text_lines.specs.Words.{spaced}
use Rattle.cert_writer.specs.Room.{MultFits}
use Rattle.cert_writer.proofs.PutLaws.{put_next, put_end, all_next, all_end, mult_step}
use Rattle.cert_writer.proofs.printing.put_mults.Goals as goal

pub loop-mult-preserved : goal.loop-mult-preserved
loop-mult-preserved c =
    let m = c.mult-item.result in
    record {
      put =
          put_next (λ (ms : List CertMult). spaced (all_mult_words ms)) (λ (m : CertMult). spaced (mult_words m)) mult_step c.args.mults.now c.loop-mult.mult-index (c.args.text.now.items ++ spaced (all_mult_words c.args.mults.now)) c.loop-mult.text.items c.loop-mult.invariant.put
          m c.put_mult.new.text.items c.loop-mult-test.true c.mult-item.is c.in-Ok.ensures.text;
      room = all_next MultFits c.args.mults.now c.loop-mult.mult-index m c.loop-mult-test.true c.mult-item.is c.loop-mult.invariant.room c.in-Ok.ensures.room;
    }

pub returns-clause-room : goal.returns-clause-room
returns-clause-room c = all_end MultFits c.args.mults.now c.loop-mult.mult-index (omega (arith, c.loop-mult-test.false)) c.loop-mult.invariant.room

pub returns-clause-text : goal.returns-clause-text
returns-clause-text c =
    put_end (λ (ms : List CertMult). spaced (all_mult_words ms)) (λ (m : CertMult). spaced (mult_words m)) mult_step c.args.mults.now c.loop-mult.mult-index (c.args.text.now.items ++ spaced (all_mult_words c.args.mults.now)) c.loop-mult.text.items c.loop-mult.invariant.put (omega (arith, c.loop-mult-test.false)) refl
