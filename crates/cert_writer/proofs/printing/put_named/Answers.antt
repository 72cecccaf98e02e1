use Rattle.std.proofs.Common.{◌++◌, ◌∷◌, [], List, ℕ, arith, refl}
use Rattle.frac128.specs.Rational.{ℚ}
use Rattle.frac128.specs.Range.{Fits}
use Rattle.frac128.specs.Printing.{printed}
use Rattle.lp_model.specs.Edits.{Named}
use Rattle.cert_writer.specs.CertText.{named_words}
use Rattle.text_lines.specs.Words.{spaced}
use Rattle.cert_writer.proofs.PutLaws.{put_next, put_end, all_next, all_end, named_step}
use Rattle.cert_writer.proofs.printing.put_named.Goals as goal

pub loop-name-preserved : goal.loop-name-preserved
loop-name-preserved c =
    let e = c.loop-name-item.result in
    record {
      put =
          put_next (λ (ns : Named). spaced (named_words ns)) (λ (e : List ℕ × ℚ). spaced (e.0 ∷ printed e.1 ∷ [])) named_step c.args.named.now c.loop-name.name-index (c.args.text.now.items ++ spaced (named_words c.args.named.now)) c.loop-name.text.items c.loop-name.invariant.put
          e c.put_pair.new.text.items c.loop-name-test.true c.loop-name-item.is c.in-Ok.ensures.text;
      room = all_next (λ (d : List ℕ × ℚ). Fits d.1) c.args.named.now c.loop-name.name-index e c.loop-name-test.true c.loop-name-item.is c.loop-name.invariant.room c.in-Ok.ensures.room;
    }

pub returns-clause-room : goal.returns-clause-room
returns-clause-room c = all_end (λ (d : List ℕ × ℚ). Fits d.1) c.args.named.now c.loop-name.name-index (omega (arith, c.loop-name-test.false)) c.loop-name.invariant.room

pub returns-clause-text : goal.returns-clause-text
returns-clause-text c =
    put_end (λ (ns : Named). spaced (named_words ns)) (λ (e : List ℕ × ℚ). spaced (e.0 ∷ printed e.1 ∷ [])) named_step c.args.named.now c.loop-name.name-index (c.args.text.now.items ++ spaced (named_words c.args.named.now)) c.loop-name.text.items c.loop-name.invariant.put (omega (arith, c.loop-name-test.false)) refl
