use Rattle.std.proofs.Common.{◌++◌, ◌∷◌, [], List, ℕ, Bool, refl, arith}
use Rattle.cert_writer.specs.CertText.{literal_word, literal_words}
use Rattle.text_lines.specs.Words.{spaced}
use Rattle.cert_writer.proofs.PutLaws.{put_next, put_end, literal_step}
use Rattle.cert_writer.proofs.printing.put_literals.Goals as goal

pub loop-name-preserved : goal.loop-name-preserved
loop-name-preserved c =
    put_next (λ (ls : List (List ℕ × Bool)). spaced (literal_words ls)) (λ (l : List ℕ × Bool). spaced (literal_word l ∷ [])) literal_step c.args.literals.now c.loop-name.name-index (c.args.text.now.items ++ spaced (literal_words c.args.literals.now)) c.loop-name.text.items c.loop-name.invariant
    c.loop-name-item.result c.put_literal.new.text.items c.loop-name-test.true c.loop-name-item.is c.in-Ok.ensures

pub returns : goal.returns
returns c =
    put_end (λ (ls : List (List ℕ × Bool)). spaced (literal_words ls)) (λ (l : List ℕ × Bool). spaced (literal_word l ∷ [])) literal_step c.args.literals.now c.loop-name.name-index (c.args.text.now.items ++ spaced (literal_words c.args.literals.now)) c.loop-name.text.items c.loop-name.invariant
    (omega (arith, c.loop-name-test.false)) refl
