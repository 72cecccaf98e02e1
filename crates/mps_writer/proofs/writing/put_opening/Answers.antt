use Rattle.std.proofs.Common.{◌≡◌, ◌∷◌, [], ◌++◌, List, ℕ, ap, ◌∙◌}
use Rattle.std.specs.Prelude.{codes}
use Rattle.mps_writer.specs.Canonical.{Header, sense_word}
use Rattle.text_lines.specs.Words.{spaced}
use Rattle.mps_writer.proofs.PutLaws.{lines_put, headed_put}
use Rattle.mps_writer.proofs.writing.put_opening.Goals as goal

pub returns : goal.returns
returns c =
    let old = c.args.text.now.items in
    let named = c.put_header.new.text.items in
    let word = c.extend_from_slice.new.self.items in
    let sensed = c.put_word.new.text.items in
    let new = c.push.new.self.items in
    let sense : sensed ≡ word ++ spaced (sense_word c.args.sense ∷ []) = c.in-Ok-put_word.ensures ∙ ap (λ (w : List ℕ). word ++ spaced (w ∷ [])) c.sense_word.ensures in
    lines_put (Header (codes "NAME" ∷ []) ∷ []) (Header (codes "OBJSENSE" ∷ sense_word c.args.sense ∷ []) ∷ []) old named new c.in-Ok.ensures
    (headed_put (codes "OBJSENSE") (sense_word c.args.sense ∷ []) named word sensed new c.in-Ok-extend_from_slice.ensures.items sense c.in-Ok-push.ensures.items)
