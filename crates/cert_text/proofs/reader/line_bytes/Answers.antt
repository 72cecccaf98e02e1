use Rattle.std.proofs.Common.{ap, ◌∙◌, arith, map}
use Rattle.std.proofs.lemmas.Grind.{common_steps}
use Rattle.text_lines.proofs.WordLemmas.{nothing, something}
use Rattle.cert_text.proofs.LineLemmas.{lines-none, lines-front, lines-all}
use Rattle.cert_text.proofs.reader.line_bytes.Goals as goal

pub returns-in_default : goal.returns-in_default
returns-in_default c = lines-none c.args.text.now c.in-Ok.lines.items c.pop.new.self.items c.in-Ok.ensures c.in_default.ensures.items (grind (arith, common_steps))

pub returns-then-is_empty : goal.returns-then-is_empty
returns-then-is_empty c =
    lines-front c.args.text.now c.in-Ok.lines.items c.pop.new.self.items c.in-Some.last c.in-Ok.ensures c.in-Some.ensures.items
    (nothing c.in-Some.last.now (grind (arith, common_steps)))

pub returns-in-Ok-push : goal.returns-in-Ok-push
returns-in-Ok-push c =
    ap (λ items. map (λ line. line.now) items) c.in-Ok-push.ensures.items
    ∙ lines-all c.args.text.now c.in-Ok.lines.items c.pop.new.self.items c.in-Some.last c.in-Ok.ensures c.in-Some.ensures.items
    (something c.in-Some.last.now (grind (arith, common_steps)))
