use Rattle.std.proofs.Common.{sym, subst, ◌∙◌}
use Rattle.frac_text.specs.Spelling.{Reading}
use Rattle.frac_text.specs.private.Parts.{Say}
use Rattle.frac_text.proofs.SpellingTerms.{reads_slash, reads_plain}
use Rattle.frac_text.proofs.spelling.parts_of.Goals as goal

pub returns-then-cut : goal.returns-then-cut
returns-then-cut c =
    let found = sym c.cut_at-cut.ensures.found ∙ c.if-cut.true in
    let says = reads_slash c.args.bytes.now c.behind_sign-body.result.now c.cut_at-cut.result.before.now c.cut_at-cut.result.after.now c.has_minus-minus.result c.has_minus-minus.ensures c.behind_sign-body.ensures c.cut_at-cut.ensures.before c.cut_at-cut.ensures.after found in
    subst (λ (r : Reading). Say r c.quotient_parts.result) (sym says) c.quotient_parts.ensures

pub returns-else-cut : goal.returns-else-cut
returns-else-cut c =
    let none = sym c.cut_at-cut.ensures.found ∙ c.if-cut.false in
    let says = reads_plain c.args.bytes.now c.behind_sign-body.result.now c.cut_at-cut.result.before.now c.cut_at-cut.result.after.now c.has_minus-minus.result c.has_minus-minus.ensures c.behind_sign-body.ensures none in
    subst (λ (r : Reading). Say r c.decimal_parts.result) (sym says) c.decimal_parts.ensures
