use Rattle.std.proofs.Common.{◌≡◌, ℕ, List, ◌++◌, ap, sym, ◌∙◌, subst, IsTrue, false, pos}
use Rattle.std.specs.Prelude.{codes, IfOk}
use Rattle.frac128.specs.Printing.{printed}
use Rattle.frac128.specs.Rational.{int}
use Rattle.reply_texts.proofs.TextLemmas.{join, join_piece, nothing_more, zero-no_line, other-line}
use Rattle.reply_texts.proofs.answers.write_column_line.Goals as goal

pub returns-then-is_zero : goal.returns-then-is_zero
returns-then-is_zero c =
    let r = c.args.reply.now.items in
    let zero : c.args.number.now ≡ int (pos 0) = c.is_zero.ensures.0 c.if-is_zero.true in
    nothing_more r ∙ ap (λ t. r ++ t) (sym (zero-no_line c.args.name.now c.args.number.now zero))

pub returns : goal.returns
returns c =
    let r = c.args.reply.now.items in
    let name = codes "x " ++ c.args.name.now in
    let number = printed c.args.number.now in
    let before = c.write_to.new.text.items in
    let now = c.extend_from_slice-2.new.self.items in
    let last = c.extend_from_slice-2.result in
    let other : ¬ (c.args.number.now ≡ int (pos 0)) = λ e. let t : IsTrue c.is_zero.result = c.is_zero.ensures.1 e in let f : c.is_zero.result ≡ false = c.if-is_zero.false in cc in
    subst (λ (t : List ℕ). IfOk last (λ _. now ≡ r ++ t)) (sym (other-line c.args.name.now c.args.number.now other))
    (join_piece last r ((name ++ codes " ") ++ number) (codes "\n") before now
    (join r (name ++ codes " ") number c.extend_from_slice.new.self.items before
    (join r name (codes " ") c.write_two.new.reply.items c.extend_from_slice.new.self.items c.in-Ok.ensures c.in-Ok-extend_from_slice.ensures.items)
    c.in-Ok-write_to.ensures.written)
    c.extend_from_slice-2.ensures.items)
