use Rattle.std.proofs.Common.{◌≡◌, ◌<◌, ◌≤◌, ℕ, [], ◌∷◌, length, take, get_or, sym, ap, ◌∙◌, subst, inl, inr, arith, false, not}
use Rattle.std.specs.Prelude.{All}
use Rattle.std.proofs.Math.Seq.{drop-cons}
use Rattle.std.proofs.lemmas.List.{take_more, take_all, drop_all}
use Rattle.std.proofs.lemmas.List.Elements.{All-append, All-cons, All-nil}
use Rattle.text_lines.specs.Words.{is_blank}
use Rattle.mps_text.specs.Text.{is_header}
use Rattle.mps_text.proofs.fields.field_end.Goals as goal

abbrev IsPart : ℕ → Type 0
IsPart byte = is_blank byte ≡ false

pub loop-index-preserved : goal.loop-index-preserved
loop-index-preserved c =
    let text = c.args.text.now in
    let index = c.loop-index.index in
    let byte = get_or text index 0 in
    let small : index < length text = omega (arith, c.loop-index-test.true) in
    let clean : IsPart byte = sym c.is_blank_byte.ensures ∙ c.if-is_blank_byte.false in
    subst (All IsPart) (sym (take_more text index 0 small)) (All-append IsPart (take index text) (byte ∷ []) c.loop-index.invariant (All-cons IsPart byte [] clean (All-nil IsPart)))

pub returns-then-is_blank_byte-clause-clean : goal.returns-then-is_blank_byte-clause-clean
returns-then-is_blank_byte-clause-clean c = c.loop-index.invariant

pub returns-then-is_blank_byte-clause-behind : goal.returns-then-is_blank_byte-clause-behind
returns-then-is_blank_byte-clause-behind c =
    let text = c.args.text.now in
    let index = c.loop-index.index in
    let small : index < length text = omega (arith, c.loop-index-test.true) in
    inr (ap is_header (drop-cons text index 0 small) ∙ ap not (sym c.is_blank_byte.ensures ∙ c.if-is_blank_byte.true))

pub returns-clause-clean : goal.returns-clause-clean
returns-clause-clean c =
    let text = c.args.text.now in
    let index = c.loop-index.index in
    let end : length text ≤ index = omega (arith, c.loop-index-test.false) in
    let whole : length text ≤ length text = omega arith in
    subst (All IsPart) (take_all index text end ∙ sym (take_all (length text) text whole)) c.loop-index.invariant

pub returns-clause-behind : goal.returns-clause-behind
returns-clause-behind c =
    let text = c.args.text.now in
    let whole : length text ≤ length text = omega arith in
    inl (drop_all (length text) text whole)
