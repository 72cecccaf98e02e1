use Rattle.std.proofs.Common.{◌≡◌, ◌<◌, ◌≤◌, ◌+◌, ◌-◌, ℕ, [], ◌∷◌, length, take, get_or, false, sym, ap, subst, ◌∙◌, arith}
use Rattle.std.proofs.lemmas.List.{take_more, take_all, take_rest, length-drop}
use Rattle.std.proofs.lemmas.List.Elements.{All-append, All-cons, All-nil}
use Rattle.text_lines.specs.Words.{is_blank, HasNoBlank}
use Rattle.text_lines.proofs.LineLemmas.{cut_at_place}
use Rattle.text_lines.proofs.blanks.cut_piece.Goals as goal

abbrev IsPart : ℕ → Type 0
IsPart byte = is_blank byte ≡ false

pub loop-end-preserved : goal.loop-end-preserved
loop-end-preserved c =
    let line = c.args.line.now in
    let end = c.loop-end.end in
    let small : end < length line = omega (arith, c.loop-end-test.true) in
    let clean : IsPart (get_or line end 0) = sym c.is_blank_byte.ensures ∙ c.if-is_blank_byte.false in
    subst HasNoBlank (sym (take_more line end 0 small)) (All-append IsPart (take end line) (get_or line end 0 ∷ []) c.loop-end.invariant (All-cons IsPart (get_or line end 0) [] clean (All-nil IsPart)))

pub returns-then-is_blank_byte-clause-clean : goal.returns-then-is_blank_byte-clause-clean
returns-then-is_blank_byte-clause-clean c = c.loop-end.invariant

pub returns-then-is_blank_byte-clause-parts : goal.returns-then-is_blank_byte-clause-parts
returns-then-is_blank_byte-clause-parts c =
    let line = c.args.line.now in
    let end = c.loop-end.end in
    let small : end < length line = omega (arith, c.loop-end-test.true) in
    (get_or line end 0, sym c.is_blank_byte.ensures ∙ c.if-is_blank_byte.true, cut_at_place line end small)

pub returns-then-is_blank_byte-clause-shorter : goal.returns-then-is_blank_byte-clause-shorter
returns-then-is_blank_byte-clause-shorter c =
    let line = c.args.line.now in
    let end = c.loop-end.end in
    let small : end < length line = omega (arith, c.loop-end-test.true) in
    let same = ap length (take_rest line (end + 1)) in
    let left = length-drop (end + 1) line in
    omega (arith, small, same, left)

pub returns-clause-none : goal.returns-clause-none
returns-clause-none c =
    let line = c.args.line.now in
    let end = c.loop-end.end in
    let past : length line ≤ end = omega (arith, c.loop-end-test.false) in
    subst HasNoBlank (take_all end line past) c.loop-end.invariant
