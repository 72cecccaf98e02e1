use Rattle.std.proofs.Common.{◌<◌, ◌≤◌, length, sym, ◌∙◌, arith}
use Rattle.text_lines.proofs.LineLemmas.{at_newline, no_newline_more, no_newline_all}
use Rattle.text_lines.proofs.lines.cut_line.Goals as goal

pub loop-end-preserved : goal.loop-end-preserved
loop-end-preserved c =
    let text = c.args.text.now in
    let end = c.loop-end.end in
    let small : end < length text = omega (arith, c.loop-end-test.true) in
    no_newline_more text end small c.loop-end.invariant (sym c.is_newline_byte.ensures ∙ c.if-is_newline_byte.false)

pub returns-then-is_newline_byte-clause-clean : goal.returns-then-is_newline_byte-clause-clean
returns-then-is_newline_byte-clause-clean c = c.loop-end.invariant

pub returns-then-is_newline_byte-clause-parts : goal.returns-then-is_newline_byte-clause-parts
returns-then-is_newline_byte-clause-parts c =
    let text = c.args.text.now in
    let end = c.loop-end.end in
    let small : end < length text = omega (arith, c.loop-end-test.true) in
    at_newline text end small (sym c.is_newline_byte.ensures ∙ c.if-is_newline_byte.true)

pub returns-clause-none : goal.returns-clause-none
returns-clause-none c =
    let text = c.args.text.now in
    let end = c.loop-end.end in
    let past : length text ≤ end = omega (arith, c.loop-end-test.false) in
    no_newline_all text end past c.loop-end.invariant
