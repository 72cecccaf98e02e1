use Rattle.std.proofs.Common.{◌∙◌, ◌+◌, ap, sym, arith, [], ◌++◌, ◌∷◌, drop, get_or, Bor, List, ℕ}
use Rattle.std.proofs.lemmas.List.{take_rest, get_or_default}
use Rattle.cert_text.specs.CutLines.{literals_in}
use Rattle.cert_text.proofs.CutLineLemmas.{nows, prefixed, prefixed-nothing, literals-more, literals-none, literals-end}
use Rattle.cert_text.proofs.cut_line.literals_in.Goals as goal

abbrev some_word : Bor (List ℕ)
some_word = record { ref_ptr = (0, 0); now = [] }

pub loop-word-init : goal.loop-word-init
loop-word-init c = prefixed-nothing (literals_in (nows c.args.words.now)) ∙ ap (λ ls. prefixed ls (literals_in (nows c.args.words.now))) (sym c.new-literals.ensures)

pub returns-in_default : goal.returns-in_default
returns-in_default c =
    literals-none c.args.words.now c.loop-word.literals (literals_in (nows c.args.words.now)) c.loop-word.word-index (get_or c.args.words.now c.loop-word.word-index some_word) c.loop-word-test.true
    (get_or_default c.args.words.now c.loop-word.word-index some_word (get_or c.args.words.now c.loop-word.word-index some_word) c.loop-word-test.true) c.loop-word.invariant
    (sym c.sign_in.ensures ∙ c.in_default.is)

pub loop-word-preserved : goal.loop-word-preserved
loop-word-preserved c =
    let w = get_or c.args.words.now c.loop-word.word-index some_word in
    literals-more c.args.words.now c.loop-word.literals (literals_in (nows c.args.words.now)) c.loop-word.word-index w c.loop-word-test.true (get_or_default c.args.words.now c.loop-word.word-index some_word w c.loop-word-test.true) c.loop-word.invariant
    c.in-Some.plus (sym c.sign_in.ensures ∙ c.in-Some.is)
    ∙ ap (λ ls. prefixed ls (literals_in (nows (drop (c.loop-word.word-index + 1) c.args.words.now))))
    (sym (c.in-Ok.ensures ∙ ap (λ n. c.loop-word.literals ++ (n, c.in-Some.plus) ∷ []) (take_rest w.now 1)))

pub returns : goal.returns
returns c = literals-end c.args.words.now c.loop-word.literals (literals_in (nows c.args.words.now)) c.loop-word.word-index (omega (arith, c.loop-word-test.false)) c.loop-word.invariant
