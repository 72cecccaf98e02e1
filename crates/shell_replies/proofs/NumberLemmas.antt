-- The number that the reply to a command of bounds shows.
use Rattle.std.proofs.Common.{◌≡◌, ℕ, arith, List, [], ◌∷◌, ◌++◌, refl, ap, ◌∙◌, Some}
use Rattle.std.specs.Prelude.{codes}
use Rattle.frac128.specs.Rational.{ℚ}
use Rattle.frac128.specs.Range.{Fits}
use Rattle.frac128.specs.Printing.{printed}
use Rattle.frac_text.proofs.PrintedReads.{reading_of-printed}
use Rattle.text_lines.specs.Words.{IsWord}
use Rattle.reply_texts.specs.Texts.{bound_text}
use Rattle.shell_replies.specs.Bounds.{ShowsNumber}
use Rattle.shell_replies.specs.Shown.{stated_number, number_in_word, lines_shown, value_shown}
use Rattle.shell_replies.proofs.ShownWords.{printed-plain, tested-plain, words_of-name, words_of-more, joined-one_line, lines_shown-more}

name_bound : IsWord (codes "bound")
name_bound = tested-plain (codes "bound") (omega arith) refl

bound-shown : (w : ℚ) → Fits w → value_shown (bound_text (Some w)) ≡ Some w
unfolding value_shown
bound-shown w fits =
    let number : IsWord (printed w) = printed-plain w fits in
    ap (number_in_word 1)
    (lines_shown-more (codes "bound" ++ (32 ∷ printed w)) [] (joined-one_line (codes "bound") (printed w) name_bound number.one_line)
    ∙ ap (λ words. words ∷ lines_shown []) (words_of-more (codes "bound") (printed w) name_bound ∙ ap (λ words. codes "bound" ∷ words) (words_of-name (printed w) number)))
    ∙ ap stated_number (reading_of-printed w fits)

pub shows-number : (w : ℚ) (before after : List ℕ) → Fits w → before ≡ [] → after ≡ before ++ bound_text (Some w) → ShowsNumber w after
shows-number w before after fits empty is =
    let told : after ≡ bound_text (Some w) = is ∙ ap (λ t. t ++ bound_text (Some w)) empty in
    record { shown = ap value_shown told ∙ bound-shown w fits; told = told }
