-- The printed text of a front's certificate states it.
use Rattle.std.proofs.Common.{sym, subst, ◌∙◌}
use Rattle.text_lines.specs.Lines.{line_bytes}
use Rattle.text_lines.proofs.CleanLemmas.{line_bytes-clean}
use Rattle.front_text.specs.declared.front.FrontCert.{FrontCert}
use Rattle.front_text.specs.Text.{MeantFront}
use Rattle.front_text.specs.Laws.{FrontLinesLaw}
use Rattle.front_text.specs.Whole.{IsFrontCertificate}
use Rattle.front_writer.specs.FrontWords.{printed_front, HasFrontWords}
use Rattle.front_writer.specs.private.FrontRoom.{HasFrontRoom}
use Rattle.front_writer.specs.Laws.{FrontPrintLaw}
use Rattle.front_writer.proofs.LineLaws.{printed_says}
use Rattle.front_writer.proofs.StatedLaws.{StateSaid, said_of_lines, lines_of_said, stated_by}
use Rattle.front_writer.proofs.GoodLaws.{front-good}

pub printed_states : (cert : FrontCert) → IsFrontCertificate cert → HasFrontWords cert → HasFrontRoom cert → MeantFront (printed_front cert) cert
printed_states cert whole words room =
    stated_by (printed_front cert) cert (printed_says cert (λ k d below. (whole.trees k d below).narrow) words room) words.some whole

-- what lines say is what they state
pub print_again : FrontLinesLaw → FrontPrintLaw
print_again spelled text cert meant =
    let are = spelled text cert meant in
    let good = front-good (line_bytes text) cert (line_bytes-clean text) are.lines in
    let say = printed_says cert good.narrow (record { some = are.outcomes; outcomes = good.outcomes; trees = good.trees }) good.room in
    lines_of_said (line_bytes (printed_front cert)) cert (subst (λ saids. StateSaid saids cert) (are.lines ∙ sym say) (said_of_lines (line_bytes text) cert meant))
