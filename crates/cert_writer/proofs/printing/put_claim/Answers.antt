use Rattle.std.proofs.Common.{◌≡◌, ◌∷◌, [], ◌++◌, sym, subst}
use Rattle.std.specs.Prelude.{codes, IfOk}
use Rattle.frac128.specs.Printing.{printed}
use Rattle.cert_text.specs.declared.cert.Claim.{Claim}
use Rattle.cert_writer.specs.CertText.{claim_words, line_text}
use Rattle.cert_writer.specs.Room.{HasClaimRoom}
use Rattle.cert_writer.proofs.PutLaws.{piece_last, behind_last, if_ok}
use Rattle.cert_writer.proofs.printing.put_claim.Goals as goal

pub returns-in-Ok-clause-text : goal.returns-in-Ok-clause-text
returns-in-Ok-clause-text c =
    let old = c.args.text.now.items in
    subst (λ (claim : Claim). IfOk c.put_number.result (λ _. c.put_number.new.text.items ≡ old ++ line_text (claim_words claim))) (sym c.in-Optimal.is)
    (behind_last c.put_number.result old (codes "claim optimal") (printed c.in-Optimal.value ∷ []) c.extend_from_slice.new.self.items c.put_number.new.text.items c.in-Ok.ensures.items c.put_number.ensures.text)

pub returns-in-Ok-clause-room : goal.returns-in-Ok-clause-room
returns-in-Ok-clause-room c = if_ok c.put_number.result (subst HasClaimRoom (sym c.in-Optimal.is) c.put_number.ensures.room)

pub returns-in-Within-clause-text : goal.returns-in-Within-clause-text
returns-in-Within-clause-text c =
    let old = c.args.text.now.items in
    subst (λ (claim : Claim). IfOk c.put_within.result (λ _. c.put_within.new.text.items ≡ old ++ line_text (claim_words claim))) (sym c.in-Within.is) c.put_within.ensures.text

pub returns-in-Within-clause-room : goal.returns-in-Within-clause-room
returns-in-Within-clause-room c = subst (λ (claim : Claim). IfOk c.put_within.result (λ _. HasClaimRoom claim)) (sym c.in-Within.is) c.put_within.ensures.room

pub returns-in-Infeasible-clause-text : goal.returns-in-Infeasible-clause-text
returns-in-Infeasible-clause-text c =
    let old = c.args.text.now.items in
    let last = c.extend_from_slice-in-Infeasible.result in
    let new = c.extend_from_slice-in-Infeasible.new.self.items in
    subst (λ (claim : Claim). IfOk last (λ _. new ≡ old ++ line_text (claim_words claim))) (sym c.in-Infeasible.is) (piece_last last old (codes "claim infeasible") new c.extend_from_slice-in-Infeasible.ensures.items)

pub returns-in-Infeasible-clause-room : goal.returns-in-Infeasible-clause-room
returns-in-Infeasible-clause-room c = if_ok c.extend_from_slice-in-Infeasible.result (subst HasClaimRoom (sym c.in-Infeasible.is) tt)

pub returns-in-Unbounded-clause-text : goal.returns-in-Unbounded-clause-text
returns-in-Unbounded-clause-text c =
    let old = c.args.text.now.items in
    let last = c.extend_from_slice-in-Unbounded.result in
    let new = c.extend_from_slice-in-Unbounded.new.self.items in
    subst (λ (claim : Claim). IfOk last (λ _. new ≡ old ++ line_text (claim_words claim))) (sym c.in-Unbounded.is) (piece_last last old (codes "claim unbounded") new c.extend_from_slice-in-Unbounded.ensures.items)

pub returns-in-Unbounded-clause-room : goal.returns-in-Unbounded-clause-room
returns-in-Unbounded-clause-room c = if_ok c.extend_from_slice-in-Unbounded.result (subst HasClaimRoom (sym c.in-Unbounded.is) tt)
