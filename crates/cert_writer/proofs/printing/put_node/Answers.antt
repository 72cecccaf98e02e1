use Rattle.std.proofs.Common.{◌≡◌, ◌++◌, sym, subst, List}
use Rattle.std.specs.Prelude.{codes, IfOk, All}
use Rattle.text_lines.specs.Words.{spaced}
use Rattle.cert_text.specs.declared.cert.CertMult.{CertMult}
use Rattle.cert_text.specs.declared.cert.CertNode.{CertNode}
use Rattle.cert_writer.specs.CertText.{all_mult_words, node_words, line_text}
use Rattle.cert_writer.specs.Room.{MultFits, HasNodeRoom}
use Rattle.cert_writer.proofs.PutLaws.{piece_last, behind_last, if_ok}
use Rattle.cert_writer.proofs.printing.put_node.Goals as goal

pub returns-in-Split-clause-room : goal.returns-in-Split-clause-room
returns-in-Split-clause-room c = if_ok c.put_split.result (subst HasNodeRoom (sym c.in-Split.is) tt)

pub returns-in-Ok-clause-text : goal.returns-in-Ok-clause-text
returns-in-Ok-clause-text c =
    let old = c.args.text.now.items in
    let one = c.extend_from_slice.new.self.items in
    let last = c.put_mults.result in
    let new = c.put_mults.new.text.items in
    subst (λ (n : CertNode). IfOk last (λ _. new ≡ old ++ line_text (node_words n))) (sym c.in-Bound.is)
    (behind_last last old (codes "leaf bound") (all_mult_words c.in-Bound.mults) one new c.in-Ok.ensures.items
    (subst (λ (ms : List CertMult). IfOk last (λ _. new ≡ one ++ spaced (all_mult_words ms))) c.as_slice.ensures c.put_mults.ensures.text))

pub returns-in-Ok-clause-room : goal.returns-in-Ok-clause-room
returns-in-Ok-clause-room c =
    let last = c.put_mults.result in
    subst (λ (n : CertNode). IfOk last (λ _. HasNodeRoom n)) (sym c.in-Bound.is) (subst (λ (ms : List CertMult). IfOk last (λ _. All MultFits ms)) c.as_slice.ensures c.put_mults.ensures.room)

pub returns-in-Ok-extend_from_slice-clause-text : goal.returns-in-Ok-extend_from_slice-clause-text
returns-in-Ok-extend_from_slice-clause-text c =
    let old = c.args.text.now.items in
    let one = c.extend_from_slice-in-Farkas.new.self.items in
    let last = c.put_mults-in-Ok-extend_from_slice.result in
    let new = c.put_mults-in-Ok-extend_from_slice.new.text.items in
    subst (λ (n : CertNode). IfOk last (λ _. new ≡ old ++ line_text (node_words n))) (sym c.in-Farkas.is)
    (behind_last last old (codes "leaf farkas") (all_mult_words c.in-Farkas.mults) one new c.in-Ok-extend_from_slice.ensures.items
    (subst (λ (ms : List CertMult). IfOk last (λ _. new ≡ one ++ spaced (all_mult_words ms))) c.as_slice-in-Ok-extend_from_slice.ensures c.put_mults-in-Ok-extend_from_slice.ensures.text))

pub returns-in-Ok-extend_from_slice-clause-room : goal.returns-in-Ok-extend_from_slice-clause-room
returns-in-Ok-extend_from_slice-clause-room c =
    let last = c.put_mults-in-Ok-extend_from_slice.result in
    subst (λ (n : CertNode). IfOk last (λ _. HasNodeRoom n)) (sym c.in-Farkas.is) (subst (λ (ms : List CertMult). IfOk last (λ _. All MultFits ms)) c.as_slice-in-Ok-extend_from_slice.ensures c.put_mults-in-Ok-extend_from_slice.ensures.room)

pub returns-in-Empty-clause-text : goal.returns-in-Empty-clause-text
returns-in-Empty-clause-text c =
    let old = c.args.text.now.items in
    let last = c.extend_from_slice-in-Empty.result in
    let new = c.extend_from_slice-in-Empty.new.self.items in
    subst (λ (n : CertNode). IfOk last (λ _. new ≡ old ++ line_text (node_words n))) (sym c.in-Empty.is) (piece_last last old (codes "leaf empty") new c.extend_from_slice-in-Empty.ensures.items)

pub returns-in-Empty-clause-room : goal.returns-in-Empty-clause-room
returns-in-Empty-clause-room c = if_ok c.extend_from_slice-in-Empty.result (subst HasNodeRoom (sym c.in-Empty.is) tt)
