use Rattle.std.proofs.Common.{FitsSigned, rules, ℕ, List, ◌≡◌, length, take, refl, sym, ap, ap₂, ◌∙◌, ◌++◌, [], ◌∷◌, append_assoc, true≢false}
use Rattle.std.specs.Fmt.{signed_decimal}
use Rattle.std.specs.Int.{w128}
use Rattle.std.proofs.lemmas.Int.{to_z-of_z}
use Rattle.std.proofs.Math.Seq.{take-append_seam, take-length}
use Rattle.frac128.proofs.Printed.{printed-whole, printed-fraction}
use Rattle.frac128.proofs.frac.Frac.write_to.Goals as goal

-- a text begins with what stood before one, two or three pieces were appended
one_piece : (t a new : List ℕ) → new ≡ t ++ a → take (length t) new ≡ t
one_piece t a new is = ap (λ (xs : List ℕ). take (length t) xs) is ∙ take-append_seam t a

two_pieces : (t a b new : List ℕ) → new ≡ (t ++ a) ++ b → take (length t) new ≡ t
two_pieces t a b new is = one_piece t (a ++ b) new (is ∙ append_assoc t a b)

three_pieces : (t a b c new : List ℕ) → new ≡ ((t ++ a) ++ b) ++ c → take (length t) new ≡ t
three_pieces t a b c new is = two_pieces t a (b ++ c) new (is ∙ append_assoc (t ++ a) b c)

pub returns-in-Err-clause-begins : goal.returns-in-Err-clause-begins
returns-in-Err-clause-begins c =
    let t = c.args.text.now.items in
    ap (λ (xs : List ℕ). take (length t) xs) c.in-Err.ensures.items ∙ take-length t

pub returns-in_err-push-clause-begins : goal.returns-in_err-push-clause-begins
returns-in_err-push-clause-begins c =
    one_piece c.args.text.now.items _ _ (c.in_err-push.ensures.items ∙ c.in-Ok.ensures.items)

pub returns-in-Err-extend_from_slice-clause-begins : goal.returns-in-Err-extend_from_slice-clause-begins
returns-in-Err-extend_from_slice-clause-begins c =
    two_pieces c.args.text.now.items _ (47 ∷ []) _ (c.in-Err-extend_from_slice.ensures.items ∙ c.in_ok-push.ensures.items ∙ ap (λ (xs : List ℕ). xs ++ 47 ∷ []) c.in-Ok.ensures.items)

pub returns-in-Ok-extend_from_slice-clause-begins : goal.returns-in-Ok-extend_from_slice-clause-begins
returns-in-Ok-extend_from_slice-clause-begins c =
    three_pieces c.args.text.now.items _ (47 ∷ []) _ _ (c.in-Ok-extend_from_slice.ensures.items ∙ ap (λ (xs : List ℕ). xs ++ c.as_bytes-2.result.now) (c.in_ok-push.ensures.items ∙ ap (λ (xs : List ℕ). xs ++ 47 ∷ []) c.in-Ok.ensures.items))

pub returns-then-is_whole-clause-begins : goal.returns-then-is_whole-clause-begins
returns-then-is_whole-clause-begins c =
    one_piece c.args.text.now.items _ _ c.in-Ok.ensures.items

pub returns-in-Ok-extend_from_slice-clause-written : goal.returns-in-Ok-extend_from_slice-clause-written
returns-in-Ok-extend_from_slice-clause-written c =
    let numerator_fits : FitsSigned w128 c.numerator.result = search rules in
    let denominator_fits : FitsSigned w128 c.denominator.result = search rules in
    let top = c.as_bytes.ensures.value ∙ (simp to_z-of_z at c.format.ensures.text) ∙ ap signed_decimal c.numerator.ensures in
    let bottom = c.as_bytes-2.ensures.value ∙ (simp to_z-of_z at c.format-2.ensures.text) ∙ ap signed_decimal c.denominator.ensures in
    c.in-Ok-extend_from_slice.ensures.items
    ∙ ap₂ ◌++◌ (c.in_ok-push.ensures.items ∙ ap (λ t. t ++ 47 ∷ []) (c.in-Ok.ensures.items ∙ ap (λ t. c.args.text.now.items ++ t) top)) bottom
    ∙ simp append_assoc (ap (λ t. c.args.text.now.items ++ t) (sym (printed-fraction c.args.self.now (λ whole. true≢false (sym (c.if-is_whole.ensures.1 whole))))))

pub returns-then-is_whole-clause-written : goal.returns-then-is_whole-clause-written
returns-then-is_whole-clause-written c =
    let numerator_fits : FitsSigned w128 c.numerator.result = search rules in
    let text = simp to_z-of_z at c.format.ensures.text in
    c.in-Ok.ensures.items
    ∙ ap (λ t. c.args.text.now.items ++ t) (c.as_bytes.ensures.value ∙ text ∙ ap signed_decimal c.numerator.ensures ∙ sym (printed-whole c.args.self.now (c.if-is_whole.ensures.0 refl)))
