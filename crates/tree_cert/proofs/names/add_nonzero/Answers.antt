use Rattle.std.proofs.Common.{ap, sym, subst, ◌∙◌, [], ◌∷◌, ◌++◌, ◌≡◌, Bool, true, false, if◌then◌else◌}
use Rattle.std.specs.Prelude.{IfOk}
use Rattle.lp_model.specs.Edits.{Named}
use Rattle.tree_cert.proofs.NameLaws.{is_zero_by}
use Rattle.tree_cert.proofs.names.add_nonzero.Goals as goal

nil_right : (l : Named) → l ≡ l ++ []
nil_right [] = Rattle.std.proofs.Common.refl
nil_right (e ∷ l) = ap (λ m. e ∷ m) (nil_right l)

pub returns-then-is_zero : goal.returns-then-is_zero
returns-then-is_zero c =
    nil_right c.args.named.now ∙ ap (λ (b : Bool). c.args.named.now ++ (if b then [] else (c.args.col.now.name, c.args.number.now) ∷ [])) (sym (is_zero_by c.is_zero.result c.args.number.now c.is_zero.ensures ∙ c.if-is_zero.true))

pub returns : goal.returns
returns c =
    subst (λ (ns : Named). IfOk c.push.result (λ _. c.push.new.self ≡ c.args.named.now ++ ns))
    (ap (λ n. (n, c.args.number.now) ∷ []) (c.in-Ok.ensures ∙ c.as_slice.ensures)
    ∙ ap (λ (b : Bool). if b then [] else (c.args.col.now.name, c.args.number.now) ∷ []) (sym (is_zero_by c.is_zero.result c.args.number.now c.is_zero.ensures ∙ c.if-is_zero.false)))
    c.push.ensures.pushed
