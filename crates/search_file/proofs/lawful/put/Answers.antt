use Rattle.std.proofs.Common.{◌∙◌, ◌++◌, ◌∷◌, [], refl, sym, ap, inl, inr}
use Rattle.search_file.proofs.lawful.put.Goals as goal

pub returns-then-is_lawful : goal.returns-then-is_lawful
returns-then-is_lawful c = inl (sym c.is_lawful.ensures ∙ c.if-is_lawful.true, refl, c.in-Ok-push.ensures.pushed ∙ ap (λ n. c.args.kept.now ++ n ∷ []) c.in-Ok.ensures)

pub returns : goal.returns
returns c = inr (sym c.is_lawful.ensures ∙ c.if-is_lawful.false, refl, c.in-Ok-push-2.ensures.pushed ∙ ap (λ n. c.args.kept.now ++ n ∷ []) c.in-Ok-merged.ensures)
