use Rattle.std.proofs.Common.{◌≡◌, ◌∙◌, ap}
use Rattle.std.proofs.lemmas.Result.{IfOk-weaker}
use Rattle.table_entries.proofs.table_entries.TableEntries.copied_numbers.Goals as goal

pub returns : goal.returns
returns c = IfOk-weaker c.from_slice.result (λ v. v.items ≡ c.deref.result.now) (λ v. v.items ≡ c.args.self.now.numbers) (λ v e. e ∙ c.deref.ensures.value ∙ ap (λ w. w.numbers) c.self.view_is) c.from_slice.ensures.items
