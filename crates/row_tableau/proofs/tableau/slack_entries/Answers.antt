use Rattle.std.proofs.Common.{IfSome, ◌≡◌, ◌<◌, ◌+◌, ◌*◌, ◌∙◌, ℕ, ap, ap₂, sym, subst, arith, length, get_or, pos}
use Rattle.std.proofs.lemmas.List.{length-map}
use Rattle.std.proofs.lemmas.Result.{IfOk-weaker}
use Rattle.frac128.specs.LowestTerms.{quotient_of}
use Rattle.frac128.specs.Rational.{int}
use Rattle.lp_model.proofs.ModelLaws.{few_rows, few_columns}
use Rattle.row_tableau.specs.private.Layout.{AreSlackNumbers}
use Rattle.row_tableau.specs.Activities.{activity_count}
use Rattle.row_tableau.specs.Relaxations.{form_of}
use Rattle.row_tableau.proofs.LayoutLemmas.{few_entries}
use Rattle.row_tableau.proofs.tableau.slack_entries.Goals as goal

pub new-requires-clause-size : goal.new-requires-clause-size
new-requires-clause-size c =
    let columns_is : length c.cols-columns.result.now ≡ length c.args.relax.now.model.now.cols = ap length c.cols-columns.ensures.items in
    let all_is : c.activities-activities.result ≡ activity_count (form_of c.args.relax.now) = c.activities-activities.ensures in
    c.in-Ok.ensures.length ∙ ap₂ (λ a b. a * b) (sym all_is) (sym columns_is)

pub new-requires-clause-room : goal.new-requires-clause-room
new-requires-clause-room c =
    let M = c.args.relax.now.model.now in
    let columns_is : length c.cols-columns.result.now ≡ length M.cols = ap length c.cols-columns.ensures.items in
    let all_is : c.activities-activities.result ≡ activity_count (form_of c.args.relax.now) = c.activities-activities.ensures in
    let rows_few = few_rows M c.cols-columns.ensures.lawful in
    let columns_few = few_columns M c.cols-columns.ensures.lawful in
    few_entries (length c.cols-columns.result.now) c.activities-activities.result (omega (arith, all_is, columns_is, rows_few, columns_few, c.requires))

pub returns-clause-rows : goal.returns-clause-rows
returns-clause-rows c = IfOk-weaker c.new.result _ _ (λ e is. is ∙ c.activities-activities.ensures) c.new.ensures.rows

pub returns-clause-columns : goal.returns-clause-columns
returns-clause-columns c = IfOk-weaker c.new.result _ _ (λ e is. is ∙ ap length c.cols-columns.ensures.items) c.new.ensures.columns

pub returns-clause-list : goal.returns-clause-list
returns-clause-list c =
    let M = c.args.relax.now.model.now in
    let columns_is : length c.cols-columns.result.now ≡ length M.cols = ap length c.cols-columns.ensures.items in
    let all_is : c.activities-activities.result ≡ activity_count (form_of c.args.relax.now) = c.activities-activities.ensures in
    IfOk-weaker c.new.result _ _ (λ e filled_is slots placed.
    let list_is = filled_is slots (subst (λ X. X) (λ i. (j : ℕ) → j < sym columns_is i → slots j ≡ sym all_is i + j) placed) in
    record {
      size = ap length list_is ∙ c.in-Ok.ensures.length;
      items = λ at q. ap (λ xs. get_or xs at (int (pos 0))) list_is ∙ c.in-Ok.ensures.items at q;
    }) c.new.ensures.filled

pub of_numbers-requires-clause-size : goal.of_numbers-requires-clause-size
of_numbers-requires-clause-size c =
    let are : AreSlackNumbers (form_of c.args.relax.now) c.in-Ok-Some.numbers.items = subst (λ o. IfSome o (λ v. AreSlackNumbers (form_of c.args.relax.now) v.items)) c.in-Ok-Some.field-0-is c.in-Ok-Some.ensures in
    let columns_is : length c.cols-columns.result.now ≡ length c.args.relax.now.model.now.cols = ap length c.cols-columns.ensures.items in
    let all_is : c.activities-activities.result ≡ activity_count (form_of c.args.relax.now) = c.activities-activities.ensures in
    sym (length-map c.in-Ok-Some.numbers.items (λ k. quotient_of k (pos 1))) ∙ are.list.size ∙ ap₂ (λ a b. a * b) (sym all_is) (sym columns_is)

pub of_numbers-requires-clause-room : goal.of_numbers-requires-clause-room
of_numbers-requires-clause-room c =
    let M = c.args.relax.now.model.now in
    let columns_is : length c.cols-columns.result.now ≡ length M.cols = ap length c.cols-columns.ensures.items in
    let all_is : c.activities-activities.result ≡ activity_count (form_of c.args.relax.now) = c.activities-activities.ensures in
    let rows_few = few_rows M c.cols-columns.ensures.lawful in
    let columns_few = few_columns M c.cols-columns.ensures.lawful in
    few_entries (length c.cols-columns.result.now) c.activities-activities.result (omega (arith, all_is, columns_is, rows_few, columns_few, c.requires))

pub of_numbers-requires-clause-short : goal.of_numbers-requires-clause-short
of_numbers-requires-clause-short c =
    let are : AreSlackNumbers (form_of c.args.relax.now) c.in-Ok-Some.numbers.items = subst (λ o. IfSome o (λ v. AreSlackNumbers (form_of c.args.relax.now) v.items)) c.in-Ok-Some.field-0-is c.in-Ok-Some.ensures in
    are.short

pub returns-in-Ok-Some-clause-rows : goal.returns-in-Ok-Some-clause-rows
returns-in-Ok-Some-clause-rows c = IfOk-weaker c.of_numbers.result _ _ (λ e is. is ∙ c.activities-activities.ensures) c.of_numbers.ensures.rows

pub returns-in-Ok-Some-clause-columns : goal.returns-in-Ok-Some-clause-columns
returns-in-Ok-Some-clause-columns c = IfOk-weaker c.of_numbers.result _ _ (λ e is. is ∙ ap length c.cols-columns.ensures.items) c.of_numbers.ensures.columns

pub returns-in-Ok-Some-clause-list : goal.returns-in-Ok-Some-clause-list
returns-in-Ok-Some-clause-list c =
    let M = c.args.relax.now.model.now in
    let columns_is : length c.cols-columns.result.now ≡ length M.cols = ap length c.cols-columns.ensures.items in
    let all_is : c.activities-activities.result ≡ activity_count (form_of c.args.relax.now) = c.activities-activities.ensures in
    let are : AreSlackNumbers (form_of c.args.relax.now) c.in-Ok-Some.numbers.items = subst (λ o. IfSome o (λ v. AreSlackNumbers (form_of c.args.relax.now) v.items)) c.in-Ok-Some.field-0-is c.in-Ok-Some.ensures in
    let list = are.list in
    IfOk-weaker c.of_numbers.result _ _ (λ e filled_is slots placed.
    let list_is = filled_is slots (subst (λ X. X) (λ i. (j : ℕ) → j < sym columns_is i → slots j ≡ sym all_is i + j) placed) in
    record {
      size = ap length list_is ∙ list.size;
      items = λ at q. ap (λ xs. get_or xs at (int (pos 0))) list_is ∙ list.items at q;
    }) c.of_numbers.ensures.filled
