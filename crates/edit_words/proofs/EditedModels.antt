-- A model that scripts may have stays one under an edit that brings a lawful name and near bounds.
use Rattle.std.proofs.Common.{◌≡◌, ℕ, zero, suc, true, List, [], ◌∷◌, map, length, refl, sym, subst, ◌∙◌, Some}
use Rattle.std.specs.Prelude.{All}
use Rattle.std.proofs.lemmas.List.Elements.{All-cons, All-head, All-tail, All-map, All-push, All-weaker}
use Rattle.lp_model.specs.Elements.{changed_at}
use Rattle.lp_model.specs.Program.{Program}
use Rattle.lp_model.specs.Edits.{col_place, row_place, with_entry, without_entry, replaced_entry, number_beside, with_sides, entries_beside, edited}
use Rattle.lp_model.specs.declared.types.Col.{Col}
use Rattle.lp_model.specs.declared.types.Row.{Row}
use Rattle.lp_model.specs.declared.types.Edit.{Edit}
use Rattle.lp_model.specs.declared.types.Edit.TheVariants.{SetCost, SetCost2, SetRow, SetColBounds, SetKind, AddCol, DelCol, AddRow, DelRow, ReplaceRow}
use Rattle.lp_model.proofs.ChangedLaws.{All-without_at}
use Rattle.lp_model.specs.Names.{is_lawful_name}
use Rattle.word_names.proofs.ScriptNames.{script-rows}
use Rattle.edit_words.specs.NewNames.{BringsName, IsNewName}
use Rattle.edit_words.specs.NewBounds.{BringsBounds, IsNearBound, EditedModelLaw}

abbrev IsLawfulName : List ℕ → Type 0
IsLawfulName name = is_lawful_name name ≡ true

-- a column with a lawful name and no far bound
record IsScriptColumn (c : Col) : Type 0 where
  named : IsLawfulName c.name
  lower : IsNearBound c.lo
  upper : IsNearBound c.up

abbrev HasLawfulName : Row → Type 0
HasLawfulName r = IsLawfulName r.name

kept-at : {A : Type 0} (P : A → Type 0) (f : A → A) → ((a : A) → P a → P (f a)) → (xs : List A) (k : ℕ) → All P xs → All P (changed_at f xs k)
kept-at P f keeps [] k all = all
kept-at P f keeps (a ∷ as_) zero all = All-cons P (f a) as_ (keeps a (All-head P a as_ all)) (All-tail P a as_ all)
kept-at P f keeps (a ∷ as_) (suc k) all = All-cons P a (changed_at f as_ k) (All-head P a as_ all) (kept-at P f keeps as_ k (All-tail P a as_ all))

columns-kept : (M : Program) (e : Edit) → All IsScriptColumn M.cols → BringsName IsNewName e → BringsBounds IsNearBound e → All IsScriptColumn (edited M e).cols
columns-kept M (SetCost col v) all new near =
    kept-at IsScriptColumn (λ (c : Col). record c { cost = v }) (λ c h. record { named = h.named; lower = h.lower; upper = h.upper }) M.cols (col_place M col) all
columns-kept M (SetCost2 col v) all new near =
    kept-at IsScriptColumn (λ (c : Col). record c { cost2 = v }) (λ c h. record { named = h.named; lower = h.lower; upper = h.upper }) M.cols (col_place M col) all
columns-kept M (SetRow row lo hi) all new near = all
columns-kept M (SetColBounds col lo up) all new near =
    kept-at IsScriptColumn (λ (c : Col). record c { lo = lo; up = up }) (λ c h. record { named = h.named; lower = near.0; upper = near.1 }) M.cols (col_place M col) all
columns-kept M (SetKind col integer) all new near =
    kept-at IsScriptColumn (λ (c : Col). record c { int = integer }) (λ c h. record { named = h.named; lower = h.lower; upper = h.upper }) M.cols (col_place M col) all
columns-kept M (AddCol name integer lo up cost cost2 named) all new near =
    All-push IsScriptColumn M.cols (record { name = name; int = integer; lo = lo; up = up; cost = cost; cost2 = cost2; rows = entries_beside 0 (map (λ r. r.name) M.rows) named }) all
    (record { named = new; lower = near.0; upper = near.1 })
columns-kept M (DelCol col) all new near = All-without_at IsScriptColumn M.cols (col_place M col) all
columns-kept M (AddRow name lo hi named) all new near =
    All-map IsScriptColumn (λ (c : Col). with_entry (length M.rows) (number_beside c.name named) c) M.cols
    (All-weaker IsScriptColumn (λ (c : Col). IsScriptColumn (with_entry (length M.rows) (number_beside c.name named) c)) (λ c h. record { named = h.named; lower = h.lower; upper = h.upper }) M.cols all)
columns-kept M (DelRow row) all new near =
    All-map IsScriptColumn (λ (c : Col). without_entry (row_place M row) c) M.cols
    (All-weaker IsScriptColumn (λ (c : Col). IsScriptColumn (without_entry (row_place M row) c)) (λ c h. record { named = h.named; lower = h.lower; upper = h.upper }) M.cols all)
columns-kept M (ReplaceRow row lo hi named) all new near =
    All-map IsScriptColumn (λ (c : Col). replaced_entry (row_place M row) (number_beside c.name named) c) M.cols
    (All-weaker IsScriptColumn (λ (c : Col). IsScriptColumn (replaced_entry (row_place M row) (number_beside c.name named) c)) (λ c h. record { named = h.named; lower = h.lower; upper = h.upper }) M.cols all)

rows-kept : (M : Program) (e : Edit) → All HasLawfulName M.rows → BringsName IsNewName e → All HasLawfulName (edited M e).rows
rows-kept M (SetCost col v) all new = all
rows-kept M (SetCost2 col v) all new = all
rows-kept M (SetRow row lo hi) all new = kept-at HasLawfulName (with_sides lo hi) (λ r h. h) M.rows (row_place M row) all
rows-kept M (SetColBounds col lo up) all new = all
rows-kept M (SetKind col integer) all new = all
rows-kept M (AddCol name integer lo up cost cost2 named) all new = all
rows-kept M (DelCol col) all new = all
rows-kept M (AddRow name lo hi named) all new = All-push HasLawfulName M.rows (record { name = name; lo = lo; hi = hi }) all new
rows-kept M (DelRow row) all new = All-without_at HasLawfulName M.rows (row_place M row) all
rows-kept M (ReplaceRow row lo hi named) all new = kept-at HasLawfulName (with_sides (Some lo) (Some hi)) (λ r h. h) M.rows (row_place M row) all

-- neither the objectives' names nor the flag
record KeepsHead (M N : Program) : Type 0 where
  first : N.obj ≡ M.obj
  second : N.obj2 ≡ M.obj2
  flag : N.wide ≡ M.wide

head-kept : (M : Program) (e : Edit) → KeepsHead M (edited M e)
head-kept M (SetCost col v) = record { first = refl; second = refl; flag = refl }
head-kept M (SetCost2 col v) = record { first = refl; second = refl; flag = refl }
head-kept M (SetRow row lo hi) = record { first = refl; second = refl; flag = refl }
head-kept M (SetColBounds col lo up) = record { first = refl; second = refl; flag = refl }
head-kept M (SetKind col integer) = record { first = refl; second = refl; flag = refl }
head-kept M (AddCol name integer lo up cost cost2 named) = record { first = refl; second = refl; flag = refl }
head-kept M (DelCol col) = record { first = refl; second = refl; flag = refl }
head-kept M (AddRow name lo hi named) = record { first = refl; second = refl; flag = refl }
head-kept M (DelRow row) = record { first = refl; second = refl; flag = refl }
head-kept M (ReplaceRow row lo hi named) = record { first = refl; second = refl; flag = refl }

pub edited-model : EditedModelLaw
edited-model M e new near h =
    let names = map (λ (r : Row). r.name) M.rows in
    let columns : All IsScriptColumn M.cols = λ k d below. record { named = h.column_names k d below; lower = (h.bounds k d below).0; upper = (h.bounds k d below).1 } in
    let after = columns-kept M e columns new near in
    let rows = rows-kept M e (script-rows M h) new in
    let N = edited M e in
    let after_names = map (λ (r : Row). r.name) N.rows in
    let head = head-kept M e in
    record {
      row_names = All-cons IsLawfulName N.obj (N.obj2 ∷ after_names) (subst IsLawfulName (sym head.first) (All-head IsLawfulName M.obj (M.obj2 ∷ names) h.row_names))
          (All-cons IsLawfulName N.obj2 after_names (subst IsLawfulName (sym head.second) (All-head IsLawfulName M.obj2 names (All-tail IsLawfulName M.obj (M.obj2 ∷ names) h.row_names)))
          (All-map IsLawfulName (λ (r : Row). r.name) N.rows rows));
      column_names = λ k d below. (after k d below).named;
      bounds = λ k d below. ((after k d below).lower, (after k d below).upper);
      plain = head.flag ∙ h.plain;
    }
