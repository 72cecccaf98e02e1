use Rattle.std.proofs.Common.{ap, sym, ◌∙◌, ◌++◌, ◌∷◌, [], List, map}
use Rattle.std.specs.Prelude.{Option, option_to_list}
use Rattle.mps_sections.specs.declared.columns.OpenColumn.{OpenColumn}
use Rattle.mps_sections.specs.private.Shown.{open_shown}
use Rattle.mps_sections.specs.declared.statements.ColumnLines.{ColumnLines}
use Rattle.mps_sections.proofs.ListFacts.{held_some, held_none}
use Rattle.mps_sections.proofs.columns.Columns.add_column.Goals as goal

pub returns-in-Ok : goal.returns-in-Ok
returns-in-Ok c =
    let s = c.args.self.now in
    let column = c.args.column in
    ap (λ (last : Option OpenColumn). c.add_to.new.done ++ map open_shown (option_to_list last)) c.replace.ensures.after
    ∙ ap (λ (done : List ColumnLines). done ++ open_shown column ∷ []) (c.in-Ok.ensures.done ∙ sym (held_some s.done s.last c.in-Some.before (sym c.replace.ensures.value ∙ c.in-Some.is)))

pub returns-in-None : goal.returns-in-None
returns-in-None c =
    let s = c.args.self.now in
    ap (λ (last : Option OpenColumn). s.done ++ map open_shown (option_to_list last)) c.replace.ensures.after ∙ held_none s.done s.last (open_shown c.args.column) (sym c.replace.ensures.value ∙ c.in-None.is)
