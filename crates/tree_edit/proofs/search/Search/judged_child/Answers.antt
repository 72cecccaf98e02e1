use Rattle.std.specs.Prelude.{Option}
use Rattle.std.proofs.Common.{◌≡◌, ◌∙◌, refl, sym, ap, subst}
use Rattle.frac128.specs.Rational.{ℚ}
use Rattle.lp_model.specs.Regions.{Path}
use Rattle.lp_model.specs.Formulations.{formulation}
use Rattle.leaf_judging.specs.declared.entry.LeafEntry.{LeafEntry}
use Rattle.leaf_judging.specs.Closing.{NumberCloses, StateSays}
use Rattle.leaf_judging.specs.Totals.{IsEntryOf}
use Rattle.search_parts.specs.Points.{target}
use Rattle.sound_searches.specs.Sound.{PlainSearch}
use Rattle.tree_edit.specs.declared.splitting.Child.{Child}
use Rattle.tree_edit.specs.private.PlacingSteps.{IsEnteredChild}
use Rattle.tree_edit.proofs.search.Search.judged_child.Goals as goal

pub returns-in-Ok : goal.returns-in-Ok
returns-in-Ok c =
    let i = c.self.inside in
    let S : PlainSearch = record { model = i.model; cuts = i.pool; tree = i.tree; points = i.points.items } in
    let path = c.args.path in
    let e : LeafEntry = c.in-Ok.entry in
    let is : IsEntryOf (formulation i.model i.pool) path c.args.mult c.new-farkas.result e = subst (λ (p : Path). IsEntryOf (formulation i.model i.pool) p c.args.mult c.new-farkas.result e) c.as_slice.ensures c.in-Ok.ensures in
    let best : c.target.result ≡ target S.model S.points = c.target.ensures ∙ ap (λ (R : PlainSearch). target R.model R.points) (sym c.self.view_is) in
    let says : StateSays c.state_by-state.result (NumberCloses i.model (target S.model S.points) e.number) = subst (λ (t : Option ℚ). StateSays c.state_by-state.result (NumberCloses i.model t e.number)) best c.state_by-state.ensures in
    let child : Child = record { kept = record { state = c.state_by-state.result; mult = c.args.mult; farkas = c.new-farkas.result; basis = c.args.basis }; entry = e } in
    subst (λ (R : PlainSearch). IsEnteredChild R path c.args.mult c.args.basis child) c.self.view_is (record {
      kept = record { mult_is = refl; farkas_is = c.new-farkas.ensures; basis_is = refl; judged = record { number = e.number; number_is = is.number; says = says } };
      entry = is;
    })
