use Rattle.std.proofs.Common.{◌∙◌, refl, sym, ap}
use Rattle.std.proofs.lemmas.Bool.{MatchBool-at_true, MatchBool-at_false}
use Rattle.leaf_dual.specs.Dual.{Multipliers, multiplier}
use Rattle.leaf_judging.proofs.entry.LeafEntry.move_side.Goals as goal

pub returns-then-is_empty-clause-moved : goal.returns-then-is_empty-clause-moved
returns-then-is_empty-clause-moved g c = λ _. record {
  empty = λ empty. record { number = empty; lag = c.back_to.ensures; farkas = refl };
  other = λ some. absurd (some (MatchBool-at_true _ _ c.if-is_empty.true c.is_empty.ensures));
  farkas = refl;
  room = c.back_to.ensures.room;
}

pub returns-in-Some-clause-moved : goal.returns-in-Some-clause-moved
returns-in-Some-clause-moved g c = λ _. record {
  empty = λ empty. absurd (MatchBool-at_false _ _ c.if-is_empty.false c.is_empty.ensures empty);
  other = λ some cuts others path moves few are.
      let weight = sym (c.multiplier-weight.ensures ∙ ap (λ (ms : Multipliers). multiplier ms c.args.row) c.as_slice.ensures) in
      let moved = c.in-Some.ensures.moved c.args.row _ _ (moves (λ none. c.in-Some.ensures.there (c.list_side-new.ensures ∙ none))) weight weight (sym c.list_side-old.ensures) (sym c.list_side-new.ensures) few are in
      (moved.1.1, (moved.0, moved.1.0));
  farkas = refl;
  room = c.move_side.ensures.room;
}
