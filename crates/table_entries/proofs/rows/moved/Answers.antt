use Rattle.std.proofs.Common.{◌≡◌, sym, subst}
use Rattle.table_entries.specs.private.RowSteps.{MovedFits, moved_value}
use Rattle.table_entries.proofs.RowLemmas.{unmoved_factor, unmoved_after}
use Rattle.table_entries.proofs.rows.moved.Goals as goal

pub returns-then-is_zero : goal.returns-then-is_zero
returns-then-is_zero c =
    subst (λ b. MovedFits b c.args.pivot.now c.args.in_place.now c.args.after.now c.args.entry.now × (c.args.entry.now ≡ moved_value b c.args.pivot.now c.args.in_place.now c.args.after.now c.args.entry.now))
    (sym c.if-is_place.false)
    (unmoved_factor c.args.pivot.now c.args.in_place.now c.args.after.now c.args.entry.now c.has_room.ensures (c.is_zero.ensures.0 c.if-is_zero.true))

pub returns-then-is_zero-2 : goal.returns-then-is_zero-2
returns-then-is_zero-2 c =
    subst (λ b. MovedFits b c.args.pivot.now c.args.in_place.now c.args.after.now c.args.entry.now × (c.args.entry.now ≡ moved_value b c.args.pivot.now c.args.in_place.now c.args.after.now c.args.entry.now))
    (sym c.if-is_place.false)
    (unmoved_after c.args.pivot.now c.args.in_place.now c.args.after.now c.args.entry.now c.has_room.ensures (c.is_zero-2.ensures.0 c.if-is_zero-2.true))
