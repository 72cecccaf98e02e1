use Rattle.std.proofs.Common.{◌≡◌, ◌+◌, ◌-◌, ◌≤◌, ◌∙◌, arith, ap, length, subst, sym}
use Rattle.leaf_totals.specs.Keeping.{question_by, AreKeptTotals, terms_behind}
use Rattle.leaf_totals.proofs.KeptLemmas.{back_kept, back_first, back_later, behind_columns}
use Rattle.leaf_totals.proofs.walk.walk.Goals as goal

pub returns-then-count-eq0-clause-steps : goal.returns-then-count-eq0-clause-steps
returns-then-count-eq0-clause-steps g c =
    let e = c.if-count-eq0.true in
    let n = c.count-count.ensures in
    let none : 0 ≡ length c.args.totals.now.kept = omega (arith, e, n) in
    subst (λ m. c.from_rows.new.steps ≤ c.args.steps.now + terms_behind (question_by c.args.whole.now) m) none c.from_rows.ensures.steps

pub from_cuts-requires-clause-before : goal.from_cuts-requires-clause-before
from_cuts-requires-clause-before g c =
    let e = c.if-count-eq1.true in
    let n = c.count-count.ensures in
    (back_first (question_by c.args.whole.now) c.args.totals.now c.back_to.new.self (c.count-count.result - 1) (omega (arith, e, n)) c.back_to.ensures (omega (arith, e)) c.requires.kept).0

pub from_cuts-requires-clause-kept : goal.from_cuts-requires-clause-kept
from_cuts-requires-clause-kept g c =
    let e = c.if-count-eq1.true in
    let n = c.count-count.ensures in
    (back_first (question_by c.args.whole.now) c.args.totals.now c.back_to.new.self (c.count-count.result - 1) (omega (arith, e, n)) c.back_to.ensures (omega (arith, e)) c.requires.kept).1

pub returns-then-count-eq1-clause-steps : goal.returns-then-count-eq1-clause-steps
returns-then-count-eq1-clause-steps g c =
    let e = c.if-count-eq1.true in
    let n = c.count-count.ensures in
    let one : 1 ≡ length c.args.totals.now.kept = omega (arith, e, n) in
    subst (λ m. c.from_cuts.new.steps ≤ c.args.steps.now + terms_behind (question_by c.args.whole.now) m) one c.from_cuts.ensures.steps

pub add_columns-requires-clause-rows : goal.add_columns-requires-clause-rows
add_columns-requires-clause-rows g c =
    let e = c.if-count-eq0.false in
    let f = c.if-count-eq1.false in
    let n = c.count-count.ensures in
    (back_later (question_by c.args.whole.now) c.args.totals.now c.back_to.new.self (c.count-count.result - 1) (omega (arith, e, n)) c.back_to.ensures (omega (arith, e, f)) c.requires.kept).0

pub add_columns-requires-clause-cuts : goal.add_columns-requires-clause-cuts
add_columns-requires-clause-cuts g c =
    let e = c.if-count-eq0.false in
    let f = c.if-count-eq1.false in
    let n = c.count-count.ensures in
    (back_later (question_by c.args.whole.now) c.args.totals.now c.back_to.new.self (c.count-count.result - 1) (omega (arith, e, n)) c.back_to.ensures (omega (arith, e, f)) c.requires.kept).1.0

pub add_columns-requires-clause-before : goal.add_columns-requires-clause-before
add_columns-requires-clause-before g c =
    let e = c.if-count-eq0.false in
    let f = c.if-count-eq1.false in
    let n = c.count-count.ensures in
    (back_later (question_by c.args.whole.now) c.args.totals.now c.back_to.new.self (c.count-count.result - 1) (omega (arith, e, n)) c.back_to.ensures (omega (arith, e, f)) c.requires.kept).1.1

pub add_columns-requires-clause-kept : goal.add_columns-requires-clause-kept
add_columns-requires-clause-kept g c =
    let e = c.if-count-eq0.false in
    let n = c.count-count.ensures in
    subst (AreKeptTotals (question_by c.args.whole.now)) (sym (back_kept (question_by c.args.whole.now) c.args.totals.now c.back_to.new.self (c.count-count.result - 1) (omega (arith, e, n)) c.back_to.ensures)) c.requires.kept

pub add_columns-requires-clause-some : goal.add_columns-requires-clause-some
add_columns-requires-clause-some g c =
    let e = c.if-count-eq0.false in
    let f = c.if-count-eq1.false in
    let n = c.count-count.ensures in
    let same = ap length (back_kept (question_by c.args.whole.now) c.args.totals.now c.back_to.new.self (c.count-count.result - 1) (omega (arith, e, n)) c.back_to.ensures) in
    omega (arith, e, f, n, same)

pub add_columns-requires-clause-few : goal.add_columns-requires-clause-few
add_columns-requires-clause-few g c =
    let e = c.if-count-eq0.false in
    let n = c.count-count.ensures in
    let same = ap length (back_kept (question_by c.args.whole.now) c.args.totals.now c.back_to.new.self (c.count-count.result - 1) (omega (arith, e, n)) c.back_to.ensures) in
    let few = c.requires.few in
    omega (arith, same, few)

pub returns-clause-steps : goal.returns-clause-steps
returns-clause-steps g c =
    let e = c.if-count-eq0.false in
    let f = c.if-count-eq1.false in
    let n = c.count-count.ensures in
    let q = question_by c.args.whole.now in
    let same = ap length (back_kept q c.args.totals.now c.back_to.new.self (c.count-count.result - 1) (omega (arith, e, n)) c.back_to.ensures) in
    let some : 2 ≤ length c.back_to.new.self.kept = omega (arith, e, f, n, same) in
    let left = sym (behind_columns q (length c.back_to.new.self.kept) some) ∙ ap (terms_behind q) same in
    subst (λ m. c.add_columns.new.steps ≤ c.args.steps.now + m) left c.add_columns.ensures.steps

pub from_rows-requires-clause-whole : goal.from_rows-requires-clause-whole
from_rows-requires-clause-whole g c = c.requires.whole

pub from_rows-requires-clause-narrow : goal.from_rows-requires-clause-narrow
from_rows-requires-clause-narrow g c = c.requires.narrow

pub from_rows-requires-clause-places : goal.from_rows-requires-clause-places
from_rows-requires-clause-places g c = c.requires.places

pub from_rows-requires-clause-room : goal.from_rows-requires-clause-room
from_rows-requires-clause-room g c = c.requires.room

pub returns-then-count-eq0-clause-walk : goal.returns-then-count-eq0-clause-walk
returns-then-count-eq0-clause-walk g c = c.from_rows.ensures.walk

pub returns-then-count-eq0-clause-kept : goal.returns-then-count-eq0-clause-kept
returns-then-count-eq0-clause-kept g c = c.from_rows.ensures.kept

pub returns-then-count-eq0-clause-room : goal.returns-then-count-eq0-clause-room
returns-then-count-eq0-clause-room g c = c.from_rows.ensures.room

pub returns-then-count-eq0-clause-rises : goal.returns-then-count-eq0-clause-rises
returns-then-count-eq0-clause-rises g c = c.from_rows.ensures.rises

pub returns-then-count-eq1-clause-walk : goal.returns-then-count-eq1-clause-walk
returns-then-count-eq1-clause-walk g c = c.from_cuts.ensures.walk

pub returns-then-count-eq1-clause-kept : goal.returns-then-count-eq1-clause-kept
returns-then-count-eq1-clause-kept g c = c.from_cuts.ensures.kept

pub returns-then-count-eq1-clause-rises : goal.returns-then-count-eq1-clause-rises
returns-then-count-eq1-clause-rises g c = c.from_cuts.ensures.rises

pub returns-clause-walk : goal.returns-clause-walk
returns-clause-walk g c = c.add_columns.ensures.walk

pub returns-clause-kept : goal.returns-clause-kept
returns-clause-kept g c = c.add_columns.ensures.kept

pub returns-clause-rises : goal.returns-clause-rises
returns-clause-rises g c = c.add_columns.ensures.rises

pub from_cuts-requires-clause-whole : goal.from_cuts-requires-clause-whole
from_cuts-requires-clause-whole g c = c.requires.whole

pub from_cuts-requires-clause-narrow : goal.from_cuts-requires-clause-narrow
from_cuts-requires-clause-narrow g c = c.requires.narrow

pub from_cuts-requires-clause-places : goal.from_cuts-requires-clause-places
from_cuts-requires-clause-places g c = c.requires.places

pub add_columns-requires-clause-whole : goal.add_columns-requires-clause-whole
add_columns-requires-clause-whole g c = c.requires.whole

pub add_columns-requires-clause-narrow : goal.add_columns-requires-clause-narrow
add_columns-requires-clause-narrow g c = c.requires.narrow

pub add_columns-requires-clause-places : goal.add_columns-requires-clause-places
add_columns-requires-clause-places g c = c.requires.places
