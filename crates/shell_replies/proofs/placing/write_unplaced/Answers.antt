use Rattle.std.specs.Prelude.{ℕ, List, length, IfOk}
use Rattle.std.proofs.Common.{◌≡◌, ◌<◌, ◌++◌, ◌∙◌, ap, subst, sym}
use Rattle.frac128.specs.Rational.{ℚ}
use Rattle.reply_texts.specs.Texts.{unknown_name_text, sides_text, memory_text}
use Rattle.shell_replies.specs.Placing.{name_at, IsOnLine, unplaced_text}
use Rattle.shell_replies.proofs.TextLemmas.{text-written}
use Rattle.shell_replies.proofs.PlacingLemmas.{name_here}
use Rattle.shell_replies.proofs.placing.write_unplaced.Goals as goal

pub returns-in-Unknown : goal.returns-in-Unknown
returns-in-Unknown c =
    let named = c.args.named.now in
    let k = c.in-Unknown.place in
    let item = c.index-named-place in
    let before = c.args.reply.now.items in
    let after = c.write_unknown_name.new.reply.items in
    let below : k < length named = subst (IsOnLine named) c.in-Unknown.is c.requires in
    let name : c.as_slice.result.now ≡ name_at named k = c.as_slice.ensures ∙ ap (λ (e : List ℕ × ℚ). e.0) (sym item.is) ∙ sym (name_here named k item.result below item.is) in
    subst (λ u. IfOk c.write_unknown_name.result (λ _. after ≡ before ++ unplaced_text named u)) (sym c.in-Unknown.is)
    (subst (λ (n : List ℕ). IfOk c.write_unknown_name.result (λ _. after ≡ before ++ unknown_name_text n)) name c.write_unknown_name.ensures)

pub returns-in-TwoSided : goal.returns-in-TwoSided
returns-in-TwoSided c =
    let named = c.args.named.now in
    let k = c.in-TwoSided.place in
    let item = c.index-named-place-in-TwoSided in
    let before = c.args.reply.now.items in
    let after = c.write_sides.new.reply.items in
    let below : k < length named = subst (IsOnLine named) c.in-TwoSided.is c.requires in
    let name : c.as_slice-in-TwoSided.result.now ≡ name_at named k = c.as_slice-in-TwoSided.ensures ∙ ap (λ (e : List ℕ × ℚ). e.0) (sym item.is) ∙ sym (name_here named k item.result below item.is) in
    subst (λ u. IfOk c.write_sides.result (λ _. after ≡ before ++ unplaced_text named u)) (sym c.in-TwoSided.is)
    (subst (λ (n : List ℕ). IfOk c.write_sides.result (λ _. after ≡ before ++ sides_text n)) name c.write_sides.ensures)

pub returns-in-Memory : goal.returns-in-Memory
returns-in-Memory c =
    let before = c.args.reply.now.items in
    let after = c.extend_from_slice.new.self.items in
    subst (λ u. IfOk c.extend_from_slice.result (λ _. after ≡ before ++ unplaced_text c.args.named.now u)) (sym c.in-Memory.is) (text-written c.extend_from_slice.result before after memory_text c.extend_from_slice.ensures.items)
