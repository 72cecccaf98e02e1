use Rattle.std.proofs.Common.{sym, ap, subst, subst₂, ◌∙◌, arith, ◌≡◌, ◌<ℤ◌, length, true, pos}
use Rattle.std.proofs.lemmas.Bool.{false≢true}
use Rattle.std.proofs.lemmas.List.{with_items_is}
use Rattle.table_entries.specs.Listed.{over, AreOver}
use Rattle.table_entries.proofs.ReadLemmas.{short_read}
use Rattle.table_entries.proofs.ListedLemmas.{listed_numbers, fractions_written}
use Rattle.table_entries.proofs.table_entries.TableEntries.go_over.Goals as goal

pub fill-requires-clause-within : goal.fill-requires-clause-within
fill-requires-clause-within c =
    let self = c.self.inside in
    let count = c.len-count.ensures in
    let all = self.numbers.ok.0 in
    let within = c.self.invariant.fractions_length (ap (λ v. v.is_whole) c.self.view_is ∙ c.requires) in
    omega (arith, count, all, within)

pub fill-requires-clause-room : goal.fill-requires-clause-room
fill-requires-clause-room c =
    let self = c.self.inside in
    let count = c.len-count.ensures in
    let all = self.numbers.ok.0 in
    let room = c.self.invariant.fractions_room (ap (λ v. v.is_whole) c.self.view_is ∙ c.requires) in
    omega (arith, count, all, room)

pub returns-clause-list : goal.returns-clause-list
returns-clause-list c =
    let self = c.self.inside in
    let shape = c.self.invariant in
    let form : self.is_whole ≡ true = ap (λ v. v.is_whole) c.self.view_is ∙ c.requires in
    let are = shape.over_one form in
    let d_is = short_read self.denominator are.denominator_short in
    let read = c.deref.ensures.value in
    let kept : length c.write_fractions.new.next ≡ c.fill.new.fractions.len = c.write_fractions.auto.next ∙ c.deref_mut.ensures.len in
    let size : length c.write_fractions.new.next ≡ length c.deref.result.now =
    c.write_fractions.auto.next ∙ ap length c.deref_mut.ensures.value ∙ c.fill.ensures.length ∙ c.len-count.ensures ∙ self.numbers.ok.0 ∙ sym (ap length read) in
    with_items_is c.fill.new.fractions c.write_fractions.new.next kept
    ∙ fractions_written _ c.deref.result.now c.write_fractions.new.next (subst (λ d. pos 0 <ℤ d) (sym d_is) are.positive) size c.write_fractions.ensures
    ∙ (λ j. over (d_is j) (read j))
    ∙ sym (listed_numbers self.is_whole self.denominator self.numbers.items self.fractions.items form) ∙ ap (λ v. v.list) c.self.view_is

pub write_fractions-requires-clause-over : goal.write_fractions-requires-clause-over
write_fractions-requires-clause-over c =
    let self = c.self.inside in
    let are = c.self.invariant.over_one (ap (λ v. v.is_whole) c.self.view_is ∙ c.requires) in
    subst₂ AreOver (sym (short_read self.denominator are.denominator_short)) (sym c.deref.ensures.value) are

pub write_fractions-requires-clause-room : goal.write_fractions-requires-clause-room
write_fractions-requires-clause-room c =
    ap length c.deref_mut.ensures.value ∙ c.fill.ensures.length ∙ c.len-count.ensures ∙ c.self.inside.numbers.ok.0 ∙ sym (ap length c.deref.ensures.value)

pub invariant_of-self : goal.invariant_of-self
invariant_of-self c =
    let self = c.self.inside in
    let shape = c.self.invariant in
    let form : self.is_whole ≡ true = ap (λ v. v.is_whole) c.self.view_is ∙ c.requires in
    let next = c.write_fractions.new.next in
    let new_is = with_items_is c.fill.new.fractions next (c.write_fractions.auto.next ∙ c.deref_mut.ensures.len) in
    let size = ap length new_is ∙ c.write_fractions.auto.next ∙ ap length c.deref_mut.ensures.value ∙ c.fill.ensures.length ∙ c.len-count.ensures ∙ self.numbers.ok.0 in
    record {
      spare_length = let h = shape.spare_length in let more = shape.fractions_length form in omega (arith, size, h, more);
      spare_room = let h = shape.numbers_room form in omega (arith, size, h);
      fractions_length = λ e. absurd (false≢true e);
      fractions_room = λ e. absurd (false≢true e);
      numbers_room = λ e. absurd (false≢true e);
      spare_numbers_length = λ e. absurd (false≢true e);
      over_one = λ e. absurd (false≢true e);
      spare_short = λ e. absurd (false≢true e);
    }
