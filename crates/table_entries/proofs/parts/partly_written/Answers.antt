use Rattle.std.proofs.Common.{ℕ, ◌≡◌, ◌<◌, ◌≤◌, ◌+◌, ◌*◌, ◌/◌, ◌%◌, ◌^◌, ◌<ℤ◌, ◌∙◌, sym, ap, subst, arith, length, true, pos, unsigned_abs, FitsSigned, to_z, w64}
use Rattle.std.specs.Vec.{with_items}
use Rattle.std.proofs.Math.Nat.{mod-lt}
use Rattle.std.proofs.lemmas.Bool.{false≢true}
use Rattle.std.proofs.lemmas.Int.{ints, to_z_pos}
use Rattle.std.proofs.lemmas.List.{with_items_is}
use Rattle.std.proofs.lemmas.Nat.{div-add-mod'}
use Rattle.table_entries.specs.WholeSteps.{magnitude, is_unwritten, AreShort, AreWithin}
use Rattle.table_entries.specs.Parts.{Parts, row_coefficient, weight}
use Rattle.table_entries.proofs.PartNumbers.{numbers_length}
use Rattle.table_entries.proofs.FilledLemmas.{none_marked, limit_room, limit_large, limit_small, slack_filled}
use Rattle.table_entries.proofs.parts.partly_written.Goals as goal

fits_pos : (n : ℕ) → n < 2 ^ 63 → FitsSigned w64 (pos n)
fits_pos n h = omega (arith, ints, h)

pub invariant_of-result : goal.invariant_of-result
invariant_of-result c =
    let a = c.args in
    let flags = c.mark_light-heaviest.new.unwritten in
    let size : length flags ≡ a.rows = c.mark_light-heaviest.auto.unwritten ∙ c.deref_mut.ensures.len ∙ c.in-Ok-vec.ensures.len in
    let flags_are = with_items_is c.in-Ok-vec.unwritten flags (c.mark_light-heaviest.auto.unwritten ∙ c.deref_mut.ensures.len) in
    let h = c.mark_light-heaviest.result in
    let few : h < 64 = c.mark_light-heaviest.ensures.heaviest in
    let limit : ℕ = 2 ^ 62 / (h + 1) in
    let is : limit * (h + 1) + 2 ^ 62 % (h + 1) ≡ 2 ^ 62 = div-add-mod' (2 ^ 62) (h + 1) in
    let less : 2 ^ 62 % (h + 1) < h + 1 = mod-lt (2 ^ 62) (let some : 0 < h + 1 = omega arith in some) in
    let limit_is : to_z w64 limit ≡ pos limit = to_z_pos w64 limit (limit_small h limit (2 ^ 62 % (h + 1)) few is less) in
    let large : 1 < limit = limit_large h limit (2 ^ 62 % (h + 1)) few is less in
    record {
      few = c.requires.room;
      flags = ap length flags_are ∙ size;
      entries = c.requires.size;
      full = λ none. absurd (false≢true (sym none));
      partial = λ some. record {
        form = c.requires.whole;
        listed = c.requires.listed;
        coefficients_length = ap length c.in-Ok.ensures ∙ numbers_length a.rows a.columns a.entries c.requires.listed ∙ c.requires.size;
        positive = subst (λ l. pos 0 <ℤ l) (sym limit_is) (omega (arith, ints, large));
        denominator = subst (λ l. magnitude a.entries.denominator <ℤ l) (sym limit_is) (subst (λ d. magnitude d <ℤ pos limit) (sym c.requires.denominator) (omega (arith, ints, large)));
        numbers = subst (λ X. X) (λ z. AreWithin a.rows a.columns (c.deref-2.ensures.value z) (to_z w64 limit) ((c.deref-3.ensures.value ∙ c.in-Ok.ensures) z)) (c.are_within.ensures c.if-not-are_within.false);
        heaviest = h;
        room = subst (λ l. (h + 1) * unsigned_abs l ≤ 2 ^ 62) (sym limit_is) (limit_room h limit (2 ^ 62 % (h + 1)) few is less);
        light = λ i p e. subst (λ xs. weight (row_coefficient a.columns xs i) a.columns ≤ h) c.deref.ensures.value (c.mark_light-heaviest.ensures.light i (ap (λ fs. is_unwritten fs i) (sym flags_are) ∙ e));
      };
    }

pub returns-clause-filled : goal.returns-clause-filled
returns-clause-filled c = λ slots slack.
    let v : Parts = record {
      rows = c.args.rows;
      columns = c.args.columns;
      entries = c.args.entries;
      coefficients = c.in-Ok.coefficients.items;
      unwritten = (with_items c.in-Ok-vec.unwritten c.mark_light-heaviest.new.unwritten).items;
      is_partial = true;
      limit = to_z w64 (2 ^ 62 / (c.mark_light-heaviest.result + 1));
    } in
    slack_filled v c.requires.listed c.requires.denominator c.in-Ok.ensures c.requires.size slots slack

pub mark_light-heaviest-requires-clause-size : goal.mark_light-heaviest-requires-clause-size
mark_light-heaviest-requires-clause-size c =
    let a = c.args in
    ap length (c.deref.ensures.value ∙ c.in-Ok.ensures) ∙ numbers_length a.rows a.columns a.entries c.requires.listed ∙ c.requires.size

pub mark_light-heaviest-requires-clause-flags : goal.mark_light-heaviest-requires-clause-flags
mark_light-heaviest-requires-clause-flags c = c.deref_mut.ensures.len ∙ c.in-Ok-vec.ensures.len

pub mark_light-heaviest-requires-clause-none : goal.mark_light-heaviest-requires-clause-none
mark_light-heaviest-requires-clause-none c = λ i. ap (λ flags. is_unwritten flags i) (c.deref_mut.ensures.value ∙ c.in-Ok-vec.ensures.items_if_clones_equal (λ y e. e)) ∙ none_marked c.args.rows i

pub overflow_add-limit : goal.overflow_add-limit
overflow_add-limit c = let few = c.mark_light-heaviest.ensures.heaviest in omega (arith, few)

pub nonzero_div-limit : goal.nonzero_div-limit
nonzero_div-limit c = let few = c.mark_light-heaviest.ensures.heaviest in omega (arith, few)

pub overflow_cast-limit : goal.overflow_cast-limit
overflow_cast-limit c =
    let h = c.mark_light-heaviest.result in
    fits_pos _ (limit_small h (2 ^ 62 / (h + 1)) (2 ^ 62 % (h + 1)) c.mark_light-heaviest.ensures.heaviest (div-add-mod' (2 ^ 62) (h + 1)) (mod-lt (2 ^ 62) (let some : 0 < h + 1 = omega arith in some)))

pub are_within-requires-clause-positive : goal.are_within-requires-clause-positive
are_within-requires-clause-positive c =
    let h = c.mark_light-heaviest.result in
    let few : h < 64 = c.mark_light-heaviest.ensures.heaviest in
    let limit : ℕ = 2 ^ 62 / (h + 1) in
    let is : limit * (h + 1) + 2 ^ 62 % (h + 1) ≡ 2 ^ 62 = div-add-mod' (2 ^ 62) (h + 1) in
    let less : 2 ^ 62 % (h + 1) < h + 1 = mod-lt (2 ^ 62) (let some : 0 < h + 1 = omega arith in some) in
    let limit_is : to_z w64 limit ≡ pos limit = to_z_pos w64 limit (limit_small h limit (2 ^ 62 % (h + 1)) few is less) in
    let large : 1 < limit = limit_large h limit (2 ^ 62 % (h + 1)) few is less in
    subst (λ l. pos 0 <ℤ l) (sym limit_is) (omega (arith, ints, large))

pub are_within-requires-clause-size : goal.are_within-requires-clause-size
are_within-requires-clause-size c =
    let a = c.args in
    ap length (c.deref-3.ensures.value ∙ c.in-Ok.ensures) ∙ numbers_length a.rows a.columns a.entries c.requires.listed ∙ c.requires.size

pub are_within-requires-clause-short : goal.are_within-requires-clause-short
are_within-requires-clause-short c = subst AreShort (sym (c.deref-3.ensures.value ∙ c.in-Ok.ensures)) c.requires.listed.are_over.short
