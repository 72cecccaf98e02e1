use Rattle.std.proofs.Common.{◌≡◌, ◌<◌, ◌+◌, ◌≤◌, ◌++◌, ◌∷◌, [], List, ℕ, true, map, length, take, get_or, ap, sym, subst, refl, ◌∙◌, arith}
use Rattle.std.specs.Prelude.{All, Option, IfSome}
use Rattle.std.proofs.lemmas.List.{take_more, take_all}
use Rattle.std.proofs.lemmas.List.Elements.{All-append, All-cons, All-nil}
use Rattle.frac128.specs.Rational.{ℚ}
use Rattle.lp_model.specs.Lawful.{IsRange}
use Rattle.lp_model.specs.declared.types.Row.{Row}
use Rattle.mps_sections.specs.declared.statements.RowLine.{RowLine}
use Rattle.mps_sections.specs.declared.statements.RangeLine.{RangeLine}
use Rattle.mps_model.specs.Ranges.{has_room}
use Rattle.mps_model.specs.Meaning.{row_number_beside, range_beside, row_with, row_of}
use Rattle.mps_model.proofs.BesideSteps.{beside_row, mapped_more}
use Rattle.mps_model.proofs.RangeSteps.{row_named-at, room_beside}
use Rattle.mps_model.proofs.building.rows_with.Goals as goal

abbrev HasRange : Row → Type 0
HasRange r = IsRange r.lo r.hi

pub loop-place-init : goal.loop-place-init
loop-place-init c = record { is = c.new-rows.ensures; ranges = subst (All HasRange) (sym c.new-rows.ensures) (All-nil HasRange) }

-- the number of RHS at the place is the one beside the row's name, and so is that of RANGES; this one has room
pub row_with-requires : goal.row_with-requires
row_with-requires c =
    let s = c.args.sections.now in
    let lines = c.args.lines.now in
    let place = c.loop-place.place in
    let line = c.index-lines-place.result in
    let number = c.index-numbers-place.result in
    let small : place < length s.rows = omega (arith, c.loop-place-test.true, ap length c.requires.lines) in
    let here : line ≡ get_or s.rows place line = c.index-lines-place.is ∙ ap (λ (ls : List RowLine). get_or ls place line) c.requires.lines in
    let number_is : number ≡ row_number_beside line.name s.sides = beside_row s.rows s.sides c.args.numbers.now place number line small c.requires.numbers c.index-numbers-place.is here in
    let range_is : c.range_beside-range.result ≡ range_beside line.name s.ranges =
    c.range_beside-range.ensures ∙ ap (λ (found : List RangeLine). range_beside c.as_slice-in-loop-place.result.now found) c.as_slice.ensures ∙ ap (λ (name : List ℕ). range_beside name s.ranges) c.as_slice-in-loop-place.ensures
    in
    let room = room_beside s line (row_named-at s.rows place line line.name c.requires.apart small here refl) s.ranges c.requires.room in
    subst (λ (range : Option ℚ). IfSome range (λ r. has_room line.kind number r ≡ true)) (sym range_is)
    (subst (λ (x : ℚ). IfSome (range_beside line.name s.ranges) (λ r. has_room line.kind x r ≡ true)) (sym number_is) room)

pub loop-place-preserved : goal.loop-place-preserved
loop-place-preserved c =
    let s = c.args.sections.now in
    let lines = c.args.lines.now in
    let place = c.loop-place.place in
    let line = c.index-lines-place.result in
    let number = c.index-numbers-place.result in
    let row = c.in-Ok.row in
    let rows = c.loop-place.rows in
    let small : place < length lines = omega (arith, c.loop-place-test.true) in
    let stated : place < length s.rows = omega (arith, c.loop-place-test.true, ap length c.requires.lines) in
    let here : line ≡ get_or s.rows place line = c.index-lines-place.is ∙ ap (λ (ls : List RowLine). get_or ls place line) c.requires.lines in
    let number_is : number ≡ row_number_beside line.name s.sides = beside_row s.rows s.sides c.args.numbers.now place number line stated c.requires.numbers c.index-numbers-place.is here in
    let range_is : c.range_beside-range.result ≡ range_beside line.name s.ranges =
    c.range_beside-range.ensures ∙ ap (λ (found : List RangeLine). range_beside c.as_slice-in-loop-place.result.now found) c.as_slice.ensures ∙ ap (λ (name : List ℕ). range_beside name s.ranges) c.as_slice-in-loop-place.ensures
    in
    let one : take (place + 1) lines ≡ take place lines ++ line ∷ [] = take_more lines place line small ∙ ap (λ r. take place lines ++ r ∷ []) (sym c.index-lines-place.is) in
    let made : row ≡ row_of s line = c.in-Ok.ensures.is ∙ ap (λ (x : ℚ). row_with x c.range_beside-range.result line) number_is ∙ ap (λ (range : Option ℚ). row_with (row_number_beside line.name s.sides) range line) range_is in
    record {
      is =
          c.in-Ok-push.ensures.pushed
          ∙ ap (λ (r : Row). rows ++ r ∷ []) made
          ∙ ap (λ (found : List Row). found ++ row_of s line ∷ []) c.loop-place.invariant.is
          ∙ mapped_more (row_of s) (take place lines) line (take (place + 1) lines) one;
      ranges = subst (All HasRange) (sym c.in-Ok-push.ensures.pushed) (All-append HasRange rows (row ∷ []) c.loop-place.invariant.ranges (All-cons HasRange row [] c.in-Ok.ensures.range (All-nil HasRange)));
    }

pub returns-clause-is : goal.returns-clause-is
returns-clause-is c =
    let s = c.args.sections.now in
    let lines = c.args.lines.now in
    let end : length lines ≤ c.loop-place.place = omega (arith, c.loop-place-test.false) in
    c.loop-place.invariant.is ∙ ap (map (row_of s)) (take_all c.loop-place.place lines end ∙ c.requires.lines)
