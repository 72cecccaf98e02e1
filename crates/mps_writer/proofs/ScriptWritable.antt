-- A model that scripts may have, of which no row or objective is named by the marker word, is read back from its canonical text.
use Rattle.std.proofs.Common.{◌≡◌, ℕ, true, false, List, arith, subst}
use Rattle.std.specs.Prelude.{Option, Some}
use Rattle.std.specs.Option.{ForSome}
use Rattle.std.proofs.lemmas.Bool.{or_parts}
use Rattle.std.proofs.lemmas.Int.{ints}
use Rattle.std.proofs.lemmas.List.Elements.{All-map, All-weaker}
use Rattle.frac128.specs.Rational.{ℚ, neg_ℚ, rational_le, ◌<ℚ◌}
use Rattle.lp_model.specs.Lawful.{row_names}
use Rattle.lp_model.specs.declared.types.Col.{Col}
use Rattle.frac_text.specs.Sides.{far}
use Rattle.lp_model.specs.Names.{is_lawful_name}
use Rattle.word_names.specs.ScriptModels.{is_far}
use Rattle.mps_writer.specs.Laws.{ScriptWritableLaw}
use Rattle.mps_writer.specs.Writable.{IsField, IsNotFar, HasNoFarBounds}
use Rattle.mps_writer.proofs.FieldLaws.{key_field}

less : (a x : ℚ) → rational_le a x ≡ false → x <ℚ a
unfolding rational_le
less a x e = record { crossed = omega (arith, ints, e) }

near : (bound : Option ℚ) → is_far bound ≡ false → ForSome bound IsNotFar
near bound h = λ x e.
    let own : is_far (Some x) ≡ false = subst (λ (b : Option ℚ). is_far b ≡ false) e h in
    let parts = or_parts (rational_le far x) (rational_le x (neg_ℚ far)) own in
    record { above = less x (neg_ℚ far) parts.1; below = less far x parts.0 }

pub script-writable : ScriptWritableLaw
script-writable M h unmarked = record {
  plain = h.plain;
  rows = All-weaker (λ (name : List ℕ). is_lawful_name name ≡ true) IsField key_field (row_names M) h.row_names;
  columns = All-map IsField (λ (c : Col). c.name) M.cols (All-weaker (λ (c : Col). is_lawful_name c.name ≡ true) (λ (c : Col). IsField c.name) (λ c e. key_field c.name e) M.cols h.column_names);
  unmarked = unmarked;
  bounds = All-weaker (λ (c : Col). (is_far c.lo ≡ false) × (is_far c.up ≡ false)) HasNoFarBounds (λ c e. record { lower = near c.lo e.0; upper = near c.up e.1 }) M.cols h.bounds;
}
