-- How a name is written.
use Rattle.std.specs.Prelude.{◌≡◌, ℕ, zero, suc, ◌<◌, Bool, true, false, ◌&&◌, nat_le, if◌then◌else◌, List, [], ◌∷◌, length}
use Rattle.std.specs.List.{list_all}
use Rattle.std.specs.Str.{is_utf8, IsUtf8, IsAscii}
use Rattle.std.proofs.Common.{refl, sym, ap, ◌∙◌, arith}
use Rattle.std.proofs.lemmas.Bool.Decides.{nat_tests}
use Rattle.std.proofs.lemmas.Str.{IsUtf8-from_ascii, IsUtf8-from_is_utf8, is_utf8-from_IsUtf8}
use Rattle.serde_json.specs.Data.{null, string}
use Rattle.lp_model.specs.Names.{is_name_byte, is_lawful_name}
use Rattle.warm_writer.specs.Written.{name_json}

pub name-text : (name text : List ℕ) → text ≡ name → IsUtf8 name → string text ≡ name_json name
name-text name text e u = ap string e ∙ ap (λ b. if b then string name else null) (sym (is_utf8-from_IsUtf8 name u))

pub name-null : (name : List ℕ) → ¬ IsUtf8 name → null ≡ name_json name
name-null name other = by (is_utf8 name) refl
  where
    by : (b : Bool) → is_utf8 name ≡ b → null ≡ name_json name
    by true e = absurd (other (IsUtf8-from_is_utf8 name e))
    by false e = ap (λ b. if b then string name else null) (sym e)

visible-ascii : (byte : ℕ) → is_name_byte byte ≡ true → byte < 128
visible-ascii byte e = grind (arith, nat_tests)

first-of-and : (a b : Bool) → (a && b) ≡ true → a ≡ true
first-of-and true b e = refl
first-of-and false b e = absurd (cc)

second-of-and : (a b : Bool) → (a && b) ≡ true → b ≡ true
second-of-and true b e = e
second-of-and false b e = absurd (cc)

all-ascii : (text : List ℕ) → list_all is_name_byte text ≡ true → IsAscii text
all-ascii [] e i = omega arith
all-ascii (byte ∷ text) e zero = visible-ascii byte (first-of-and (is_name_byte byte) (list_all is_name_byte text) e)
all-ascii (byte ∷ text) e (suc i) = all-ascii text (second-of-and (is_name_byte byte) (list_all is_name_byte text) e) i

-- a lawful name is text
pub name-is-text : (name : List ℕ) → is_lawful_name name ≡ true → name_json name ≡ string name
name-is-text name e =
    let all = second-of-and (nat_le 1 (length name) && nat_le (length name) 255) (list_all is_name_byte name) e in
    sym (name-text name name refl (IsUtf8-from_ascii name (all-ascii name all)))
