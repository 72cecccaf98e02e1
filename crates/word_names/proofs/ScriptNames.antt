-- The names of a model that scripts may have are words of a line.
use Rattle.std.proofs.Common.{◌≡◌, ℕ, ◌<◌, arith, Bool, true, false, ◌&&◌, List, [], ◌∷◌, map, length, refl, sym, subst}
use Rattle.std.specs.Prelude.{nat_le, All}
use Rattle.std.specs.List.{list_all}
use Rattle.std.proofs.lemmas.Bool.Decides.{nat_tests}
use Rattle.std.proofs.lemmas.List.{length-map, get_or-map}
use Rattle.std.proofs.lemmas.List.Elements.{All-nil, All-cons, All-weaker, All-tail}
use Rattle.text_lines.specs.Lines.{is_newline}
use Rattle.text_lines.specs.Words.{is_blank, IsWord}
use Rattle.lp_model.specs.Program.{Program}
use Rattle.lp_model.specs.declared.types.Col.{Col}
use Rattle.lp_model.specs.declared.types.Row.{Row}
use Rattle.lp_model.specs.Names.{is_name_byte, is_lawful_name}
use Rattle.word_names.specs.ScriptModels.{IsScriptModel, ScriptNamesLaw}

left : (a b : Bool) → a && b ≡ true → a ≡ true
left true b h = refl
left false b h = h

right : (a b : Bool) → a && b ≡ true → b ≡ true
right true b h = h
right false b h = absurd (cc)

no_newline : (byte : ℕ) → is_name_byte byte ≡ true → is_newline byte ≡ false
no_newline byte h = grind (arith, nat_tests)

no_blank : (byte : ℕ) → is_name_byte byte ≡ true → is_blank byte ≡ false
no_blank byte h = grind (arith, nat_tests)

each : (P : ℕ → Type 0) → ((byte : ℕ) → is_name_byte byte ≡ true → P byte) → (word : List ℕ) → list_all is_name_byte word ≡ true → All P word
each P f [] h = All-nil P
each P f (byte ∷ word) h = All-cons P byte word (f byte (left (is_name_byte byte) (list_all is_name_byte word) h)) (each P f word (right (is_name_byte byte) (list_all is_name_byte word) h))

pub lawful-word : (name : List ℕ) → is_lawful_name name ≡ true → IsWord name
lawful-word name h =
    let sized : nat_le 1 (length name) && nat_le (length name) 255 ≡ true = left (nat_le 1 (length name) && nat_le (length name) 255) (list_all is_name_byte name) h in
    let some : nat_le 1 (length name) ≡ true = left (nat_le 1 (length name)) (nat_le (length name) 255) sized in
    let bytes : list_all is_name_byte name ≡ true = right (nat_le 1 (length name) && nat_le (length name) 255) (list_all is_name_byte name) h in
    record {
      some = grind (arith, nat_tests);
      one_line = each (λ byte. is_newline byte ≡ false) no_newline name bytes;
      one_word = each (λ byte. is_blank byte ≡ false) no_blank name bytes;
    }

-- what holds of the images holds of the elements
pub all-unmapped : {A B : Type 0} (f : A → B) (P : B → Type 0) (xs : List A) → All P (map f xs) → All (λ (x : A). P (f x)) xs
all-unmapped f P xs h = λ i d below. subst P (get_or-map f xs i d (f d) below) (h i (f d) (subst (λ n. i < n) (sym (length-map xs f)) below))

pub script-rows : (M : Program) → IsScriptModel M → All (λ (r : Row). is_lawful_name r.name ≡ true) M.rows
script-rows M h =
    let names = map (λ (r : Row). r.name) M.rows in
    let lawful : List ℕ → Type 0 = λ name. is_lawful_name name ≡ true in
    all-unmapped (λ (r : Row). r.name) lawful M.rows (All-tail lawful M.obj2 names (All-tail lawful M.obj (M.obj2 ∷ names) h.row_names))

pub script-words : ScriptNamesLaw
script-words M h = record {
  columns = All-weaker (λ (c : Col). is_lawful_name c.name ≡ true) (λ (c : Col). IsWord c.name) (λ c e. lawful-word c.name e) M.cols h.column_names;
  rows = All-weaker (λ (r : Row). is_lawful_name r.name ≡ true) (λ (r : Row). IsWord r.name) (λ r e. lawful-word r.name e) M.rows (script-rows M h);
}
