-- Files in a list of names and bytes.
use Rattle.std.proofs.Common.{◌≡◌, ℕ, List, [], ◌∷◌, refl, sym, ap, ◌∙◌, cond, Some, Option, Bool, true, false}
use Rattle.std.specs.Prelude.{Vec, String}
use Rattle.std.specs.Option.{option_map}
use Rattle.std.specs.String.{string_bytes}
use Rattle.std.specs.Ordering.{nat_cmp, is_eq, eq_by_cmp}
use Rattle.std.specs.Cmp.Lexicographic.{slice_cmp, nat_list_cmp_total}
use Rattle.std.specs.Cmp.{eq_by_cmp_equiv}
use Rattle.std.specs.Map.{lookup, update}
use Rattle.std.specs.Str.{bytes_eq}
use Rattle.std.proofs.lemmas.Map.Text.{is_eq-slice_cmp}
use Rattle.std.specs.FinMap.{get, insert, get-insert, get-empty, same_map, slice_cmp-IsAntisymmetric, nat_cmp-IsAntisymmetric}
use Rattle.std.specs.declared.alloc.Global.{Global}
use Rattle.std.specs.BTreeMap.{is_at}
use Rattle.memory_ends.specs.Memory.{files_of}

-- a file among those of the entries is what a look-up by its name's bytes finds
pub get-files_of : (entries : List (String Global × Vec ℕ Global)) (name : List ℕ) → get (files_of entries) name ≡ option_map (λ bytes. bytes.items) (lookup (is_at (λ (k : String Global). slice_cmp nat_cmp name (string_bytes k))) entries)
get-files_of [] name = get-empty (slice_cmp nat_cmp) name
get-files_of (entry ∷ entries) name =
    get-insert nat_list_cmp_total (files_of entries) (string_bytes entry.0) entry.1.items name
    ∙ elim (is_eq (slice_cmp nat_cmp name (string_bytes entry.0))) as (λ b. cond b (Some entry.1.items) (get (files_of entries) name) ≡ option_map (λ (bytes : Vec ℕ Global). bytes.items) (cond b (Some entry.1) (lookup (is_at (λ (k : String Global). slice_cmp nat_cmp name (string_bytes k))) entries))) [
      | true ↦ refl
      | false ↦ get-files_of entries name
    ]

-- a look-up by bytes
abbrev pub at : List ℕ → String Global → Bool
at name k = is_at (λ (k : String Global). slice_cmp nat_cmp name (string_bytes k)) k

same_test : (name q : List ℕ) → bytes_eq name q ≡ eq_by_cmp (slice_cmp nat_cmp) q name
same_test name q = sym (is_eq-slice_cmp name q) ∙ (eq_by_cmp_equiv nat_list_cmp_total).symm name q

chosen : (b : Bool) (bytes : Vec ℕ Global) (found : Option (Vec ℕ Global)) → option_map (λ (bytes : Vec ℕ Global). bytes.items) (cond b (Some bytes) found) ≡ cond b (Some bytes.items) (option_map (λ (bytes : Vec ℕ Global). bytes.items) found)
chosen true bytes found = refl
chosen false bytes found = refl

-- where only the look-up by that name is another, one file is put
pub put_file : (old new : List (String Global × Vec ℕ Global)) (name : List ℕ) (bytes : Vec ℕ Global) → ((q : List ℕ) → lookup (at q) new ≡ update bytes_eq (λ p. lookup (at p) old) name (Some bytes) q) → files_of new ≡ insert (files_of old) name bytes.items
put_file old new name bytes changed = same_map nat_list_cmp_total (slice_cmp-IsAntisymmetric nat_cmp-IsAntisymmetric) _ _ (λ q.
    get-files_of new q
    ∙ ap (option_map (λ (bytes : Vec ℕ Global). bytes.items)) (changed q)
    ∙ chosen (bytes_eq name q) bytes (lookup (at q) old)
    ∙ ap (λ b. cond b (Some bytes.items) (option_map (λ (bytes : Vec ℕ Global). bytes.items) (lookup (at q) old))) (same_test name q)
    ∙ ap (cond (eq_by_cmp (slice_cmp nat_cmp) q name) (Some bytes.items)) (sym (get-files_of old q))
    ∙ sym (get-insert nat_list_cmp_total (files_of old) name bytes.items q))
