-- Texts of the first version mean what that version says by itself.
use Rattle.std.specs.Prelude.{◌≡◌, ℕ, ◌==◌, ◌||◌, if◌then◌else◌, List, length, codes, is_some, Option, Some, None, Result, Ok, Err}
use Rattle.std.proofs.Common.{refl, sym, ap, subst, ◌∙◌}
use Rattle.search_data.specs.declared.data.SearchData.{SearchData}
use Rattle.serde_json.specs.Data.{Data}
use Rattle.serde_json.specs.Find.{get, as_object}
use Rattle.warm_file.specs.Faults.{Fault, fault, or_fault, behind, at_key}
use Rattle.warm_file.specs.Values.{count_of, member}
use Rattle.warm_file.specs.Models.{model_of}
use Rattle.warm_file.specs.Searches.{version_of, node_of, split_of, leaf_of, nodes_of, nodes_told, cuts_of, tree_of, search_in, search_of, NoJson, InJson}
use Rattle.warm_file.specs.FirstVersion.{first_version_of, search_in_first, first_search_of, IsFirstAnswer, IsOfFirstVersion}
use Rattle.warm_file.specs.Answers.{IsSearchAnswer}
use Rattle.warm_file.specs.declared.fault.WarmFault.{WarmFault}
use Rattle.warm_file.specs.declared.fault.WarmFault.TheVariants.{Bad, Memory}
use Rattle.warm_file.proofs.SearchLaws.{one_value}

abbrev Said : Type 0
Said = Result SearchData Fault

-- the number of the version, however it is tested, is handed on
version-known : (rest rest2 : ℕ → Said) (c : Result ℕ Fault) → rest 1 ≡ rest2 1 → at_key (codes "warm") c ≡ Ok 1
    → behind (at_key (codes "warm") (behind c (λ version. if version == 1 || version == 2 then Ok version else fault 4))) rest
    ≡ behind (at_key (codes "warm") (behind c (λ version. if version == 1 then Ok version else fault 4))) rest2
unfolding behind at_key
version-known rest rest2 (Ok n) same e =
    let one : 1 ≡ n = cc in
    subst (λ k. behind (at_key (codes "warm") (if k == 1 || k == 2 then Ok k else fault 4)) rest ≡ behind (at_key (codes "warm") (if k == 1 then Ok k else fault 4)) rest2) one same
version-known rest rest2 (Err f) same e = absurd (cc)

version-there : (rest rest2 : ℕ → Said) (o : Option Data) → rest 1 ≡ rest2 1 → behind (or_fault 2 o) (λ v. at_key (codes "warm") (count_of v)) ≡ Ok 1
    → behind (behind (or_fault 2 o) (λ v. at_key (codes "warm") (version_of v))) rest ≡ behind (behind (or_fault 2 o) (λ v. at_key (codes "warm") (first_version_of v))) rest2
unfolding version_of behind or_fault
version-there rest rest2 (Some v) same e = version-known rest rest2 (count_of v) same e
version-there rest rest2 None same e = absurd (cc)

-- behind the version
abbrev behind_version : Data → ℕ → Said
behind_version d version = behind (member (codes "model") model_of d) (λ M. behind (member (codes "cuts") (cuts_of (length M.rows) (length M.cols)) d) (λ cuts. tree_of version M cuts d))

in-first : (d : Data) → member (codes "warm") count_of d ≡ Ok 1 → search_in d ≡ search_in_first d
unfolding tree_of nodes_of node_of split_of leaf_of nodes_told behind
in-first d e = version-there (behind_version d) _ (get (codes "warm") d) refl e

pub first-same : (d : Data) → member (codes "warm") count_of d ≡ Ok 1 → search_of d ≡ first_search_of d
unfolding search_of first_search_of
first-same d e = ap (λ said. if is_some (as_object d) then said else fault 3) (in-first d e)

pub first-answer : (text : List ℕ) (r : Result SearchData WarmFault) → IsSearchAnswer text r → IsOfFirstVersion text → IsFirstAnswer text r
first-answer text (Ok s) h o =
    let same = one_value text h.value o.value h.json o.json in
    record { value = o.value; json = o.json; stated = sym (first-same o.value o.version) ∙ ap search_of (sym same) ∙ h.stated }
first-answer text (Err (Bad place code)) (NoJson none p c) o = absurd (none o.value o.json)
first-answer text (Err (Bad place code)) (InJson d j f said p c) o =
    let same = one_value text d o.value j o.json in
    record { value = o.value; json = o.json; found = f; told = sym (first-same o.value o.version) ∙ ap search_of (sym same) ∙ said; place_is = p; code_is = c }
first-answer text (Err Memory) h o = tt
