-- Entries that are read one after another: from what is stated each is without fault and does not end the text, and adds its part.
use Rattle.std.proofs.Common.{◌≡◌, true, false, List, [], ◌∷◌, ◌++◌, map, refl, sym, ◌∙◌, ap, subst, append_assoc}
use Rattle.std.specs.Prelude.{None, Ok}
use Rattle.mps_text.specs.Text.{Entry, Item}
use Rattle.mps_sections.specs.Statements.{StatedModel, stated}
use Rattle.mps_sections.specs.Faults.{code_in, code_at, Clean, IsWholeText}
use Rattle.mps_fields.specs.Fields.{is_end}
use Rattle.mps_sections.specs.Shown.{after}
use Rattle.mps_sections.proofs.StatedSteps.{nothing_more, stated_more}

-- the entries lead from s to t
abbrev pub Passes : StatedModel → List Entry → StatedModel → Type 0
Passes s [] t = s ≡ t
Passes s (e ∷ es) t = (code_in s e ≡ None) × (is_end e ≡ false) × Passes (after s e) es t

pub passes_append : (s t u : StatedModel) (es fs : List Entry) → Passes s es t → Passes t fs u → Passes s (es ++ fs) u
passes_append s t u [] fs p q = subst (λ (r : StatedModel). Passes r fs u) (sym p) q
passes_append s t u (e ∷ es) fs p q = (p.0, p.1, passes_append (after s e) t u es fs p.2 q)

-- one entry
pub passes_one : (s t : StatedModel) (e : Entry) → code_in s e ≡ None → is_end e ≡ false → after s e ≡ t → Passes s (e ∷ []) t
passes_one s t e clean more is = (clean, more, is)

-- what passes is clean, and what it leads to is what all of it states
pub record Passed (seen es : List Entry) (t : StatedModel) : Type 0 where
  pub clean : Clean seen es
  pub holds : t ≡ stated (seen ++ es)

pub passed : (seen es : List Entry) (t : StatedModel) → Passes (stated seen) es t → Passed seen es t
unfolding code_at
passed seen [] t p = record { clean = tt; holds = sym p ∙ ap stated (sym (nothing_more seen)) }
passed seen (e ∷ es) t p =
    let next : after (stated seen) e ≡ stated (seen ++ e ∷ []) = sym (stated_more seen e p.0) in
    let rest = passed (seen ++ e ∷ []) es t (subst (λ (s : StatedModel). Passes s es t) next p.2) in
    record { clean = (p.0, p.1, rest.clean); holds = rest.holds ∙ ap stated (append_assoc seen (e ∷ []) es) }

abbrev pub as_item : Entry → Item
as_item e = Ok e

-- entries that pass from nothing, and an entry that ends the text, are a whole text
pub whole_passed : (items : List Item) (es : List Entry) (last : Entry) (t : StatedModel) → items ≡ map Ok (es ++ last ∷ []) → Passes (stated []) es t → code_in t last ≡ None → is_end last ≡ true → IsWholeText [] items (es ++ last ∷ [])
unfolding code_at
whole_passed items es last t is p clean ended =
    let all = passed [] es t p in
    record {
      before = es;
      last = last;
      after = [];
      parts = is ∙ mapped es;
      clean = all.clean;
      clean_last = ap (λ (s : StatedModel). code_in s last) (sym all.holds) ∙ clean;
      ended = ended;
      all = refl;
    }
  where
    mapped : (es : List Entry) → map as_item (es ++ last ∷ []) ≡ map as_item es ++ as_item last ∷ []
    mapped [] = refl
    mapped (e ∷ es) = ap (λ more. as_item e ∷ more) (mapped es)

-- and it states what the last entry adds
pub whole_states : (es : List Entry) (last : Entry) (t : StatedModel) → Passes (stated []) es t → code_in t last ≡ None → stated (es ++ last ∷ []) ≡ after t last
unfolding code_at
whole_states es last t p clean =
    let all = passed [] es t p in
    stated_more es last (ap (λ (s : StatedModel). code_in s last) (sym all.holds) ∙ clean) ∙ ap (λ (s : StatedModel). after s last) (sym all.holds)
