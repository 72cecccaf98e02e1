-- What one more line adds to what some lines state.
use Rattle.std.proofs.Common.{◌≡◌, ℕ, suc, ◌+◌, ◌<◌, Bool, true, false, ◌||◌, List, [], ◌∷◌, ◌++◌, length, take, get_or, refl, sym, ap, ◌∙◌, arith, below_more}
use Rattle.std.specs.Prelude.{option_to_list, Option, None, Some, Result}
use Rattle.std.specs.List.{filter_map, cons_option, list_any}
use Rattle.std.proofs.Math.Seq.{take-suc}
use Rattle.std.proofs.lemmas.List.{length-append}
use Rattle.std.proofs.lemmas.List.Elements.{filter_map-append}
use Rattle.std.proofs.lemmas.List.Folds.{list_any-append}
use Rattle.cert_text.specs.declared.line.Statement.{Statement}
use Rattle.cert_text.specs.Lines.{line_says}
use Rattle.cert_text.specs.Text.{claim_in, point_in, ray_in, cut_in, node_in, is_end_statement, StatedCertificate, stated, code_in, code_at, AreClean}
use Rattle.cert_text.specs.Reading.{after}

one_more : {A : Type 0} (x : Option A) → cons_option x [] ≡ option_to_list x
one_more None = refl
one_more (Some x) = refl

gathered : {A : Type 0} (part : Result Statement ℕ → Option A) (lines : List (List ℕ)) (line : List ℕ) →
    filter_map (λ l. part (line_says l)) (lines ++ line ∷ []) ≡ filter_map (λ l. part (line_says l)) lines ++ option_to_list (part (line_says line))
gathered part lines line =
    filter_map-append (λ l. part (line_says l)) lines (line ∷ []) ∙ ap (λ more. filter_map (λ l. part (line_says l)) lines ++ more) (one_more (part (line_says line)))

or_false : (b : Bool) → (b || false) ≡ b
or_false true = refl
or_false false = refl

pub stated_more : (lines : List (List ℕ)) (line : List ℕ) → stated (lines ++ line ∷ []) ≡ after (stated lines) (line_says line)
unfolding stated
stated_more lines line = (λ i. record {
  count = length-append lines (line ∷ []) i;
  claims = gathered claim_in lines line i;
  points = gathered point_in lines line i;
  rays = gathered ray_in lines line i;
  cuts = gathered cut_in lines line i;
  nodes = gathered node_in lines line i;
  ended = (list_any-append (λ l. is_end_statement (line_says l)) lines (line ∷ []) ∙ ap (λ more. list_any (λ l. is_end_statement (line_says l)) lines || more) (or_false (is_end_statement (line_says line)))) i;
})

module _ (lines : List (List ℕ)) (k : ℕ) (below : k < length lines) where
  pub taken_more : stated (take (k + 1) lines) ≡ after (stated (take k lines)) (line_says (get_or lines k []))
  taken_more =
      let next : k + 1 ≡ suc k = omega arith in
      ap (λ n. stated (take n lines)) next ∙ ap stated (take-suc lines k [] below) ∙ stated_more (take k lines) (get_or lines k [])

  -- the code of a line by what is held
  module _ (s : StatedCertificate) (line : List ℕ) (code : Option ℕ) (holds : s ≡ stated (take k lines)) (is : line ≡ get_or lines k []) (has : code_in s (line_says line) ≡ code) where
    pub code_here : code_at lines k ≡ code
    unfolding code_at
    code_here = (λ i. code_in (sym holds i) (line_says (sym is i))) ∙ has

    pub holds_more : (t : StatedCertificate) → t ≡ after s (line_says line) → t ≡ stated (take (k + 1) lines)
    holds_more t e = e ∙ (λ i. after (holds i) (line_says (is i))) ∙ sym taken_more

pub clean_more : (lines : List (List ℕ)) (k : ℕ) → AreClean lines k → code_at lines k ≡ None → AreClean lines (k + 1)
clean_more lines k clean here = below_more (λ j. code_at lines j ≡ None) k clean here
