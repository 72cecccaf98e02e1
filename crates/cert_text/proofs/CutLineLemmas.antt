-- The literals of a line, from the first one on.
use Rattle.std.specs.Prelude.{◌≡◌, ℕ, suc, ◌+◌, ◌-◌, ◌<◌, ◌≤◌, ◌++◌, Bool, List, [], ◌∷◌, length, take, drop, get_or, map, Some, None, Result, Ok, Err}
use Rattle.std.specs.Option.{option_map}
use Rattle.std.proofs.Common.{refl, sym, ap, ◌∙◌, arith, append_assoc, Bor}
use Rattle.std.proofs.lemmas.Grind.{common_steps}
use Rattle.std.proofs.lemmas.List.{append-nil, drop_all}
use Rattle.std.proofs.Math.Seq.{drop-cons}
use Rattle.lp_model.specs.declared.types.Side.{Side}
use Rattle.lp_model.specs.Sides.{side_of_word}
use Rattle.cert_text.specs.CutLines.{sign_in, literal_in, with_literal, literals_in, cut_by, cut_line_in}
use Rattle.cert_text.specs.Reading.{Says}
use Rattle.cert_text.specs.declared.line.LineFault.{LineFault}
use Rattle.cert_text.specs.declared.line.LineFault.TheVariants.{Code, Memory}

abbrev pub nows : List (Bor (List ℕ)) → List (List ℕ)
nows words = map (λ word. word.now) words

-- some literals in front of what is said
abbrev pub prefixed : List (List ℕ × Bool) → Result (List (List ℕ × Bool)) ℕ → Result (List (List ℕ × Bool)) ℕ
prefixed literals (Ok more) = Ok (literals ++ more)
prefixed literals (Err code) = Err code

pub prefixed-nothing : (said : Result (List (List ℕ × Bool)) ℕ) → said ≡ prefixed [] said
prefixed-nothing (Ok more) = refl
prefixed-nothing (Err code) = refl

one-more : (literals : List (List ℕ × Bool)) (l : List ℕ × Bool) (said : Result (List (List ℕ × Bool)) ℕ) → prefixed literals (with_literal (Some l) said) ≡ prefixed (literals ++ l ∷ []) said
one-more literals l (Ok more) = ap Ok (sym (append_assoc literals (l ∷ []) more))
one-more literals l (Err code) = refl

module _ (words : List (Bor (List ℕ))) (literals : List (List ℕ × Bool)) (said : Result (List (List ℕ × Bool)) ℕ) where
  module _ (k : ℕ) (w : Bor (List ℕ)) (below : k < length words) (is : w ≡ get_or words k w) (before : said ≡ prefixed literals (literals_in (nows (drop k words)))) where
    here : said ≡ prefixed literals (with_literal (literal_in w.now) (literals_in (nows (drop (suc k) words))))
    here = before ∙ ap (λ ws. prefixed literals (literals_in (nows ws))) (drop-cons words k w below ∙ ap (λ v. v ∷ drop (suc k) words) (sym is))

    pub literals-more : (plus : Bool) → sign_in w.now ≡ Some plus → said ≡ prefixed (literals ++ (drop 1 w.now, plus) ∷ []) (literals_in (nows (drop (k + 1) words)))
    literals-more plus e =
        let next : suc k ≡ k + 1 = omega arith in
        here
        ∙ ap (λ o. prefixed literals (with_literal (option_map (λ p. (drop 1 w.now, p)) o) (literals_in (nows (drop (suc k) words))))) e
        ∙ one-more literals (drop 1 w.now, plus) (literals_in (nows (drop (suc k) words)))
        ∙ ap (λ n. prefixed (literals ++ (drop 1 w.now, plus) ∷ []) (literals_in (nows (drop n words)))) next

    pub literals-none : sign_in w.now ≡ None → said ≡ Err 3
    literals-none e = here ∙ ap (λ o. prefixed literals (with_literal (option_map (λ p. (drop 1 w.now, p)) o) (literals_in (nows (drop (suc k) words))))) e

  pub literals-end : (k : ℕ) → length words ≤ k → said ≡ prefixed literals (literals_in (nows (drop k words))) → said ≡ Ok literals
  literals-end k past before = before ∙ ap (λ ws. prefixed literals (literals_in (nows ws))) (drop_all k words past) ∙ ap Ok (append-nil literals)

-- ---- the words of a cut's line

back : (a b : Bor (List ℕ)) (more : List (Bor (List ℕ))) → take (length (a ∷ b ∷ more) - 2) (drop 2 (a ∷ b ∷ more)) ≡ more
back a b more = grind (arith, common_steps)

pub cut_line-short : (words : List (Bor (List ℕ))) → length words < 2 → cut_line_in (nows words) ≡ Err 3
cut_line-short [] few = refl
cut_line-short (a ∷ []) few = refl
cut_line-short (a ∷ b ∷ more) few = absurd (omega arith)

module _ (words : List (Bor (List ℕ))) (d : Bor (List ℕ)) (long : 2 ≤ length words) where
  abbrev rest : List (Bor (List ℕ))
  rest = take (length words - 2) (drop 2 words)

  first : (ws : List (Bor (List ℕ))) → 2 ≤ length ws → cut_line_in (nows ws) ≡ cut_by (get_or ws 0 d).now (side_of_word (get_or ws 1 d).now) (literals_in (nows (take (length ws - 2) (drop 2 ws))))
  first [] h = absurd (omega arith)
  first (a ∷ []) h = absurd (omega arith)
  first (a ∷ b ∷ more) h = ap (λ ls. cut_by a.now (side_of_word b.now) (literals_in (nows ls))) (sym (back a b more))

  pub cut_line-sideless : side_of_word (get_or words 1 d).now ≡ None → cut_line_in (nows words) ≡ Err 3
  cut_line-sideless e = first words long ∙ ap (λ s. cut_by (get_or words 0 d).now s (literals_in (nows rest))) e

  pub cut_line-faulty : (side : Side) (fault : LineFault) → side_of_word (get_or words 1 d).now ≡ Some side → Says (literals_in (nows rest)) (Err fault) → Says (cut_line_in (nows words)) (Err fault)
  cut_line-faulty side (Code code) e h = first words long ∙ (λ i. cut_by (get_or words 0 d).now (e i) (h i))
  cut_line-faulty side Memory e h = tt
