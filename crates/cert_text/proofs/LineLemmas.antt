-- The lines of a text from its pieces, and what a line says by whether it begins with a blank.
use Rattle.std.proofs.Common.{◌≡◌, ℕ, ◌-◌, ◌<◌, ◌≤◌, Bool, true, false, List, [], ◌∷◌, ◌++◌, length, get_or, take, drop, arith, map, Bor, ap, sym, ◌∙◌, refl, subst, if◌then◌else◌}
use Rattle.std.proofs.lemmas.Grind.{common_steps}
use Rattle.std.proofs.lemmas.List.{map-append}
use Rattle.std.specs.List.{slice_split}
use Rattle.std.specs.Prelude.{Option, Result, Ok, Err, codes, bytes_eq}
use Rattle.text_lines.specs.Lines.{Line, is_newline, is_nothing, lines_of, lines_of_pieces, line_bytes}
use Rattle.text_lines.specs.Words.{words_of}
use Rattle.text_lines.proofs.LineLemmas.{last_of, bytes-last}
use Rattle.cert_text.specs.Mults.{mults_in}
use Rattle.cert_text.specs.Lines.{begins_blank, ends_blank, split_says, as_leaf, empty_says, leaf_says, word_of, known_says, words_say, line_says}
use Rattle.cert_text.specs.Reading.{Says}
use Rattle.cert_text.specs.declared.line.LineWord.{LineWord}
use Rattle.cert_text.specs.declared.line.Statement.{Statement}
use Rattle.cert_text.specs.declared.line.LineFault.{LineFault}
use Rattle.cert_text.specs.declared.line.LineFault.TheVariants.{Code, Memory}
use Rattle.cert_text.specs.declared.cert.CertMult.{CertMult}
use Rattle.cert_text.specs.declared.cert.CertNode.{CertNode}
use Rattle.cert_text.specs.declared.cert.CertNode.TheVariants.{Bound, Farkas}
use Rattle.cert_text.specs.declared.line.Statement.TheVariants as says

pub says_blank : (line : List ℕ) → begins_blank line ≡ true → line_says line ≡ Err 2
unfolding line_says
says_blank line e = ap (λ (b : Bool). if b then Err 2 else words_say (ends_blank line) (words_of line)) e

pub says_words : (line : List ℕ) (blank : Bool) (words : List (List ℕ)) → begins_blank line ≡ false → blank ≡ ends_blank line → words ≡ words_of line →
    (result : Result Statement LineFault) → Says (words_say blank words) result → Says (line_says line) result
unfolding line_says
says_words line blank words e b w result says =
    subst (λ said. Says said result)
    ((λ i. words_say (b i) (w i)) ∙ sym (ap (λ (t : Bool). if t then Err 2 else words_say (ends_blank line) (words_of line)) e)) says

-- ---- lines

append_nothing : (lines : List (List ℕ)) → lines ++ [] ≡ lines
append_nothing [] = refl
append_nothing (line ∷ more) = ap (λ lines. line ∷ lines) (append_nothing more)

abbrev nows : List (Bor (List ℕ)) → List (List ℕ)
nows lines = map (λ line. line.now) lines

module _ (text : List ℕ) (pieces front : List (Bor (List ℕ))) (last : Bor (List ℕ)) (are : nows pieces ≡ slice_split is_newline text) (parts : pieces ≡ front ++ last ∷ []) where
  cut : line_bytes text ≡ nows front ++ last_of last.now
  unfolding line_bytes lines_of
  cut =
      ap (λ pieces. map (λ (line : Line). line.bytes) (lines_of_pieces pieces)) (sym are ∙ ap nows parts ∙ map-append (λ line. line.now) front (last ∷ []))
      ∙ bytes-last (nows front) last.now

  -- a last piece without a byte is no line
  pub lines-front : is_nothing last.now ≡ true → nows front ≡ line_bytes text
  lines-front none = sym (cut ∙ ap (λ (b : Bool). nows front ++ (if b then [] else last.now ∷ [])) none ∙ append_nothing (nows front))

  pub lines-all : is_nothing last.now ≡ false → nows (front ++ last ∷ []) ≡ line_bytes text
  lines-all some = map-append (λ line. line.now) front (last ∷ []) ∙ sym (cut ∙ ap (λ (b : Bool). nows front ++ (if b then [] else last.now ∷ [])) some)

pub lines-none : (text : List ℕ) (pieces rest : List (Bor (List ℕ))) → nows pieces ≡ slice_split is_newline text → pieces ≡ rest ++ [] → length pieces ≡ 0 → nows rest ≡ line_bytes text
unfolding line_bytes lines_of lines_of_pieces
lines-none text [] [] are parts none = ap (λ pieces. map (λ (line : Line). line.bytes) (lines_of_pieces pieces)) are
lines-none text [] (piece ∷ more) are parts none = absurd (let h : 0 ≡ length ((piece ∷ more) ++ []) = ap length parts in omega (arith, h))
lines-none text (piece ∷ more) rest are parts none = absurd (omega arith)

-- ---- words

back : (a : Bor (List ℕ)) (more : List (Bor (List ℕ))) → take (length (a ∷ more) - 1) (drop 1 (a ∷ more)) ≡ more
back a more = grind (arith, common_steps)

pub just_one : (words : List (Bor (List ℕ))) (d : Bor (List ℕ)) → 1 ≤ length words → length words < 2 → nows words ≡ (get_or words 0 d).now ∷ []
just_one [] d some few = absurd (omega arith)
just_one (a ∷ []) d some few = refl
just_one (a ∷ b ∷ more) d some few = absurd (omega arith)

pub just_two : (words : List (Bor (List ℕ))) (d : Bor (List ℕ)) → 2 ≤ length words → length words < 3 → nows words ≡ (get_or words 0 d).now ∷ (get_or words 1 d).now ∷ []
just_two [] d some few = absurd (omega arith)
just_two (a ∷ []) d some few = absurd (omega arith)
just_two (a ∷ b ∷ []) d some few = refl
just_two (a ∷ b ∷ c ∷ more) d some few = absurd (omega arith)

pub just_three : (words : List (Bor (List ℕ))) (d : Bor (List ℕ)) → 3 ≤ length words → length words < 4 → nows words ≡ (get_or words 0 d).now ∷ (get_or words 1 d).now ∷ (get_or words 2 d).now ∷ []
just_three [] d some few = absurd (omega arith)
just_three (a ∷ []) d some few = absurd (omega arith)
just_three (a ∷ b ∷ []) d some few = absurd (omega arith)
just_three (a ∷ b ∷ c ∷ []) d some few = refl
just_three (a ∷ b ∷ c ∷ e ∷ more) d some few = absurd (omega arith)

pub split-short : (words : List (Bor (List ℕ))) → length words < 2 → split_says (nows words) ≡ Err 3
split-short [] few = refl
split-short (a ∷ []) few = refl
split-short (a ∷ b ∷ more) few = absurd (omega arith)

pub split-long : (words : List (Bor (List ℕ))) → 3 ≤ length words → split_says (nows words) ≡ Err 3
split-long [] many = absurd (omega arith)
split-long (a ∷ []) many = absurd (omega arith)
split-long (a ∷ b ∷ []) many = absurd (omega arith)
split-long (a ∷ b ∷ c ∷ more) many = refl

pub words-none : (blank : Bool) (words : List (Bor (List ℕ))) → length words < 1 → words_say blank (nows words) ≡ Err 2
words-none blank [] few = refl
words-none blank (a ∷ more) few = absurd (omega arith)

-- the words behind a first one
pub words-first : (blank : Bool) (words : List (Bor (List ℕ))) (d : Bor (List ℕ)) (known : Option LineWord) → 1 ≤ length words → known ≡ word_of (get_or words 0 d).now
    → known_says known blank (nows (take (length words - 1) (drop 1 words))) ≡ words_say blank (nows words)
words-first blank [] d known some e = absurd (omega arith)
words-first blank (a ∷ more) d known some e = (λ i. known_says (e i) blank (nows (back a more i)))

-- ---- leaves

abbrev leaf_by : Bool → Bool → Bool → List (List ℕ) → Result Statement ℕ
leaf_by a b e words = if a then as_leaf Bound (mults_in words) else if b then as_leaf Farkas (mults_in words) else if e then empty_says words else Err 3

leaf-ok : (leaf : List CertMult → CertNode) (said : Result (List CertMult) ℕ) (mults : List CertMult) → said ≡ Ok mults → as_leaf leaf said ≡ Ok (says.Node (leaf mults))
leaf-ok leaf said mults e = ap (as_leaf leaf) e

leaf-faulty : (leaf : List CertMult → CertNode) (said : Result (List CertMult) ℕ) (fault : LineFault) → Says said (Err fault) → Says (as_leaf leaf said) (Err fault)
leaf-faulty leaf said (Code code) e = ap (as_leaf leaf) e
leaf-faulty leaf said Memory e = tt

module _ (words : List (Bor (List ℕ))) (d : Bor (List ℕ)) (some : 1 ≤ length words) where
  abbrev rest : List (List ℕ)
  rest = nows (take (length words - 1) (drop 1 words))

  abbrev is : List ℕ → Bool
  is key = bytes_eq (get_or words 0 d).now key

  first : (ws : List (Bor (List ℕ))) → 1 ≤ length ws
      → leaf_says (nows ws) ≡ leaf_by (bytes_eq (get_or ws 0 d).now (codes "bound")) (bytes_eq (get_or ws 0 d).now (codes "farkas")) (bytes_eq (get_or ws 0 d).now (codes "empty")) (nows (take (length ws - 1) (drop 1 ws)))
  first [] h = absurd (omega arith)
  first (a ∷ more) h = ap (λ ws. leaf_by (bytes_eq a.now (codes "bound")) (bytes_eq a.now (codes "farkas")) (bytes_eq a.now (codes "empty")) (nows ws)) (sym (back a more))

  module _ (bound : is (codes "bound") ≡ true) where
    here : leaf_says (nows words) ≡ as_leaf Bound (mults_in rest)
    here = first words some ∙ ap (λ (b : Bool). leaf_by b (is (codes "farkas")) (is (codes "empty")) rest) bound

    pub bound-ok : (mults : List CertMult) → mults_in rest ≡ Ok mults → leaf_says (nows words) ≡ Ok (says.Node (Bound mults))
    bound-ok mults e = here ∙ leaf-ok Bound (mults_in rest) mults e

    pub bound-faulty : (fault : LineFault) → Says (mults_in rest) (Err fault) → Says (leaf_says (nows words)) (Err fault)
    bound-faulty fault h = subst (λ said. Says said (Err fault)) (sym here) (leaf-faulty Bound (mults_in rest) fault h)

  module _ (other : is (codes "bound") ≡ false) (farkas : is (codes "farkas") ≡ true) where
    there : leaf_says (nows words) ≡ as_leaf Farkas (mults_in rest)
    there = first words some ∙ (λ i. leaf_by (other i) (farkas i) (is (codes "empty")) rest)

    pub farkas-ok : (mults : List CertMult) → mults_in rest ≡ Ok mults → leaf_says (nows words) ≡ Ok (says.Node (Farkas mults))
    farkas-ok mults e = there ∙ leaf-ok Farkas (mults_in rest) mults e

    pub farkas-faulty : (fault : LineFault) → Says (mults_in rest) (Err fault) → Says (leaf_says (nows words)) (Err fault)
    farkas-faulty fault h = subst (λ said. Says said (Err fault)) (sym there) (leaf-faulty Farkas (mults_in rest) fault h)
