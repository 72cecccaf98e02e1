-- What the words of a line say by their first one, and which kind a text is of by the first word of its first line.
use Rattle.std.proofs.Common.{◌≡◌, ℕ, ◌-◌, ◌<◌, ◌≤◌, false, List, [], ◌∷◌, length, get_or, take, drop, arith, map, Bor, refl, ap, subst}
use Rattle.std.proofs.lemmas.Grind.{common_steps}
use Rattle.std.specs.Prelude.{Option, Result, Err, codes, bytes_eq}
use Rattle.text_lines.specs.Words.{words_of}
use Rattle.cert_text.specs.Lines.{line_says}
use Rattle.cert_text.specs.declared.line.LineFault.{LineFault}
use Rattle.cert_text.specs.declared.line.LineFault.TheVariants.{Code, Memory}
use Rattle.cert_text.specs.declared.line.Statement.{Statement}
use Rattle.cert_text.specs.declared.line.Statement.TheVariants.{Header, Claims, Point, Node, End, Ray, Cut, Foreign}
use Rattle.cert_text.specs.Reading.{Says}
use Rattle.cert_text.specs.Whole.{IsLawfulStatement}
use Rattle.front_text.specs.declared.front_line.FrontWord.{FrontWord}
use Rattle.front_text.specs.declared.front_line.FrontStatement.{FrontStatement}
use Rattle.front_text.specs.Reading.{IsNarrowFrontStatement}
use Rattle.front_text.specs.Lines.{common_statement, common_says, front_word_of, front_known_says, front_words_say, front_line_says, has_front_word, begin_front}

abbrev pub nows : List (Bor (List ℕ)) → List (List ℕ)
nows lines = map (λ line. line.now) lines

abbrev pub some_word : Bor (List ℕ)
some_word = record { ref_ptr = (0, 0); now = [] }

-- ---- lines that both kinds have

pub common-faulty : (said : Result Statement ℕ) (fault : LineFault) → Says said (Err fault) → Says (common_says said) (Err fault)
common-faulty said (Code code) e = ap common_says e
common-faulty said Memory e = tt

pub narrow-common : (statement : Statement) → IsLawfulStatement statement → IsNarrowFrontStatement (common_statement statement)
narrow-common Header narrow = tt
narrow-common (Claims claim) narrow = tt
narrow-common (Point named) narrow = tt
narrow-common (Node node) narrow = narrow
narrow-common End narrow = tt
narrow-common (Ray named) narrow = tt
narrow-common (Cut cut) narrow = tt
narrow-common Foreign narrow = tt

-- ---- words

back : (a : Bor (List ℕ)) (more : List (Bor (List ℕ))) → take (length (a ∷ more) - 1) (drop 1 (a ∷ more)) ≡ more
back a more = grind (arith, common_steps)

pub says-none : (line : List ℕ) (words : List (Bor (List ℕ))) → length words < 1 → front_words_say line (nows words) ≡ common_says (line_says line)
says-none line [] few = refl
says-none line (a ∷ more) few = absurd (omega arith)

-- the words behind a first one
pub says-first : (line : List ℕ) (words : List (Bor (List ℕ))) (d : Bor (List ℕ)) (known : Option FrontWord) → 1 ≤ length words → known ≡ front_word_of (get_or words 0 d).now
    → front_known_says known line (nows (take (length words - 1) (drop 1 words))) ≡ front_words_say line (nows words)
says-first line [] d known some e = absurd (omega arith)
says-first line (a ∷ more) d known some e = (λ i. front_known_says (e i) line (nows (back a more i)))

pub says_words : (line : List ℕ) (words : List (List ℕ)) → words ≡ words_of line → (result : Result FrontStatement LineFault) → Says (front_words_say line words) result → Says (front_line_says line) result
unfolding front_line_says
says_words line words e result says = subst (λ ws. Says (front_words_say line ws) result) e says

-- ---- which kind

pub word-none : (words : List (Bor (List ℕ))) → length words < 1 → has_front_word (nows words) ≡ false
word-none [] few = refl
word-none (a ∷ more) few = absurd (omega arith)

pub word-first : (words : List (Bor (List ℕ))) (d : Bor (List ℕ)) → 1 ≤ length words → has_front_word (nows words) ≡ bytes_eq (get_or words 0 d).now (codes "front")
word-first [] d some = absurd (omega arith)
word-first (a ∷ more) d some = refl

pub line-none : (lines : List (Bor (List ℕ))) → length lines < 1 → begin_front (nows lines) ≡ false
line-none [] few = refl
line-none (a ∷ more) few = absurd (omega arith)

pub line-first : (lines : List (Bor (List ℕ))) (d : Bor (List ℕ)) → 1 ≤ length lines → begin_front (nows lines) ≡ has_front_word (words_of (get_or lines 0 d).now)
line-first [] d some = absurd (omega arith)
line-first (a ∷ more) d some = refl
