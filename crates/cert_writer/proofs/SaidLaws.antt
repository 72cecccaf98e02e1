-- What a line of a text says has names that are words, and numbers that have room.
use Rattle.std.proofs.Common.{◌≡◌, ℕ, ◌-◌, ◌^◌, ◌<◌, Bool, true, false, List, [], ◌∷◌, refl, sym, ◌∙◌, arith, if◌then◌else◌}
use Rattle.std.specs.Prelude.{All, codes, bytes_eq, ◌==◌, nat_lt, Option, Some, None, Result, Ok, Err, ℤ, pos, ◌+ℤ◌}
use Rattle.std.specs.Option.{option_map}
use Rattle.std.specs.Ordering.{int_eq}
use Rattle.std.proofs.lemmas.Bool.Decides.{nat_tests, Decides-int_eq}
use Rattle.std.proofs.lemmas.Int.{ints}
use Rattle.std.proofs.lemmas.List.Elements.{All-nil, All-cons, All-head, All-tail}
use Rattle.frac128.specs.Rational.{ℚ, int}
use Rattle.frac128.proofs.Comparison.{rational_le-decides}
use Rattle.frac128.specs.Range.{Fits, IsNarrow}
use Rattle.frac_text.specs.declared.parsing.NumFault.{NumFault}
use Rattle.frac_text.specs.Spelling.{value_of}
use Rattle.lp_model.specs.Edits.{Named}
use Rattle.lp_model.specs.Sides.{side_of_word}
use Rattle.lp_model.specs.declared.types.Side.{Side}
use Rattle.cert_text.specs.declared.cert.Claim.{Claim}
use Rattle.cert_text.specs.declared.cert.Claim.TheVariants.{Infeasible, Unbounded}
use Rattle.cert_text.specs.declared.cert.CertMult.{CertMult}
use Rattle.cert_text.specs.declared.cert.CertNode.{CertNode}
use Rattle.cert_text.specs.declared.cert.CertNode.TheVariants as node
use Rattle.cert_text.specs.declared.line.LineWord.{LineWord}
use Rattle.cert_text.specs.declared.line.LineWord.TheVariants as word
use Rattle.cert_text.specs.declared.line.Statement.{Statement}
use Rattle.cert_text.specs.declared.line.Statement.TheVariants as says
use Rattle.text_lines.specs.Lines.{is_newline, HasNoNewline}
use Rattle.text_lines.specs.Words.{is_blank, words_of, IsWord}
use Rattle.text_lines.proofs.CleanLemmas.{words-are}
use Rattle.cert_text.specs.CutLines.{literal_in, with_literal, literals_in, cut_by, cut_line_in}
use Rattle.cert_text.specs.Mults.{are_plain_digits, number_of_cut, row_mult, cut_mult, mult_in, with_mult, mults_in}
use Rattle.cert_text.specs.Lines.{begins_blank, ends_blank, with_named, beside, named_in, cert_says, claimed, is_gap, gap_claimed, within_claimed, claim_says, as_point, as_ray, as_cut, is_whole, split_at, split_says, as_leaf, empty_says, leaf_says, end_says, word_of, word_says, known_says, words_say, line_says}
use Rattle.frac_text.specs.Parsing.{spelled_number}
use Rattle.cert_text.specs.Whole.{HasLawfulGap, IsNarrowNode}
use Rattle.cert_writer.specs.CertText.{HasNameWords, IsMultWord, HasCutWords, HasNodeWords}
use Rattle.cert_writer.specs.Room.{HasFractions, MultFits, HasClaimRoom, HasNodeRoom}
use Rattle.cert_writer.proofs.FitLaws.{FitsOk, number-fits}

pub record GoodNamed (named : Named) : Type 0 where
  pub words : HasNameWords named
  pub room : HasFractions named

pub record GoodNode (n : CertNode) : Type 0 where
  pub narrow : IsNarrowNode n
  pub words : HasNodeWords n
  pub room : HasNodeRoom n

pub record GoodClaim (claim : Claim) : Type 0 where
  pub room : HasClaimRoom claim
  pub gap : HasLawfulGap claim

abbrev pub GoodStatement : Statement → Type 0
GoodStatement says.Header = Unit {0}
GoodStatement (says.Claims claim) = GoodClaim claim
GoodStatement (says.Point named) = GoodNamed named
GoodStatement (says.Node n) = GoodNode n
GoodStatement says.End = Unit {0}
GoodStatement (says.Ray named) = GoodNamed named
GoodStatement (says.Cut cut) = HasCutWords cut
GoodStatement says.Foreign = Unit {0}

abbrev pub Good : Result Statement ℕ → Type 0
Good (Ok x) = GoodStatement x
Good (Err code) = Unit {0}

-- ---- numbers beside names

abbrev GoodOk : Result Named ℕ → Type 0
GoodOk (Ok named) = GoodNamed named
GoodOk (Err code) = Unit {0}

good_none : GoodNamed []
good_none = record { words = All-nil (λ (e : List ℕ × ℚ). IsWord e.0); room = All-nil (λ (e : List ℕ × ℚ). Fits e.1) }

with_named-good : (name : List ℕ) (x : ℚ) (rest : Result Named ℕ) → IsWord name → Fits x → GoodOk rest → GoodOk (with_named name x rest)
with_named-good name x (Ok named) w fits good = record {
  words = All-cons (λ (e : List ℕ × ℚ). IsWord e.0) (name, x) named w good.words;
  room = All-cons (λ (e : List ℕ × ℚ). Fits e.1) (name, x) named fits good.room;
}
with_named-good name x (Err code) w fits good = tt

beside-good : (name : List ℕ) (r : Result ℚ NumFault) (rest : Result Named ℕ) → IsWord name → FitsOk r → GoodOk rest → GoodOk (beside name r rest)
beside-good name (Ok x) rest w fits good = with_named-good name x rest w fits good
beside-good name (Err fault) rest w fits good = tt

named-good : (words : List (List ℕ)) → All IsWord words → GoodOk (named_in words)
named-good [] all = good_none
named-good (name ∷ []) all = tt
named-good (name ∷ number ∷ more) all =
    let rest = All-tail IsWord name (number ∷ more) all in
    beside-good name (spelled_number number) (named_in more) (All-head IsWord name (number ∷ more) all) (number-fits number) (named-good more (All-tail IsWord number more rest))

-- ---- multipliers

record GoodMults (mults : List CertMult) : Type 0 where
  words : All IsMultWord mults
  room : All MultFits mults

abbrev GoodRows : Result (List CertMult) ℕ → Type 0
GoodRows (Ok mults) = GoodMults mults
GoodRows (Err code) = Unit {0}

abbrev GoodMult : Result CertMult ℕ → Type 0
GoodMult (Ok m) = IsMultWord m × MultFits m
GoodMult (Err code) = Unit {0}

with_mult-good : (r : Result CertMult ℕ) (rest : Result (List CertMult) ℕ) → GoodMult r → GoodRows rest → GoodRows (with_mult r rest)
with_mult-good (Ok m) (Ok mults) here good = record { words = All-cons IsMultWord m mults here.0 good.words; room = All-cons MultFits m mults here.1 good.room }
with_mult-good (Ok m) (Err code) here good = tt
with_mult-good (Err fault) (Ok mults) here good = tt
with_mult-good (Err fault) (Err code) here good = tt

row-good : (name : List ℕ) (r : Result ℚ NumFault) → IsWord name → FitsOk r → GoodMult (row_mult name r)
row-good name (Ok v) w fits = (w, fits)
row-good name (Err fault) w fits = tt

abbrev pub HasBits : Result ℕ ℕ → Type 0
HasBits (Ok k) = k < 2 ^ 64
HasBits (Err code) = Unit {0}

pub number-good : (word : List ℕ) → HasBits (number_of_cut word)
number-good word = by (are_plain_digits word) (nat_lt (value_of word) (2 ^ 64)) refl
  where
    below : (a b : ℕ) → nat_lt a b ≡ true → a < b
    below a b e = grind (arith, nat_tests)

    by : (a b : Bool) → nat_lt (value_of word) (2 ^ 64) ≡ b → HasBits (if a then (if b then Ok (value_of word) else Err 5) else Err 4)
    by true true e = below (value_of word) (2 ^ 64) e
    by true false e = tt
    by false b e = tt

cut_mult-good : (k : Result ℕ ℕ) (r : Result ℚ NumFault) → HasBits k → FitsOk r → GoodMult (cut_mult k r)
cut_mult-good (Ok k) (Ok v) few fits = (tt, (fits, few))
cut_mult-good (Ok k) (Err fault) few fits = tt
cut_mult-good (Err code) (Ok v) few fits = tt
cut_mult-good (Err code) (Err fault) few fits = tt

mult-good : (key word number : List ℕ) → IsWord word → GoodMult (mult_in key word number)
mult-good key word number w =
    by (bytes_eq key (codes "row")) (bytes_eq key (codes "cut")) (row-good word (spelled_number number) w (number-fits number)) (cut_mult-good (number_of_cut word) (spelled_number number) (number-good word) (number-fits number))
  where
    by : (a b : Bool) → GoodMult (row_mult word (spelled_number number)) → GoodMult (cut_mult (number_of_cut word) (spelled_number number)) →
        GoodMult (if a then row_mult word (spelled_number number) else if b then cut_mult (number_of_cut word) (spelled_number number) else Err 3)
    by true b first second = first
    by false true first second = second
    by false false first second = tt

mults-good : (words : List (List ℕ)) → All IsWord words → GoodRows (mults_in words)
mults-good [] all = record { words = All-nil IsMultWord; room = All-nil MultFits }
mults-good (a ∷ []) all = tt
mults-good (a ∷ b ∷ []) all = tt
mults-good (key ∷ word ∷ number ∷ more) all =
    let rest = All-tail IsWord key (word ∷ number ∷ more) all in
    let last = All-tail IsWord number more (All-tail IsWord word (number ∷ more) rest) in
    with_mult-good (mult_in key word number) (mults_in more) (mult-good key word number (All-head IsWord word (number ∷ more) rest)) (mults-good more last)

-- ---- cuts

abbrev WordLiteral : List ℕ × Bool → Type 0
WordLiteral l = IsWord l.0

abbrev GoodLiteral : Option (List ℕ × Bool) → Type 0
GoodLiteral (Some l) = WordLiteral l
GoodLiteral None = Unit {0}

abbrev GoodLiterals : Result (List (List ℕ × Bool)) ℕ → Type 0
GoodLiterals (Ok literals) = All WordLiteral literals
GoodLiterals (Err code) = Unit {0}

-- what stands behind the first byte of a word of two bytes or more is a word
behind_sign : (sign byte : ℕ) (name : List ℕ) → IsWord (sign ∷ byte ∷ name) → IsWord (byte ∷ name)
behind_sign sign byte name w = record {
  some = omega arith;
  one_line = All-tail (λ b. is_newline b ≡ false) sign (byte ∷ name) w.one_line;
  one_word = All-tail (λ b. is_blank b ≡ false) sign (byte ∷ name) w.one_word;
}

literal-good : (word : List ℕ) → IsWord word → GoodLiteral (literal_in word)
literal-good [] w = tt
literal-good (sign ∷ []) w = tt
literal-good (sign ∷ byte ∷ name) w = by (sign == 43) (sign == 45)
  where
    by : (a b : Bool) → GoodLiteral (option_map (λ plus. (byte ∷ name, plus)) (if a then Some true else if b then Some false else None))
    by true b = behind_sign sign byte name w
    by false true = behind_sign sign byte name w
    by false false = tt

with_literal-good : (l : Option (List ℕ × Bool)) (rest : Result (List (List ℕ × Bool)) ℕ) → GoodLiteral l → GoodLiterals rest → GoodLiterals (with_literal l rest)
with_literal-good (Some l) (Ok literals) here good = All-cons WordLiteral l literals here good
with_literal-good (Some l) (Err code) here good = tt
with_literal-good None (Ok literals) here good = tt
with_literal-good None (Err code) here good = tt

literals-good : (words : List (List ℕ)) → All IsWord words → GoodLiterals (literals_in words)
literals-good [] all = All-nil WordLiteral
literals-good (word ∷ words) all = with_literal-good (literal_in word) (literals_in words) (literal-good word (All-head IsWord word words all)) (literals-good words (All-tail IsWord word words all))

cut_by-good : (row : List ℕ) (s : Option Side) (r : Result (List (List ℕ × Bool)) ℕ) → IsWord row → GoodLiterals r → Good (as_cut (cut_by row s r))
cut_by-good row None (Ok literals) w good = tt
cut_by-good row None (Err code) w good = tt
cut_by-good row (Some s) (Err code) w good = tt
cut_by-good row (Some s) (Ok []) w good = tt
cut_by-good row (Some s) (Ok (l ∷ literals)) w good = record { row = w; literals = good; some = omega arith }

cut-good : (words : List (List ℕ)) → All IsWord words → Good (as_cut (cut_line_in words))
cut-good [] all = tt
cut-good (row ∷ []) all = tt
cut-good (row ∷ side ∷ literals) all =
    cut_by-good row (side_of_word side) (literals_in literals) (All-head IsWord row (side ∷ literals) all) (literals-good literals (All-tail IsWord side literals (All-tail IsWord row (side ∷ literals) all)))

-- ---- statements

cert-good : (words : List (List ℕ)) → Good (cert_says words)
cert-good [] = tt
cert-good (version ∷ []) = by (bytes_eq version (codes "1"))
  where
    by : (b : Bool) → Good (if b then Ok says.Header else Err 3)
    by true = tt
    by false = tt
cert-good (a ∷ b ∷ more) = tt

claimed-good : (r : Result ℚ NumFault) → FitsOk r → Good (claimed r)
claimed-good (Ok v) fits = record { room = fits; gap = tt }
claimed-good (Err fault) fits = tt

gap-good : (g : ℚ) (r : Result ℚ NumFault) → is_gap g ≡ true → Fits g → FitsOk r → Good (gap_claimed g r)
gap-good g (Ok v) e gap fits = record { room = (gap, fits); gap = (rational_le-decides (int (pos 0)) g).0 e }
gap-good g (Err fault) e gap fits = tt

within-good : (g r : Result ℚ NumFault) → FitsOk g → FitsOk r → Good (within_claimed g r)
within-good (Ok g) r gap fits = by (is_gap g) refl
  where
    by : (b : Bool) → is_gap g ≡ b → Good (if b then gap_claimed g r else Err 3)
    by true e = gap-good g r e gap fits
    by false e = tt
within-good (Err fault) (Ok v) gap fits = tt
within-good (Err fault) (Err other) gap fits = tt

claim-good : (words : List (List ℕ)) → Good (claim_says words)
claim-good [] = tt
claim-good (kind ∷ []) = by (bytes_eq kind (codes "infeasible")) (bytes_eq kind (codes "unbounded"))
  where
    by : (a b : Bool) → Good (if a then Ok (says.Claims Infeasible) else if b then Ok (says.Claims Unbounded) else Err 3)
    by true b = record { room = tt; gap = tt }
    by false true = record { room = tt; gap = tt }
    by false false = tt
claim-good (kind ∷ number ∷ []) = by (bytes_eq kind (codes "optimal")) (claimed-good (spelled_number number) (number-fits number))
  where
    by : (b : Bool) → Good (claimed (spelled_number number)) → Good (if b then claimed (spelled_number number) else Err 3)
    by true good = good
    by false good = tt
claim-good (kind ∷ gap ∷ number ∷ []) = by (bytes_eq kind (codes "within")) (within-good (spelled_number gap) (spelled_number number) (number-fits gap) (number-fits number))
  where
    by : (b : Bool) → Good (within_claimed (spelled_number gap) (spelled_number number)) → Good (if b then within_claimed (spelled_number gap) (spelled_number number) else Err 3)
    by true good = good
    by false good = tt
claim-good (a ∷ b ∷ c ∷ d ∷ more) = tt

point-good : (r : Result Named ℕ) → GoodOk r → Good (as_point r)
point-good (Ok named) good = good
point-good (Err code) good = tt

next_narrow : (v : ℤ) → IsNarrow v → int_eq v (pos (2 ^ 127 - 1)) ≡ false → IsNarrow (v +ℤ pos 1)
next_narrow v narrow e =
    let apart : ¬ (v ≡ pos (2 ^ 127 - 1)) = λ same. let f : false ≡ true = sym e ∙ (Decides-int_eq v (pos (2 ^ 127 - 1))).1 same in cc in
    omega (arith, ints, narrow, apart)

split-good : (name : List ℕ) (r : Result ℚ NumFault) → IsWord name → FitsOk r → Good (split_at name r)
split-good name (Err fault) w fits = tt
split-good name (Ok x) w fits = by (is_whole x) (int_eq x.num (pos (2 ^ 127 - 1))) refl
  where
    by : (a b : Bool) → int_eq x.num (pos (2 ^ 127 - 1)) ≡ b → Good (if a then if b then Err 5 else Ok (says.Node (node.Split name x.num)) else Err 3)
    by true true e = tt
    by true false e = record { narrow = (fits.numerator, next_narrow x.num fits.numerator e); words = w; room = tt }
    by false b e = tt

split_says-good : (words : List (List ℕ)) → All IsWord words → Good (split_says words)
split_says-good [] all = tt
split_says-good (name ∷ []) all = tt
split_says-good (name ∷ number ∷ []) all = split-good name (spelled_number number) (All-head IsWord name (number ∷ []) all) (number-fits number)
split_says-good (a ∷ b ∷ c ∷ more) all = tt

bound-good : (r : Result (List CertMult) ℕ) → GoodRows r → Good (as_leaf node.Bound r)
bound-good (Ok mults) good = record { narrow = tt; words = good.words; room = good.room }
bound-good (Err code) good = tt

farkas-good : (r : Result (List CertMult) ℕ) → GoodRows r → Good (as_leaf node.Farkas r)
farkas-good (Ok mults) good = record { narrow = tt; words = good.words; room = good.room }
farkas-good (Err code) good = tt

empty-good : (words : List (List ℕ)) → Good (empty_says words)
empty-good [] = record { narrow = tt; words = tt; room = tt }
empty-good (a ∷ more) = tt

leaf-good : (words : List (List ℕ)) → All IsWord words → Good (leaf_says words)
leaf-good [] all = tt
leaf-good (kind ∷ words) all =
    let mults = mults-good words (All-tail IsWord kind words all) in
    by (bytes_eq kind (codes "bound")) (bytes_eq kind (codes "farkas")) (bytes_eq kind (codes "empty")) (bound-good (mults_in words) mults) (farkas-good (mults_in words) mults) (empty-good words)
  where
    by : (a b c : Bool) → Good (as_leaf node.Bound (mults_in words)) → Good (as_leaf node.Farkas (mults_in words)) → Good (empty_says words) →
        Good (if a then as_leaf node.Bound (mults_in words) else if b then as_leaf node.Farkas (mults_in words) else if c then empty_says words else Err 3)
    by true b c first second third = first
    by false true c first second third = second
    by false false true first second third = third
    by false false false first second third = tt

end-good : (words : List (List ℕ)) → Good (end_says words)
end-good [] = tt
end-good (a ∷ more) = tt

ray-good : (r : Result Named ℕ) → GoodOk r → Good (as_ray r)
ray-good (Ok named) good = good
ray-good (Err code) good = tt

word-good : (known : LineWord) (words : List (List ℕ)) → All IsWord words → Good (word_says known words)
word-good word.Cert words all = cert-good words
word-good word.Claim words all = claim-good words
word-good word.Point words all = point-good (named_in words) (named-good words all)
word-good word.Split words all = split_says-good words all
word-good word.Leaf words all = leaf-good words all
word-good word.End words all = end-good words
word-good word.Ray words all = ray-good (named_in words) (named-good words all)
word-good word.Cut words all = cut-good words all
word-good word.Foreign words all = tt

known-good : (known : Option LineWord) (blank : Bool) (words : List (List ℕ)) → All IsWord words → Good (known_says known blank words)
known-good None blank words all = tt
known-good (Some known) true words all = tt
known-good (Some known) false words all = word-good known words all

words-good : (blank : Bool) (words : List (List ℕ)) → All IsWord words → Good (words_say blank words)
words-good blank [] all = tt
words-good blank (first ∷ words) all = known-good (word_of first) blank words (All-tail IsWord first words all)

-- ---- lines

pub line-good : (line : List ℕ) → HasNoNewline line → Good (line_says line)
unfolding line_says
line-good line h = by (begins_blank line) (words-good (ends_blank line) (words_of line) (words-are line h))
  where
    by : (b : Bool) → Good (words_say (ends_blank line) (words_of line)) → Good (if b then Err 2 else words_say (ends_blank line) (words_of line))
    by true good = tt
    by false good = good
