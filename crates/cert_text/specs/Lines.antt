-- The lines of a certificate's text, and what each says by itself, or the least code of its own faults:
--     2   its first word is unknown, or it begins with a blank
--     3   its form: the words behind the first one, a blank at its end, a split's number that is not whole, or a gap below 0
--     4   no number stands where one is due
--     5   a number is too wide, or a split's is 2^127 - 1
use Rattle.std.specs.Prelude.{ℕ, ◌-◌, ◌^◌, min, Bool, ◌||◌, if◌then◌else◌, ◌==◌, List, [], ◌∷◌, length, get_or, codes, pos, bytes_eq, Option, None, Some, Result, Ok, Err}
use Rattle.std.specs.Ordering.{int_eq}
use Rattle.text_lines.specs.Words.{is_blank, words_of}
use Rattle.frac128.specs.Rational.{ℚ, den, int, rational_le}
use Rattle.frac_text.specs.declared.parsing.NumFault.{NumFault}
use Rattle.lp_model.specs.Edits.{Named}
use Rattle.cert_text.specs.declared.cert.Claim.TheVariants.{Optimal, Within, Infeasible, Unbounded}
use Rattle.cert_text.specs.declared.cert.CertMult.{CertMult}
use Rattle.cert_text.specs.declared.cert.NamedCut.{NamedCut}
use Rattle.cert_text.specs.declared.cert.CertNode.{CertNode}
use Rattle.cert_text.specs.declared.cert.CertNode.TheVariants.{Split, Bound, Farkas, Empty}
use Rattle.cert_text.specs.declared.line.LineWord.{LineWord}
use Rattle.cert_text.specs.declared.line.LineWord.TheVariants as word
use Rattle.cert_text.specs.declared.line.Statement.{Statement}
use Rattle.cert_text.specs.declared.line.Statement.TheVariants as says
use Rattle.frac_text.specs.Parsing.{spelled_number}
use Rattle.cert_text.specs.Numbers.{number_code, least_code}
use Rattle.cert_text.specs.Mults.{mults_in}
use Rattle.cert_text.specs.CutLines.{cut_line_in}

-- ---- blanks at the ends

-- the first byte is a blank, the last one is
abbrev pub begins_blank : List ℕ → Bool
begins_blank line = is_blank (get_or line 0 0)

abbrev pub ends_blank : List ℕ → Bool
ends_blank line = is_blank (get_or line (length line - 1) 0)

-- ---- numbers beside names

abbrev pub with_named : List ℕ → ℚ → Result Named ℕ → Result Named ℕ
with_named name x (Ok named) = Ok ((name, x) ∷ named)
with_named name x (Err code) = Err code

-- a number beside a name, in front of others
abbrev pub beside : List ℕ → Result ℚ NumFault → Result Named ℕ → Result Named ℕ
beside name (Ok x) rest = with_named name x rest
beside name (Err fault) rest = Err (least_code (number_code fault) rest)

-- `NAME V` any number of times
abbrev pub named_in : List (List ℕ) → Result Named ℕ
named_in [] = Ok []
named_in (name ∷ []) = Err 3
named_in (name ∷ number ∷ more) = beside name (spelled_number number) (named_in more)

-- ---- what the words behind the first one say

-- `cert 1`
abbrev pub cert_says : List (List ℕ) → Result Statement ℕ
cert_says (version ∷ []) = if bytes_eq version (codes "1") then Ok says.Header else Err 3
cert_says words = Err 3

abbrev pub claimed : Result ℚ NumFault → Result Statement ℕ
claimed (Ok v) = Ok (says.Claims (Optimal v))
claimed (Err fault) = Err (number_code fault)

-- `claim infeasible` and `claim unbounded`
abbrev pub claim_word : List ℕ → Result Statement ℕ
claim_word kind =
    if bytes_eq kind (codes "infeasible") then Ok (says.Claims Infeasible)
    else if bytes_eq kind (codes "unbounded") then Ok (says.Claims Unbounded)
    else Err 3

-- a gap is at least 0
abbrev pub is_gap : ℚ → Bool
is_gap g = rational_le (int (pos 0)) g

-- a value with a gap
abbrev pub gap_claimed : ℚ → Result ℚ NumFault → Result Statement ℕ
gap_claimed g (Ok v) = Ok (says.Claims (Within g v))
gap_claimed g (Err fault) = Err (number_code fault)

-- a gap and a value
abbrev pub within_claimed : Result ℚ NumFault → Result ℚ NumFault → Result Statement ℕ
within_claimed (Ok g) value = if is_gap g then gap_claimed g value else Err 3
within_claimed (Err fault) (Ok v) = Err (number_code fault)
within_claimed (Err fault) (Err other) = Err (min (number_code fault) (number_code other))

-- these, `claim optimal V` and `claim within G V`
abbrev pub claim_says : List (List ℕ) → Result Statement ℕ
claim_says (kind ∷ []) = claim_word kind
claim_says (kind ∷ number ∷ []) = if bytes_eq kind (codes "optimal") then claimed (spelled_number number) else Err 3
claim_says (kind ∷ gap ∷ number ∷ []) = if bytes_eq kind (codes "within") then within_claimed (spelled_number gap) (spelled_number number) else Err 3
claim_says words = Err 3

abbrev pub as_point : Result Named ℕ → Result Statement ℕ
as_point (Ok named) = Ok (says.Point named)
as_point (Err code) = Err code

-- `ray [NAME V]..`
abbrev pub as_ray : Result Named ℕ → Result Statement ℕ
as_ray (Ok named) = Ok (says.Ray named)
as_ray (Err code) = Err code

-- `cut ROW hi LIT..` and `cut ROW lo LIT..`
abbrev pub as_cut : Result NamedCut ℕ → Result Statement ℕ
as_cut (Ok cut) = Ok (says.Cut cut)
as_cut (Err code) = Err code

abbrev pub is_whole : ℚ → Bool
is_whole x = den x == 1

abbrev pub split_at : List ℕ → Result ℚ NumFault → Result Statement ℕ
split_at name (Ok x) = if is_whole x then if int_eq x.num (pos (2 ^ 127 - 1)) then Err 5 else Ok (says.Node (Split name x.num)) else Err 3
split_at name (Err fault) = Err (number_code fault)

-- `split NAME V`
abbrev pub split_says : List (List ℕ) → Result Statement ℕ
split_says (name ∷ number ∷ []) = split_at name (spelled_number number)
split_says words = Err 3

abbrev pub as_leaf : (List CertMult → CertNode) → Result (List CertMult) ℕ → Result Statement ℕ
as_leaf leaf (Ok mults) = Ok (says.Node (leaf mults))
as_leaf leaf (Err code) = Err code

abbrev pub empty_says : List (List ℕ) → Result Statement ℕ
empty_says [] = Ok (says.Node Empty)
empty_says words = Err 3

-- `leaf bound` and `leaf farkas` with multipliers, and `leaf empty`
abbrev pub leaf_says : List (List ℕ) → Result Statement ℕ
leaf_says [] = Err 3
leaf_says (kind ∷ words) =
    if bytes_eq kind (codes "bound") then as_leaf Bound (mults_in words)
    else if bytes_eq kind (codes "farkas") then as_leaf Farkas (mults_in words)
    else if bytes_eq kind (codes "empty") then empty_says words
    else Err 3

abbrev pub end_says : List (List ℕ) → Result Statement ℕ
end_says [] = Ok says.End
end_says words = Err 3

-- ---- what a line says

-- the first words from `end` on
abbrev pub word_behind_leaf : List ℕ → Option LineWord
word_behind_leaf first =
    if bytes_eq first (codes "end") then Some word.End
    else if bytes_eq first (codes "ray") then Some word.Ray
    else if bytes_eq first (codes "cut") then Some word.Cut
    else if bytes_eq first (codes "front") || bytes_eq first (codes "outcome") || bytes_eq first (codes "tree") then Some word.Foreign
    else None

-- words of certificates of other kinds stand in none of this one
abbrev pub word_of : List ℕ → Option LineWord
word_of first =
    if bytes_eq first (codes "cert") then Some word.Cert
    else if bytes_eq first (codes "claim") then Some word.Claim
    else if bytes_eq first (codes "point") then Some word.Point
    else if bytes_eq first (codes "split") then Some word.Split
    else if bytes_eq first (codes "leaf") then Some word.Leaf
    else if bytes_eq first (codes "end") then Some word.End
    else if bytes_eq first (codes "ray") then Some word.Ray
    else if bytes_eq first (codes "cut") then Some word.Cut
    else if bytes_eq first (codes "front") || bytes_eq first (codes "outcome") || bytes_eq first (codes "tree") then Some word.Foreign
    else None

abbrev pub word_says : LineWord → List (List ℕ) → Result Statement ℕ
word_says word.Cert words = cert_says words
word_says word.Claim words = claim_says words
word_says word.Point words = as_point (named_in words)
word_says word.Split words = split_says words
word_says word.Leaf words = leaf_says words
word_says word.End words = end_says words
word_says word.Ray words = as_ray (named_in words)
word_says word.Cut words = as_cut (cut_line_in words)
word_says word.Foreign words = Ok says.Foreign

abbrev pub known_says : Option LineWord → Bool → List (List ℕ) → Result Statement ℕ
known_says None blank words = Err 2
known_says (Some known) blank words = if blank then Err 3 else word_says known words

abbrev pub words_say : Bool → List (List ℕ) → Result Statement ℕ
words_say blank [] = Err 2
words_say blank (first ∷ words) = known_says (word_of first) blank words

unfoldable pub line_says : List ℕ → Result Statement ℕ
line_says line = if begins_blank line then Err 2 else words_say (ends_blank line) (words_of line)
