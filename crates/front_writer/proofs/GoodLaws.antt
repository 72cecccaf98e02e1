-- What a line of a text says has names that are words, and numbers that have room.
use Rattle.std.proofs.Common.{◌≡◌, ℕ, Bool, true, false, List, [], ◌∷◌, ◌++◌, map, get_or, ap, subst, if◌then◌else◌}
use Rattle.std.specs.Prelude.{ℤ, All, codes, bytes_eq, Option, Some, None, Result, Ok, Err}
use Rattle.std.proofs.lemmas.List.Elements.{All-nil, All-cons, All-head, All-tail}
use Rattle.frac128.specs.Rational.{ℚ}
use Rattle.frac128.specs.Range.{IsNarrow}
use Rattle.frac_text.specs.declared.parsing.NumFault.{NumFault}
use Rattle.frac_text.specs.Parsing.{spelled_number}
use Rattle.text_lines.specs.Lines.{HasNoNewline}
use Rattle.text_lines.specs.Words.{words_of}
use Rattle.cert_text.specs.declared.cert.NamedCut.{NamedCut}
use Rattle.cert_text.specs.declared.cert.CertNode.{CertNode}
use Rattle.cert_text.specs.declared.line.Statement.{Statement}
use Rattle.cert_text.specs.declared.line.Statement.TheVariants as common
use Rattle.cert_text.specs.Mults.{number_of_cut}
use Rattle.cert_text.specs.Lines.{begins_blank, ends_blank, is_whole, line_says}
use Rattle.cert_text.specs.Whole.{IsNarrowNode}
use Rattle.front_text.specs.declared.front.TreeOf.TheVariants.{Least1, Least2}
use Rattle.front_text.specs.declared.front.FrontTree.{FrontTree}
use Rattle.front_text.specs.declared.front.FrontOutcome.{FrontOutcome}
use Rattle.front_text.specs.declared.front.FrontCert.{FrontCert}
use Rattle.front_text.specs.declared.front_line.FrontWord.{FrontWord}
use Rattle.front_text.specs.declared.front_line.FrontWord.TheVariants as word
use Rattle.front_text.specs.declared.front_line.FrontStatement.{FrontStatement}
use Rattle.front_text.specs.declared.front_line.FrontStatement.TheVariants as says
use Rattle.front_text.specs.Lines.{header_says, whole_number, two_values, outcome_says, as_gap, tree_says, front_word_says, front_word_of, common_says, front_known_says, front_words_say, front_line_says}
use Rattle.front_text.specs.Statements.{outcome_statements, tree_statements, statements_of_trees, front_statements}
use Rattle.cert_writer.specs.CertText.{HasCutWords, HasNodeWords}
use Rattle.cert_writer.specs.Room.{HasNodeRoom}
use Rattle.cert_writer.proofs.FitLaws.{FitsOk, number-fits}
use Rattle.cert_writer.proofs.SaidLaws.{GoodNamed, GoodNode, Good, HasBits, number-good, line-good}
use Rattle.front_writer.specs.FrontWords.{HasOutcomeWords, HasTreeWords}
use Rattle.front_writer.specs.private.FrontRoom.{HasGapRoom, HasOutcomeRoom, HasTreeRoom, HasFrontRoom}
use Rattle.front_writer.proofs.LineLaws.{HasNarrowNodes}

abbrev IsGood : FrontStatement → Type 0
IsGood says.Header = Unit {0}
IsGood (says.Outcome v1 v2) = IsNarrow v1 × IsNarrow v2
IsGood (says.Point named) = GoodNamed named
IsGood (says.Tree of) = HasGapRoom of
IsGood (says.Cut cut) = HasCutWords cut
IsGood (says.Node n) = GoodNode n
IsGood says.End = Unit {0}
IsGood says.Foreign = Unit {0}

abbrev IsGoodSaid : Result FrontStatement ℕ → Type 0
IsGoodSaid (Ok x) = IsGood x
IsGoodSaid (Err code) = Unit {0}

-- ---- words

common-good : (r : Result Statement ℕ) → Good r → IsGoodSaid (common_says r)
common-good (Err code) good = tt
common-good (Ok common.Header) good = tt
common-good (Ok (common.Claims claim)) good = tt
common-good (Ok (common.Point named)) good = good
common-good (Ok (common.Node n)) good = good
common-good (Ok common.End) good = tt
common-good (Ok (common.Ray named)) good = tt
common-good (Ok (common.Cut cut)) good = good
common-good (Ok common.Foreign) good = tt

header-good : (words : List (List ℕ)) → IsGoodSaid (header_says words)
header-good [] = tt
header-good (version ∷ []) = by (bytes_eq version (codes "1"))
  where
    by : (b : Bool) → IsGoodSaid (if b then Ok says.Header else Err 3)
    by true = tt
    by false = tt
header-good (a ∷ b ∷ more) = tt

abbrev IsNarrowOk : Result ℤ ℕ → Type 0
IsNarrowOk (Ok v) = IsNarrow v
IsNarrowOk (Err code) = Unit {0}

whole-good : (r : Result ℚ NumFault) → FitsOk r → IsNarrowOk (whole_number r)
whole-good (Err fault) fits = tt
whole-good (Ok x) fits = by (is_whole x)
  where
    by : (b : Bool) → IsNarrowOk (if b then Ok x.num else Err 3)
    by true = fits.numerator
    by false = tt

values-good : (first second : Result ℤ ℕ) → IsNarrowOk first → IsNarrowOk second → IsGoodSaid (two_values first second)
values-good (Ok v1) (Ok v2) a b = (a, b)
values-good (Ok v1) (Err code) a b = tt
values-good (Err code) (Ok v2) a b = tt
values-good (Err code) (Err other) a b = tt

outcome-good : (words : List (List ℕ)) → IsGoodSaid (outcome_says words)
outcome-good [] = tt
outcome-good (first ∷ []) = tt
outcome-good (first ∷ second ∷ []) =
    values-good (whole_number (spelled_number first)) (whole_number (spelled_number second)) (whole-good (spelled_number first) (number-fits first)) (whole-good (spelled_number second) (number-fits second))
outcome-good (a ∷ b ∷ c ∷ more) = tt

gap-good : (r : Result ℕ ℕ) → HasBits r → IsGoodSaid (as_gap r)
gap-good (Ok number) few = few
gap-good (Err code) few = tt

tree-good : (words : List (List ℕ)) → IsGoodSaid (tree_says words)
tree-good [] = tt
tree-good (kind ∷ []) = by (bytes_eq kind (codes "least1")) (bytes_eq kind (codes "least2"))
  where
    by : (a b : Bool) → IsGoodSaid (if a then Ok (says.Tree Least1) else if b then Ok (says.Tree Least2) else Err 3)
    by true b = tt
    by false true = tt
    by false false = tt
tree-good (kind ∷ number ∷ []) = by (bytes_eq kind (codes "gap")) (gap-good (number_of_cut number) (number-good number))
  where
    by : (b : Bool) → IsGoodSaid (as_gap (number_of_cut number)) → IsGoodSaid (if b then as_gap (number_of_cut number) else Err 3)
    by true good = good
    by false good = tt
tree-good (a ∷ b ∷ c ∷ more) = tt

own-good : (known : FrontWord) (words : List (List ℕ)) → IsGoodSaid (front_word_says known words)
own-good word.Front words = header-good words
own-good word.Outcome words = outcome-good words
own-good word.Tree words = tree-good words
own-good word.Foreign words = tt

known-good : (known : Option FrontWord) (line : List ℕ) (words : List (List ℕ)) → HasNoNewline line → IsGoodSaid (front_known_says known line words)
known-good None line words h = common-good (line_says line) (line-good line h)
known-good (Some known) line words h = by (begins_blank line) (ends_blank line)
  where
    by : (a b : Bool) → IsGoodSaid (if a then Err 2 else if b then Err 3 else front_word_says known words)
    by true b = tt
    by false true = tt
    by false false = own-good known words

words-good : (line : List ℕ) (words : List (List ℕ)) → HasNoNewline line → IsGoodSaid (front_words_say line words)
words-good line [] h = common-good (line_says line) (line-good line h)
words-good line (first ∷ words) h = known-good (front_word_of first) line words h

-- ---- lines

front-line-good : (line : List ℕ) → HasNoNewline line → IsGoodSaid (front_line_says line)
unfolding front_line_says
front-line-good line h = words-good line (words_of line) h

-- the statements that lines say
lines-good : (lines : List (List ℕ)) (xs : List FrontStatement) → All HasNoNewline lines → map front_line_says lines ≡ map Ok xs → All IsGood xs
lines-good [] [] one_line say = All-nil IsGood
lines-good [] (x ∷ xs) one_line say = absurd cc
lines-good (line ∷ lines) [] one_line say = absurd cc
lines-good (line ∷ lines) (x ∷ xs) one_line say =
    let here : front_line_says line ≡ Ok x = ap (λ (l : List (Result FrontStatement ℕ)). get_or l 0 (Err 0)) say in
    All-cons IsGood x xs (subst IsGoodSaid here (front-line-good line (All-head HasNoNewline line lines one_line)))
    (lines-good lines xs (All-tail HasNoNewline line lines one_line) (ap rest_of say))
  where
    rest_of : List (Result FrontStatement ℕ) → List (Result FrontStatement ℕ)
    rest_of [] = []
    rest_of (r ∷ more) = more

-- ---- certificates

split_all : {A : Type 0} (P : A → Type 0) (xs ys : List A) → All P (xs ++ ys) → All P xs × All P ys
split_all P [] ys all = (All-nil P, all)
split_all P (x ∷ xs) ys all = let rest = split_all P xs ys (All-tail P x (xs ++ ys) all) in (All-cons P x xs (All-head P x (xs ++ ys) all) rest.0, rest.1)

record GoodOutcomes (outcomes : List FrontOutcome) : Type 0 where
  words : All HasOutcomeWords outcomes
  room : All HasOutcomeRoom outcomes

outcomes-good : (outcomes : List FrontOutcome) → All IsGood (outcome_statements outcomes) → GoodOutcomes outcomes
outcomes-good [] all = record { words = All-nil HasOutcomeWords; room = All-nil HasOutcomeRoom }
outcomes-good (o ∷ outcomes) all =
    let values = All-head IsGood (says.Outcome o.v1 o.v2) (says.Point o.point ∷ outcome_statements outcomes) all in
    let behind = All-tail IsGood (says.Outcome o.v1 o.v2) (says.Point o.point ∷ outcome_statements outcomes) all in
    let point = All-head IsGood (says.Point o.point) (outcome_statements outcomes) behind in
    let rest = outcomes-good outcomes (All-tail IsGood (says.Point o.point) (outcome_statements outcomes) behind) in
    record {
      words = All-cons HasOutcomeWords o outcomes (record { first = values.0; second = values.1; point = point.words }) rest.words;
      room = All-cons HasOutcomeRoom o outcomes point.room rest.room;
    }

cuts-good : (cuts : List NamedCut) → All IsGood (map says.Cut cuts) → All HasCutWords cuts
cuts-good [] all = All-nil HasCutWords
cuts-good (cut ∷ cuts) all = All-cons HasCutWords cut cuts (All-head IsGood (says.Cut cut) (map says.Cut cuts) all) (cuts-good cuts (All-tail IsGood (says.Cut cut) (map says.Cut cuts) all))

record GoodNodes (nodes : List CertNode) : Type 0 where
  narrow : All IsNarrowNode nodes
  words : All HasNodeWords nodes
  room : All HasNodeRoom nodes

nodes-good : (nodes : List CertNode) → All IsGood (map says.Node nodes) → GoodNodes nodes
nodes-good [] all = record { narrow = All-nil IsNarrowNode; words = All-nil HasNodeWords; room = All-nil HasNodeRoom }
nodes-good (n ∷ nodes) all =
    let here = All-head IsGood (says.Node n) (map says.Node nodes) all in
    let rest = nodes-good nodes (All-tail IsGood (says.Node n) (map says.Node nodes) all) in
    record {
      narrow = All-cons IsNarrowNode n nodes here.narrow rest.narrow;
      words = All-cons HasNodeWords n nodes here.words rest.words;
      room = All-cons HasNodeRoom n nodes here.room rest.room;
    }

record GoodTrees (trees : List FrontTree) : Type 0 where
  narrow : All HasNarrowNodes trees
  words : All HasTreeWords trees
  room : All HasTreeRoom trees

trees-good : (trees : List FrontTree) → All IsGood (statements_of_trees trees) → GoodTrees trees
trees-good [] all = record { narrow = All-nil HasNarrowNodes; words = All-nil HasTreeWords; room = All-nil HasTreeRoom }
trees-good (tree ∷ trees) all =
    let parts = split_all IsGood (tree_statements tree) (statements_of_trees trees) all in
    let lines = map says.Cut tree.cuts ++ map says.Node tree.nodes in
    let of = All-head IsGood (says.Tree tree.of) lines parts.0 in
    let items = split_all IsGood (map says.Cut tree.cuts) (map says.Node tree.nodes) (All-tail IsGood (says.Tree tree.of) lines parts.0) in
    let nodes = nodes-good tree.nodes items.1 in
    let rest = trees-good trees parts.1 in
    record {
      narrow = All-cons HasNarrowNodes tree trees nodes.narrow rest.narrow;
      words = All-cons HasTreeWords tree trees (record { cuts = cuts-good tree.cuts items.0; nodes = nodes.words }) rest.words;
      room = All-cons HasTreeRoom tree trees (record { of = of; nodes = nodes.room }) rest.room;
    }

-- a certificate whose statements lines say
pub record GoodFront (cert : FrontCert) : Type 0 where
  pub narrow : All HasNarrowNodes cert.trees
  pub outcomes : All HasOutcomeWords cert.outcomes
  pub trees : All HasTreeWords cert.trees
  pub room : HasFrontRoom cert

pub front-good : (lines : List (List ℕ)) (cert : FrontCert) → All HasNoNewline lines → map front_line_says lines ≡ map Ok (front_statements cert) → GoodFront cert
front-good lines cert one_line say =
    let parts = outcome_statements cert.outcomes ++ statements_of_trees cert.trees in
    let all = lines-good lines (front_statements cert) one_line say in
    let behind = split_all IsGood parts (says.End ∷ []) (All-tail IsGood says.Header (parts ++ says.End ∷ []) all) in
    let both = split_all IsGood (outcome_statements cert.outcomes) (statements_of_trees cert.trees) behind.0 in
    let outcomes = outcomes-good cert.outcomes both.0 in
    let trees = trees-good cert.trees both.1 in
    record { narrow = trees.narrow; outcomes = outcomes.words; trees = trees.words; room = record { outcomes = outcomes.room; trees = trees.room } }
