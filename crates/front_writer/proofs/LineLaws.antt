-- What the lines of a front's printed certificate say.
use Rattle.std.proofs.Common.{◌≡◌, ℕ, Bool, List, [], ◌∷◌, ◌++◌, map, refl, sym, ap, ◌∙◌, arith, if◌then◌else◌}
use Rattle.std.specs.Prelude.{ℤ, All, codes, Option, Some, None, Ok, Err}
use Rattle.std.specs.Fmt.{decimal, signed_decimal}
use Rattle.std.proofs.lemmas.List.{map-append}
use Rattle.std.proofs.lemmas.List.Elements.{All-nil, All-cons, All-head, All-tail, All-append}
use Rattle.frac128.specs.Rational.{int}
use Rattle.frac128.specs.Range.{IsNarrow}
use Rattle.frac_text.specs.Parsing.{spelled_number}
use Rattle.text_lines.specs.Words.{IsWord, Words}
use Rattle.text_lines.specs.Lines.{line_bytes}
use Rattle.cert_text.specs.declared.cert.NamedCut.{NamedCut}
use Rattle.cert_text.specs.declared.cert.CertNode.{CertNode}
use Rattle.cert_text.specs.declared.cert.CertNode.TheVariants as node
use Rattle.cert_text.specs.declared.line.Statement.{Statement}
use Rattle.cert_text.specs.declared.line.Statement.TheVariants as common
use Rattle.cert_text.specs.Lines.{ends_blank}
use Rattle.cert_text.specs.Whole.{IsNarrowNode}
use Rattle.front_text.specs.declared.front.TreeOf.{TreeOf}
use Rattle.front_text.specs.declared.front.TreeOf.TheVariants.{Least1, Least2, Gap}
use Rattle.front_text.specs.declared.front.FrontTree.{FrontTree}
use Rattle.front_text.specs.declared.front.FrontOutcome.{FrontOutcome}
use Rattle.front_text.specs.declared.front.FrontCert.{FrontCert}
use Rattle.front_text.specs.declared.front_line.FrontWord.{FrontWord}
use Rattle.front_text.specs.declared.front_line.FrontWord.TheVariants as word
use Rattle.front_text.specs.declared.front_line.FrontStatement.{FrontStatement}
use Rattle.front_text.specs.declared.front_line.FrontStatement.TheVariants as says
use Rattle.front_text.specs.Lines.{whole_number, two_values, as_gap, front_word_says, front_word_of, common_statement, common_says, front_known_says, front_words_say, front_line_says}
use Rattle.front_text.specs.Statements.{outcome_statements, tree_statements, statements_of_trees, front_statements}
use Rattle.cert_writer.specs.CertText.{named_words, cut_words, node_words, line_text, HasCutWords, HasNodeWords}
use Rattle.cert_writer.specs.Room.{HasNodeRoom}
use Rattle.cert_writer.proofs.WordLaws.{plain_word, decimal_word, cut_number, signed_word, words-there, no-first-blank, no-last-blank, lines-cut}
use Rattle.cert_writer.proofs.PrintedLaws.{Line, two, end_line, point_line, cut_line, node_line, whole_read}
use Rattle.front_writer.specs.FrontWords.{outcome_words, outcome_lines, tree_words, tree_lines, lines_of_trees, front_lines, printed_front, HasOutcomeWords, HasTreeWords, HasFrontWords}
use Rattle.front_writer.specs.private.FrontRoom.{HasGapRoom, HasOutcomeRoom, HasTreeRoom, HasFrontRoom}

-- ---- one line

-- a line of words that says a statement
record FrontLine (words : Words) (x : FrontStatement) : Type 0 where
  are : All IsWord words
  say : front_line_says (line_text words) ≡ Ok x

-- a line that certificates of one value have too
common_line : (first : List ℕ) (words : Words) (x : Statement) → front_word_of first ≡ None → Line (first ∷ words) x → FrontLine (first ∷ words) (common_statement x)
unfolding front_line_says
common_line first words x none l =
    let line = line_text (first ∷ words) in
    let here = All-head IsWord first words l.are in
    let rest = All-tail IsWord first words l.are in
    record {
      are = l.are;
      say = ap (front_words_say line) (words-there first words here rest) ∙ ap (λ (w : Option FrontWord). front_known_says w line words) none ∙ ap common_says l.say;
    }

-- a line that only certificates of fronts have
own_line : (first : List ℕ) (words : Words) (known : FrontWord) (x : FrontStatement) → front_word_of first ≡ Some known → IsWord first → All IsWord words → front_word_says known words ≡ Ok x → FrontLine (first ∷ words) x
unfolding front_line_says
own_line first words known x is here rest said =
    let line = line_text (first ∷ words) in
    record {
      are = All-cons IsWord first words here rest;
      say =
          ap (front_words_say line) (words-there first words here rest)
          ∙ ap (λ (w : Option FrontWord). front_known_says w line words) is
          ∙ ap (λ (b : Bool). if b then Err 2 else if ends_blank line then Err 3 else front_word_says known words) (no-first-blank first words here)
          ∙ ap (λ (b : Bool). if b then Err 3 else front_word_says known words) (no-last-blank first words here rest)
          ∙ said;
    }

header_line : FrontLine (codes "front" ∷ codes "1" ∷ []) says.Header
header_line = own_line (codes "front") (codes "1" ∷ []) word.Front says.Header refl (plain_word (codes "front") refl) (All-cons IsWord (codes "1") [] (plain_word (codes "1") refl) (All-nil IsWord)) refl

whole_value : (v : ℤ) → IsNarrow v → whole_number (spelled_number (signed_decimal v)) ≡ Ok v
unfolding int
whole_value v narrow = ap whole_number (whole_read v narrow)

values_line : (v1 v2 : ℤ) → IsNarrow v1 → IsNarrow v2 → FrontLine (outcome_words v1 v2) (says.Outcome v1 v2)
values_line v1 v2 first second =
    own_line (codes "outcome") (signed_decimal v1 ∷ signed_decimal v2 ∷ []) word.Outcome (says.Outcome v1 v2) refl (plain_word (codes "outcome") refl) (two (signed_decimal v1) (signed_decimal v2) (signed_word v1 first) (signed_word v2 second))
    (λ i. two_values (whole_value v1 first i) (whole_value v2 second i))

of_line : (of : TreeOf) → HasGapRoom of → FrontLine (tree_words of) (says.Tree of)
of_line Least1 room =
    own_line (codes "tree") (codes "least1" ∷ []) word.Tree (says.Tree Least1) refl (plain_word (codes "tree") refl) (All-cons IsWord (codes "least1") [] (plain_word (codes "least1") refl) (All-nil IsWord)) refl
of_line Least2 room =
    own_line (codes "tree") (codes "least2" ∷ []) word.Tree (says.Tree Least2) refl (plain_word (codes "tree") refl) (All-cons IsWord (codes "least2") [] (plain_word (codes "least2") refl) (All-nil IsWord)) refl
of_line (Gap number) room =
    own_line (codes "tree") (codes "gap" ∷ decimal number ∷ []) word.Tree (says.Tree (Gap number)) refl (plain_word (codes "tree") refl)
    (two (codes "gap") (decimal number) (plain_word (codes "gap") refl) (decimal_word number (omega (arith, room))))
    (ap as_gap (cut_number number room))

node_says : (n : CertNode) → Line (node_words n) (common.Node n) → FrontLine (node_words n) (says.Node n)
node_says (node.Split col v) l = common_line (codes "split") _ (common.Node (node.Split col v)) refl l
node_says (node.Bound mults) l = common_line (codes "leaf") _ (common.Node (node.Bound mults)) refl l
node_says (node.Farkas mults) l = common_line (codes "leaf") _ (common.Node (node.Farkas mults)) refl l
node_says node.Empty l = common_line (codes "leaf") _ (common.Node node.Empty) refl l

-- ---- all lines

record FrontLines (lines : List Words) (xs : List FrontStatement) : Type 0 where
  are : All (All IsWord) lines
  say : map front_line_says (map line_text lines) ≡ map Ok xs

lines_none : FrontLines [] []
lines_none = record { are = All-nil (All IsWord); say = refl }

lines_cons : (words : Words) (x : FrontStatement) (lines : List Words) (xs : List FrontStatement) → FrontLine words x → FrontLines lines xs → FrontLines (words ∷ lines) (x ∷ xs)
lines_cons words x lines xs line rest = record { are = All-cons (All IsWord) words lines line.are rest.are; say = (λ i. line.say i ∷ rest.say i) }

lines_join : (a b : List Words) (xs ys : List FrontStatement) → FrontLines a xs → FrontLines b ys → FrontLines (a ++ b) (xs ++ ys)
lines_join a b xs ys first second = record {
  are = All-append (All IsWord) a b first.are second.are;
  say =
      ap (map front_line_says) (map-append line_text a b)
      ∙ map-append front_line_says (map line_text a) (map line_text b)
      ∙ (λ i. first.say i ++ second.say i)
      ∙ sym (map-append Ok xs ys);
}

cuts_lines : (cuts : List NamedCut) → All HasCutWords cuts → FrontLines (map cut_words cuts) (map says.Cut cuts)
cuts_lines [] words = lines_none
cuts_lines (cut ∷ cuts) words =
    lines_cons (cut_words cut) (says.Cut cut) (map cut_words cuts) (map says.Cut cuts) (common_line (codes "cut") _ (common.Cut cut) refl (cut_line cut (All-head HasCutWords cut cuts words)))
    (cuts_lines cuts (All-tail HasCutWords cut cuts words))

nodes_lines : (nodes : List CertNode) → All IsNarrowNode nodes → All HasNodeWords nodes → All HasNodeRoom nodes → FrontLines (map node_words nodes) (map says.Node nodes)
nodes_lines [] narrow words room = lines_none
nodes_lines (n ∷ nodes) narrow words room =
    lines_cons (node_words n) (says.Node n) (map node_words nodes) (map says.Node nodes)
    (node_says n (node_line n (All-head IsNarrowNode n nodes narrow) (All-head HasNodeWords n nodes words) (All-head HasNodeRoom n nodes room)))
    (nodes_lines nodes (All-tail IsNarrowNode n nodes narrow) (All-tail HasNodeWords n nodes words) (All-tail HasNodeRoom n nodes room))

-- the splits of a tree have room
abbrev pub HasNarrowNodes : FrontTree → Type 0
HasNarrowNodes tree = All IsNarrowNode tree.nodes

tree_says : (tree : FrontTree) → HasNarrowNodes tree → HasTreeWords tree → HasTreeRoom tree → FrontLines (tree_lines tree) (tree_statements tree)
tree_says tree narrow words room =
    lines_cons (tree_words tree.of) (says.Tree tree.of) (map cut_words tree.cuts ++ map node_words tree.nodes) (map says.Cut tree.cuts ++ map says.Node tree.nodes) (of_line tree.of room.of)
    (lines_join (map cut_words tree.cuts) (map node_words tree.nodes) (map says.Cut tree.cuts) (map says.Node tree.nodes) (cuts_lines tree.cuts words.cuts) (nodes_lines tree.nodes narrow words.nodes room.nodes))

trees_say : (trees : List FrontTree) → All HasNarrowNodes trees → All HasTreeWords trees → All HasTreeRoom trees → FrontLines (lines_of_trees trees) (statements_of_trees trees)
trees_say [] narrow words room = lines_none
trees_say (tree ∷ trees) narrow words room =
    lines_join (tree_lines tree) (lines_of_trees trees) (tree_statements tree) (statements_of_trees trees)
    (tree_says tree (All-head HasNarrowNodes tree trees narrow) (All-head HasTreeWords tree trees words) (All-head HasTreeRoom tree trees room))
    (trees_say trees (All-tail HasNarrowNodes tree trees narrow) (All-tail HasTreeWords tree trees words) (All-tail HasTreeRoom tree trees room))

outcomes_say : (outcomes : List FrontOutcome) → All HasOutcomeWords outcomes → All HasOutcomeRoom outcomes → FrontLines (outcome_lines outcomes) (outcome_statements outcomes)
outcomes_say [] words room = lines_none
outcomes_say (o ∷ outcomes) words room =
    let here = All-head HasOutcomeWords o outcomes words in
    let point = point_line o.point here.point (All-head HasOutcomeRoom o outcomes room) in
    lines_cons (outcome_words o.v1 o.v2) (says.Outcome o.v1 o.v2) ((codes "point" ∷ named_words o.point) ∷ outcome_lines outcomes) (says.Point o.point ∷ outcome_statements outcomes) (values_line o.v1 o.v2 here.first here.second)
    (lines_cons (codes "point" ∷ named_words o.point) (says.Point o.point) (outcome_lines outcomes) (outcome_statements outcomes) (common_line (codes "point") (named_words o.point) (common.Point o.point) refl point)
    (outcomes_say outcomes (All-tail HasOutcomeWords o outcomes words) (All-tail HasOutcomeRoom o outcomes room)))

-- the lines of a printed certificate say its statements one by one
pub printed_says : (cert : FrontCert) → All HasNarrowNodes cert.trees → HasFrontWords cert → HasFrontRoom cert → map front_line_says (line_bytes (printed_front cert)) ≡ map Ok (front_statements cert)
unfolding printed_front
printed_says cert narrow words room =
    let outcomes = outcomes_say cert.outcomes words.outcomes room.outcomes in
    let trees = trees_say cert.trees narrow words.trees room.trees in
    let parts = lines_join (outcome_lines cert.outcomes) (lines_of_trees cert.trees) (outcome_statements cert.outcomes) (statements_of_trees cert.trees) outcomes trees in
    let last = lines_cons (codes "end" ∷ []) says.End [] [] (common_line (codes "end") [] common.End refl end_line) lines_none in
    let behind = lines_join (outcome_lines cert.outcomes ++ lines_of_trees cert.trees) ((codes "end" ∷ []) ∷ []) (outcome_statements cert.outcomes ++ statements_of_trees cert.trees) (says.End ∷ []) parts last in
    let all : FrontLines (front_lines cert) (front_statements cert) =
    lines_cons (codes "front" ∷ codes "1" ∷ []) says.Header ((outcome_lines cert.outcomes ++ lines_of_trees cert.trees) ++ (codes "end" ∷ []) ∷ []) ((outcome_statements cert.outcomes ++ statements_of_trees cert.trees) ++ says.End ∷ []) header_line behind in
    ap (map front_line_says) (lines-cut (front_lines cert) all.are) ∙ all.say
