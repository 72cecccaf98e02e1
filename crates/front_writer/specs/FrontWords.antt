-- The text of a front's certificate: its lines, each of words with one blank between them and a newline behind it.
use Rattle.std.specs.Prelude.{ℕ, ◌<◌, ℤ, List, [], ◌∷◌, ◌++◌, map, length, codes, All}
use Rattle.std.specs.Fmt.{decimal, signed_decimal}
use Rattle.frac128.specs.Range.{IsNarrow}
use Rattle.text_lines.specs.Words.{Words}
use Rattle.front_text.specs.declared.front.TreeOf.{TreeOf}
use Rattle.front_text.specs.declared.front.TreeOf.TheVariants.{Least1, Least2, Gap}
use Rattle.front_text.specs.declared.front.FrontTree.{FrontTree}
use Rattle.front_text.specs.declared.front.FrontOutcome.{FrontOutcome}
use Rattle.front_text.specs.declared.front.FrontCert.{FrontCert}
use Rattle.cert_writer.specs.CertText.{named_words, cut_words, node_words, lines_text, HasNameWords, HasCutWords, HasNodeWords}

-- ---- lines

-- `outcome V1 V2`
abbrev pub outcome_words : ℤ → ℤ → Words
outcome_words v1 v2 = codes "outcome" ∷ signed_decimal v1 ∷ signed_decimal v2 ∷ []

-- the line of an outcome's values and that of its point, for each
abbrev pub outcome_lines : List FrontOutcome → List Words
outcome_lines [] = []
outcome_lines (o ∷ outcomes) = outcome_words o.v1 o.v2 ∷ (codes "point" ∷ named_words o.point) ∷ outcome_lines outcomes

-- `tree least1`, `tree least2` and `tree gap I`
abbrev pub tree_words : TreeOf → Words
tree_words Least1 = codes "tree" ∷ codes "least1" ∷ []
tree_words Least2 = codes "tree" ∷ codes "least2" ∷ []
tree_words (Gap number) = codes "tree" ∷ codes "gap" ∷ decimal number ∷ []

-- the line of a tree, those of its cuts and those of its nodes
abbrev pub tree_lines : FrontTree → List Words
tree_lines tree = tree_words tree.of ∷ (map cut_words tree.cuts ++ map node_words tree.nodes)

abbrev pub lines_of_trees : List FrontTree → List Words
lines_of_trees [] = []
lines_of_trees (tree ∷ trees) = tree_lines tree ++ lines_of_trees trees

abbrev pub front_lines : FrontCert → List Words
front_lines c = (codes "front" ∷ codes "1" ∷ []) ∷ ((outcome_lines c.outcomes ++ lines_of_trees c.trees) ++ (codes "end" ∷ []) ∷ [])

-- ---- bytes

unfoldable pub printed_front : FrontCert → List ℕ
printed_front c = lines_text (front_lines c)

-- ---- what a text can state

-- a fraction has room for both values, and the names of the point are words
pub record HasOutcomeWords (outcome : FrontOutcome) : Type 0 where
  pub first : IsNarrow outcome.v1
  pub second : IsNarrow outcome.v2
  pub point : HasNameWords outcome.point

-- the names in a tree's cuts and nodes are words, and each cut has a literal
pub record HasTreeWords (tree : FrontTree) : Type 0 where
  pub cuts : All HasCutWords tree.cuts
  pub nodes : All HasNodeWords tree.nodes

-- there is an outcome, a fraction has room for each value, each name is a word, and each cut has a literal
pub record HasFrontWords (cert : FrontCert) : Type 0 where
  pub some : 0 < length cert.outcomes
  pub outcomes : All HasOutcomeWords cert.outcomes
  pub trees : All HasTreeWords cert.trees
