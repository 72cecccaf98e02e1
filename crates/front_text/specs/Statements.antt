-- A front's text, line by line: what a certificate's lines say, in the order of its parts.
use Rattle.std.specs.Prelude.{List, [], ◌∷◌, ◌++◌, map}
use Rattle.front_text.specs.declared.front.FrontTree.{FrontTree}
use Rattle.front_text.specs.declared.front.FrontOutcome.{FrontOutcome}
use Rattle.front_text.specs.declared.front.FrontCert.{FrontCert}
use Rattle.front_text.specs.declared.front_line.FrontStatement.{FrontStatement}
use Rattle.front_text.specs.declared.front_line.FrontStatement.TheVariants.{Header, Outcome, Point, Tree, Cut, Node, End}

abbrev pub outcome_statements : List FrontOutcome → List FrontStatement
outcome_statements [] = []
outcome_statements (o ∷ outcomes) = Outcome o.v1 o.v2 ∷ Point o.point ∷ outcome_statements outcomes

abbrev pub tree_statements : FrontTree → List FrontStatement
tree_statements tree = Tree tree.of ∷ (map Cut tree.cuts ++ map Node tree.nodes)

abbrev pub statements_of_trees : List FrontTree → List FrontStatement
statements_of_trees [] = []
statements_of_trees (tree ∷ trees) = tree_statements tree ++ statements_of_trees trees

-- the header, each outcome with its point, each tree with its cuts and its nodes, and the end
abbrev pub front_statements : FrontCert → List FrontStatement
front_statements cert = Header ∷ ((outcome_statements cert.outcomes ++ statements_of_trees cert.trees) ++ End ∷ [])
