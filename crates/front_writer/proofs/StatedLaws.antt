-- What lines state is told by what they say. Lines that say a certificate's statements in order state that certificate.
use Rattle.std.proofs.Common.{◌≡◌, ℕ, zero, suc, ◌+◌, ◌<◌, Bool, false, List, [], ◌∷◌, ◌++◌, length, take, get_or, map, refl, sym, ap, subst, ◌∙◌, arith, append_assoc, append-nil, if◌then◌else◌}
use Rattle.std.specs.Prelude.{ℤ, ◌==◌, All, Option, Some, None, Result, Ok, Err, option_to_list}
use Rattle.std.proofs.lemmas.Bool.{false_from_ne_true}
use Rattle.std.proofs.lemmas.Bool.Decides.{Decides-eqb}
use Rattle.std.proofs.lemmas.List.{length-map, take-map, get_or-map}
use Rattle.std.proofs.lemmas.List.Elements.{All-head, All-tail}
use Rattle.text_lines.specs.Lines.{line_bytes}
use Rattle.cert_text.specs.declared.cert.NamedCut.{NamedCut}
use Rattle.cert_text.specs.declared.cert.CertNode.{CertNode}
use Rattle.cert_text.specs.declared.cert.CertNode.TheVariants as node
use Rattle.cert_text.specs.Text.{due_after, are_none}
use Rattle.cert_text.specs.Tree.{CertTree, Bound, Farkas, Empty, Split, certificate_nodes}
use Rattle.cert_text.specs.Whole.{TakesAll}
use Rattle.cert_text.proofs.DueLemmas.{due_after-more, takes_whole, due_whole}
use Rattle.front_text.specs.declared.front.TreeOf.{TreeOf}
use Rattle.front_text.specs.declared.front.FrontTree.{FrontTree}
use Rattle.front_text.specs.declared.front.FrontOutcome.{FrontOutcome}
use Rattle.front_text.specs.declared.front.FrontCert.{FrontCert}
use Rattle.front_text.specs.declared.front_line.FrontStatement.{FrontStatement}
use Rattle.front_text.specs.declared.front_line.FrontStatement.TheVariants as says
use Rattle.front_text.specs.Lines.{front_line_says}
use Rattle.front_text.specs.Statements.{outcome_statements, statements_of_trees, front_statements}
use Rattle.front_text.specs.Text.{StatedFront, nothing_stated, with_statement, after_line, stated_behind, stated_front, tree_end_code, part_code, front_place_code, is_front_header, front_code_in, front_end_code, front_code_at, stated_front_cert, StateFront}
use Rattle.front_text.specs.Whole.{IsWholeTree}
use Rattle.front_writer.specs.Laws.{StatedLinesLaw}

-- ---- by what lines say

abbrev Said : Type 0
Said = Result FrontStatement ℕ

abbrev each_said : List FrontStatement → List Said
each_said xs = map Ok xs

abbrev behind_said : StatedFront → List Said → StatedFront
behind_said s [] = s
behind_said s (said ∷ more) = behind_said (after_line s said) more

abbrev code_said : StatedFront → List Said → ℕ → Option ℕ
code_said s saids k = front_code_in (behind_said s (take k saids)) (get_or saids k (Err 0))

said_behind : (s : StatedFront) (lines : List (List ℕ)) → stated_behind s lines ≡ behind_said s (map front_line_says lines)
said_behind s [] = refl
said_behind s (line ∷ lines) = said_behind (after_line s (front_line_says line)) lines

stated_is : (lines : List (List ℕ)) → stated_front lines ≡ behind_said nothing_stated (map front_line_says lines)
unfolding stated_front
stated_is lines = said_behind nothing_stated lines

code_is : (lines : List (List ℕ)) (k : ℕ) → k < length lines → front_code_at lines k ≡ code_said nothing_stated (map front_line_says lines) k
unfolding front_code_at
code_is lines k below =
    let before : stated_front (take k lines) ≡ behind_said nothing_stated (take k (map front_line_says lines)) =
    stated_is (take k lines) ∙ ap (behind_said nothing_stated) (sym (take-map front_line_says k lines)) in
    (λ i. front_code_in (before i) (sym (get_or-map front_line_says lines k [] (Err 0) below) i))

-- the certificate that lines state which say this
pub record StateSaid (saids : List Said) (cert : FrontCert) : Type 0 where
  clean : (k : ℕ) → k < length saids → code_said nothing_stated saids k ≡ None
  ended : front_end_code (behind_said nothing_stated saids) ≡ None
  is : cert ≡ stated_front_cert (behind_said nothing_stated saids)

module _ (lines : List (List ℕ)) (cert : FrontCert) where
  pub said_of_lines : StateFront lines cert → StateSaid (map front_line_says lines) cert
  said_of_lines m = record {
    clean = λ k below. let few : k < length lines = subst (λ n. k < n) (length-map lines front_line_says) below in sym (code_is lines k few) ∙ m.clean k few;
    ended = ap front_end_code (sym (stated_is lines)) ∙ m.ended;
    is = m.is ∙ ap stated_front_cert (stated_is lines);
  }

  pub lines_of_said : StateSaid (map front_line_says lines) cert → StateFront lines cert
  lines_of_said m = record {
    clean = λ k below. code_is lines k below ∙ m.clean k (subst (λ n. k < n) (sym (length-map lines front_line_says)) below);
    ended = ap front_end_code (stated_is lines) ∙ m.ended;
    is = m.is ∙ ap stated_front_cert (sym (stated_is lines));
  }

-- ---- statements taken one after the other

-- none of the statements has a code where it stands, and what is stated behind them is so
abbrev Takes : StatedFront → List FrontStatement → (StatedFront → Type 0) → Type 0
Takes s [] P = P s
Takes s (x ∷ xs) P = (front_code_in s (Ok x) ≡ None) × Takes (with_statement s x) xs P

taken_clean : (P : StatedFront → Type 0) (s : StatedFront) (xs : List FrontStatement) → Takes s xs P → (k : ℕ) → k < length (each_said xs) → code_said s (each_said xs) k ≡ None
taken_clean P s [] takes k below = absurd (omega (arith, below))
taken_clean P s (x ∷ xs) takes zero below = takes.0
taken_clean P s (x ∷ xs) takes (suc k) below = taken_clean P (with_statement s x) xs takes.1 k (omega (arith, below))

taken_end : (P : StatedFront → Type 0) (s : StatedFront) (xs : List FrontStatement) → Takes s xs P → P (behind_said s (each_said xs))
taken_end P s [] takes = takes
taken_end P s (x ∷ xs) takes = taken_end P (with_statement s x) xs takes.1

-- ---- what is stated before the end

abbrev at : ℕ → List FrontOutcome → Option (ℤ × ℤ) → List FrontTree → Option FrontTree → StatedFront
at n outcomes waiting trees last = record { count = n; outcomes = outcomes; waiting = waiting; trees = trees; last = last; ended = false }

abbrev tree_by : TreeOf → List NamedCut → List CertNode → FrontTree
tree_by of cuts nodes = record { of = of; cuts = cuts; nodes = nodes }

some_lines : (n : ℕ) → 0 < n → (n == 0) ≡ false
some_lines n h = false_from_ne_true (n == 0) (λ t. let e = (Decides-eqb n 0).0 t in omega (arith, h, e))

-- a statement behind the first line has the code of its place
placed : (n : ℕ) (outcomes : List FrontOutcome) (waiting : Option (ℤ × ℤ)) (trees : List FrontTree) (last : Option FrontTree) (x : FrontStatement) → 0 < n → front_place_code (at n outcomes waiting trees last) x ≡ None →
    front_code_in (at n outcomes waiting trees last) (Ok x) ≡ None
placed n outcomes waiting trees last x some here =
    ap (λ (b : Bool). if b then (if is_front_header (Ok x) then None else Some 1) else front_place_code (at n outcomes waiting trees last) x) (some_lines n some) ∙ here

module _ (P : StatedFront → Type 0) (xs : List FrontStatement) where
  -- outcomes, and what stands behind them
  outcomes_taken : (more outcomes : List FrontOutcome) → ((n : ℕ) → 0 < n → Takes (at n (outcomes ++ more) None [] None) xs P) → (n : ℕ) → 0 < n → Takes (at n outcomes None [] None) (outcome_statements more ++ xs) P
  outcomes_taken [] outcomes rest n some = subst (λ os. Takes (at n os None [] None) xs P) (append-nil outcomes) (rest n some)
  outcomes_taken (o ∷ more) outcomes rest n some =
      let joined : (outcomes ++ o ∷ []) ++ more ≡ outcomes ++ o ∷ more = append_assoc outcomes (o ∷ []) more in
      let behind = outcomes_taken more (outcomes ++ o ∷ []) (λ m h. subst (λ os. Takes (at m os None [] None) xs P) (sym joined) (rest m h)) (n + 1 + 1) (omega arith) in
      (placed n outcomes None [] None (says.Outcome o.v1 o.v2) some refl, (placed (n + 1) outcomes (Some (o.v1, o.v2)) [] None (says.Point o.point) (omega arith) refl, behind))

module _ (P : StatedFront → Type 0) (xs : List FrontStatement) (outcomes : List FrontOutcome) (trees : List FrontTree) (of : TreeOf) where
  -- cuts of a tree, and what stands behind them
  cuts_taken : (more cuts : List NamedCut) → ((n : ℕ) → 0 < n → Takes (at n outcomes None trees (Some (tree_by of (cuts ++ more) []))) xs P) → (n : ℕ) → 0 < n →
      Takes (at n outcomes None trees (Some (tree_by of cuts []))) (map says.Cut more ++ xs) P
  cuts_taken [] cuts rest n some = subst (λ cs. Takes (at n outcomes None trees (Some (tree_by of cs []))) xs P) (append-nil cuts) (rest n some)
  cuts_taken (cut ∷ more) cuts rest n some =
      let joined : (cuts ++ cut ∷ []) ++ more ≡ cuts ++ cut ∷ more = append_assoc cuts (cut ∷ []) more in
      let behind = cuts_taken more (cuts ++ cut ∷ []) (λ m h. subst (λ cs. Takes (at m outcomes None trees (Some (tree_by of cs []))) xs P) (sym joined) (rest m h)) (n + 1) (omega arith) in
      (placed n outcomes None trees (Some (tree_by of cuts [])) (says.Cut cut) some refl, behind)

  module _ (cuts : List NamedCut) where
    node_here : (n : ℕ) (nodes : List CertNode) (one : CertNode) → 0 < n → 0 < due_after 1 nodes → front_code_in (at n outcomes None trees (Some (tree_by of cuts nodes))) (Ok (says.Node one)) ≡ None
    node_here n nodes one some due = placed n outcomes None trees (Some (tree_by of cuts nodes)) (says.Node one) some (ap (λ (b : Bool). if b then Some 7 else None) (some_lines (due_after 1 nodes) due))

    moved : (one : CertNode) (more nodes : List CertNode) → ((n : ℕ) → 0 < n → Takes (at n outcomes None trees (Some (tree_by of cuts (nodes ++ one ∷ more)))) xs P) →
        (n : ℕ) → 0 < n → Takes (at n outcomes None trees (Some (tree_by of cuts ((nodes ++ one ∷ []) ++ more)))) xs P
    moved one more nodes rest n some = subst (λ ns. Takes (at n outcomes None trees (Some (tree_by of cuts ns))) xs P) (sym (append_assoc nodes (one ∷ []) more)) (rest n some)

    -- nodes that are due, and what stands behind them
    nodes_taken : (more nodes : List CertNode) (due : ℕ) → due_after 1 nodes ≡ due → TakesAll due more → ((n : ℕ) → 0 < n → Takes (at n outcomes None trees (Some (tree_by of cuts (nodes ++ more)))) xs P) → (n : ℕ) → 0 < n →
        Takes (at n outcomes None trees (Some (tree_by of cuts nodes))) (map says.Node more ++ xs) P
    nodes_taken [] nodes due is takes rest n some = subst (λ ns. Takes (at n outcomes None trees (Some (tree_by of cuts ns))) xs P) (append-nil nodes) (rest n some)
    nodes_taken (one ∷ more) nodes zero is takes rest n some = absurd takes
    nodes_taken (node.Split col v ∷ more) nodes (suc due) is takes rest n some = (
      node_here n nodes (node.Split col v) some (omega (arith, is)),
      nodes_taken more (nodes ++ node.Split col v ∷ []) (suc (suc due)) (let e = due_after-more 1 nodes (node.Split col v) in omega (arith, e, is)) takes (moved (node.Split col v) more nodes rest) (n + 1) (omega arith),
    )
    nodes_taken (node.Bound mults ∷ more) nodes (suc due) is takes rest n some = (
      node_here n nodes (node.Bound mults) some (omega (arith, is)),
      nodes_taken more (nodes ++ node.Bound mults ∷ []) due (let e = due_after-more 1 nodes (node.Bound mults) in omega (arith, e, is)) takes (moved (node.Bound mults) more nodes rest) (n + 1) (omega arith),
    )
    nodes_taken (node.Farkas mults ∷ more) nodes (suc due) is takes rest n some = (
      node_here n nodes (node.Farkas mults) some (omega (arith, is)),
      nodes_taken more (nodes ++ node.Farkas mults ∷ []) due (let e = due_after-more 1 nodes (node.Farkas mults) in omega (arith, e, is)) takes (moved (node.Farkas mults) more nodes rest) (n + 1) (omega arith),
    )
    nodes_taken (node.Empty ∷ more) nodes (suc due) is takes rest n some = (
      node_here n nodes node.Empty some (omega (arith, is)),
      nodes_taken more (nodes ++ node.Empty ∷ []) due (let e = due_after-more 1 nodes node.Empty in omega (arith, e, is)) takes (moved node.Empty more nodes rest) (n + 1) (omega arith),
    )

-- ---- trees

some_nodes : (tree : CertTree) → are_none (certificate_nodes tree) ≡ false
some_nodes (Bound mults) = refl
some_nodes (Farkas mults) = refl
some_nodes Empty = refl
some_nodes (Split col v left right) = refl

abbrev tree_code : Bool → Bool → Option ℕ
tree_code none whole = if none then Some 6 else if whole then None else Some 7

whole_closed : (tree : FrontTree) → IsWholeTree tree → tree_end_code (Some tree) ≡ None
whole_closed tree whole =
    let t = whole.nodes in
    (λ i. tree_code ((ap are_none (sym t.nodes_are) ∙ some_nodes t.tree) i) (due_whole tree.nodes t.tree t.nodes_are i == 0))

-- the outcomes and trees that are stated
abbrev Stands : List FrontOutcome → List FrontTree → List FrontTree → Option FrontTree → Type 0
Stands outcomes all trees last = (tree_end_code last ≡ None) × (trees ++ option_to_list last ≡ all)

part_here : (outcomes : List FrontOutcome) → are_none outcomes ≡ false → (n : ℕ) (trees : List FrontTree) (last : Option FrontTree) → tree_end_code last ≡ None → part_code (at n outcomes None trees last) ≡ None
part_here outcomes some n trees last closed = ap (λ (b : Bool). if b then Some 6 else tree_end_code last) some ∙ closed

module _ (P : StatedFront → Type 0) (xs : List FrontStatement) (outcomes : List FrontOutcome) (outcomes_some : are_none outcomes ≡ false) (all : List FrontTree)
    (rest : (n : ℕ) → 0 < n → (trees : List FrontTree) (last : Option FrontTree) → Stands outcomes all trees last → Takes (at n outcomes None trees last) xs P) where
  -- whole trees, and what stands behind them
  trees_taken : (more trees : List FrontTree) (last : Option FrontTree) → All IsWholeTree more → tree_end_code last ≡ None → (trees ++ option_to_list last) ++ more ≡ all → (n : ℕ) → 0 < n →
      Takes (at n outcomes None trees last) (statements_of_trees more ++ xs) P
  trees_taken [] trees last whole closed are n some = rest n some trees last (closed, sym (append-nil (trees ++ option_to_list last)) ∙ are)
  trees_taken (tree ∷ more) trees last whole closed are n some =
      let here = All-head IsWholeTree tree more whole in
      let before = trees ++ option_to_list last in
      let behind = statements_of_trees more ++ xs in
      let joined : (before ++ tree ∷ []) ++ more ≡ all = append_assoc before (tree ∷ []) more ∙ are in
      let last_taken : (m : ℕ) → 0 < m → Takes (at m outcomes None before (Some tree)) behind P = λ m h. trees_taken more before (Some tree) (All-tail IsWholeTree tree more whole) (whole_closed tree here) joined m h in
      let nodes : (m : ℕ) → 0 < m → Takes (at m outcomes None before (Some (tree_by tree.of tree.cuts []))) (map says.Node tree.nodes ++ behind) P =
      nodes_taken P behind outcomes before tree.of tree.cuts tree.nodes [] 1 refl (takes_whole tree.nodes here.nodes.tree here.nodes.nodes_are) last_taken in
      let cuts = cuts_taken P (map says.Node tree.nodes ++ behind) outcomes before tree.of tree.cuts [] nodes (n + 1) (omega arith) in
      let apart : map says.Cut tree.cuts ++ (map says.Node tree.nodes ++ behind) ≡ ((map says.Cut tree.cuts ++ map says.Node tree.nodes) ++ statements_of_trees more) ++ xs =
      sym (append_assoc (map says.Cut tree.cuts) (map says.Node tree.nodes) behind) ∙ sym (append_assoc (map says.Cut tree.cuts ++ map says.Node tree.nodes) (statements_of_trees more) xs) in
      (placed n outcomes None trees last (says.Tree tree.of) some (part_here outcomes outcomes_some n trees last closed), subst (λ l. Takes (at (n + 1) outcomes None before (Some (tree_by tree.of [] []))) l P) apart cuts)

-- ---- certificates

-- what is stated in the end
record IsEnd (cert : FrontCert) (s : StatedFront) : Type 0 where
  ended : front_end_code s ≡ None
  is : cert ≡ stated_front_cert s

some_outcomes : (outcomes : List FrontOutcome) → 0 < length outcomes → are_none outcomes ≡ false
some_outcomes [] h = absurd (omega (arith, h))
some_outcomes (o ∷ outcomes) h = refl

end_taken : (cert : FrontCert) → 0 < length cert.outcomes → (n : ℕ) → 0 < n → (trees : List FrontTree) (last : Option FrontTree) → Stands cert.outcomes cert.trees trees last → Takes (at n cert.outcomes None trees last) (says.End ∷ []) (IsEnd cert)
end_taken cert some n first trees last stands = (
  placed n cert.outcomes None trees last says.End first (part_here cert.outcomes (some_outcomes cert.outcomes some) n trees last stands.0),
  record {
    ended = ap (λ (b : Bool). if b then Some 1 else None) (some_lines (n + 1) (omega arith));
    is = (λ i. record { outcomes = cert.outcomes; trees = sym stands.1 i });
  },
)

all_taken : (cert : FrontCert) → 0 < length cert.outcomes → All IsWholeTree cert.trees → Takes nothing_stated (front_statements cert) (IsEnd cert)
all_taken cert some whole =
    let trees : (n : ℕ) → 0 < n → Takes (at n cert.outcomes None [] None) (statements_of_trees cert.trees ++ says.End ∷ []) (IsEnd cert) =
    trees_taken (IsEnd cert) (says.End ∷ []) cert.outcomes (some_outcomes cert.outcomes some) cert.trees (end_taken cert some) cert.trees [] None whole refl refl in
    let outcomes = outcomes_taken (IsEnd cert) (statements_of_trees cert.trees ++ says.End ∷ []) cert.outcomes [] trees 1 (omega arith) in
    (refl, subst (λ l. Takes (at 1 [] None [] None) l (IsEnd cert)) (sym (append_assoc (outcome_statements cert.outcomes) (statements_of_trees cert.trees) (says.End ∷ []))) outcomes)

pub stated_by : StatedLinesLaw
stated_by text cert say some whole =
    let takes = all_taken cert some whole.trees in
    let last = taken_end (IsEnd cert) nothing_stated (front_statements cert) takes in
    lines_of_said (line_bytes text) cert (subst (λ saids. StateSaid saids cert) (sym say) (record { clean = taken_clean (IsEnd cert) nothing_stated (front_statements cert) takes; ended = last.ended; is = last.is }))
