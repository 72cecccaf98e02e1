-- What the reader keeps: each line without code, and the whole certificate.
use Rattle.std.proofs.Common.{◌≡◌, ℕ, zero, suc, ◌+◌, ◌<◌, Bool, true, false, ◌||◌, List, [], ◌∷◌, ◌++◌, refl, sym, subst, ap, ◌∙◌, arith, if◌then◌else◌}
use Rattle.std.proofs.lemmas.Bool.Decides.{Decides-eqb}
use Rattle.std.specs.Prelude.{All, Option, Some, None, Result, Ok, Err, IfOk, ◌==◌, is_some, option_to_list}
use Rattle.std.proofs.lemmas.List.Elements.{All-append}
use Rattle.lp_model.specs.Edits.{Named}
use Rattle.cert_text.specs.declared.cert.NamedCut.{NamedCut}
use Rattle.cert_text.specs.declared.cert.CertNode.{CertNode}
use Rattle.cert_text.specs.Text.{due_after, is_whole_tree, are_none, or_no_end}
use Rattle.cert_text.specs.Whole.{TakesAll, IsNarrowNode, AreOneTree}
use Rattle.cert_text.proofs.DueLemmas.{takes-more, whole_tree}
use Rattle.front_text.specs.declared.front.TreeOf.{TreeOf}
use Rattle.front_text.specs.declared.front.FrontTree.{FrontTree}
use Rattle.front_text.specs.declared.front_reading.FrontReading.{FrontReading}
use Rattle.front_text.specs.declared.front_line.FrontStatement.{FrontStatement}
use Rattle.front_text.specs.declared.front_line.FrontStatement.TheVariants as says
use Rattle.front_text.specs.Text.{StatedFront, with_point, with_cut, with_node, in_last, after_line, tree_end_code, tree_node_code, part_code, front_code_in, front_end_code, stated_front_cert}
use Rattle.front_text.specs.Whole.{IsWholeTree, IsFrontCertificate}
use Rattle.front_text.specs.Reading.{last_tree, held_front, AreFrontKept, IsFrontReadable}

-- ---- what a call gives is handed on

pub handed_on : {A E P Q : Type 0} (r : Result A E) → (P → Q) → IfOk r (λ _. P) → IfOk r (λ _. Q)
handed_on (Ok done) f h = f h
handed_on (Err e) f h = tt

pub both_handed_on : {A E P Q R : Type 0} (r : Result A E) → (P → Q → R) → IfOk r (λ _. P) → IfOk r (λ _. Q) → IfOk r (λ _. R)
both_handed_on (Ok done) f h k = f h k
both_handed_on (Err e) f h k = tt

pub all_handed_on : {A E P Q R S : Type 0} (r : Result A E) → (P → Q → R → S) → IfOk r (λ _. P) → IfOk r (λ _. Q) → IfOk r (λ _. R) → IfOk r (λ _. S)
all_handed_on (Ok done) f h k l = f h k l
all_handed_on (Err e) f h k l = tt

pub nil_right : {A : Type 0} (l : List A) → l ++ [] ≡ l
nil_right [] = refl
nil_right (x ∷ l) = ap (λ m. x ∷ m) (nil_right l)

-- ---- the last tree

pub cut_in_last : (last : Option TreeOf) (cuts more : List NamedCut) (nodes : List CertNode) (cut : NamedCut) → more ≡ cuts ++ cut ∷ [] → last_tree last more nodes ≡ in_last (with_cut cut) (last_tree last cuts nodes)
cut_in_last (Some of) cuts more nodes cut e = ap (λ cs. last_tree (Some of) cs nodes) e
cut_in_last None cuts more nodes cut e = refl

pub node_in_last : (last : Option TreeOf) (cuts : List NamedCut) (nodes more : List CertNode) (node : CertNode) → more ≡ nodes ++ node ∷ [] → last_tree last cuts more ≡ in_last (with_node node) (last_tree last cuts nodes)
node_in_last (Some of) cuts nodes more node e = ap (λ ns. last_tree (Some of) cuts ns) e
node_in_last None cuts nodes more node e = refl

-- ---- a node

some_due : (n : ℕ) → (n == 0) ≡ false → 0 < n
some_due zero e = absurd (let f : true ≡ false = e in cc)
some_due (suc n) e = omega arith

no_code : (code : ℕ) → Some code ≡ None → ⊥
no_code code e = cc

abbrev node_by : Bool → Option ℕ
node_by w = if w then Some 7 else None

abbrev tree_by : Bool → Bool → Option ℕ
tree_by n w = if n then Some 6 else if w then None else Some 7

abbrev place_test : Bool → Bool → Option ℕ → Option ℕ
place_test a b x = if a then Some 1 else if b then Some 8 else x

-- a line without code stands before the end, where it has its place
place_clean : (a b : Bool) (x : Option ℕ) → place_test a b x ≡ None → (b ≡ false) × (x ≡ None)
place_clean true b x e = absurd cc
place_clean false true x e = absurd cc
place_clean false false x e = (refl, e)

node_place : (last : Option TreeOf) (cuts : List NamedCut) (nodes : List CertNode) → tree_node_code (last_tree last cuts nodes) ≡ None → 0 < due_after 1 nodes
node_place (Some of) cuts nodes e = some_due (due_after 1 nodes) (by (is_whole_tree nodes) e)
  where
    by : (w : Bool) → node_by w ≡ None → w ≡ false
    by true e = absurd (no_code 7 e)
    by false e = refl
node_place None cuts nodes e = absurd (no_code 6 e)

pub node_due : (old : FrontReading) (node : CertNode) → front_code_in (held_front old) (Ok (says.Node node)) ≡ None → (old.ended ≡ false) × (0 < due_after 1 old.nodes)
node_due old node clean =
    let c = place_clean (old.count == 0) old.ended (tree_node_code (last_tree old.last old.cuts old.nodes)) clean in
    (c.0, node_place old.last old.cuts old.nodes c.1)

one_node : (n : CertNode) → IsNarrowNode n → All IsNarrowNode (n ∷ [])
one_node n here zero d below = here
one_node n here (suc k) d below = absurd (omega arith)

no_nodes : All IsNarrowNode []
no_nodes k d below = absurd (omega arith)

pub node_kept : (old new : FrontReading) (node : CertNode) → front_code_in (held_front old) (Ok (says.Node node)) ≡ None → IsNarrowNode node → IsFrontReadable old →
    new.nodes ≡ old.nodes ++ node ∷ [] → new.trees ≡ old.trees → new.ended ≡ old.ended → IsFrontReadable new
node_kept old new node clean narrow kept nodes trees ended =
    let c = node_due old node clean in
    record {
      before = subst (All IsWholeTree) (sym trees) kept.before;
      takes = subst (TakesAll 1) (sym nodes) (takes-more 1 old.nodes node kept.takes c.1);
      narrow = subst (All IsNarrowNode) (sym nodes) (All-append IsNarrowNode old.nodes (node ∷ []) kept.narrow (one_node node narrow));
      whole = λ e of _. let f : true ≡ false = sym e ∙ ended ∙ c.0 in absurd cc;
    }

-- ---- the end of a tree

abbrev part_by : Bool → Option ℕ → Option ℕ
part_by c x = if c then Some 6 else x

part_place : (c : Bool) (x : Option ℕ) → part_by c x ≡ None → x ≡ None
part_place true x e = absurd (no_code 6 e)
part_place false x e = e

end_place : (last : Option TreeOf) (cuts : List NamedCut) (nodes : List CertNode) → tree_end_code (last_tree last cuts nodes) ≡ None → (of : TreeOf) → last ≡ Some of → due_after 1 nodes ≡ 0
end_place (Some o) cuts nodes e of is = (Decides-eqb (due_after 1 nodes) 0).0 (by (are_none nodes) (is_whole_tree nodes) e)
  where
    by : (n w : Bool) → tree_by n w ≡ None → w ≡ true
    by true w e = absurd (no_code 6 e)
    by false true e = refl
    by false false e = absurd (no_code 7 e)
end_place None cuts nodes e of is = absurd (let f : None ≡ Some of = is in cc)

-- a tree and the end stand behind whole trees
part_due : (old : FrontReading) (statement : FrontStatement) → front_code_in (held_front old) (Ok statement) ≡ place_test (old.count == 0) old.ended (part_code (held_front old)) → front_code_in (held_front old) (Ok statement) ≡ None
    → (old.ended ≡ false) × ((of : TreeOf) → old.last ≡ Some of → due_after 1 old.nodes ≡ 0)
part_due old statement is clean =
    let c = place_clean (old.count == 0) old.ended (part_code (held_front old)) (sym is ∙ clean) in
    (c.0, end_place old.last old.cuts old.nodes (part_place (is_some old.waiting || are_none old.outcomes) (tree_end_code (last_tree old.last old.cuts old.nodes)) c.1))

one_tree : (nodes : List CertNode) → TakesAll 1 nodes → due_after 1 nodes ≡ 0 → AreOneTree nodes
one_tree nodes takes done = let t = whole_tree nodes takes done in record { tree = t.0; nodes_are = t.1 }

just_one : (tree : FrontTree) → IsWholeTree tree → All IsWholeTree (tree ∷ [])
just_one tree here zero d below = here
just_one tree here (suc k) d below = absurd (omega arith)

pub trees_whole : (trees : List FrontTree) (last : Option TreeOf) (cuts : List NamedCut) (nodes : List CertNode) → All IsWholeTree trees → TakesAll 1 nodes → All IsNarrowNode nodes
    → ((of : TreeOf) → last ≡ Some of → due_after 1 nodes ≡ 0) → All IsWholeTree (trees ++ option_to_list (last_tree last cuts nodes))
trees_whole trees (Some of) cuts nodes whole takes narrow done =
    All-append IsWholeTree trees (record { of = of; cuts = cuts; nodes = nodes } ∷ []) whole (just_one (record { of = of; cuts = cuts; nodes = nodes }) (record { nodes = one_tree nodes takes (done of refl); narrow = narrow }))
trees_whole trees None cuts nodes whole takes narrow done = subst (All IsWholeTree) (sym (nil_right trees)) whole

pub tree_kept : (old new : FrontReading) (of : TreeOf) → front_code_in (held_front old) (Ok (says.Tree of)) ≡ None → IsFrontReadable old →
    new.trees ≡ old.trees ++ option_to_list (last_tree old.last old.cuts old.nodes) → new.nodes ≡ [] → new.ended ≡ old.ended → IsFrontReadable new
tree_kept old new of clean kept trees nodes ended =
    let c = part_due old (says.Tree of) refl clean in
    record {
      before = subst (All IsWholeTree) (sym trees) (trees_whole old.trees old.last old.cuts old.nodes kept.before kept.takes kept.narrow c.1);
      takes = subst (TakesAll 1) (sym nodes) tt;
      narrow = subst (All IsNarrowNode) (sym nodes) no_nodes;
      whole = λ e o _. let f : true ≡ false = sym e ∙ ended ∙ c.0 in absurd cc;
    }

pub end_kept : (old : FrontReading) → front_code_in (held_front old) (Ok says.End) ≡ None → IsFrontReadable old → AreFrontKept old.trees old.nodes old.last true old.due
end_kept old clean kept =
    let c = part_due old says.End refl clean in
    record {
      before = kept.before;
      takes = kept.takes;
      narrow = kept.narrow;
      whole = λ _ of is. old.counted ∙ c.1 of is;
    }

-- ---- the whole certificate

abbrev end_test : Bool → Bool → ℕ → Option ℕ
end_test a b x = if a then Some 1 else if b then None else Some x

end_clean : (s : StatedFront) → front_end_code s ≡ None → s.ended ≡ true
end_clean s e = by (s.count == 0) s.ended (or_no_end (part_code s)) e
  where
    by : (a b : Bool) (x : ℕ) → end_test a b x ≡ None → b ≡ true
    by true b x e = absurd cc
    by false true x e = refl
    by false false x e = absurd cc

pub certificate : (r : FrontReading) → front_end_code (held_front r) ≡ None → IsFrontReadable r → IsFrontCertificate (stated_front_cert (held_front r))
certificate r ended kept = record {
  trees = trees_whole r.trees r.last r.cuts r.nodes kept.before kept.takes kept.narrow (λ of is. sym r.counted ∙ kept.whole (end_clean (held_front r) ended) of is);
}

pub if_is : {A E : Type 0} (r : Result A E) (P : A → Type 0) (x : A) → P x → IfOk r (λ a. a ≡ x) → IfOk r P
if_is (Ok a) P x p e = subst P (sym e) p
if_is (Err fault) P x p e = tt

-- ---- what is held behind a line

pub unchanged : {t u : List FrontTree} {n m : List CertNode} {l k : Option TreeOf} {e f : Bool} {d c : ℕ} → u ≡ t → m ≡ n → k ≡ l → f ≡ e → c ≡ d → AreFrontKept t n l e d → AreFrontKept u m k f c
unchanged trees nodes last ended due kept = subst (λ T. T) (λ i. AreFrontKept (sym trees i) (sym nodes i) (sym last i) (sym ended i) (sym due i)) kept

module _ (old new : FrontReading) (count : new.count ≡ old.count + 1) (ended : new.ended ≡ old.ended) where
  pub point_noted : (point : Named) → new.outcomes ≡ old.outcomes ++ with_point old.waiting point → new.waiting ≡ None → new.trees ≡ old.trees → new.last ≡ old.last → new.cuts ≡ old.cuts → new.nodes ≡ old.nodes
      → held_front new ≡ after_line (held_front old) (Ok (says.Point point))
  point_noted point outcomes waiting trees last cuts nodes =
      (λ i. record { count = count i; outcomes = outcomes i; waiting = waiting i; trees = trees i; last = last_tree (last i) (cuts i) (nodes i); ended = ended i })

  pub tree_noted : (of : TreeOf) → new.outcomes ≡ old.outcomes → new.waiting ≡ old.waiting → new.trees ≡ old.trees ++ option_to_list (last_tree old.last old.cuts old.nodes) → new.last ≡ Some of → new.cuts ≡ [] → new.nodes ≡ []
      → held_front new ≡ after_line (held_front old) (Ok (says.Tree of))
  tree_noted of outcomes waiting trees last cuts nodes =
      (λ i. record { count = count i; outcomes = outcomes i; waiting = waiting i; trees = trees i; last = last_tree (last i) (cuts i) (nodes i); ended = ended i })

  pub node_noted : (node : CertNode) → new.outcomes ≡ old.outcomes → new.waiting ≡ old.waiting → new.trees ≡ old.trees → new.last ≡ old.last → new.cuts ≡ old.cuts → new.nodes ≡ old.nodes ++ node ∷ []
      → held_front new ≡ after_line (held_front old) (Ok (says.Node node))
  node_noted node outcomes waiting trees last cuts nodes =
      let tree = (λ i. last_tree (last i) (cuts i) new.nodes) ∙ node_in_last old.last old.cuts old.nodes new.nodes node nodes in
      (λ i. record { count = count i; outcomes = outcomes i; waiting = waiting i; trees = trees i; last = tree i; ended = ended i })

pub cut_noted : (old : FrontReading) (cut : NamedCut) (cuts : List NamedCut) → cuts ≡ old.cuts ++ cut ∷ [] → record (held_front old) { count = old.count + 1; last = last_tree old.last cuts old.nodes } ≡ after_line (held_front old) (Ok (says.Cut cut))
cut_noted old cut cuts more =
    let tree = cut_in_last old.last old.cuts cuts old.nodes cut more in
    (λ i. record { count = old.count + 1; outcomes = old.outcomes; waiting = old.waiting; trees = old.trees; last = tree i; ended = old.ended })
