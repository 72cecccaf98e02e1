-- A certificate of a front has at most one verdict for a model.
use Rattle.std.specs.Prelude.{◌≡◌, ◌≢◌, ℕ, suc, ◌+◌, ℤ, List, [], ◌∷◌, ◌++◌, length, Ok, Err}
use Rattle.std.proofs.Common.{refl, sym, ap, subst, ◌∙◌, inl, inr}
use Rattle.frac128.specs.Rational.{ℚ, int, ◌+ℚ◌}
use Rattle.frac128.specs.Range.{SumFits}
use Rattle.lp_model.specs.Program.{Program, Point}
use Rattle.lp_model.specs.Lawful.{column_names}
use Rattle.lp_model.specs.Regions.{Path}
use Rattle.lp_model.specs.Formulations.{Formulation}
use Rattle.lp_model.specs.declared.types.WideStep.{WideStep}
use Rattle.model_points.specs.Answers.{IsValueAnswer}
use Rattle.cert_text.specs.declared.cert.Claim.{Claim}
use Rattle.cert_text.specs.declared.cert.Claim.TheVariants.{Optimal}
use Rattle.cert_text.specs.declared.cert.CertNode.{CertNode}
use Rattle.cert_text.specs.Tree.{CertTree}
use Rattle.cert_check.specs.declared.verdict.Judgement.{Judgement}
use Rattle.cert_check.specs.declared.verdict.Judgement.TheVariants.{Passes, Breaks, NoRoom}
use Rattle.cert_check.specs.declared.verdict.Verdict.{Verdict}
use Rattle.cert_check.specs.declared.verdict.Verdict.TheVariants as tree
use Rattle.cert_check.specs.Accepted.{AreNames, point_of}
use Rattle.cert_check.specs.Cuts.{formulation_by, AreCutsJudged}
use Rattle.cert_check.specs.Verdict.{IsFeasibleJudged, InOrder, visits, IsVisitJudged, IsJudgedAt}
use Rattle.cert_check.specs.Walk.{IsNodesVerdict}
use Rattle.cert_check.specs.Trees.{IsTreeVerdict}
use Rattle.cert_check.proofs.OneAnswer.{sum_one}
use Rattle.cert_check.proofs.FirstLemmas.{One, first_one, none_one}
use Rattle.cert_check.proofs.CutVerdicts.{cuts_one}
use Rattle.cert_check.proofs.OneVerdict.{there_one, feasible_judged_one, in_order_one, node_one, tree_one}
use Rattle.frontier.specs.declared.outcomes.Outcome.{Outcome}
use Rattle.frontier.specs.Covers.{IsAhead}
use Rattle.inner_models.specs.Inner.{bare_model}
use Rattle.front_text.specs.declared.front.FrontTree.{FrontTree}
use Rattle.front_text.specs.declared.front.FrontOutcome.{FrontOutcome}
use Rattle.front_text.specs.declared.front.FrontCert.{FrontCert}
use Rattle.front_check.specs.declared.verdict.FrontVerdict.{FrontVerdict}
use Rattle.front_check.specs.declared.verdict.FrontVerdict.TheVariants.{Accepted, Rejected, Wide}
use Rattle.front_check.specs.Accepted.{TargetedModel, outcome_of, without_constants, front_parts}
use Rattle.front_check.specs.Verdict.{HasWholeObjectives, AreObjectivesJudged, least_constant_of, IsPointLineJudged, IsStatedValueJudged, IsOutcomeJudged, IsOrderJudged, AreLaterJudged, AreOutcomesJudged, AreTreesThere, AreTreesJudged, AreAllCutsJudged, IsPartVerdict, DoesTreePass, DoTreesPass, IsTreeFailing, IsNodeFailing, bare_outcomes, AreHeadsJudged, IsFrontHeadJudged, parts_in, IsFrontFailing, IsFrontVerdict}

breaks : (why : ℕ) → Breaks why ≢ Passes
breaks why e = cc

no_room : (step : WideStep) → NoRoom step ≢ Passes
no_room step e = cc

-- ---- what holds or breaks for one reason

abbrev Tested : Type 0 → ℕ → Judgement → Type 0
Tested P reason Passes = P
Tested P reason (Breaks why) = (¬ P) × (why ≡ reason)
Tested P reason (NoRoom step) = ⊥

tested_one : (P : Type 0) (reason : ℕ) → One (Tested P reason)
tested_one P reason Passes Passes first second = refl
tested_one P reason Passes (Breaks why) first second = absurd (second.0 first)
tested_one P reason Passes (NoRoom step) first second = absurd second
tested_one P reason (Breaks why) Passes first second = absurd (first.0 second)
tested_one P reason (Breaks why) (Breaks other) first second = ap Breaks (first.1 ∙ sym second.1)
tested_one P reason (Breaks why) (NoRoom step) first second = absurd second
tested_one P reason (NoRoom step) k first second = absurd first

as_objectives : (M : Program) (j : Judgement) → AreObjectivesJudged M j → Tested (HasWholeObjectives M) 9 j
as_objectives M Passes h = h
as_objectives M (Breaks why) h = h
as_objectives M (NoRoom step) h = h

as_order : (p q : Outcome) (j : Judgement) → IsOrderJudged p q j → Tested (IsAhead p q) 8 j
as_order p q Passes h = h
as_order p q (Breaks why) h = h
as_order p q (NoRoom step) h = h

as_trees : (N : Program) (p : Outcome) (l : List Outcome) (trees : List FrontTree) (j : Judgement) → AreTreesJudged N p l trees j → Tested (AreTreesThere N p l trees) 10 j
as_trees N p l trees Passes h = h
as_trees N p l trees (Breaks why) h = h
as_trees N p l trees (NoRoom step) h = h

objectives_one : (M : Program) → One (AreObjectivesJudged M)
objectives_one M j k first second = tested_one (HasWholeObjectives M) 9 j k (as_objectives M j first) (as_objectives M k second)

order_one : (p q : Outcome) → One (IsOrderJudged p q)
order_one p q j k first second = tested_one (IsAhead p q) 8 j k (as_order p q j first) (as_order p q k second)

trees_one : (N : Program) (p : Outcome) (l : List Outcome) (trees : List FrontTree) → One (AreTreesJudged N p l trees)
trees_one N p l trees j k first second = tested_one (AreTreesThere N p l trees) 10 j k (as_trees N p l trees j first) (as_trees N p l trees k second)

-- ---- outcomes

module _ (M : Program) where
  module _ (w : ℕ) (x : Point) (v : ℤ) where
    abbrev c : ℚ
    c = least_constant_of M w

    answer_one : One (IsValueAnswer (bare_model M) w x)
    answer_one r s first second = sum_one _ _ _ _ _ r s first second

    same : (f g : ℚ) → IsValueAnswer (bare_model M) w x (Ok f) → IsValueAnswer (bare_model M) w x (Ok g) → f ≡ g
    same f g first second = let e = answer_one (Ok f) (Ok g) first second in cc

    other : (f : ℚ) (step : WideStep) → IsValueAnswer (bare_model M) w x (Ok f) → IsValueAnswer (bare_model M) w x (Err step) → ⊥
    other f step first second = let e = answer_one (Ok f) (Err step) first second in cc

    sum_is : (f g : ℚ) → f ≡ g → f +ℚ c ≡ int v → g +ℚ c ≡ int v
    sum_is f g e h = subst (λ t. t +ℚ c ≡ int v) e h

    sum_fits : (f g : ℚ) → f ≡ g → SumFits f c → SumFits g c
    sum_fits f g e h = subst (λ t. SumFits t c) e h

    stated_one : One (IsStatedValueJudged M w x v)
    stated_one Passes Passes a b = refl
    stated_one Passes (Breaks why) a b = absurd (b.1.1.1.0 (sum_is a.0 b.0 (same a.0 b.0 a.1.0 b.1.0) a.1.1.1))
    stated_one Passes (NoRoom step) a (inl b) = absurd (other a.0 step a.1.0 b)
    stated_one Passes (NoRoom step) a (inr b) = absurd (b.1.1.0 (sum_fits a.0 b.0 (same a.0 b.0 a.1.0 b.1.0) a.1.1.0))
    stated_one (Breaks why) Passes a b = absurd (a.1.1.1.0 (sum_is b.0 a.0 (same b.0 a.0 b.1.0 a.1.0) b.1.1.1))
    stated_one (Breaks why) (Breaks less) a b = ap Breaks (a.1.1.1.1 ∙ sym b.1.1.1.1)
    stated_one (Breaks why) (NoRoom step) a (inl b) = absurd (other a.0 step a.1.0 b)
    stated_one (Breaks why) (NoRoom step) a (inr b) = absurd (b.1.1.0 (sum_fits a.0 b.0 (same a.0 b.0 a.1.0 b.1.0) a.1.1.0))
    stated_one (NoRoom step) Passes (inl a) b = absurd (other b.0 step b.1.0 a)
    stated_one (NoRoom step) Passes (inr a) b = absurd (a.1.1.0 (sum_fits b.0 a.0 (same b.0 a.0 b.1.0 a.1.0) b.1.1.0))
    stated_one (NoRoom step) (Breaks why) (inl a) b = absurd (other b.0 step b.1.0 a)
    stated_one (NoRoom step) (Breaks why) (inr a) b = absurd (a.1.1.0 (sum_fits b.0 a.0 (same b.0 a.0 b.1.0 a.1.0) b.1.1.0))
    stated_one (NoRoom step) (NoRoom less) (inl a) (inl b) = let e = answer_one (Err step) (Err less) a b in cc
    stated_one (NoRoom step) (NoRoom less) (inl a) (inr b) = absurd (other b.0 step b.1.0 a)
    stated_one (NoRoom step) (NoRoom less) (inr a) (inl b) = absurd (other a.0 less a.1.0 b)
    stated_one (NoRoom step) (NoRoom less) (inr a) (inr b) = ap NoRoom (a.1.1.1 ∙ sym b.1.1.1)

  outcome_one : (o : FrontOutcome) → One (IsOutcomeJudged M o)
  outcome_one o =
      let x = point_of M o.point in
      in_order_one M (IsPointLineJudged M o) (InOrder (IsStatedValueJudged M 1 x o.v1) (IsStatedValueJudged M 2 x o.v2))
      (there_one (AreNames (column_names M) o.point) (IsFeasibleJudged M x) (feasible_judged_one M x))
      (in_order_one M (IsStatedValueJudged M 1 x o.v1) (IsStatedValueJudged M 2 x o.v2) (stated_one 1 x o.v1) (stated_one 2 x o.v2))

  later_one : (p : Outcome) (l : List FrontOutcome) → One (AreLaterJudged M p l)
  later_one p [] j k first second = first ∙ sym second
  later_one p (o ∷ l) j k first second =
      in_order_one M (InOrder (IsOutcomeJudged M o) (IsOrderJudged p (outcome_of o))) (AreLaterJudged M (outcome_of o) l)
      (in_order_one M (IsOutcomeJudged M o) (IsOrderJudged p (outcome_of o)) (outcome_one o) (order_one p (outcome_of o))) (later_one (outcome_of o) l) j k first second

  outcomes_one : (l : List FrontOutcome) → One (AreOutcomesJudged M l)
  outcomes_one [] j k first second = first ∙ sym second
  outcomes_one (o ∷ l) j k first second = in_order_one M (IsOutcomeJudged M o) (AreLaterJudged M (outcome_of o) l) (outcome_one o) (later_one (outcome_of o) l) j k first second

-- ---- what stands before the nodes

all_cuts_one : (parts : List TargetedModel) (trees : List FrontTree) → One (AreAllCutsJudged parts trees)
all_cuts_one [] [] j k first second = first ∙ sym second
all_cuts_one [] (t ∷ trees) j k first second = absurd first
all_cuts_one (part ∷ parts) [] j k first second = absurd first
all_cuts_one (part ∷ parts) (t ∷ trees) j k first second =
    in_order_one part.model (AreCutsJudged part.model t.cuts) (AreAllCutsJudged parts trees) (cuts_one part.model t.cuts) (all_cuts_one parts trees) j k first second

module _ (M : Program) (cert : FrontCert) where
  heads_one : (l : List FrontOutcome) → One (AreHeadsJudged M cert l)
  heads_one [] j k first second = absurd first
  heads_one (o ∷ l) j k first second =
      let p = without_constants M (outcome_of o) in
      let rest = bare_outcomes M l in
      in_order_one M (AreTreesJudged (bare_model M) p rest cert.trees) (AreAllCutsJudged (front_parts (bare_model M) p rest) cert.trees)
      (trees_one (bare_model M) p rest cert.trees) (all_cuts_one (front_parts (bare_model M) p rest) cert.trees) j k first second

  head_one : One (IsFrontHeadJudged M cert)
  head_one =
      in_order_one M (AreObjectivesJudged M) (InOrder (AreOutcomesJudged M cert.outcomes) (AreHeadsJudged M cert cert.outcomes)) (objectives_one M)
      (in_order_one M (AreOutcomesJudged M cert.outcomes) (AreHeadsJudged M cert cert.outcomes) (outcomes_one M cert.outcomes) (heads_one cert.outcomes))

-- ---- a tree

module _ (F : Formulation) (claim : Claim) where
  visit_one : (p : Path × CertNode) → One (IsVisitJudged F claim p)
  visit_one p = node_one F claim p.0 p.1

  module _ (visited : List (Path × CertNode)) where
    failing_visit : (m n : ℕ) (j k : Judgement) → j ≢ Passes → k ≢ Passes → IsJudgedAt F claim visited m j → IsJudgedAt F claim visited n k → (m ≡ n) × (j ≡ k)
    failing_visit m n j k not_j not_k a b =
        let r = first_one (IsVisitJudged F claim) visit_one a.before b.before a.visit b.visit a.behind b.behind j k (sym a.parts ∙ b.parts) not_j not_k a.pass b.pass a.judged b.judged in
        (a.counted ∙ ap suc r.0 ∙ sym b.counted, r.1)

  nodes_one : (t : CertTree) (a b : Verdict) → IsNodesVerdict F claim t a → IsNodesVerdict F claim t b → a ≡ b
  nodes_one t (tree.Accepted c) (tree.Accepted d) a b = ap tree.Accepted (a.0 ∙ sym b.0)
  nodes_one t (tree.Accepted c) (tree.Rejected n why) a b =
      absurd (none_one (IsVisitJudged F claim) visit_one b.before b.visit b.behind (visits F.model [] t) (Breaks why) b.parts (breaks why) a.1 b.judged)
  nodes_one t (tree.Accepted c) (tree.Wide n step) a b =
      absurd (none_one (IsVisitJudged F claim) visit_one b.before b.visit b.behind (visits F.model [] t) (NoRoom step) b.parts (no_room step) a.1 b.judged)
  nodes_one t (tree.Rejected n why) (tree.Accepted c) a b =
      absurd (none_one (IsVisitJudged F claim) visit_one a.before a.visit a.behind (visits F.model [] t) (Breaks why) a.parts (breaks why) b.1 a.judged)
  nodes_one t (tree.Wide n step) (tree.Accepted c) a b =
      absurd (none_one (IsVisitJudged F claim) visit_one a.before a.visit a.behind (visits F.model [] t) (NoRoom step) a.parts (no_room step) b.1 a.judged)
  nodes_one t (tree.Rejected m why) (tree.Rejected n less) a b =
      let r = failing_visit (visits F.model [] t) m n (Breaks why) (Breaks less) (breaks why) (breaks less) a b in let e = r.0 in let f = r.1 in cc
  nodes_one t (tree.Rejected m why) (tree.Wide n step) a b =
      let r = failing_visit (visits F.model [] t) m n (Breaks why) (NoRoom step) (breaks why) (no_room step) a b in let f = r.1 in absurd cc
  nodes_one t (tree.Wide m step) (tree.Rejected n why) a b =
      let r = failing_visit (visits F.model [] t) m n (NoRoom step) (Breaks why) (no_room step) (breaks why) a b in let f = r.1 in absurd cc
  nodes_one t (tree.Wide m step) (tree.Wide n less) a b =
      let r = failing_visit (visits F.model [] t) m n (NoRoom step) (NoRoom less) (no_room step) (no_room less) a b in let e = r.0 in let f = r.1 in cc

  tree_verdict_one : (nodes : List CertNode) (a b : Verdict) → IsTreeVerdict F claim nodes a → IsTreeVerdict F claim nodes b → a ≡ b
  tree_verdict_one nodes a b first second =
      let one = tree_one first.tree second.tree [] [] (ap (λ ns. ns ++ []) (first.nodes_are ∙ sym second.nodes_are)) in
      nodes_one first.tree a b first.is (subst (λ t. IsNodesVerdict F claim t b) (sym one.0) second.is)

-- ---- the nodes of all trees

module _ (part : TargetedModel) (t : FrontTree) where
  part_one : (a b : Verdict) → IsPartVerdict part t a → IsPartVerdict part t b → a ≡ b
  part_one a b first second = tree_verdict_one (formulation_by part.model t.cuts) (Optimal (int part.target)) t.nodes a b first second

  failing_tree : (m n : ℕ) (j k : Judgement) → IsTreeFailing part t m j → IsTreeFailing part t n k → (m ≡ n) × (j ≡ k)
  failing_tree m n Passes k a b = absurd a
  failing_tree m n (Breaks why) Passes a b = absurd b
  failing_tree m n (NoRoom step) Passes a b = absurd b
  failing_tree m n (Breaks why) (Breaks less) a b = let e = part_one (tree.Rejected m why) (tree.Rejected n less) a b in (cc, cc)
  failing_tree m n (Breaks why) (NoRoom step) a b = let e = part_one (tree.Rejected m why) (tree.Wide n step) a b in absurd cc
  failing_tree m n (NoRoom step) (Breaks why) a b = let e = part_one (tree.Wide m step) (tree.Rejected n why) a b in absurd cc
  failing_tree m n (NoRoom step) (NoRoom less) a b = let e = part_one (tree.Wide m step) (tree.Wide n less) a b in (cc, cc)

  not_both : (n : ℕ) (j : Judgement) → DoesTreePass part t → IsTreeFailing part t n j → ⊥
  not_both n Passes pass fail = fail
  not_both n (Breaks why) pass fail = let e = part_one (tree.Accepted pass.0) (tree.Rejected n why) pass.1 fail in absurd cc
  not_both n (NoRoom step) pass fail = let e = part_one (tree.Accepted pass.0) (tree.Wide n step) pass.1 fail in absurd cc

failing_one : (before : ℕ) (parts : List TargetedModel) (trees : List FrontTree) (m n : ℕ) (j k : Judgement) → IsNodeFailing before parts trees m j → IsNodeFailing before parts trees n k → (m ≡ n) × (j ≡ k)
failing_one before [] trees m n j k a b = absurd a
failing_one before (part ∷ parts) [] m n j k a b = absurd a
failing_one before (part ∷ parts) (t ∷ trees) m n j k (inl a) (inl b) =
    let r = failing_tree part t a.0 b.0 j k a.1.0 b.1.0 in (a.1.1 ∙ ap (λ i. before + i) r.0 ∙ sym b.1.1, r.1)
failing_one before (part ∷ parts) (t ∷ trees) m n j k (inl a) (inr b) = absurd (not_both part t a.0 j b.0 a.1.0)
failing_one before (part ∷ parts) (t ∷ trees) m n j k (inr a) (inl b) = absurd (not_both part t b.0 k a.0 b.1.0)
failing_one before (part ∷ parts) (t ∷ trees) m n j k (inr a) (inr b) = failing_one (before + length t.nodes) parts trees m n j k a.1 b.1

none_fails : (before : ℕ) (parts : List TargetedModel) (trees : List FrontTree) (n : ℕ) (j : Judgement) → DoTreesPass parts trees → IsNodeFailing before parts trees n j → ⊥
none_fails before [] trees n j pass fail = absurd fail
none_fails before (part ∷ parts) [] n j pass fail = absurd fail
none_fails before (part ∷ parts) (t ∷ trees) n j pass (inl fail) = not_both part t fail.0 j pass.0 fail.1.0
none_fails before (part ∷ parts) (t ∷ trees) n j pass (inr fail) = none_fails (before + length t.nodes) parts trees n j pass.1 fail.1

-- ---- the certificate

module _ (M : Program) (cert : FrontCert) where
  front_failing : (m n : ℕ) (j k : Judgement) → IsFrontFailing M cert m j → IsFrontFailing M cert n k → (m ≡ n) × (j ≡ k)
  front_failing m n j k (inl a) (inl b) = (a.0 ∙ sym b.0, head_one M cert j k a.1 b.1)
  front_failing m n j k (inl a) (inr b) = absurd (a.2 (head_one M cert j Passes a.1 b.0))
  front_failing m n j k (inr a) (inl b) = absurd (b.2 (head_one M cert k Passes b.1 a.0))
  front_failing m n j k (inr a) (inr b) = failing_one 0 (parts_in M cert.outcomes) cert.trees m n j k a.1 b.1

  not_accepted : (k n : ℕ) (j : Judgement) → IsFrontVerdict M cert (Accepted k) → IsFrontFailing M cert n j → ⊥
  not_accepted k n j accepted (inl a) = a.2 (head_one M cert j Passes a.1 accepted.1.0)
  not_accepted k n j accepted (inr a) = none_fails 0 (parts_in M cert.outcomes) cert.trees n j accepted.1.1 a.1

  pub one_front_verdict : (a b : FrontVerdict) → IsFrontVerdict M cert a → IsFrontVerdict M cert b → a ≡ b
  one_front_verdict (Accepted k) (Accepted l) a b = ap Accepted (a.0 ∙ sym b.0)
  one_front_verdict (Accepted k) (Rejected n why) a b = absurd (not_accepted k n (Breaks why) a b)
  one_front_verdict (Accepted k) (Wide n step) a b = absurd (not_accepted k n (NoRoom step) a b)
  one_front_verdict (Rejected n why) (Accepted k) a b = absurd (not_accepted k n (Breaks why) b a)
  one_front_verdict (Wide n step) (Accepted k) a b = absurd (not_accepted k n (NoRoom step) b a)
  one_front_verdict (Rejected m why) (Rejected n less) a b = let r = front_failing m n (Breaks why) (Breaks less) a b in let e = r.0 in let f = r.1 in cc
  one_front_verdict (Rejected m why) (Wide n step) a b = let r = front_failing m n (Breaks why) (NoRoom step) a b in let f = r.1 in absurd cc
  one_front_verdict (Wide m step) (Rejected n why) a b = let r = front_failing m n (NoRoom step) (Breaks why) a b in let f = r.1 in absurd cc
  one_front_verdict (Wide m step) (Wide n less) a b = let r = front_failing m n (NoRoom step) (NoRoom less) a b in let e = r.0 in let f = r.1 in cc
