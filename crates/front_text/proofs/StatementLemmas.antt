-- Lines without fault say the statements of the certificate that they state, one by one.
use Rattle.std.proofs.Common.{◌≡◌, ◌⊎◌, ℕ, zero, suc, ◌+◌, ◌<◌, Bool, true, false, ◌||◌, List, [], ◌∷◌, ◌++◌, length, take, get_or, map, refl, sym, subst, ap, ◌∙◌, arith, append_assoc, inl, inr, if◌then◌else◌}
use Rattle.std.proofs.Math.Seq.{take-suc}
use Rattle.std.proofs.lemmas.List.{map-append, length-take-le}
use Rattle.std.proofs.lemmas.Bool.Decides.{Decides-eqb}
use Rattle.std.specs.Prelude.{ℤ, Option, Some, None, Result, Ok, Err, ◌==◌, is_some, option_to_list}
use Rattle.text_lines.specs.Lines.{line_bytes}
use Rattle.lp_model.specs.Edits.{Named}
use Rattle.cert_text.specs.declared.cert.NamedCut.{NamedCut}
use Rattle.cert_text.specs.declared.cert.CertNode.{CertNode}
use Rattle.cert_text.specs.Text.{are_none, is_whole_tree, or_no_end}
use Rattle.front_text.specs.declared.front.FrontTree.{FrontTree}
use Rattle.front_text.specs.declared.front.FrontOutcome.{FrontOutcome}
use Rattle.front_text.specs.declared.front.FrontCert.{FrontCert}
use Rattle.front_text.specs.declared.front_line.FrontStatement.{FrontStatement}
use Rattle.front_text.specs.declared.front_line.FrontStatement.TheVariants as says
use Rattle.front_text.specs.Lines.{front_line_says}
use Rattle.front_text.specs.Text.{StatedFront, nothing_stated, with_point, with_cut, with_node, in_last, with_statement, after_line, stated_front, tree_end_code, tree_cut_code, tree_node_code, part_code, front_place_code, is_front_header, front_code_in, front_end_code, front_code_at, AreFrontClean, stated_front_cert}
use Rattle.front_text.specs.Statements.{outcome_statements, tree_statements, statements_of_trees, front_statements}
use Rattle.front_text.specs.Laws.{FrontLinesLaw}
use Rattle.front_text.proofs.TextLemmas.{counted, stated_more}

-- ---- lists

nil_right : {A : Type 0} (l : List A) → l ++ [] ≡ l
nil_right [] = refl
nil_right (x ∷ l) = ap (λ m. x ∷ m) (nil_right l)

-- something in front of nothing is behind it
slide : (a x e : List FrontStatement) → e ≡ [] → (a ++ x) ++ e ≡ (a ++ e) ++ x
slide a x e none = subst (λ e. (a ++ x) ++ e ≡ (a ++ e) ++ x) (sym none) (nil_right (a ++ x) ∙ ap (λ b. b ++ x) (sym (nil_right a)))

-- ---- what the lines behind the header said

abbrev waiting_said : Option (ℤ × ℤ) → List FrontStatement
waiting_said (Some values) = says.Outcome values.0 values.1 ∷ []
waiting_said None = []

abbrev last_said : Option FrontTree → List FrontStatement
last_said (Some tree) = tree_statements tree
last_said None = []

abbrev end_said : Bool → List FrontStatement
end_said true = says.End ∷ []
end_said false = []

abbrev four : List FrontStatement → List FrontStatement → List FrontStatement → List FrontStatement → List FrontStatement
four o t l e = ((o ++ t) ++ l) ++ e

abbrev said_in : StatedFront → List FrontStatement
said_in s = four (outcome_statements s.outcomes ++ waiting_said s.waiting) (statements_of_trees s.trees) (last_said s.last) (end_said s.ended)

-- trees stand behind whole outcomes, and before the last one
record AreInOrder (waiting : Option (ℤ × ℤ)) (trees : List FrontTree) (last : Option FrontTree) : Type 0 where
  none : last ≡ None → trees ≡ []
  points : (waiting ≡ None) ⊎ (last ≡ None)

abbrev IsInOrder : StatedFront → Type 0
IsInOrder s = AreInOrder s.waiting s.trees s.last

-- ---- statements by parts

outcomes_more : (outcomes : List FrontOutcome) (v1 v2 : ℤ) (named : Named) →
    outcome_statements (outcomes ++ record { v1 = v1; v2 = v2; point = named } ∷ []) ≡ (outcome_statements outcomes ++ says.Outcome v1 v2 ∷ []) ++ says.Point named ∷ []
outcomes_more [] v1 v2 named = refl
outcomes_more (o ∷ outcomes) v1 v2 named = ap (λ l. says.Outcome o.v1 o.v2 ∷ says.Point o.point ∷ l) (outcomes_more outcomes v1 v2 named)

trees_more : (trees : List FrontTree) (last : Option FrontTree) → statements_of_trees (trees ++ option_to_list last) ≡ statements_of_trees trees ++ last_said last
trees_more [] (Some tree) = nil_right (tree_statements tree)
trees_more [] None = refl
trees_more (t ∷ trees) last = ap (λ l. tree_statements t ++ l) (trees_more trees last) ∙ sym (append_assoc (tree_statements t) (statements_of_trees trees) (last_said last))

cut_more : (tree : FrontTree) (cut : NamedCut) → tree.nodes ≡ [] → tree_statements (with_cut cut tree) ≡ tree_statements tree ++ says.Cut cut ∷ []
cut_more tree cut none =
    ap (λ l. says.Tree tree.of ∷ l)
    (ap (λ l. l ++ map says.Node tree.nodes) (map-append says.Cut tree.cuts (cut ∷ []))
    ∙ slide (map says.Cut tree.cuts) (says.Cut cut ∷ []) (map says.Node tree.nodes) (ap (λ ns. map says.Node ns) none))

node_more : (tree : FrontTree) (node : CertNode) → tree_statements (with_node node tree) ≡ tree_statements tree ++ says.Node node ∷ []
node_more tree node =
    ap (λ l. says.Tree tree.of ∷ l)
    (ap (λ l. map says.Cut tree.cuts ++ l) (map-append says.Node tree.nodes (node ∷ []))
    ∙ sym (append_assoc (map says.Cut tree.cuts) (map says.Node tree.nodes) (says.Node node ∷ [])))

-- ---- one more line

module _ (o t l e x : List FrontStatement) where
  -- more outcomes
  in_first : t ≡ [] → l ≡ [] → e ≡ [] → four (o ++ x) t l e ≡ four o t l e ++ x
  in_first no_t no_l no_e = ap (λ a. (a ++ l) ++ e) (slide o x t no_t) ∙ ap (λ a. a ++ e) (slide (o ++ t) x l no_l) ∙ slide ((o ++ t) ++ l) x e no_e

  -- more of the last tree
  in_third : e ≡ [] → four o t (l ++ x) e ≡ four o t l e ++ x
  in_third no_e = ap (λ a. a ++ e) (sym (append_assoc (o ++ t) l x)) ∙ slide ((o ++ t) ++ l) x e no_e

  -- a new tree
  in_new : e ≡ [] → four o (t ++ l) x e ≡ four o t l e ++ x
  in_new no_e = ap (λ a. (a ++ x) ++ e) (sym (append_assoc o t l)) ∙ slide ((o ++ t) ++ l) x e no_e

nothing_some : (code : ℕ) → Some code ≡ None → ⊥
nothing_some code e = cc

abbrev six_unless : Bool → Option ℕ
six_unless b = if b then None else Some 6

abbrev six_or : Bool → Option ℕ → Option ℕ
six_or b x = if b then Some 6 else x

abbrev one_unless : Bool → Option ℕ
one_unless b = if b then None else Some 1

abbrev seven_if : Bool → Option ℕ
seven_if b = if b then Some 7 else None

is_nothing : {A : Type 0} (o : Option A) → is_some o ≡ false → o ≡ None
is_nothing None e = refl
is_nothing (Some x) e = absurd (let f : true ≡ false = e in cc)

no_code : (b : Bool) (x : Option ℕ) → six_or b x ≡ None → (b ≡ false) × (x ≡ None)
no_code true x e = absurd (nothing_some 6 e)
no_code false x e = (refl, e)

neither : (a b : Bool) → (a || b) ≡ false → (a ≡ false) × (b ≡ false)
neither true b e = absurd (let f : true ≡ false = e in cc)
neither false true e = absurd (let f : true ≡ false = e in cc)
neither false false e = (refl, refl)

some_none : (tree : FrontTree) → Some tree ≡ None → ⊥
some_none tree e = cc

abbrev IsNext : StatedFront → FrontStatement → Type 0
IsNext s statement = (said_in (with_statement s statement) ≡ said_in s ++ statement ∷ []) × IsInOrder (with_statement s statement)

waits : (s : StatedFront) (w : Option (ℤ × ℤ)) → s.waiting ≡ w → six_unless (is_some w) ≡ None → (values : ℤ × ℤ) × (s.waiting ≡ Some values)
waits s (Some values) e clean = (values, e)
waits s None e clean = absurd (nothing_some 6 clean)

stands : (s : StatedFront) (l : Option FrontTree) (code : FrontTree → Option ℕ) (by : Option FrontTree → Option ℕ) → by None ≡ Some 6 → ((tree : FrontTree) → by (Some tree) ≡ code tree) → s.last ≡ l → by l ≡ None → (tree : FrontTree) × ((s.last ≡ Some tree) × (code tree ≡ None))
stands s (Some tree) code by none some e clean = (tree, (e, sym (some tree) ∙ clean))
stands s None code by none some e clean = absurd (nothing_some 6 (sym none ∙ clean))

no_nodes : (nodes : List CertNode) → six_unless (are_none nodes) ≡ None → nodes ≡ []
no_nodes [] e = refl
no_nodes (n ∷ nodes) e = absurd (nothing_some 6 e)

last_is_none : (s : StatedFront) → IsInOrder s → (values : ℤ × ℤ) → s.waiting ≡ Some values → s.last ≡ None
last_is_none s order values is =
    elim order.points [
      | inl none ↦ absurd (let f : Some values ≡ None = sym is ∙ none in cc)
      | inr none ↦ none
    ]

changed_order : (waiting : Option (ℤ × ℤ)) (trees : List FrontTree) (last : Option FrontTree) (change : FrontTree → FrontTree) → AreInOrder waiting trees last → AreInOrder waiting trees (in_last change last)
changed_order waiting trees (Some tree) change order = record { none = λ e. absurd (some_none (change tree) e); points = elim order.points [ inl e ↦ inl e | inr e ↦ absurd (some_none tree e) ] }
changed_order waiting trees None change order = order

module _ (s : StatedFront) (order : IsInOrder s) (going : s.ended ≡ false) where
  no_end : end_said s.ended ≡ []
  no_end = ap end_said going

  next : (statement : FrontStatement) → front_place_code s statement ≡ None → IsNext s statement
  next says.Header clean = absurd (nothing_some 6 clean)
  next says.Foreign clean = absurd (nothing_some 6 clean)
  next (says.Outcome v1 v2) clean =
      let free = neither (is_some s.waiting) (is_some s.last) (no_code (is_some s.waiting || is_some s.last) None clean).0 in
      let no_point = is_nothing s.waiting free.0 in
      let no_last = is_nothing s.last free.1 in (
        ap (λ o. four o (statements_of_trees s.trees) (last_said s.last) (end_said s.ended)) (ap (λ a. a ++ says.Outcome v1 v2 ∷ []) (sym (nil_right (outcome_statements s.outcomes)) ∙ ap (λ w. outcome_statements s.outcomes ++ waiting_said w) (sym no_point)))
            ∙ in_first (outcome_statements s.outcomes ++ waiting_said s.waiting) (statements_of_trees s.trees) (last_said s.last) (end_said s.ended) (says.Outcome v1 v2 ∷ []) (ap statements_of_trees (order.none no_last)) (ap last_said no_last) no_end,
        record { none = order.none; points = inr no_last },
      )
  next (says.Point named) clean =
      let wait = waits s s.waiting refl clean in
      let no_last = last_is_none s order wait.0 wait.1 in (
        ap (λ o. four o (statements_of_trees s.trees) (last_said s.last) (end_said s.ended))
            (nil_right (outcome_statements (s.outcomes ++ with_point s.waiting named))
            ∙ ap (λ w. outcome_statements (s.outcomes ++ with_point w named)) wait.1
            ∙ outcomes_more s.outcomes wait.0.0 wait.0.1 named
            ∙ ap (λ w. (outcome_statements s.outcomes ++ waiting_said w) ++ says.Point named ∷ []) (sym wait.1))
            ∙ in_first (outcome_statements s.outcomes ++ waiting_said s.waiting) (statements_of_trees s.trees) (last_said s.last) (end_said s.ended) (says.Point named ∷ []) (ap statements_of_trees (order.none no_last)) (ap last_said no_last) no_end,
        record { none = order.none; points = inl refl },
      )
  next (says.Tree of) clean =
      let free = neither (is_some s.waiting) (are_none s.outcomes) (no_code (is_some s.waiting || are_none s.outcomes) (tree_end_code s.last) clean).0 in (
        ap (λ t. four (outcome_statements s.outcomes ++ waiting_said s.waiting) t (says.Tree of ∷ []) (end_said s.ended)) (trees_more s.trees s.last)
            ∙ in_new (outcome_statements s.outcomes ++ waiting_said s.waiting) (statements_of_trees s.trees) (last_said s.last) (end_said s.ended) (says.Tree of ∷ []) no_end,
        record { none = λ none. absurd (some_none _ none); points = inl (is_nothing s.waiting free.0) },
      )
  next (says.Cut cut) clean =
      let here = stands s s.last (λ tree. six_unless (are_none tree.nodes)) tree_cut_code refl (λ tree. refl) refl clean in (
        ap (λ l. four (outcome_statements s.outcomes ++ waiting_said s.waiting) (statements_of_trees s.trees) l (end_said s.ended))
            (ap (λ l. last_said (in_last (with_cut cut) l)) here.1.0 ∙ cut_more here.0 cut (no_nodes here.0.nodes here.1.1) ∙ ap (λ l. last_said l ++ says.Cut cut ∷ []) (sym here.1.0))
            ∙ in_third (outcome_statements s.outcomes ++ waiting_said s.waiting) (statements_of_trees s.trees) (last_said s.last) (end_said s.ended) (says.Cut cut ∷ []) no_end,
        changed_order s.waiting s.trees s.last (with_cut cut) order,
      )
  next (says.Node node) clean =
      let here = stands s s.last (λ tree. seven_if (is_whole_tree tree.nodes)) tree_node_code refl (λ tree. refl) refl clean in (
        ap (λ l. four (outcome_statements s.outcomes ++ waiting_said s.waiting) (statements_of_trees s.trees) l (end_said s.ended))
            (ap (λ l. last_said (in_last (with_node node) l)) here.1.0 ∙ node_more here.0 node ∙ ap (λ l. last_said l ++ says.Node node ∷ []) (sym here.1.0))
            ∙ in_third (outcome_statements s.outcomes ++ waiting_said s.waiting) (statements_of_trees s.trees) (last_said s.last) (end_said s.ended) (says.Node node ∷ []) no_end,
        changed_order s.waiting s.trees s.last (with_node node) order,
      )
  next says.End clean =
      (ap (λ a. a ++ says.End ∷ []) (sym (nil_right _) ∙ ap (λ e. ((((outcome_statements s.outcomes ++ waiting_said s.waiting) ++ statements_of_trees s.trees) ++ last_said s.last) ++ end_said e)) (sym going)), record { none = order.none; points = order.points })

-- ---- the end

-- nothing is due behind the end
abbrev IsClosed : StatedFront → Type 0
IsClosed s = s.ended ≡ true → (s.waiting ≡ None) × (are_none s.outcomes ≡ false)

closed_next : (s : StatedFront) → s.ended ≡ false → (statement : FrontStatement) → front_place_code s statement ≡ None → IsClosed (with_statement s statement)
closed_next s going says.Header clean e = absurd (let f : true ≡ false = sym e ∙ going in cc)
closed_next s going says.Foreign clean e = absurd (let f : true ≡ false = sym e ∙ going in cc)
closed_next s going (says.Outcome v1 v2) clean e = absurd (let f : true ≡ false = sym e ∙ going in cc)
closed_next s going (says.Point named) clean e = absurd (let f : true ≡ false = sym e ∙ going in cc)
closed_next s going (says.Tree of) clean e = absurd (let f : true ≡ false = sym e ∙ going in cc)
closed_next s going (says.Cut cut) clean e = absurd (let f : true ≡ false = sym e ∙ going in cc)
closed_next s going (says.Node node) clean e = absurd (let f : true ≡ false = sym e ∙ going in cc)
closed_next s going says.End clean e =
    let free = neither (is_some s.waiting) (are_none s.outcomes) (no_code (is_some s.waiting || are_none s.outcomes) (tree_end_code s.last) clean).0 in
    (is_nothing s.waiting free.0, free.1)

-- ---- line by line

abbrev line_test : Bool → Bool → Option ℕ → Option ℕ → Option ℕ
line_test a b h x = if a then h else if b then Some 8 else x

three : (a b : Bool) (h x : Option ℕ) → a ≡ false → line_test a b h x ≡ None → (b ≡ false) × (x ≡ None)
three true b h x f e = absurd (let g : true ≡ false = f in cc)
three false true h x f e = absurd (nothing_some 8 e)
three false false h x f e = (refl, e)

first_clean : (said : Result FrontStatement ℕ) → front_code_in nothing_stated said ≡ None → said ≡ Ok says.Header
first_clean (Ok says.Header) e = refl
first_clean (Ok (says.Outcome v1 v2)) e = absurd (nothing_some 1 e)
first_clean (Ok (says.Point named)) e = absurd (nothing_some 1 e)
first_clean (Ok (says.Tree of)) e = absurd (nothing_some 1 e)
first_clean (Ok (says.Cut cut)) e = absurd (nothing_some 1 e)
first_clean (Ok (says.Node node)) e = absurd (nothing_some 1 e)
first_clean (Ok says.End) e = absurd (nothing_some 1 e)
first_clean (Ok says.Foreign) e = absurd (nothing_some 1 e)
first_clean (Err code) e = absurd (nothing_some 1 e)

not_zero : (m n : ℕ) (b : Bool) → (m == 0) ≡ b → m ≡ suc n → b ≡ false
not_zero m n true e is = absurd (let z = (Decides-eqb m 0).0 e in omega (arith, z, is))
not_zero m n false e is = refl

-- a line behind the first one
later_clean : (s : StatedFront) (n : ℕ) → s.count ≡ suc n → (said : Result FrontStatement ℕ) → front_code_in s said ≡ None → (s.ended ≡ false) × ((statement : FrontStatement) × ((said ≡ Ok statement) × (front_place_code s statement ≡ None)))
later_clean s n count (Ok statement) e =
    let c = three (s.count == 0) s.ended (one_unless (is_front_header (Ok statement))) (front_place_code s statement) (not_zero s.count n (s.count == 0) refl count) e in
    (c.0, (statement, (refl, c.1)))
later_clean s n count (Err code) e =
    let c = three (s.count == 0) s.ended (Some 1) (Some code) (not_zero s.count n (s.count == 0) refl count) e in
    absurd (nothing_some code c.1)

module _ (lines : List (List ℕ)) where
  record AreSaid (s : StatedFront) (some : List (List ℕ)) : Type 0 where
    order : IsInOrder s
    closed : IsClosed s
    said : map front_line_says some ≡ map Ok (says.Header ∷ said_in s)

  said_first : (below : 0 < length lines) → front_code_at lines 0 ≡ None → AreSaid (stated_front (take 1 lines)) (take 1 lines)
  unfolding front_code_at stated_front
  said_first below clean =
      let header = first_clean (front_line_says (get_or lines 0 [])) clean in
      subst (λ ls. AreSaid (stated_front ls) ls) (sym (take-suc lines 0 [] below))
      (subst (λ said. AreSaid (after_line nothing_stated said) (get_or lines 0 [] ∷ [])) (sym header)
      (record { order = record { none = λ _. refl; points = inl refl }; closed = λ e. absurd (let f : false ≡ true = e in cc); said = ap (λ said. said ∷ []) header }))

  said_next : (s : StatedFront) (some : List (List ℕ)) (line : List ℕ) (n : ℕ) → s.count ≡ suc n → AreSaid s some → front_code_in s (front_line_says line) ≡ None → AreSaid (after_line s (front_line_says line)) (some ++ line ∷ [])
  said_next s some line n count said clean =
      let c = later_clean s n count (front_line_says line) clean in
      let statement = c.1.0 in
      let more = next s said.order c.0 statement c.1.1.1 in
      record {
        order = subst (λ r. IsInOrder (after_line s r)) (sym c.1.1.0) more.1;
        closed = subst (λ r. IsClosed (after_line s r)) (sym c.1.1.0) (closed_next s c.0 statement c.1.1.1);
        said =
            map-append front_line_says some (line ∷ [])
            ∙ (λ i. said.said i ++ c.1.1.0 i ∷ [])
            ∙ sym (map-append Ok (says.Header ∷ said_in s) (statement ∷ []))
            ∙ ap (λ l. map Ok (says.Header ∷ l)) (sym more.0)
            ∙ ap (λ r. map Ok (says.Header ∷ said_in (after_line s r))) (sym c.1.1.0);
      }

  all_said : (k : ℕ) → k < length lines → AreFrontClean lines (suc k) → AreSaid (stated_front (take (suc k) lines)) (take (suc k) lines)
  unfolding front_code_at
  all_said zero below clean = said_first below (clean 0 (omega arith))
  all_said (suc k) below clean =
      let before = all_said k (omega (arith, below)) (λ j h. clean j (omega (arith, h))) in
      let count = counted (take (suc k) lines) ∙ length-take-le (suc k) lines (omega (arith, below)) in
      let one = said_next (stated_front (take (suc k) lines)) (take (suc k) lines) (get_or lines (suc k) []) k count before (clean (suc k) (omega arith)) in
      subst (λ ls. AreSaid (stated_front ls) ls) (sym (take-suc lines (suc k) [] below))
      (subst (λ s. AreSaid s (take (suc k) lines ++ get_or lines (suc k) [] ∷ [])) (sym (stated_more (take (suc k) lines) (get_or lines (suc k) []))) one)

-- ---- the whole text

take_all : (lines : List (List ℕ)) (n : ℕ) → length lines ≡ n → take n lines ≡ lines
take_all [] zero e = refl
take_all [] (suc n) e = absurd (omega (arith, e))
take_all (line ∷ lines) zero e = absurd (omega (arith, e))
take_all (line ∷ lines) (suc n) e = ap (λ ls. line ∷ ls) (take_all lines n (omega (arith, e)))

some_lines : (lines : List (List ℕ)) → front_end_code (stated_front lines) ≡ None → (n : ℕ) × (length lines ≡ suc n)
unfolding stated_front
some_lines [] e = absurd (nothing_some 1 e)
some_lines (line ∷ lines) e = (length lines, refl)

abbrev end_test : Bool → Bool → ℕ → Option ℕ
end_test a b x = if a then Some 1 else if b then None else Some x

ended_there : (a b : Bool) (x : ℕ) → end_test a b x ≡ None → b ≡ true
ended_there true b x e = absurd (nothing_some 1 e)
ended_there false true x e = refl
ended_there false false x e = absurd (nothing_some x e)

whole_said : (s : StatedFront) → s.waiting ≡ None → s.ended ≡ true → says.Header ∷ said_in s ≡ front_statements (stated_front_cert s)
whole_said s waiting ended =
    ap (λ l. says.Header ∷ l)
    ((λ i. four (outcome_statements s.outcomes ++ waiting_said (waiting i)) (statements_of_trees s.trees) (last_said s.last) (end_said (ended i)))
    ∙ ap (λ o. four o (statements_of_trees s.trees) (last_said s.last) (says.End ∷ [])) (nil_right (outcome_statements s.outcomes))
    ∙ ap (λ a. a ++ says.End ∷ [])
    (append_assoc (outcome_statements s.outcomes) (statements_of_trees s.trees) (last_said s.last)
    ∙ ap (λ t. outcome_statements s.outcomes ++ t) (sym (trees_more s.trees s.last))))

some_outcomes : (outcomes : List FrontOutcome) → are_none outcomes ≡ false → 0 < length outcomes
some_outcomes [] e = absurd (let f : true ≡ false = e in cc)
some_outcomes (o ∷ outcomes) e = omega arith

pub spelled_out : FrontLinesLaw
spelled_out text cert meant =
    let lines = line_bytes text in
    let s = stated_front lines in
    let some = some_lines lines meant.ended in
    let all = take_all lines (suc some.0) some.1 in
    let said : AreSaid lines s lines = subst (λ ls. AreSaid lines (stated_front ls) ls) all
    (all_said lines some.0 (let e = some.1 in omega (arith, e)) (subst (λ n. AreFrontClean lines n) some.1 meant.clean)) in
    let ended = ended_there (s.count == 0) s.ended (or_no_end (part_code s)) meant.ended in
    let closed = said.closed ended in
    record {
      lines = said.said ∙ ap (λ l. map Ok l) (whole_said s closed.0 ended ∙ ap front_statements (sym meant.is));
      outcomes = subst (λ (c : FrontCert). 0 < length c.outcomes) (sym meant.is) (some_outcomes s.outcomes closed.1);
    }
