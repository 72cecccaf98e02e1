-- The names in the certificate of a search are words where the model's are.
use Rattle.std.proofs.Common.{ℕ, ◌<◌, Bool, true, false, List, [], ◌∷◌, ◌++◌, length, get_or, map, sym, subst, arith, if◌then◌else◌}
use Rattle.std.specs.Prelude.{zero, suc, IsTrue, All, Option, Some, None}
use Rattle.std.proofs.lemmas.List.{length-map}
use Rattle.std.proofs.lemmas.List.Elements.{All-nil, All-cons, All-head, All-tail, All-append, All-map}
use Rattle.frac128.specs.Rational.{ℚ}
use Rattle.lp_model.specs.Program.{Program, Point}
use Rattle.lp_model.specs.Edits.{is_zero}
use Rattle.lp_model.specs.Elements.{of_element}
use Rattle.lp_model.specs.Regions.{Path}
use Rattle.lp_model.specs.Formulations.{Formulation, formulation}
use Rattle.lp_model.specs.Cuts.{is_live}
use Rattle.lp_model.specs.declared.types.CutRow.{CutRow}
use Rattle.lp_model.specs.declared.types.Literal.{Literal}
use Rattle.lp_model.specs.declared.types.Derivation.{Derivation}
use Rattle.lp_model.specs.declared.types.Col.{Col}
use Rattle.lp_model.specs.declared.types.Var.{Var}
use Rattle.lp_model.specs.declared.types.Var.TheVariants.{Row, Col as ColVar, Cut}
use Rattle.cover_cuts.specs.Answers.{DerivesWithRoom}
use Rattle.cover_cuts.specs.Cuts.{IsPoolOf}
use Rattle.leaf_dual.specs.Dual.{Multipliers}
use Rattle.branch_tree.specs.Tree.{Leaf, Split, left_path, right_path, SplitsLawfully}
use Rattle.branch_tree.specs.Plain.{Plain}
use Rattle.branch_tree.specs.declared.node.LeafData.{LeafData}
use Rattle.search_parts.specs.Lists.{IsActivityThere, HasLists, HasNodeLists}
use Rattle.sound_searches.specs.Sound.{PlainSearch, IsSound}
use Rattle.cert_text.specs.declared.cert.CertMult.TheVariants as mult
use Rattle.cert_text.specs.declared.cert.CertNode.{CertNode}
use Rattle.cert_text.specs.declared.cert.CertNode.TheVariants as node
use Rattle.cert_text.specs.declared.cert.Cert.{Cert}
use Rattle.cert_text.specs.Tree.{CertTree, certificate_nodes}
use Rattle.cert_text.specs.Tree.{Bound as CertBound, Farkas as CertFarkas, Empty as CertEmpty, Split as CertSplit}
use Rattle.tree_cert.specs.Certificates.{nonzero_numbers, point_numbers, IsReason, IsTreeOf, IsCertificateOf, IsCertificateWithin, unbounded_certificate}
use Rattle.tree_cert.specs.Cuts.{named_literal, named_cut, derivation_at, named_cuts, used_number, mult_named, mults_named}
use Rattle.tree_cert.specs.private.Marked.{IsDerivationThere}
use Rattle.lp_model.specs.Lawful.{row_name, column_name}
use Rattle.text_lines.specs.Words.{IsWord}
use Rattle.word_names.specs.WordNames.{HasWordNames}
use Rattle.cert_writer.specs.CertText.{HasNameWords, IsMultWord, HasCutWords, HasNodeWords, HasCertWords}
use Rattle.tree_cert.proofs.CutNames.{derivation_there, derives_at}

abbrev Worded : List ℕ × ℚ → Type 0
Worded e = IsWord e.0

-- the name of an element
element-word : {A : Type 0} (name : A → List ℕ) (xs : List A) (k : ℕ) → All (λ a. IsWord (name a)) xs → k < length xs → IsWord (of_element [] name xs k)
element-word name [] k all below = absurd (omega arith)
element-word name (x ∷ xs) zero all below = All-head (λ a. IsWord (name a)) x xs all
element-word name (x ∷ xs) (suc k) all below = let h : k < length xs = omega arith in element-word name xs k (All-tail (λ a. IsWord (name a)) x xs all) h

module _ (M : Program) (plain : HasWordNames M) where
  column-word : (j : ℕ) → j < length M.cols → IsWord (column_name M j)
  column-word j there = element-word (λ c. c.name) M.cols j plain.columns there

  row-word : (i : ℕ) → i < length M.rows → IsWord (row_name M i)
  row-word i there = element-word (λ r. r.name) M.rows i plain.rows there

  module _ (cuts : List CutRow) (number : ℕ → ℕ) where
    abbrev F : Formulation
    F = formulation M cuts

    mult-words : (x : Var) (v : ℚ) → IsActivityThere F x → All IsMultWord (mult_named F number x v)
    mult-words (Row row) v there = All-cons IsMultWord (mult.Row (row_name M row.0) v) [] (row-word row.0 there) (All-nil IsMultWord)
    mult-words (ColVar col) v there = absurd there
    mult-words (Cut cut) v there = by (is_live cuts cut.0)
      where
        by : (b : Bool) → All IsMultWord (if b then mult.Cut (number cut.0) v ∷ [] else [])
        by true = All-cons IsMultWord (mult.Cut (number cut.0) v) [] tt (All-nil IsMultWord)
        by false = All-nil IsMultWord

    mults-words : (list : Multipliers) → All (IsActivityThere F) (map (λ (m : Var × ℚ). m.0) list) → All IsMultWord (mults_named F number list)
    mults-words [] there = All-nil IsMultWord
    mults-words (m ∷ list) there =
        All-append IsMultWord (mult_named F number m.0 m.1) (mults_named F number list) (mult-words m.0 m.1 (All-head (IsActivityThere F) m.0 (map (λ (m : Var × ℚ). m.0) list) there))
        (mults-words list (All-tail (IsActivityThere F) m.0 (map (λ (m : Var × ℚ). m.0) list) there))

    leaf-words : (path : Path) (kept : LeafData) (n : CertNode) → HasLists F kept → IsReason F number path kept n → HasNodeWords n
    leaf-words path kept node.Empty lists reason = tt
    leaf-words path kept (node.Farkas mults) lists reason = subst (All IsMultWord) (sym reason.1.1) (mults-words kept.farkas lists.farkas.each)
    leaf-words path kept (node.Bound mults) lists reason = subst (All IsMultWord) (sym reason.1.1) (mults-words kept.mult lists.mult.each)
    leaf-words path kept (node.Split col v) lists reason = absurd reason

    leaf-nodes : (path : Path) (kept : LeafData) (n : CertNode) → HasLists F kept → IsReason F number path kept n → All HasNodeWords (n ∷ [])
    leaf-nodes path kept n lists reason = All-cons HasNodeWords n [] (leaf-words path kept n lists reason) (All-nil HasNodeWords)

    tree-words : (path : Path) (s : Plain) (tree : CertTree) → SplitsLawfully M s → HasNodeLists F s → IsTreeOf F number path s tree → All HasNodeWords (certificate_nodes tree)
    tree-words path (Leaf l) (CertBound mults) lawful lists like = leaf-nodes path l.kept (node.Bound mults) lists like
    tree-words path (Leaf l) (CertFarkas mults) lawful lists like = leaf-nodes path l.kept (node.Farkas mults) lists like
    tree-words path (Leaf l) CertEmpty lawful lists like = leaf-nodes path l.kept node.Empty lists like
    tree-words path (Leaf l) (CertSplit col w first second) lawful lists like = absurd like
    tree-words path (Split kept j v left right) (CertBound mults) lawful lists like = absurd like
    tree-words path (Split kept j v left right) (CertFarkas mults) lawful lists like = absurd like
    tree-words path (Split kept j v left right) CertEmpty lawful lists like = absurd like
    tree-words path (Split kept j v left right) (CertSplit col w first second) lawful lists like =
        All-cons HasNodeWords (node.Split col w) (certificate_nodes first ++ certificate_nodes second) (subst IsWord (sym like.0) (column-word j lawful.0.0))
        (All-append HasNodeWords (certificate_nodes first) (certificate_nodes second) (tree-words (left_path path j v) left first lawful.1.0 lists.1.0 like.1.1.0) (tree-words (right_path path j v) right second lawful.1.1 lists.1.1 like.1.1.1))

  -- ---- cuts

  literals-words : (ls : List Literal) → All (λ l. l.col.0 < length M.cols) ls → All (λ (l : List ℕ × Bool). IsWord l.0) (map (named_literal M) ls)
  literals-words [] there = All-nil (λ (l : List ℕ × Bool). IsWord l.0)
  literals-words (l ∷ ls) there =
      All-cons (λ (l : List ℕ × Bool). IsWord l.0) (named_literal M l) (map (named_literal M) ls) (column-word l.col.0 (All-head (λ l. l.col.0 < length M.cols) l ls there))
      (literals-words ls (All-tail (λ l. l.col.0 < length M.cols) l ls there))

  cut-words : (d : Derivation) → DerivesWithRoom M d → HasCutWords (named_cut M d)
  cut-words d h =
      let there : IsDerivationThere M d = derivation_there M d h in
      let some : 0 < length d.literals = h.derives.posed.some in
      let size = length-map d.literals (named_literal M) in
      record { row = row-word d.row.0 there.row; literals = literals-words d.literals there.literals; some = omega (arith, size, some) }

  cuts-words : (cuts : List CutRow) → IsPoolOf M cuts → (used : List ℕ) → All (λ k. IsTrue (is_live cuts k)) used → All HasCutWords (named_cuts M cuts used)
  cuts-words cuts pool used live =
      All-map HasCutWords (λ k. named_cut M (derivation_at cuts k)) used (λ i d below. cut-words (derivation_at cuts (get_or used i d)) (derives_at M cuts pool (get_or used i d) (live i d below)))

numbers-words : (cols : List Col) (x : Point) → All (λ c. IsWord c.name) cols → HasNameWords (nonzero_numbers cols x)
numbers-words [] x plain = All-nil Worded
numbers-words (c ∷ cols) [] plain = All-nil Worded
numbers-words (c ∷ cols) (v ∷ x) plain = by (is_zero v) (All-head (λ (b : Col). IsWord b.name) c cols plain) (numbers-words cols x (All-tail (λ (b : Col). IsWord b.name) c cols plain))
  where
    by : (b : Bool) → IsWord c.name → HasNameWords (nonzero_numbers cols x) → HasNameWords (if b then nonzero_numbers cols x else (c.name, v) ∷ nonzero_numbers cols x)
    by true here rest = rest
    by false here rest = All-cons Worded (c.name, v) (nonzero_numbers cols x) here rest

point-words : (M : Program) (best : Option Point) → HasWordNames M → HasNameWords (point_numbers M best)
point-words M None plain = All-nil Worded
point-words M (Some x) plain = numbers-words M.cols x plain.columns

pub certificate_words : (S : PlainSearch) (cert : Cert) → IsSound S → IsCertificateOf S cert → HasWordNames S.model → HasCertWords cert
certificate_words S cert sound of plain =
    let proof = of.proof in
    record {
      point = subst HasNameWords (sym of.point) (point-words S.model of.incumbent plain);
      ray = subst HasNameWords (sym of.ray) (All-nil Worded);
      cuts = subst (All HasCutWords) (sym proof.cuts_are) (cuts-words S.model plain S.cuts sound.pool proof.used proof.live);
      nodes = subst (All HasNodeWords) proof.nodes_are (tree-words S.model plain S.cuts (used_number proof.used) [] S.tree.root proof.tree sound.tree.lawful sound.tree.lists proof.like);
    }

pub within_words : (S : PlainSearch) (g : ℚ) (cert : Cert) → IsSound S → IsCertificateWithin S g cert → HasWordNames S.model → HasCertWords cert
within_words S g cert sound of plain =
    let proof = of.proof in
    record {
      point = subst HasNameWords (sym of.point) (numbers-words S.model.cols of.best plain.columns);
      ray = subst HasNameWords (sym of.ray) (All-nil Worded);
      cuts = subst (All HasCutWords) (sym proof.cuts_are) (cuts-words S.model plain S.cuts sound.pool proof.used proof.live);
      nodes = subst (All HasNodeWords) proof.nodes_are (tree-words S.model plain S.cuts (used_number proof.used) [] S.tree.root proof.tree sound.tree.lawful sound.tree.lists proof.like);
    }

pub unbounded_words : (M : Program) (x d : Point) → HasWordNames M → HasCertWords (unbounded_certificate M x d)
unbounded_words M x d plain = record { point = numbers-words M.cols x plain.columns; ray = numbers-words M.cols d plain.columns; cuts = All-nil HasCutWords; nodes = All-nil HasNodeWords }
