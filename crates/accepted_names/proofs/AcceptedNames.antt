-- The names in an accepted certificate are words where the model's are: each stands among those of the model that its part is of.
use Rattle.std.specs.Prelude.{ℕ, ◌<◌, Bool, ℤ, ◌-ℤ◌, List, [], ◌∷◌, ◌++◌, length, map, get_or, All, Contains}
use Rattle.std.specs.List.{AllZip}
use Rattle.std.proofs.Common.{sym, ap, subst, arith}
use Rattle.std.proofs.lemmas.List.{length-map}
use Rattle.std.proofs.lemmas.List.Elements.{All-nil, All-cons, All-head, All-tail, All-append, All-map, All-weaker}
use Rattle.frac128.specs.Rational.{ℚ, int}
use Rattle.frac128.specs.Range.{IsNarrow}
use Rattle.lp_model.specs.Program.{Program}
use Rattle.lp_model.specs.Lawful.{column_names}
use Rattle.lp_model.specs.Edits.{Named, only_row_names, place_in}
use Rattle.lp_model.specs.Regions.{Path}
use Rattle.lp_model.specs.Formulations.{Formulation}
use Rattle.branch_tree.specs.Tree.{SplitsLawfully, EachLeaf, left_path, right_path}
use Rattle.text_lines.specs.Words.{IsWord}
use Rattle.word_names.specs.WordNames.{HasWordNames}
use Rattle.cert_text.specs.declared.cert.CertMult.{CertMult}
use Rattle.cert_text.specs.declared.cert.CertMult.TheVariants as mult
use Rattle.cert_text.specs.declared.cert.CertNode.{CertNode}
use Rattle.cert_text.specs.declared.cert.CertNode.TheVariants as node
use Rattle.cert_text.specs.declared.cert.NamedCut.{NamedCut}
use Rattle.cert_text.specs.declared.cert.Claim.{Claim}
use Rattle.cert_text.specs.declared.cert.Claim.TheVariants as claim
use Rattle.cert_text.specs.Tree.{CertTree, certificate_nodes, Bound, Farkas, Empty, Split}
use Rattle.cert_check.specs.Places.{with_places}
use Rattle.cert_check.specs.Mults.{IsMultiplierThere}
use Rattle.cert_check.specs.Cuts.{formulation_by, CutStands, literal_names, literal_of}
use Rattle.cert_check.specs.Accepted.{AreNames, Closes, HasPoint, HasRay, IsClosedTree, HasClosedTree}
use Rattle.cert_check.proofs.PairLemmas.{place_contained}
use Rattle.cert_writer.specs.CertText.{HasNameWords, IsMultWord, HasCutWords, HasNodeWords}
use Rattle.frontier.specs.declared.outcomes.Outcome.{Outcome}
use Rattle.frontier.specs.Laws.{last_of}
use Rattle.inner_models.specs.Inner.{bare_model, least2_model}
use Rattle.front_text.specs.declared.front.FrontTree.{FrontTree}
use Rattle.front_text.specs.declared.front.FrontOutcome.{FrontOutcome}
use Rattle.front_check.specs.Accepted.{outcome_of, HasItsPoint, without_constants, TargetedModel, gap_part, gap_parts, front_parts, IsProvedBy}
use Rattle.front_writer.specs.FrontWords.{HasOutcomeWords, HasTreeWords}
use Rattle.accepted_names.specs.Laws.{AcceptedNamesLaw, FrontNamesLaw}
use Rattle.accepted_names.proofs.InnerNames.{bare_words, least2_words, gap_words}

-- what stands among words is one
contained-word : (known : List (List ℕ)) (name : List ℕ) → All IsWord known → Contains known name → IsWord name
contained-word known name words there = subst IsWord there.2 (words there.0 name there.1)

named-words : (known : List (List ℕ)) (named : Named) → All IsWord known → All (Contains known) (map (λ e. e.0) named) → HasNameWords named
named-words known [] words there = All-nil (λ (e : List ℕ × ℚ). IsWord e.0)
named-words known (e ∷ named) words there =
    All-cons (λ (e : List ℕ × ℚ). IsWord e.0) e named (contained-word known e.0 words (All-head (Contains known) e.0 (map (λ (e : List ℕ × ℚ). e.0) named) there))
    (named-words known named words (All-tail (Contains known) e.0 (map (λ (e : List ℕ × ℚ). e.0) named) there))

literals-words : (known : List (List ℕ)) (literals : List (List ℕ × Bool)) → All IsWord known → All (Contains known) (literal_names literals) → All (λ l. IsWord l.0) literals
literals-words known [] words there = All-nil (λ (l : List ℕ × Bool). IsWord l.0)
literals-words known (l ∷ literals) words there =
    All-cons (λ (l : List ℕ × Bool). IsWord l.0) l literals (contained-word known l.0 words (All-head (Contains known) l.0 (literal_names literals) there))
    (literals-words known literals words (All-tail (Contains known) l.0 (literal_names literals) there))

module _ (P : Program) (plain : HasWordNames P) where
  columns-words : All IsWord (column_names P)
  columns-words = All-map IsWord (λ c. c.name) P.cols plain.columns

  rows-words : All IsWord (only_row_names P)
  rows-words = All-map IsWord (λ r. r.name) P.rows plain.rows

  pub names-words : (named : Named) → AreNames (column_names P) named → HasNameWords named
  names-words named names = named-words (column_names P) named columns-words names.there

  -- ---- cuts

  cut-words : (cut : NamedCut) → CutStands P cut → HasCutWords cut
  cut-words cut stands =
      let some = stands.derives.posed.some in
      let size = length-map cut.literals (literal_of P) in
      record {
        row = contained-word (only_row_names P) cut.row rows-words stands.names.row;
        literals = literals-words (column_names P) cut.literals columns-words stands.names.literals.there;
        some = omega (arith, size, some);
      }

  pub cuts-words : (cuts : List NamedCut) → All (CutStands P) cuts → All HasCutWords cuts
  cuts-words cuts stand = All-weaker (CutStands P) HasCutWords cut-words cuts stand

  -- ---- nodes

  mult-words : (n : ℕ) (m : CertMult) → IsMultiplierThere P n m → IsMultWord m
  mult-words n (mult.Row name v) there = contained-word (only_row_names P) name rows-words there
  mult-words n (mult.Cut k v) there = tt

  split-word : (col : List ℕ) → place_in (column_names P) col < length P.cols → IsWord col
  split-word col within =
      contained-word (column_names P) col columns-words (place_contained (column_names P) col (subst (λ n. place_in (column_names P) col < n) (sym (length-map P.cols (λ c. c.name))) within))

  module _ (cuts : List NamedCut) (claims : Claim) where
    abbrev F : Formulation
    F = formulation_by P cuts

    tree-words : (path : Path) (tree : CertTree) → SplitsLawfully P (with_places P tree) → EachLeaf (Closes F claims) path (with_places P tree) → All HasNodeWords (certificate_nodes tree)
    tree-words path (Bound mults) splits closes =
        All-cons HasNodeWords (node.Bound mults) [] (All-weaker (IsMultiplierThere P (length F.cuts)) IsMultWord (mult-words (length F.cuts)) mults closes.0.there) (All-nil HasNodeWords)
    tree-words path (Farkas mults) splits closes =
        All-cons HasNodeWords (node.Farkas mults) [] (All-weaker (IsMultiplierThere P (length F.cuts)) IsMultWord (mult-words (length F.cuts)) mults closes.0.there) (All-nil HasNodeWords)
    tree-words path Empty splits closes = All-cons HasNodeWords node.Empty [] tt (All-nil HasNodeWords)
    tree-words path (Split col v left right) splits closes =
        All-cons HasNodeWords (node.Split col v) (certificate_nodes left ++ certificate_nodes right) (split-word col splits.0.0)
        (All-append HasNodeWords (certificate_nodes left) (certificate_nodes right)
        (tree-words (left_path path (place_in (column_names P) col) v) left splits.1.0 closes.0)
        (tree-words (right_path path (place_in (column_names P) col) v) right splits.1.1 closes.1))

    pub closed-words : (nodes : List CertNode) → IsClosedTree F claims nodes → All HasNodeWords nodes
    closed-words nodes closed = subst (All HasNodeWords) closed.nodes_are (tree-words [] closed.tree closed.splits closed.leaves)

  -- ---- a certificate of one value

  point-words : (claims : Claim) (named : Named) → HasPoint P claims named → HasNameWords named
  point-words (claim.Optimal v) named has = names-words named has.names
  point-words (claim.Within g v) named has = names-words named has.names
  point-words claim.Infeasible named has = subst HasNameWords (sym has) (All-nil (λ (e : List ℕ × ℚ). IsWord e.0))
  point-words claim.Unbounded named has = names-words named has.names

  ray-words : (claims : Claim) (named : Named) → HasRay P claims named → HasNameWords named
  ray-words (claim.Optimal v) named has = subst HasNameWords (sym has) (All-nil (λ (e : List ℕ × ℚ). IsWord e.0))
  ray-words (claim.Within g v) named has = subst HasNameWords (sym has) (All-nil (λ (e : List ℕ × ℚ). IsWord e.0))
  ray-words claim.Infeasible named has = subst HasNameWords (sym has) (All-nil (λ (e : List ℕ × ℚ). IsWord e.0))
  ray-words claim.Unbounded named has = names-words named has.names

  nodes-words : (cuts : List NamedCut) (claims : Claim) (nodes : List CertNode) → HasClosedTree (formulation_by P cuts) claims nodes → All HasNodeWords nodes
  nodes-words cuts (claim.Optimal v) nodes closed = closed-words cuts (claim.Optimal v) nodes closed
  nodes-words cuts (claim.Within g v) nodes closed = closed-words cuts (claim.Within g v) nodes closed
  nodes-words cuts claim.Infeasible nodes closed = closed-words cuts claim.Infeasible nodes closed
  nodes-words cuts claim.Unbounded nodes closed = subst (All HasNodeWords) (sym closed) (All-nil HasNodeWords)

pub accepted-words : AcceptedNamesLaw
accepted-words M cert accepts plain = record {
  point = point-words M plain cert.claim cert.point accepts.point;
  ray = ray-words M plain cert.claim cert.ray accepts.ray;
  cuts = cuts-words M plain cert.cuts accepts.cuts;
  nodes = nodes-words M plain cert.cuts cert.claim cert.nodes accepts.nodes;
}

-- ---- a certificate of a front

abbrev PlainPart : TargetedModel → Type 0
PlainPart part = HasWordNames part.model

gaps-plain : (N : Program) (i1 i2 : ℤ) (p : Outcome) (l : List Outcome) → HasWordNames N → All PlainPart (gap_parts N i1 i2 p l)
gaps-plain N i1 i2 p [] plain = All-nil PlainPart
gaps-plain N i1 i2 p (q ∷ l) plain =
    All-cons PlainPart (gap_part N i1 i2 p q) (gap_parts N i1 i2 q l) (gap_words N (p.f2 -ℤ i2) (q.f1 -ℤ i1) i1 i2 plain) (gaps-plain N i1 i2 q l plain)

parts-plain : (N : Program) (p : Outcome) (l : List Outcome) → HasWordNames N → All PlainPart (front_parts N p l)
parts-plain N p l plain =
    let i2 = (last_of p l).f2 in
    let gaps = gap_parts N p.f1 i2 p l in
    All-cons PlainPart (record { model = N; target = p.f1 }) (record { model = least2_model N; target = i2 } ∷ gaps) plain
    (All-cons PlainPart (record { model = least2_model N; target = i2 }) gaps (least2_words N plain) (gaps-plain N p.f1 i2 p l plain))

trees-words : (parts : List TargetedModel) (trees : List FrontTree) → All PlainPart parts → AllZip IsProvedBy parts trees → All HasTreeWords trees
trees-words [] [] plain proved = All-nil HasTreeWords
trees-words [] (t ∷ trees) plain proved = absurd proved
trees-words (part ∷ parts) [] plain proved = absurd proved
trees-words (part ∷ parts) (t ∷ trees) plain proved =
    let here = All-head PlainPart part parts plain in
    All-cons HasTreeWords t trees
    (record { cuts = cuts-words part.model here t.cuts proved.0.cuts; nodes = closed-words part.model here t.cuts (claim.Optimal (int part.target)) t.nodes proved.0.nodes })
    (trees-words parts trees (All-tail PlainPart part parts plain) proved.1)

outcomes-words : (M : Program) (outcomes : List FrontOutcome) → HasWordNames M → All (HasItsPoint M) outcomes → All (λ o. IsNarrow o.v1 × IsNarrow o.v2) outcomes → All HasOutcomeWords outcomes
outcomes-words M outcomes plain points narrow = λ i o below.
    let room = narrow i o below in
    record { first = room.0; second = room.1; point = names-words M plain (get_or outcomes i o).point (points i o below).names }

pub front-words : FrontNamesLaw
front-words M cert accepts narrow plain =
    let size = length-map cert.outcomes outcome_of in
    let some = ap length accepts.outcomes in
    record {
      some = omega (arith, size, some);
      outcomes = outcomes-words M cert.outcomes plain accepts.points narrow;
      trees = trees-words (front_parts (bare_model M) (without_constants M accepts.first) (map (without_constants M) accepts.rest)) cert.trees
          (parts-plain (bare_model M) (without_constants M accepts.first) (map (without_constants M) accepts.rest) (bare_words M plain)) accepts.proved;
    }
