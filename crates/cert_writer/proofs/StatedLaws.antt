-- A text whose lines say a certificate's statements in order states that certificate.
use Rattle.std.proofs.Common.{◌≡◌, ℕ, zero, suc, ◌+◌, ◌<◌, Bool, true, false, ◌||◌, List, [], ◌∷◌, ◌++◌, length, take, map, refl, sym, ap, subst, ◌∙◌, arith, append_assoc, length-append, if◌then◌else◌}
use Rattle.std.specs.Prelude.{◌==◌, Option, Some, None, Ok}
use Rattle.std.proofs.lemmas.List.{take-append-le, take_all}
use Rattle.std.proofs.Math.Seq.{get_or-append_seam}
use Rattle.std.proofs.lemmas.Bool.{false_from_ne_true}
use Rattle.std.proofs.lemmas.Bool.Decides.{Decides-eqb}
use Rattle.lp_model.specs.Edits.{Named}
use Rattle.cert_text.specs.declared.cert.Claim.{Claim}
use Rattle.cert_text.specs.declared.cert.Claim.TheVariants.{Optimal, Within, Infeasible, Unbounded}
use Rattle.cert_text.specs.declared.cert.NamedCut.{NamedCut}
use Rattle.cert_text.specs.declared.cert.CertNode.{CertNode}
use Rattle.cert_text.specs.declared.cert.CertNode.TheVariants as node
use Rattle.cert_text.specs.declared.cert.Cert.{Cert}
use Rattle.cert_text.specs.declared.line.Statement.{Statement}
use Rattle.cert_text.specs.declared.line.Statement.TheVariants as says
use Rattle.text_lines.specs.Lines.{line_bytes}
use Rattle.cert_text.specs.Lines.{line_says}
use Rattle.cert_text.specs.Reading.{after}
use Rattle.cert_text.specs.Text.{StatedCertificate, stated, due_after, is_whole_tree, are_none, takes_ray, lacks_part, code_in, code_at, AreClean, end_code, first_named, cert_of, MeantCertificate}
use Rattle.cert_text.specs.Tree.{CertTree, Bound, Farkas, Empty, Split, certificate_nodes}
use Rattle.cert_text.specs.Whole.{TakesAll, HasNoPoint, HasNoRay, HasNoCuts, HasTree}
use Rattle.cert_text.proofs.DueLemmas.{due_after-more, takes_whole, due_whole}
use Rattle.cert_text.proofs.TextLemmas.{stated_more, code_here, clean_more}

nil_right : {A : Type 0} (l : List A) → l ++ [] ≡ l
nil_right [] = refl
nil_right (x ∷ l) = ap (λ m. x ∷ m) (nil_right l)

-- ---- lines taken one after the other

-- none of the statements has a code where it stands, and behind them this is stated
abbrev pub Takes : StatedCertificate → List Statement → StatedCertificate → Type 0
Takes s [] t = s ≡ t
Takes s (x ∷ xs) t = (code_in s (Ok x) ≡ None) × Takes (after s (Ok x)) xs t

-- each line says its statement
abbrev pub SayAll : List (List ℕ) → List Statement → Type 0
SayAll [] [] = Unit {0}
SayAll [] (x ∷ xs) = ⊥
SayAll (line ∷ lines) [] = ⊥
SayAll (line ∷ lines) (x ∷ xs) = (line_says line ≡ Ok x) × SayAll lines xs

record IsTaken (lines : List (List ℕ)) (t : StatedCertificate) : Type 0 where
  clean : AreClean lines (length lines)
  is : stated lines ≡ t

taken : (done lines : List (List ℕ)) (xs : List Statement) (t : StatedCertificate) → AreClean (done ++ lines) (length done) → SayAll lines xs → Takes (stated done) xs t → IsTaken (done ++ lines) t
taken done [] [] t clean say takes = record {
  clean = subst (AreClean (done ++ [])) (sym (ap length (nil_right done))) clean;
  is = ap stated (nil_right done) ∙ takes;
}
taken done [] (x ∷ xs) t clean say takes = absurd say
taken done (line ∷ lines) [] t clean say takes = absurd say
taken done (line ∷ lines) (x ∷ xs) t clean say takes =
    let all = done ++ line ∷ lines in
    let few : length done < length all = let l = length-append done (line ∷ lines) in omega (arith, l) in
    let front : done ≡ take (length done) all = sym (take-append-le (length done) done (line ∷ lines) (omega arith) ∙ take_all (length done) done (omega arith)) in
    let here : code_at all (length done) ≡ None =
    code_here all (length done) few (stated done) line None (ap stated front) (sym (get_or-append_seam done line lines [])) (ap (code_in (stated done)) say.0 ∙ takes.0) in
    let more : AreClean all (length done + 1) = clean_more all (length done) clean here in
    let joined : all ≡ (done ++ line ∷ []) ++ lines = sym (append_assoc done (line ∷ []) lines) in
    let longer : length done + 1 ≡ length (done ++ line ∷ []) = sym (length-append done (line ∷ [])) in
    subst (λ ls. IsTaken ls t) (sym joined)
    (taken (done ++ line ∷ []) lines xs t (subst (λ T. T) (λ i. AreClean (joined i) (longer i)) more) say.1
    (subst (λ s. Takes s xs t) (sym (stated_more done line ∙ ap (after (stated done)) say.0)) takes.1))

-- ---- nodes

abbrev pub all_statements : List CertNode → List Statement
all_statements nodes = map (λ n. says.Node n) nodes

abbrev pub cut_statements : List NamedCut → List Statement
cut_statements cuts = map (λ cut. says.Cut cut) cuts

-- what is stated behind the claim and the point
abbrev pub with_nodes : ℕ → Claim → List Named → List NamedCut → List CertNode → StatedCertificate
with_nodes count claim points cuts nodes = record { count = suc count; claims = claim ∷ []; points = points; rays = []; cuts = cuts; nodes = nodes; ended = false }

-- a point stands where a value is claimed; what is claimed has nodes
abbrev pub HasPart : Claim → List Named → Type 0
HasPart (Optimal v) [] = ⊥
HasPart (Optimal v) (named ∷ points) = Unit {0}
HasPart (Within g v) [] = ⊥
HasPart (Within g v) (named ∷ points) = Unit {0}
HasPart Infeasible points = Unit {0}
HasPart Unbounded points = ⊥

no_part : (count : ℕ) (claim : Claim) (points : List Named) (cuts : List NamedCut) (nodes : List CertNode) → HasPart claim points → lacks_part (with_nodes count claim points cuts nodes) ≡ false
no_part count (Optimal v) [] cuts nodes h = absurd h
no_part count (Optimal v) (named ∷ points) cuts nodes h = refl
no_part count (Within g v) [] cuts nodes h = absurd h
no_part count (Within g v) (named ∷ points) cuts nodes h = refl
no_part count Infeasible points cuts nodes h = refl
no_part count Unbounded points cuts nodes h = absurd h

no_ray : (claim : Claim) (points : List Named) → HasPart claim points → takes_ray (claim ∷ []) ≡ false
no_ray (Optimal v) points h = refl
no_ray (Within g v) points h = refl
no_ray Infeasible points h = refl
no_ray Unbounded points h = absurd h

some_due : (n : ℕ) → 0 < n → (n == 0) ≡ false
some_due n h = false_from_ne_true (n == 0) (λ t. let e = (Decides-eqb n 0).0 t in omega (arith, h, e))

-- a line that is not the first
abbrev opened : Bool → Option ℕ → Option ℕ
opened b code = if b then Some 1 else code

abbrev node_test : Bool → Bool → Option ℕ
node_test a b = if a then Some 6 else if b then Some 7 else None

abbrev cut_test : Bool → Option ℕ
cut_test a = if a then Some 6 else None

abbrev end_test : Bool → Bool → Bool → Bool → Option ℕ
end_test a r n w = if a then Some 6 else if r then None else if n then Some 6 else if w then None else Some 7

not_first : (count : ℕ) → (suc count == 0) ≡ false
not_first count = some_due (suc count) (omega arith)

cut_taken : (count : ℕ) (claim : Claim) (points : List Named) (cuts : List NamedCut) (cut : NamedCut) → HasPart claim points → code_in (with_nodes count claim points cuts []) (Ok (says.Cut cut)) ≡ None
cut_taken count claim points cuts cut part =
    ap (λ (b : Bool). opened b (cut_test (lacks_part (with_nodes count claim points cuts []) || takes_ray (claim ∷ [])))) (not_first count)
    ∙ (λ i. cut_test (no_part count claim points cuts [] part i || no_ray claim points part i))

node_taken : (count : ℕ) (claim : Claim) (points : List Named) (cuts : List NamedCut) (nodes : List CertNode) (n : CertNode) → HasPart claim points → 0 < due_after 1 nodes → code_in (with_nodes count claim points cuts nodes) (Ok (says.Node n)) ≡ None
node_taken count claim points cuts nodes n part due =
    ap (λ (b : Bool). opened b (node_test (lacks_part (with_nodes count claim points cuts nodes) || takes_ray (claim ∷ [])) (is_whole_tree nodes))) (not_first count)
    ∙ (λ i. node_test (no_part count claim points cuts nodes part i || no_ray claim points part i) (is_whole_tree nodes))
    ∙ ap (λ (b : Bool). node_test false b) (some_due (due_after 1 nodes) due)

next_state : (count : ℕ) (claim : Claim) (points : List Named) (cuts : List NamedCut) (nodes : List CertNode) (n : CertNode) → after (with_nodes count claim points cuts nodes) (Ok (says.Node n)) ≡ with_nodes (suc count) claim points cuts (nodes ++ n ∷ [])
next_state count claim points cuts nodes n =
    let up : suc count + 1 ≡ suc (suc count) = omega arith in
    (λ i. record { count = up i; claims = claim ∷ []; points = nil_right points i; rays = []; cuts = nil_right cuts i; nodes = nodes ++ n ∷ []; ended = false })

next_cut : (count : ℕ) (claim : Claim) (points : List Named) (cuts : List NamedCut) (cut : NamedCut) → after (with_nodes count claim points cuts []) (Ok (says.Cut cut)) ≡ with_nodes (suc count) claim points (cuts ++ cut ∷ []) []
next_cut count claim points cuts cut =
    let up : suc count + 1 ≡ suc (suc count) = omega arith in
    (λ i. record { count = up i; claims = claim ∷ []; points = nil_right points i; rays = []; cuts = cuts ++ cut ∷ []; nodes = []; ended = false })

module _ (claim : Claim) (points : List Named) (part : HasPart claim points) (xs : List Statement) (t : StatedCertificate) where
  -- cuts stand before all nodes, and what stands behind them
  cuts_taken : (more : List NamedCut) (count : ℕ) (cuts : List NamedCut) → Takes (with_nodes (length more + count) claim points (cuts ++ more) []) xs t → Takes (with_nodes count claim points cuts []) (cut_statements more ++ xs) t
  cuts_taken [] count cuts rest =
      let none : 0 + count ≡ count = omega arith in
      subst (λ T. T) (λ i. Takes (with_nodes (none i) claim points (nil_right cuts i) []) xs t) rest
  cuts_taken (cut ∷ more) count cuts rest =
      let joined : cuts ++ cut ∷ more ≡ (cuts ++ cut ∷ []) ++ more = sym (append_assoc cuts (cut ∷ []) more) in
      let later : length (cut ∷ more) + count ≡ length more + suc count = omega arith in (
        cut_taken count claim points cuts cut part,
        subst (λ s. Takes s (cut_statements more ++ xs) t) (sym (next_cut count claim points cuts cut))
            (cuts_taken more (suc count) (cuts ++ cut ∷ []) (subst (λ T. T) (λ i. Takes (with_nodes (later i) claim points (joined i) []) xs t) rest)),
      )

module _ (claim : Claim) (points : List Named) (part : HasPart claim points) (cuts : List NamedCut) (xs : List Statement) (t : StatedCertificate) where
  moved : (n : CertNode) (more : List CertNode) (count : ℕ) (nodes : List CertNode) → Takes (with_nodes (length (n ∷ more) + count) claim points cuts (nodes ++ n ∷ more)) xs t → Takes (with_nodes (length more + suc count) claim points cuts ((nodes ++ n ∷ []) ++ more)) xs t
  moved n more count nodes rest =
      let joined : nodes ++ n ∷ more ≡ (nodes ++ n ∷ []) ++ more = sym (append_assoc nodes (n ∷ []) more) in
      let later : length (n ∷ more) + count ≡ length more + suc count = omega arith in
      subst (λ T. T) (λ i. Takes (with_nodes (later i) claim points cuts (joined i)) xs t) rest

  one_taken : (n : CertNode) (more : List CertNode) (count : ℕ) (nodes : List CertNode) → 0 < due_after 1 nodes → Takes (with_nodes (suc count) claim points cuts (nodes ++ n ∷ [])) (all_statements more ++ xs) t →
      Takes (with_nodes count claim points cuts nodes) (all_statements (n ∷ more) ++ xs) t
  one_taken n more count nodes some rest = (
    node_taken count claim points cuts nodes n part some,
    subst (λ s. Takes s (all_statements more ++ xs) t) (sym (next_state count claim points cuts nodes n)) rest,
  )

  -- nodes that are due stand, and what stands behind them
  nodes_taken : (more : List CertNode) (count due : ℕ) (nodes : List CertNode) → due_after 1 nodes ≡ due → TakesAll due more →
      Takes (with_nodes (length more + count) claim points cuts (nodes ++ more)) xs t → Takes (with_nodes count claim points cuts nodes) (all_statements more ++ xs) t
  nodes_taken [] count due nodes is takes rest =
      let none : 0 + count ≡ count = omega arith in
      subst (λ T. T) (λ i. Takes (with_nodes (none i) claim points cuts (nil_right nodes i)) xs t) rest
  nodes_taken (n ∷ more) count zero nodes is takes rest = absurd takes
  nodes_taken (node.Split col v ∷ more) count (suc due) nodes is takes rest =
      one_taken (node.Split col v) more count nodes (omega (arith, is))
      (nodes_taken more (suc count) (suc (suc due)) (nodes ++ node.Split col v ∷ []) (let e = due_after-more 1 nodes (node.Split col v) in omega (arith, e, is)) takes (moved (node.Split col v) more count nodes rest))
  nodes_taken (node.Bound mults ∷ more) count (suc due) nodes is takes rest =
      one_taken (node.Bound mults) more count nodes (omega (arith, is))
      (nodes_taken more (suc count) due (nodes ++ node.Bound mults ∷ []) (let e = due_after-more 1 nodes (node.Bound mults) in omega (arith, e, is)) takes (moved (node.Bound mults) more count nodes rest))
  nodes_taken (node.Farkas mults ∷ more) count (suc due) nodes is takes rest =
      one_taken (node.Farkas mults) more count nodes (omega (arith, is))
      (nodes_taken more (suc count) due (nodes ++ node.Farkas mults ∷ []) (let e = due_after-more 1 nodes (node.Farkas mults) in omega (arith, e, is)) takes (moved (node.Farkas mults) more count nodes rest))
  nodes_taken (node.Empty ∷ more) count (suc due) nodes is takes rest =
      one_taken node.Empty more count nodes (omega (arith, is))
      (nodes_taken more (suc count) due (nodes ++ node.Empty ∷ []) (let e = due_after-more 1 nodes node.Empty in omega (arith, e, is)) takes (moved node.Empty more count nodes rest))

-- ---- whole trees

some_nodes : (tree : CertTree) → are_none (certificate_nodes tree) ≡ false
some_nodes (Bound mults) = refl
some_nodes (Farkas mults) = refl
some_nodes Empty = refl
some_nodes (Split col v left right) = refl

module _ (nodes : List CertNode) (tree : CertTree) (whole : certificate_nodes tree ≡ nodes) where
  end_taken : (count : ℕ) (claim : Claim) (points : List Named) (cuts : List NamedCut) → HasPart claim points → code_in (with_nodes count claim points cuts nodes) (Ok says.End) ≡ None
  end_taken count claim points cuts part =
      ap (λ (b : Bool). opened b (end_test (lacks_part (with_nodes count claim points cuts nodes)) (takes_ray (claim ∷ [])) (are_none nodes) (is_whole_tree nodes))) (not_first count)
      ∙ (λ i. end_test (no_part count claim points cuts nodes part i) (no_ray claim points part i) ((ap are_none (sym whole) ∙ some_nodes tree) i) (is_whole_tree nodes))
      ∙ ap (λ (d : ℕ). end_test false false false (d == 0)) (due_whole nodes tree whole)

-- ---- certificates

abbrev pub point_statements : Claim → Named → List Statement
point_statements (Optimal v) named = says.Point named ∷ []
point_statements (Within g v) named = says.Point named ∷ []
point_statements Infeasible named = []
point_statements Unbounded named = says.Point named ∷ []

abbrev pub ray_statements : Claim → Named → List Statement
ray_statements (Optimal v) named = []
ray_statements (Within g v) named = []
ray_statements Infeasible named = []
ray_statements Unbounded named = says.Ray named ∷ []

abbrev pub cert_statements : Cert → List Statement
cert_statements c =
    says.Header ∷ says.Claims c.claim
    ∷ (point_statements c.claim c.point ++ (ray_statements c.claim c.ray ++ (cut_statements c.cuts ++ (all_statements c.nodes ++ says.End ∷ []))))

-- what is stated in the end
abbrev pub final : ℕ → Claim → List Named → List NamedCut → List CertNode → StatedCertificate
final count claim points cuts nodes = after (with_nodes count claim points cuts nodes) (Ok says.End)

module _ (text : List ℕ) (cuts : List NamedCut) (nodes : List CertNode) (tree : CertTree) (whole : certificate_nodes tree ≡ nodes) where
  -- how many lines stand before the end, where this many stand before the cuts
  abbrev lines_behind : ℕ → ℕ
  lines_behind count = length nodes + (length cuts + count)

  behind : (claim : Claim) (points : List Named) → HasPart claim points → (count : ℕ) → Takes (with_nodes count claim points [] []) (cut_statements cuts ++ (all_statements nodes ++ says.End ∷ [])) (final (lines_behind count) claim points cuts nodes)
  behind claim points part count =
      let ended = final (lines_behind count) claim points cuts nodes in
      cuts_taken claim points part (all_statements nodes ++ says.End ∷ []) ended cuts count []
      (nodes_taken claim points part cuts (says.End ∷ []) ended nodes (length cuts + count) 1 [] refl (takes_whole nodes tree whole) (end_taken nodes tree whole (lines_behind count) claim points cuts part, refl))

  meant_by : (claim : Claim) (point ray : Named) (points : List Named) (count : ℕ) → first_named (points ++ []) ≡ point → ray ≡ [] → IsTaken (line_bytes text) (final count claim points cuts nodes) → MeantCertificate text (record { claim = claim; point = point; ray = ray; cuts = cuts; nodes = nodes })
  meant_by claim point ray points count same no_ray taken = record {
    clean = taken.clean;
    ended =
        ap end_code taken.is
        ∙ ap (λ (b : Bool). if b then Some 1 else None) (some_due (suc count + 1) (omega arith));
    is = (λ i. record { claim = claim; point = sym same i; ray = no_ray i; cuts = sym (nil_right cuts) i; nodes = sym (nil_right nodes) i }) ∙ ap cert_of (sym taken.is);
  }

no_line : (text : List ℕ) → AreClean (line_bytes text) 0
no_line text k below = absurd (omega arith)

-- what is stated where the model is claimed unbounded
abbrev unbounded_stated : Named → Named → StatedCertificate
unbounded_stated point ray = record { count = 5; claims = Unbounded ∷ []; points = point ∷ []; rays = ray ∷ []; cuts = []; nodes = []; ended = true }

abbrev unbounded_by : Named → Named → List NamedCut → List CertNode → Cert
unbounded_by point ray cuts nodes = record { claim = Unbounded; point = point; ray = ray; cuts = cuts; nodes = nodes }

unbounded_states : (text : List ℕ) (point ray : Named) → SayAll (line_bytes text) (cert_statements (unbounded_by point ray [] [])) → MeantCertificate text (unbounded_by point ray [] [])
unfolding stated
unbounded_states text point ray say =
    let t = taken [] (line_bytes text) (cert_statements (unbounded_by point ray [] [])) (unbounded_stated point ray) (no_line text) say (refl, (refl, (refl, (refl, (refl, refl))))) in
    record { clean = t.clean; ended = ap end_code t.is; is = ap cert_of (sym t.is) }

pub states : (text : List ℕ) (claim : Claim) (point ray : Named) (cuts : List NamedCut) (nodes : List CertNode) → HasTree claim nodes → HasNoPoint claim point → HasNoRay claim ray → HasNoCuts claim cuts →
    SayAll (line_bytes text) (cert_statements (record { claim = claim; point = point; ray = ray; cuts = cuts; nodes = nodes })) → MeantCertificate text (record { claim = claim; point = point; ray = ray; cuts = cuts; nodes = nodes })
unfolding stated
states text (Optimal v) point ray cuts nodes t none no_ray any say =
    let count = length nodes + (length cuts + 2) in
    meant_by text cuts nodes t.tree t.nodes_are (Optimal v) point ray (point ∷ []) count refl no_ray
    (taken [] (line_bytes text) (cert_statements (record { claim = Optimal v; point = point; ray = ray; cuts = cuts; nodes = nodes })) (final count (Optimal v) (point ∷ []) cuts nodes) (no_line text) say
    (refl, (refl, (refl, behind text cuts nodes t.tree t.nodes_are (Optimal v) (point ∷ []) tt 2))))
states text (Within g v) point ray cuts nodes t none no_ray any say =
    let count = length nodes + (length cuts + 2) in
    meant_by text cuts nodes t.tree t.nodes_are (Within g v) point ray (point ∷ []) count refl no_ray
    (taken [] (line_bytes text) (cert_statements (record { claim = Within g v; point = point; ray = ray; cuts = cuts; nodes = nodes })) (final count (Within g v) (point ∷ []) cuts nodes) (no_line text) say
    (refl, (refl, (refl, behind text cuts nodes t.tree t.nodes_are (Within g v) (point ∷ []) tt 2))))
states text Infeasible point ray cuts nodes t none no_ray any say =
    let count = length nodes + (length cuts + 1) in
    meant_by text cuts nodes t.tree t.nodes_are Infeasible point ray [] count (sym none) no_ray
    (taken [] (line_bytes text) (cert_statements (record { claim = Infeasible; point = point; ray = ray; cuts = cuts; nodes = nodes })) (final count Infeasible [] cuts nodes) (no_line text) say
    (refl, (refl, behind text cuts nodes t.tree t.nodes_are Infeasible [] tt 1)))
states text Unbounded point ray cuts nodes none_there none no_ray no_cuts say =
    subst (λ T. T) (λ i. MeantCertificate text (unbounded_by point ray (sym no_cuts i) (sym none_there i)))
    (unbounded_states text point ray (subst (λ T. T) (λ i. SayAll (line_bytes text) (cert_statements (unbounded_by point ray (no_cuts i) (none_there i)))) say))
