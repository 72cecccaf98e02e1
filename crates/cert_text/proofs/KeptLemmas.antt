-- What the reader keeps: one more node, and the whole certificate.
use Rattle.std.proofs.Common.{◌≡◌, ℕ, zero, suc, ◌+◌, ◌<◌, Bool, true, false, ◌||◌, ◌&&◌, not, List, [], ◌∷◌, ◌++◌, refl, sym, subst, ap, ◌∙◌, arith, if◌then◌else◌}
use Rattle.std.proofs.lemmas.Bool.Decides.{Decides-eqb}
use Rattle.std.specs.Prelude.{All, Option, Some, None, Result, Ok, Err, IfOk, ◌==◌, option_to_list}
use Rattle.std.proofs.lemmas.List.Elements.{All-append}
use Rattle.lp_model.specs.Edits.{Named}
use Rattle.cert_text.specs.declared.cert.Claim.{Claim}
use Rattle.cert_text.specs.declared.cert.Claim.TheVariants.{Optimal, Within, Infeasible, Unbounded}
use Rattle.cert_text.specs.declared.cert.NamedCut.{NamedCut}
use Rattle.cert_text.specs.declared.cert.CertNode.{CertNode}
use Rattle.cert_text.specs.declared.line.Statement.TheVariants.{Claims, Node}
use Rattle.cert_text.specs.declared.reading.Reading.{Reading}
use Rattle.cert_text.specs.Text.{StatedCertificate, due_after, is_whole_tree, are_none, takes_point, takes_ray, lacks_point, lacks_numbers, lacks_part, place_code, code_in, end_code, or_no_end, first_claim, first_named, cert_of}
use Rattle.cert_text.specs.declared.line.Statement.TheVariants as says
use Rattle.cert_text.specs.Whole.{TakesAll, IsPointed, IsDirected, AreCutsDue, IsRooted, IsGapped, IsNarrowNode, HasLawfulGap, HasNoPoint, HasNoRay, HasNoCuts, AreOneTree, HasTree, IsCertificate}
use Rattle.cert_text.specs.Reading.{held, after, AreKept, IsReadable}
use Rattle.cert_text.proofs.DueLemmas.{takes-more, whole_tree}

some_due : (n : ℕ) → (n == 0) ≡ false → 0 < n
some_due zero e = absurd (let f : true ≡ false = e in cc)
some_due (suc n) e = omega arith

abbrev node_test : Bool → Bool → Bool → Bool → Option ℕ
node_test a b c d = if a then Some 1 else if b then Some 8 else if c then Some 6 else if d then Some 7 else None

abbrev end_test : Bool → Bool → ℕ → Option ℕ
end_test a b x = if a then Some 1 else if b then None else Some x

-- a node without code stands before the end, behind each part of a claim that has nodes, where a tree is due
node_clean : (s : StatedCertificate) (n : CertNode) → code_in s (Ok (Node n)) ≡ None → (s.ended ≡ false) × (((lacks_part s || takes_ray s.claims) ≡ false) × (0 < due_after 1 s.nodes))
node_clean s n e = let r = by (s.count == 0) s.ended (lacks_part s || takes_ray s.claims) (is_whole_tree s.nodes) e in (r.0, (r.1.0, some_due (due_after 1 s.nodes) r.1.1))
  where
    by : (a b c d : Bool) → node_test a b c d ≡ None → (b ≡ false) × ((c ≡ false) × (d ≡ false))
    by true b c d e = absurd cc
    by false true c d e = absurd cc
    by false false true d e = absurd cc
    by false false false true e = absurd cc
    by false false false false e = (refl, (refl, refl))

-- where nodes are due there may be more
rooted_more : (claim : Option Claim) (lacks : Bool) (more : List CertNode) → ((are_none (option_to_list claim) || lacks) || takes_ray (option_to_list claim)) ≡ false → IsRooted claim more
rooted_more (Some (Optimal v)) lacks more e = tt
rooted_more (Some (Within g v)) lacks more e = tt
rooted_more (Some Infeasible) lacks more e = tt
rooted_more (Some Unbounded) true more e = absurd cc
rooted_more (Some Unbounded) false more e = absurd cc
rooted_more None lacks more e = absurd cc

one_node : (n : CertNode) → IsNarrowNode n → All IsNarrowNode (n ∷ [])
one_node n here zero d below = here
one_node n here (suc k) d below = absurd (omega arith)

pub node_kept : (old new : Reading) (n : CertNode) → code_in (held old) (Ok (Node n)) ≡ None → IsNarrowNode n → IsReadable old →
    new.nodes ≡ old.nodes ++ n ∷ [] → new.claim ≡ old.claim → new.point ≡ old.point → new.ray ≡ old.ray → new.cuts ≡ old.cuts → new.ended ≡ old.ended → IsReadable new
node_kept old new n clean narrow kept nodes claim point ray cuts ended =
    let c = node_clean (held old) n clean in
    record {
      takes = subst (TakesAll 1) (sym nodes) (takes-more 1 old.nodes n kept.takes c.1.1);
      whole = λ e _. let f : true ≡ false = sym e ∙ ended ∙ c.0 in absurd cc;
      narrow = subst (All IsNarrowNode) (sym nodes) (All-append IsNarrowNode old.nodes (n ∷ []) kept.narrow (one_node n narrow));
      pointed = subst (λ T. T) (λ i. IsPointed (sym claim i) (sym point i)) kept.pointed;
      directed = subst (λ T. T) (λ i. IsDirected (sym claim i) (sym ray i)) kept.directed;
      cuts_due = subst (λ T. T) (λ i. AreCutsDue (sym claim i) (sym cuts i)) kept.cuts_due;
      rooted = subst (λ o. IsRooted o new.nodes) (sym claim) (rooted_more old.claim (lacks_numbers (held old)) new.nodes c.1.0);
      gapped = subst IsGapped (sym claim) kept.gapped;
    }

-- ---- the other lines

nil_right : {A : Type 0} (l : List A) → l ≡ l ++ []
nil_right [] = refl
nil_right (x ∷ l) = ap (λ m. x ∷ m) (nil_right l)

or_false : (b : Bool) → b ≡ (b || false)
or_false true = refl
or_false false = refl

-- what follows from what a call gives, where it is handed on
pub handed_on : {E P Q : Type 0} (r : Result (Unit {0}) E) → (P → Q) → IfOk r (λ _. P) → IfOk r (λ _. Q)
handed_on (Ok done) f h = f h
handed_on (Err e) f h = tt

pub both_handed_on : {E P Q R : Type 0} (r : Result (Unit {0}) E) → (P → Q → R) → IfOk r (λ _. P) → IfOk r (λ _. Q) → IfOk r (λ _. R)
both_handed_on (Ok done) f h k = f h k
both_handed_on (Err e) f h k = tt

-- a node is stated behind the others
pub node_noted : (old : Reading) (node : CertNode) (new : StatedCertificate) → new ≡ record (held old) { count = old.count + 1; nodes = old.nodes ++ node ∷ [] } → new ≡ after (held old) (Ok (Node node))
node_noted old node new is =
    is
    ∙ (λ i. record {
      count = old.count + 1;
      claims = nil_right (option_to_list old.claim) i;
      points = nil_right (option_to_list old.point) i;
      rays = nil_right (option_to_list old.ray) i;
      cuts = nil_right old.cuts i;
      nodes = old.nodes ++ node ∷ [];
      ended = or_false old.ended i;
    })

abbrev claim_by : Bool → Bool → Bool → Option ℕ
claim_by a b c = if a then Some 1 else if b then Some 8 else if c then None else Some 6

-- a claim stands before all other parts
claim_clean : (s : StatedCertificate) (claim : Claim) → code_in s (Ok (Claims claim)) ≡ None → (s.ended ≡ false) × (are_none s.claims ≡ true)
claim_clean s claim e = by (s.count == 0) s.ended (are_none s.claims) e
  where
    by : (a b c : Bool) → claim_by a b c ≡ None → (b ≡ false) × (c ≡ true)
    by true b c e = absurd cc
    by false true c e = absurd cc
    by false false true e = (refl, refl)
    by false false false e = absurd cc

unclaimed : (claim : Option Claim) → are_none (option_to_list claim) ≡ true → claim ≡ None
unclaimed None e = refl
unclaimed (Some claim) e = absurd (let f : false ≡ true = e in cc)

first_pointed : (claim : Claim) (point : Option Named) → point ≡ None → IsPointed (Some claim) point
first_pointed (Optimal v) point none = tt
first_pointed (Within g v) point none = tt
first_pointed Infeasible point none = none
first_pointed Unbounded point none = tt

first_directed : (claim : Claim) (ray : Option Named) → ray ≡ None → IsDirected (Some claim) ray
first_directed (Optimal v) ray none = none
first_directed (Within g v) ray none = none
first_directed Infeasible ray none = none
first_directed Unbounded ray none = tt

first_cuts : (claim : Claim) (cuts : List NamedCut) → cuts ≡ [] → AreCutsDue (Some claim) cuts
first_cuts (Optimal v) cuts none = tt
first_cuts (Within g v) cuts none = tt
first_cuts Infeasible cuts none = tt
first_cuts Unbounded cuts none = none

first_rooted : (claim : Claim) (nodes : List CertNode) → nodes ≡ [] → IsRooted (Some claim) nodes
first_rooted (Optimal v) nodes none = tt
first_rooted (Within g v) nodes none = tt
first_rooted Infeasible nodes none = tt
first_rooted Unbounded nodes none = none

pub claim_kept : (old : Reading) (claim : Claim) → code_in (held old) (Ok (Claims claim)) ≡ None → HasLawfulGap claim → IsReadable old → AreKept (Some claim) old.point old.ray old.cuts old.nodes old.ended old.due
claim_kept old claim clean gap kept =
    let c = claim_clean (held old) claim clean in
    let none = unclaimed old.claim c.1 in
    record {
      takes = kept.takes;
      whole = λ e _. let f : true ≡ false = sym e ∙ c.0 in absurd cc;
      narrow = kept.narrow;
      pointed = first_pointed claim old.point (subst (λ o. IsPointed o old.point) none kept.pointed);
      directed = first_directed claim old.ray (subst (λ o. IsDirected o old.ray) none kept.directed);
      cuts_due = first_cuts claim old.cuts (subst (λ o. AreCutsDue o old.cuts) none kept.cuts_due);
      rooted = first_rooted claim old.nodes (subst (λ o. IsRooted o old.nodes) none kept.rooted);
      gapped = gap;
    }

-- and it is stated then
pub claim_noted : (old : Reading) (claim : Claim) → code_in (held old) (Ok (Claims claim)) ≡ None → record (held old) { count = old.count + 1; claims = claim ∷ [] } ≡ after (held old) (Ok (Claims claim))
claim_noted old claim clean =
    let none = unclaimed old.claim (claim_clean (held old) claim clean).1 in
    (λ i. record {
      count = old.count + 1;
      claims = ap (λ o. option_to_list o ++ claim ∷ []) (sym none) i;
      points = nil_right (option_to_list old.point) i;
      rays = nil_right (option_to_list old.ray) i;
      cuts = nil_right old.cuts i;
      nodes = nil_right old.nodes i;
      ended = or_false old.ended i;
    })

unnamed : (named : Option Named) → are_none (option_to_list named) ≡ true → named ≡ None
unnamed None e = refl
unnamed (Some named) e = absurd (let f : false ≡ true = e in cc)

abbrev numbers_by : Bool → Bool → Bool → Bool → Bool → Option ℕ
numbers_by a b c d f = if a then Some 1 else if b then Some 8 else if not c && (d && f) then None else Some 6

-- numbers that stand where the line has its place: before the end, the claim has them, and there are none yet
place_clean : (a b c d f : Bool) → numbers_by a b c d f ≡ None → (b ≡ false) × ((d ≡ true) × (f ≡ true))
place_clean true b c d f e = absurd cc
place_clean false true c d f e = absurd cc
place_clean false false true d f e = absurd cc
place_clean false false false true true e = (refl, (refl, refl))
place_clean false false false true false e = absurd cc
place_clean false false false false f e = absurd cc

-- a point stands where the claim has one
point_clean : (s : StatedCertificate) (named : Named) → code_in s (Ok (says.Point named)) ≡ None → (s.ended ≡ false) × ((takes_point s.claims ≡ true) × (are_none s.points ≡ true))
point_clean s named e = place_clean (s.count == 0) s.ended (are_none s.claims) (takes_point s.claims) (are_none s.points) e

point_there : (claim : Option Claim) (point : Option Named) → takes_point (option_to_list claim) ≡ true → IsPointed claim point
point_there (Some (Optimal v)) point e = tt
point_there (Some (Within g v)) point e = tt
point_there (Some Infeasible) point e = absurd (let f : false ≡ true = e in cc)
point_there (Some Unbounded) point e = tt
point_there None point e = absurd (let f : false ≡ true = e in cc)

pub point_kept : (old : Reading) (named : Named) → code_in (held old) (Ok (says.Point named)) ≡ None → IsReadable old → AreKept old.claim (Some named) old.ray old.cuts old.nodes old.ended old.due
point_kept old named clean kept =
    let c = point_clean (held old) named clean in
    record {
      takes = kept.takes;
      whole = kept.whole;
      narrow = kept.narrow;
      pointed = point_there old.claim (Some named) c.1.0;
      directed = kept.directed;
      cuts_due = kept.cuts_due;
      rooted = kept.rooted;
      gapped = kept.gapped;
    }

pub point_noted : (old : Reading) (named : Named) → code_in (held old) (Ok (says.Point named)) ≡ None → record (held old) { count = old.count + 1; points = named ∷ [] } ≡ after (held old) (Ok (says.Point named))
point_noted old named clean =
    let none = unnamed old.point (point_clean (held old) named clean).1.1 in
    (λ i. record {
      count = old.count + 1;
      claims = nil_right (option_to_list old.claim) i;
      points = ap (λ o. option_to_list o ++ named ∷ []) (sym none) i;
      rays = nil_right (option_to_list old.ray) i;
      cuts = nil_right old.cuts i;
      nodes = nil_right old.nodes i;
      ended = or_false old.ended i;
    })

-- a ray stands where the claim has one
ray_clean : (s : StatedCertificate) (named : Named) → code_in s (Ok (says.Ray named)) ≡ None → (s.ended ≡ false) × ((takes_ray s.claims ≡ true) × (are_none s.rays ≡ true))
ray_clean s named e = place_clean (s.count == 0) s.ended (lacks_point s) (takes_ray s.claims) (are_none s.rays) e

ray_there : (claim : Option Claim) (ray : Option Named) → takes_ray (option_to_list claim) ≡ true → IsDirected claim ray
ray_there (Some (Optimal v)) ray e = absurd (let f : false ≡ true = e in cc)
ray_there (Some (Within g v)) ray e = absurd (let f : false ≡ true = e in cc)
ray_there (Some Infeasible) ray e = absurd (let f : false ≡ true = e in cc)
ray_there (Some Unbounded) ray e = tt
ray_there None ray e = absurd (let f : false ≡ true = e in cc)

pub ray_kept : (old : Reading) (named : Named) → code_in (held old) (Ok (says.Ray named)) ≡ None → IsReadable old → AreKept old.claim old.point (Some named) old.cuts old.nodes old.ended old.due
ray_kept old named clean kept =
    let c = ray_clean (held old) named clean in
    record {
      takes = kept.takes;
      whole = kept.whole;
      narrow = kept.narrow;
      pointed = kept.pointed;
      directed = ray_there old.claim (Some named) c.1.0;
      cuts_due = kept.cuts_due;
      rooted = kept.rooted;
      gapped = kept.gapped;
    }

pub ray_noted : (old : Reading) (named : Named) → code_in (held old) (Ok (says.Ray named)) ≡ None → record (held old) { count = old.count + 1; rays = named ∷ [] } ≡ after (held old) (Ok (says.Ray named))
ray_noted old named clean =
    let none = unnamed old.ray (ray_clean (held old) named clean).1.1 in
    (λ i. record {
      count = old.count + 1;
      claims = nil_right (option_to_list old.claim) i;
      points = nil_right (option_to_list old.point) i;
      rays = ap (λ o. option_to_list o ++ named ∷ []) (sym none) i;
      cuts = nil_right old.cuts i;
      nodes = nil_right old.nodes i;
      ended = or_false old.ended i;
    })

-- a cut stands under a claim that has nodes
abbrev cut_test : Bool → Bool → Bool → Bool → Option ℕ
cut_test a b c d = if a then Some 1 else if b then Some 8 else if c then Some 6 else if d then None else Some 6

cut_clean : (s : StatedCertificate) (cut : NamedCut) → code_in s (Ok (says.Cut cut)) ≡ None → (lacks_part s || takes_ray s.claims) ≡ false
cut_clean s cut e = by (s.count == 0) s.ended (lacks_part s || takes_ray s.claims) (are_none s.nodes) e
  where
    by : (a b c d : Bool) → cut_test a b c d ≡ None → c ≡ false
    by true b c d e = absurd cc
    by false true c d e = absurd cc
    by false false true d e = absurd cc
    by false false false d e = refl

-- where nodes are due there may be cuts
cuts_more : (claim : Option Claim) (lacks : Bool) (more : List NamedCut) → ((are_none (option_to_list claim) || lacks) || takes_ray (option_to_list claim)) ≡ false → AreCutsDue claim more
cuts_more (Some (Optimal v)) lacks more e = tt
cuts_more (Some (Within g v)) lacks more e = tt
cuts_more (Some Infeasible) lacks more e = tt
cuts_more (Some Unbounded) true more e = absurd cc
cuts_more (Some Unbounded) false more e = absurd cc
cuts_more None lacks more e = absurd cc

pub cut_kept : (old : Reading) (cut : NamedCut) (cuts : List NamedCut) → code_in (held old) (Ok (says.Cut cut)) ≡ None → IsReadable old → AreKept old.claim old.point old.ray cuts old.nodes old.ended old.due
cut_kept old cut cuts clean kept = record {
  takes = kept.takes;
  whole = kept.whole;
  narrow = kept.narrow;
  pointed = kept.pointed;
  directed = kept.directed;
  cuts_due = cuts_more old.claim (lacks_numbers (held old)) cuts (cut_clean (held old) cut clean);
  rooted = kept.rooted;
  gapped = kept.gapped;
}

pub cut_noted : (old : Reading) (cut : NamedCut) (cuts : List NamedCut) → cuts ≡ old.cuts ++ cut ∷ [] → record (held old) { count = old.count + 1; cuts = cuts } ≡ after (held old) (Ok (says.Cut cut))
cut_noted old cut cuts more =
    (λ i. record {
      count = old.count + 1;
      claims = nil_right (option_to_list old.claim) i;
      points = nil_right (option_to_list old.point) i;
      rays = nil_right (option_to_list old.ray) i;
      cuts = more i;
      nodes = nil_right old.nodes i;
      ended = or_false old.ended i;
    })

abbrev end_by : Bool → Bool → Bool → Bool → Bool → Bool → Option ℕ
end_by a b c d f g = if a then Some 1 else if b then Some 8 else if c then Some 6 else if d then None else if f then Some 6 else if g then None else Some 7

-- `end` stands behind each part, and behind one whole tree where the claim has nodes
last_clean : (s : StatedCertificate) → code_in s (Ok says.End) ≡ None → takes_ray s.claims ≡ false → due_after 1 s.nodes ≡ 0
last_clean s e no_ray = none_due (due_after 1 s.nodes) (by (s.count == 0) s.ended (lacks_part s) (takes_ray s.claims) (are_none s.nodes) (is_whole_tree s.nodes) e no_ray)
  where
    by : (a b c d f g : Bool) → end_by a b c d f g ≡ None → d ≡ false → g ≡ true
    by true b c d f g e h = absurd cc
    by false true c d f g e h = absurd cc
    by false false true d f g e h = absurd cc
    by false false false true f g e h = absurd cc
    by false false false false true g e h = absurd cc
    by false false false false false true e h = refl
    by false false false false false false e h = absurd cc

    none_due : (n : ℕ) → (n == 0) ≡ true → n ≡ 0
    none_due n e = (Decides-eqb n 0).0 e

pub last_kept : (old : Reading) → code_in (held old) (Ok says.End) ≡ None → IsReadable old → AreKept old.claim old.point old.ray old.cuts old.nodes true old.due
last_kept old clean kept = record {
  takes = kept.takes;
  whole = λ _ no_ray. old.counted ∙ last_clean (held old) clean no_ray;
  narrow = kept.narrow;
  pointed = kept.pointed;
  directed = kept.directed;
  cuts_due = kept.cuts_due;
  rooted = kept.rooted;
  gapped = kept.gapped;
}

end_clean : (s : StatedCertificate) → end_code s ≡ None → s.ended ≡ true
end_clean s e = by (s.count == 0) s.ended (or_no_end (place_code s says.End)) e
  where
    by : (a b : Bool) (x : ℕ) → end_test a b x ≡ None → b ≡ true
    by true b x e = absurd cc
    by false true x e = refl
    by false false x e = absurd cc

no_point : (claim : Option Claim) (point : Option Named) → IsPointed claim point → HasNoPoint (first_claim (option_to_list claim)) (first_named (option_to_list point))
no_point (Some (Optimal v)) point pointed = tt
no_point (Some (Within g v)) point pointed = tt
no_point (Some Infeasible) point pointed = ap (λ p. first_named (option_to_list p)) pointed
no_point (Some Unbounded) point pointed = tt
no_point None point pointed = ap (λ p. first_named (option_to_list p)) pointed

no_ray : (claim : Option Claim) (ray : Option Named) → IsDirected claim ray → HasNoRay (first_claim (option_to_list claim)) (first_named (option_to_list ray))
no_ray (Some (Optimal v)) ray directed = ap (λ d. first_named (option_to_list d)) directed
no_ray (Some (Within g v)) ray directed = ap (λ d. first_named (option_to_list d)) directed
no_ray (Some Infeasible) ray directed = ap (λ d. first_named (option_to_list d)) directed
no_ray (Some Unbounded) ray directed = tt
no_ray None ray directed = ap (λ d. first_named (option_to_list d)) directed

no_cuts : (claim : Option Claim) (cuts : List NamedCut) → AreCutsDue claim cuts → HasNoCuts (first_claim (option_to_list claim)) cuts
no_cuts (Some (Optimal v)) cuts due = tt
no_cuts (Some (Within g v)) cuts due = tt
no_cuts (Some Infeasible) cuts due = tt
no_cuts (Some Unbounded) cuts due = due
no_cuts None cuts due = tt

one_tree : (nodes : List CertNode) → TakesAll 1 nodes → due_after 1 nodes ≡ 0 → AreOneTree nodes
one_tree nodes takes done = let t = whole_tree nodes takes done in record { tree = t.0; nodes_are = t.1 }

tree_of : (claim : Option Claim) (nodes : List CertNode) → TakesAll 1 nodes → IsRooted claim nodes → (takes_ray (option_to_list claim) ≡ false → due_after 1 nodes ≡ 0) → HasTree (first_claim (option_to_list claim)) nodes
tree_of (Some (Optimal v)) nodes takes rooted done = one_tree nodes takes (done refl)
tree_of (Some (Within g v)) nodes takes rooted done = one_tree nodes takes (done refl)
tree_of (Some Infeasible) nodes takes rooted done = one_tree nodes takes (done refl)
tree_of (Some Unbounded) nodes takes rooted done = rooted
tree_of None nodes takes rooted done = one_tree nodes takes (done refl)

lawful_gap : (claim : Option Claim) → IsGapped claim → HasLawfulGap (first_claim (option_to_list claim))
lawful_gap None gapped = tt
lawful_gap (Some claim) gapped = gapped

pub certificate : (r : Reading) → end_code (held r) ≡ None → IsReadable r → IsCertificate (cert_of (held r))
certificate r ended kept =
    let done : takes_ray (option_to_list r.claim) ≡ false → due_after 1 r.nodes ≡ 0 = λ no_ray. sym r.counted ∙ kept.whole (end_clean (held r) ended) no_ray in
    record {
      tree = tree_of r.claim r.nodes kept.takes kept.rooted done;
      narrow = kept.narrow;
      point = no_point r.claim r.point kept.pointed;
      ray = no_ray r.claim r.ray kept.directed;
      cuts = no_cuts r.claim r.cuts kept.cuts_due;
      gap = lawful_gap r.claim kept.gapped;
    }
