-- What lines without fault state: nodes that are due, with words and room.
use Rattle.std.proofs.Common.{◌≡◌, ℕ, zero, suc, ◌+◌, ◌<◌, ◌≤◌, Bool, true, false, ◌||◌, ◌&&◌, List, [], ◌∷◌, ◌++◌, length, take, get_or, refl, sym, ap, subst, ◌∙◌, arith, if◌then◌else◌}
use Rattle.std.specs.Prelude.{All, not, ◌==◌, Option, Some, None, Result, Ok, Err}
use Rattle.std.proofs.lemmas.Bool.Decides.{Decides-eqb}
use Rattle.std.proofs.lemmas.List.{take_all}
use Rattle.std.proofs.lemmas.List.Elements.{All-nil, All-cons, All-head, All-append}
use Rattle.lp_model.specs.Edits.{Named}
use Rattle.cert_text.specs.declared.cert.Claim.{Claim}
use Rattle.cert_text.specs.declared.cert.Claim.TheVariants.{Optimal, Within, Infeasible, Unbounded}
use Rattle.cert_text.specs.declared.cert.NamedCut.{NamedCut}
use Rattle.cert_text.specs.declared.cert.CertNode.{CertNode}
use Rattle.cert_text.specs.declared.cert.Cert.{Cert}
use Rattle.cert_text.specs.declared.line.Statement.{Statement}
use Rattle.cert_text.specs.declared.line.Statement.TheVariants as says
use Rattle.text_lines.specs.Lines.{HasNoNewline, line_bytes}
use Rattle.text_lines.specs.Words.{IsWord}
use Rattle.text_lines.proofs.CleanLemmas.{line_bytes-clean}
use Rattle.cert_text.specs.Lines.{line_says}
use Rattle.cert_text.specs.Reading.{after}
use Rattle.cert_text.specs.Text.{StatedCertificate, stated, due_after, is_whole_tree, are_none, takes_point, takes_ray, lacks_point, lacks_numbers, lacks_part, place_code, code_in, code_at, AreClean, or_no_end, end_code, first_claim, first_named, cert_of, MeantCertificate}
use Rattle.cert_text.specs.Whole.{TakesAll, IsNarrowNode, HasNoPoint, HasNoRay, HasNoCuts, AreOneTree, HasTree, IsCertificate}
use Rattle.cert_text.proofs.DueLemmas.{takes-more, whole_tree}
use Rattle.cert_text.proofs.TextLemmas.{taken_more}
use Rattle.cert_writer.specs.CertText.{HasCutWords, HasNodeWords, HasCertWords, cert_text}
use Rattle.cert_writer.specs.Room.{HasFractions, HasPointRoom, HasRayRoom, HasNodeRoom, HasCertRoom}
use Rattle.cert_writer.proofs.SaidLaws.{GoodClaim, GoodNamed, GoodNode, Good, line-good}
use Rattle.cert_writer.proofs.PrintedLaws.{printed_states}

nil_right : {A : Type 0} (l : List A) → l ++ [] ≡ l
nil_right [] = refl
nil_right (x ∷ l) = ap (λ m. x ∷ m) (nil_right l)

-- parts stand only behind a claim that has them
abbrev AreBehind : List Claim → List Named → List Named → List NamedCut → List CertNode → Type 0
AreBehind [] points rays cuts nodes = (points ≡ []) × ((rays ≡ []) × ((cuts ≡ []) × (nodes ≡ [])))
AreBehind (Optimal v ∷ claims) points rays cuts nodes = rays ≡ []
AreBehind (Within g v ∷ claims) points rays cuts nodes = rays ≡ []
AreBehind (Infeasible ∷ claims) points rays cuts nodes = (points ≡ []) × (rays ≡ [])
AreBehind (Unbounded ∷ claims) points rays cuts nodes = (cuts ≡ []) × (nodes ≡ [])

record Keeps (claims : List Claim) (points rays : List Named) (cuts : List NamedCut) (nodes : List CertNode) (ended : Bool) : Type 0 where
  takes : TakesAll 1 nodes
  nodes_good : All GoodNode nodes
  claims_good : All GoodClaim claims
  points_good : All GoodNamed points
  rays_good : All GoodNamed rays
  cuts_good : All HasCutWords cuts
  behind : AreBehind claims points rays cuts nodes
  whole : ended ≡ true → takes_ray claims ≡ false → due_after 1 nodes ≡ 0

abbrev KeepsIn : StatedCertificate → Type 0
KeepsIn s = Keeps s.claims s.points s.rays s.cuts s.nodes s.ended

one : {A : Type 0} (P : A → Type 0) (x : A) → P x → All P (x ∷ [])
one P x here = All-cons P x [] here (All-nil P)

-- ---- what no code says

abbrev code_test : Bool → Bool → Bool → Option ℕ → Option ℕ
code_test first header ended code = if first then (if header then None else Some 1) else if ended then Some 8 else code

err_code : (a b : Bool) (code : ℕ) → code_test a false b (Some code) ≡ None → ⊥
err_code true b code e = cc
err_code false true code e = cc
err_code false false code e = cc

clean_code : (a b : Bool) (code : Option ℕ) → code_test a false b code ≡ None → (b ≡ false) × (code ≡ None)
clean_code true b code e = absurd cc
clean_code false true code e = absurd cc
clean_code false false code e = (refl, e)

some_due : (n : ℕ) → (n == 0) ≡ false → 0 < n
some_due zero e = absurd (let f : true ≡ false = e in cc)
some_due (suc n) e = omega arith

abbrev node_test : Bool → Bool → Option ℕ
node_test a b = if a then Some 6 else if b then Some 7 else None

abbrev cut_test : Bool → Bool → Option ℕ
cut_test a b = if a then Some 6 else if b then None else Some 6

abbrev end_test : Bool → Bool → Bool → Bool → Option ℕ
end_test a r n w = if a then Some 6 else if r then None else if n then Some 6 else if w then None else Some 7

abbrev point_test : Bool → Option ℕ
point_test b = if b then None else Some 6

abbrev ended_test : Bool → Bool → ℕ → Option ℕ
ended_test a b x = if a then Some 1 else if b then None else Some x

node_clean : (a b : Bool) → node_test a b ≡ None → (a ≡ false) × (b ≡ false)
node_clean true b e = absurd cc
node_clean false true e = absurd cc
node_clean false false e = (refl, refl)

cut_clean : (a b : Bool) → cut_test a b ≡ None → a ≡ false
cut_clean true b e = absurd cc
cut_clean false b e = refl

end_clean : (a r n w : Bool) → end_test a r n w ≡ None → r ≡ false → w ≡ true
end_clean true r n w e no_ray = absurd cc
end_clean false true n w e no_ray = absurd cc
end_clean false false true w e no_ray = absurd cc
end_clean false false false true e no_ray = refl
end_clean false false false false e no_ray = absurd cc

-- a point without a code stands behind a claim that has one
point_clean : (s : StatedCertificate) (named : Named) → place_code s (says.Point named) ≡ None → AreBehind s.claims s.points s.rays s.cuts s.nodes → AreBehind s.claims (s.points ++ named ∷ []) s.rays s.cuts s.nodes
point_clean s named = by s.claims (are_none s.points)
  where
    by : (claims : List Claim) (b : Bool) → point_test (not (are_none claims) && (takes_point claims && b)) ≡ None → AreBehind claims s.points s.rays s.cuts s.nodes → AreBehind claims (s.points ++ named ∷ []) s.rays s.cuts s.nodes
    by [] b e h = absurd cc
    by (Optimal v ∷ claims) b e h = h
    by (Within g v ∷ claims) b e h = h
    by (Infeasible ∷ claims) b e h = absurd cc
    by (Unbounded ∷ claims) b e h = h

-- so does a ray
ray_clean : (s : StatedCertificate) (named : Named) → place_code s (says.Ray named) ≡ None → AreBehind s.claims s.points s.rays s.cuts s.nodes → AreBehind s.claims s.points (s.rays ++ named ∷ []) s.cuts s.nodes
ray_clean s named = by s.claims (lacks_point s) (are_none s.rays)
  where
    by : (claims : List Claim) (a b : Bool) → point_test (not a && (takes_ray claims && b)) ≡ None → AreBehind claims s.points s.rays s.cuts s.nodes → AreBehind claims s.points (s.rays ++ named ∷ []) s.cuts s.nodes
    by claims true b e h = absurd cc
    by [] false b e h = absurd cc
    by (Optimal v ∷ claims) false b e h = absurd cc
    by (Within g v ∷ claims) false b e h = absurd cc
    by (Infeasible ∷ claims) false b e h = absurd cc
    by (Unbounded ∷ claims) false b e h = h

-- and nodes and cuts
rooted-more : (claims : List Claim) (lacks : Bool) (points rays : List Named) (cuts more_cuts : List NamedCut) (nodes more : List CertNode) → ((are_none claims || lacks) || takes_ray claims) ≡ false → AreBehind claims points rays cuts nodes → AreBehind claims points rays more_cuts more
rooted-more [] lacks points rays cuts more_cuts nodes more e h = absurd cc
rooted-more (Optimal v ∷ claims) lacks points rays cuts more_cuts nodes more e h = h
rooted-more (Within g v ∷ claims) lacks points rays cuts more_cuts nodes more e h = h
rooted-more (Infeasible ∷ claims) lacks points rays cuts more_cuts nodes more e h = h
rooted-more (Unbounded ∷ claims) true points rays cuts more_cuts nodes more e h = absurd cc
rooted-more (Unbounded ∷ claims) false points rays cuts more_cuts nodes more e h = absurd cc

-- ---- one more line

same_ended : (b : Bool) → (b || false) ≡ b
same_ended true = refl
same_ended false = refl

unchanged : (s : StatedCertificate) → KeepsIn s → Keeps (s.claims ++ []) (s.points ++ []) (s.rays ++ []) (s.cuts ++ []) (s.nodes ++ []) (s.ended || false)
unchanged s k =
    subst (λ T. T) (λ i. Keeps (sym (nil_right s.claims) i) (sym (nil_right s.points) i) (sym (nil_right s.rays) i) (sym (nil_right s.cuts) i) (sym (nil_right s.nodes) i) (sym (same_ended s.ended) i)) k

behind-more : (claims : List Claim) (points rays : List Named) (cuts : List NamedCut) (nodes : List CertNode) (claim : Claim) → AreBehind claims points rays cuts nodes → AreBehind (claims ++ claim ∷ []) points rays cuts nodes
behind-more [] points rays cuts nodes (Optimal v) h = h.1.0
behind-more [] points rays cuts nodes (Within g v) h = h.1.0
behind-more [] points rays cuts nodes Infeasible h = (h.0, h.1.0)
behind-more [] points rays cuts nodes Unbounded h = h.1.1
behind-more (Optimal v ∷ claims) points rays cuts nodes claim h = h
behind-more (Within g v ∷ claims) points rays cuts nodes claim h = h
behind-more (Infeasible ∷ claims) points rays cuts nodes claim h = h
behind-more (Unbounded ∷ claims) points rays cuts nodes claim h = h

keeps_more : (s : StatedCertificate) (said : Result Statement ℕ) → KeepsIn s → Good said → code_in s said ≡ None → KeepsIn (after s said)
keeps_more s (Err code) k good clean = absurd (err_code (s.count == 0) s.ended code clean)
keeps_more s (Ok says.Header) k good clean = unchanged s k
keeps_more s (Ok says.Foreign) k good clean = unchanged s k
keeps_more s (Ok (says.Claims claim)) k good clean =
    let c = clean_code (s.count == 0) s.ended (place_code s (says.Claims claim)) clean in
    subst (λ T. T) (λ i. Keeps (s.claims ++ claim ∷ []) (sym (nil_right s.points) i) (sym (nil_right s.rays) i) (sym (nil_right s.cuts) i) (sym (nil_right s.nodes) i) (sym (same_ended s.ended) i)) (record {
      takes = k.takes;
      nodes_good = k.nodes_good;
      claims_good = All-append GoodClaim s.claims (claim ∷ []) k.claims_good (one GoodClaim claim good);
      points_good = k.points_good;
      rays_good = k.rays_good;
      cuts_good = k.cuts_good;
      behind = behind-more s.claims s.points s.rays s.cuts s.nodes claim k.behind;
      whole = λ e _. let f : true ≡ false = sym e ∙ c.0 in absurd cc;
    })
keeps_more s (Ok (says.Point named)) k good clean =
    subst (λ T. T) (λ i. Keeps (sym (nil_right s.claims) i) (s.points ++ named ∷ []) (sym (nil_right s.rays) i) (sym (nil_right s.cuts) i) (sym (nil_right s.nodes) i) (sym (same_ended s.ended) i)) (record {
      takes = k.takes;
      nodes_good = k.nodes_good;
      claims_good = k.claims_good;
      points_good = All-append GoodNamed s.points (named ∷ []) k.points_good (one GoodNamed named good);
      rays_good = k.rays_good;
      cuts_good = k.cuts_good;
      behind = point_clean s named (clean_code (s.count == 0) s.ended (place_code s (says.Point named)) clean).1 k.behind;
      whole = k.whole;
    })
keeps_more s (Ok (says.Ray named)) k good clean =
    subst (λ T. T) (λ i. Keeps (sym (nil_right s.claims) i) (sym (nil_right s.points) i) (s.rays ++ named ∷ []) (sym (nil_right s.cuts) i) (sym (nil_right s.nodes) i) (sym (same_ended s.ended) i)) (record {
      takes = k.takes;
      nodes_good = k.nodes_good;
      claims_good = k.claims_good;
      points_good = k.points_good;
      rays_good = All-append GoodNamed s.rays (named ∷ []) k.rays_good (one GoodNamed named good);
      cuts_good = k.cuts_good;
      behind = ray_clean s named (clean_code (s.count == 0) s.ended (place_code s (says.Ray named)) clean).1 k.behind;
      whole = k.whole;
    })
keeps_more s (Ok (says.Cut cut)) k good clean =
    let c = clean_code (s.count == 0) s.ended (place_code s (says.Cut cut)) clean in
    let test = cut_clean (lacks_part s || takes_ray s.claims) (are_none s.nodes) c.1 in
    subst (λ T. T) (λ i. Keeps (sym (nil_right s.claims) i) (sym (nil_right s.points) i) (sym (nil_right s.rays) i) (s.cuts ++ cut ∷ []) (sym (nil_right s.nodes) i) (sym (same_ended s.ended) i)) (record {
      takes = k.takes;
      nodes_good = k.nodes_good;
      claims_good = k.claims_good;
      points_good = k.points_good;
      rays_good = k.rays_good;
      cuts_good = All-append HasCutWords s.cuts (cut ∷ []) k.cuts_good (one HasCutWords cut good);
      behind = rooted-more s.claims (lacks_numbers s) s.points s.rays s.cuts (s.cuts ++ cut ∷ []) s.nodes s.nodes test k.behind;
      whole = k.whole;
    })
keeps_more s (Ok (says.Node n)) k good clean =
    let c = clean_code (s.count == 0) s.ended (place_code s (says.Node n)) clean in
    let tests = node_clean (lacks_part s || takes_ray s.claims) (is_whole_tree s.nodes) c.1 in
    let due = some_due (due_after 1 s.nodes) tests.1 in
    subst (λ T. T) (λ i. Keeps (sym (nil_right s.claims) i) (sym (nil_right s.points) i) (sym (nil_right s.rays) i) (sym (nil_right s.cuts) i) (s.nodes ++ n ∷ []) (sym (same_ended s.ended) i)) (record {
      takes = takes-more 1 s.nodes n k.takes due;
      nodes_good = All-append GoodNode s.nodes (n ∷ []) k.nodes_good (one GoodNode n good);
      claims_good = k.claims_good;
      points_good = k.points_good;
      rays_good = k.rays_good;
      cuts_good = k.cuts_good;
      behind = rooted-more s.claims (lacks_numbers s) s.points s.rays s.cuts s.cuts s.nodes (s.nodes ++ n ∷ []) tests.0 k.behind;
      whole = λ e _. let f : true ≡ false = sym e ∙ c.0 in absurd cc;
    })
keeps_more s (Ok says.End) k good clean =
    let c = clean_code (s.count == 0) s.ended (place_code s says.End) clean in
    let done : takes_ray s.claims ≡ false → due_after 1 s.nodes ≡ 0 = λ no_ray. (Decides-eqb (due_after 1 s.nodes) 0).0 (end_clean (lacks_part s) (takes_ray s.claims) (are_none s.nodes) (is_whole_tree s.nodes) c.1 no_ray) in
    subst (λ T. T) (λ i. Keeps (sym (nil_right s.claims) i) (sym (nil_right s.points) i) (sym (nil_right s.rays) i) (sym (nil_right s.cuts) i) (sym (nil_right s.nodes) i) (s.ended || true)) (record {
      takes = k.takes;
      nodes_good = k.nodes_good;
      claims_good = k.claims_good;
      points_good = k.points_good;
      rays_good = k.rays_good;
      cuts_good = k.cuts_good;
      behind = k.behind;
      whole = λ e no_ray. done no_ray;
    })

keeps_none : KeepsIn (stated [])
unfolding stated
keeps_none = record {
  takes = tt;
  nodes_good = All-nil GoodNode;
  claims_good = All-nil GoodClaim;
  points_good = All-nil GoodNamed;
  rays_good = All-nil GoodNamed;
  cuts_good = All-nil HasCutWords;
  behind = (refl, (refl, (refl, refl)));
  whole = λ e _. let f : false ≡ true = e in absurd cc;
}

module _ (lines : List (List ℕ)) (one_line : All HasNoNewline lines) where
  keeps_first : (k : ℕ) → k ≤ length lines → AreClean lines k → KeepsIn (stated (take k lines))
  unfolding code_at
  keeps_first zero within clean = keeps_none
  keeps_first (suc k) within clean =
      let below : k < length lines = omega (arith, within) in
      let up : k + 1 ≡ suc k = omega arith in
      let before = keeps_first k (omega (arith, within)) (λ j under. clean j (omega (arith, under))) in
      subst KeepsIn (sym (taken_more lines k below) ∙ ap (λ n. stated (take n lines)) up)
      (keeps_more (stated (take k lines)) (line_says (get_or lines k [])) before (line-good (get_or lines k []) (one_line k [] below)) (clean k (omega arith)))

  keeps_all : AreClean lines (length lines) → KeepsIn (stated lines)
  keeps_all clean = subst (λ ls. KeepsIn (stated ls)) (take_all (length lines) lines (omega arith)) (keeps_first (length lines) (omega arith) clean)

-- ---- the certificate

ended_is : (s : StatedCertificate) → end_code s ≡ None → s.ended ≡ true
ended_is s e = by (s.count == 0) s.ended (or_no_end (place_code s says.End)) e
  where
    by : (a b : Bool) (x : ℕ) → ended_test a b x ≡ None → b ≡ true
    by true b x e = absurd cc
    by false true x e = refl
    by false false x e = absurd cc

module _ (points rays : List Named) (cuts : List NamedCut) (nodes : List CertNode) where
  no_point : (claims : List Claim) → AreBehind claims points rays cuts nodes → HasNoPoint (first_claim claims) (first_named points)
  no_point [] h = ap first_named h.0
  no_point (Optimal v ∷ claims) h = tt
  no_point (Within g v ∷ claims) h = tt
  no_point (Infeasible ∷ claims) h = ap first_named h.0
  no_point (Unbounded ∷ claims) h = tt

  no_ray : (claims : List Claim) → AreBehind claims points rays cuts nodes → HasNoRay (first_claim claims) (first_named rays)
  no_ray [] h = ap first_named h.1.0
  no_ray (Optimal v ∷ claims) h = ap first_named h
  no_ray (Within g v ∷ claims) h = ap first_named h
  no_ray (Infeasible ∷ claims) h = ap first_named h.1
  no_ray (Unbounded ∷ claims) h = tt

  no_cuts : (claims : List Claim) → AreBehind claims points rays cuts nodes → HasNoCuts (first_claim claims) cuts
  no_cuts [] h = tt
  no_cuts (Optimal v ∷ claims) h = tt
  no_cuts (Within g v ∷ claims) h = tt
  no_cuts (Infeasible ∷ claims) h = tt
  no_cuts (Unbounded ∷ claims) h = h.0

  one_tree : TakesAll 1 nodes → due_after 1 nodes ≡ 0 → AreOneTree nodes
  one_tree takes done = let t = whole_tree nodes takes done in record { tree = t.0; nodes_are = t.1 }

  has_tree : (claims : List Claim) → AreBehind claims points rays cuts nodes → TakesAll 1 nodes → (takes_ray claims ≡ false → due_after 1 nodes ≡ 0) → HasTree (first_claim claims) nodes
  has_tree [] h takes done = one_tree takes (done refl)
  has_tree (Optimal v ∷ claims) h takes done = one_tree takes (done refl)
  has_tree (Within g v ∷ claims) h takes done = one_tree takes (done refl)
  has_tree (Infeasible ∷ claims) h takes done = one_tree takes (done refl)
  has_tree (Unbounded ∷ claims) h takes done = h.1

claim_good : (claims : List Claim) → All GoodClaim claims → GoodClaim (first_claim claims)
claim_good [] all = record { room = tt; gap = tt }
claim_good (claim ∷ claims) all = All-head GoodClaim claim claims all

point_good : (points : List Named) → All GoodNamed points → GoodNamed (first_named points)
point_good [] all = record { words = All-nil (λ (e : List ℕ × Rattle.frac128.specs.Rational.ℚ). IsWord e.0); room = All-nil (λ (e : List ℕ × Rattle.frac128.specs.Rational.ℚ). Rattle.frac128.specs.Range.Fits e.1) }
point_good (named ∷ points) all = All-head GoodNamed named points all

point_room : (claim : Claim) (named : Named) → HasFractions named → HasPointRoom claim named
point_room (Optimal v) named room = room
point_room (Within g v) named room = room
point_room Infeasible named room = tt
point_room Unbounded named room = room

ray_room : (claim : Claim) (named : Named) → HasFractions named → HasRayRoom claim named
ray_room (Optimal v) named room = tt
ray_room (Within g v) named room = tt
ray_room Infeasible named room = tt
ray_room Unbounded named room = room

all_weaker : {A : Type 0} (P Q : A → Type 0) → ((x : A) → P x → Q x) → (xs : List A) → All P xs → All Q xs
all_weaker P Q w xs all k d below = w (get_or xs k d) (all k d below)

record Whole (cert : Cert) : Type 0 where
  certificate : IsCertificate cert
  words : HasCertWords cert
  room : HasCertRoom cert

whole_by : (s : StatedCertificate) → KeepsIn s → end_code s ≡ None → Whole (cert_of s)
whole_by s k ended =
    let claim = claim_good s.claims k.claims_good in
    let point = point_good s.points k.points_good in
    let ray = point_good s.rays k.rays_good in
    record {
      certificate = record {
        tree = has_tree s.points s.rays s.cuts s.nodes s.claims k.behind k.takes (k.whole (ended_is s ended));
        narrow = all_weaker GoodNode IsNarrowNode (λ n g. g.narrow) s.nodes k.nodes_good;
        point = no_point s.points s.rays s.cuts s.nodes s.claims k.behind;
        ray = no_ray s.points s.rays s.cuts s.nodes s.claims k.behind;
        cuts = no_cuts s.points s.rays s.cuts s.nodes s.claims k.behind;
        gap = claim.gap;
      };
      words = record { point = point.words; ray = ray.words; cuts = k.cuts_good; nodes = all_weaker GoodNode HasNodeWords (λ n g. g.words) s.nodes k.nodes_good };
      room = record { claim = claim.room; point = point_room (first_claim s.claims) (first_named s.points) point.room; ray = ray_room (first_claim s.claims) (first_named s.rays) ray.room; nodes = all_weaker GoodNode HasNodeRoom (λ n g. g.room) s.nodes k.nodes_good };
    }

pub print_again : (text : List ℕ) (cert : Cert) → MeantCertificate text cert → MeantCertificate (cert_text cert) cert
print_again text cert m =
    let w = subst Whole (sym m.is) (whole_by (stated (line_bytes text)) (keeps_all (line_bytes text) (line_bytes-clean text) m.clean) m.ended) in
    printed_states cert w.certificate w.words w.room
