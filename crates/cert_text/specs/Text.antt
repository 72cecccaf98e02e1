-- What a certificate's text means, and its faults: the first faulty line, and the least code on it. Beside a line's own
-- codes 2 to 5 (specs/Lines) there are
--     1   the first line is not `cert 1`
--     6   a part out of order, missing or twice: claim, point (where a value is claimed, or that the model is unbounded), then a
--         ray for `unbounded`, and cuts and nodes for the other claims, `end`
--     7   the nodes are not one whole tree
--     8   no `end`, or a line after it
-- A missing part stands at the line where it was due.
use Rattle.std.specs.Prelude.{◌≡◌, ℕ, suc, ◌-◌, ◌<◌, Bool, true, false, ◌||◌, ◌&&◌, not, if◌then◌else◌, ◌==◌, List, [], ◌∷◌, length, take, get_or, Option, None, Some, Result, Ok, Err}
use Rattle.std.specs.List.{filter_map, list_any}
use Rattle.lp_model.specs.Edits.{Named}
use Rattle.cert_text.specs.declared.cert.Claim.{Claim}
use Rattle.cert_text.specs.declared.cert.Claim.TheVariants.{Optimal, Within, Infeasible, Unbounded}
use Rattle.cert_text.specs.declared.cert.NamedCut.{NamedCut}
use Rattle.cert_text.specs.declared.cert.CertNode.{CertNode}
use Rattle.cert_text.specs.declared.cert.CertNode.TheVariants.{Split, Bound, Farkas, Empty}
use Rattle.cert_text.specs.declared.cert.Cert.{Cert}
use Rattle.cert_text.specs.declared.line.Statement.{Statement}
use Rattle.cert_text.specs.declared.line.Statement.TheVariants.{Header, Claims, Point, Node, End, Ray, Cut, Foreign}
use Rattle.text_lines.specs.Lines.{line_bytes}
use Rattle.cert_text.specs.Lines.{line_says}

-- ---- what some lines state, each its part

abbrev pub claim_in : Result Statement ℕ → Option Claim
claim_in (Ok (Claims claim)) = Some claim
claim_in said = None

abbrev pub point_in : Result Statement ℕ → Option Named
point_in (Ok (Point named)) = Some named
point_in said = None

abbrev pub ray_in : Result Statement ℕ → Option Named
ray_in (Ok (Ray named)) = Some named
ray_in said = None

abbrev pub cut_in : Result Statement ℕ → Option NamedCut
cut_in (Ok (Cut cut)) = Some cut
cut_in said = None

abbrev pub node_in : Result Statement ℕ → Option CertNode
node_in (Ok (Node node)) = Some node
node_in said = None

abbrev pub is_end_statement : Result Statement ℕ → Bool
is_end_statement (Ok End) = true
is_end_statement said = false

abbrev pub is_header_statement : Result Statement ℕ → Bool
is_header_statement (Ok Header) = true
is_header_statement said = false

pub record StatedCertificate : Type 0 where
  -- how many lines there are
  pub count : ℕ
  pub claims : List Claim
  pub points : List Named
  pub rays : List Named
  pub cuts : List NamedCut
  pub nodes : List CertNode
  pub ended : Bool

unfoldable pub stated : List (List ℕ) → StatedCertificate
stated lines = record {
  count = length lines;
  claims = filter_map (λ line. claim_in (line_says line)) lines;
  points = filter_map (λ line. point_in (line_says line)) lines;
  rays = filter_map (λ line. ray_in (line_says line)) lines;
  cuts = filter_map (λ line. cut_in (line_says line)) lines;
  nodes = filter_map (λ line. node_in (line_says line)) lines;
  ended = list_any (λ line. is_end_statement (line_says line)) lines;
}

-- ---- order

-- how many trees are still due behind some nodes: one at first, one more behind each split, one fewer behind each leaf
abbrev pub due_after : ℕ → List CertNode → ℕ
due_after due [] = due
due_after due (Split col v ∷ nodes) = due_after (suc due) nodes
due_after due (Bound mults ∷ nodes) = due_after (due - 1) nodes
due_after due (Farkas mults ∷ nodes) = due_after (due - 1) nodes
due_after due (Empty ∷ nodes) = due_after (due - 1) nodes

abbrev pub is_whole_tree : List CertNode → Bool
is_whole_tree nodes = due_after 1 nodes == 0

abbrev pub are_none : {A : Type 0} → List A → Bool
are_none [] = true
are_none (x ∷ xs) = false

-- a point is due where a value is claimed, or that the model is unbounded
abbrev pub takes_point : List Claim → Bool
takes_point (Optimal v ∷ claims) = true
takes_point (Within g v ∷ claims) = true
takes_point (Unbounded ∷ claims) = true
takes_point claims = false

-- a ray is due, and no nodes are, where the model is claimed unbounded
abbrev pub takes_ray : List Claim → Bool
takes_ray (Unbounded ∷ claims) = true
takes_ray claims = false

abbrev pub lacks_point : StatedCertificate → Bool
lacks_point s = takes_point s.claims && are_none s.points

abbrev pub lacks_ray : StatedCertificate → Bool
lacks_ray s = takes_ray s.claims && are_none s.rays

-- the point or the ray is still due
abbrev pub lacks_numbers : StatedCertificate → Bool
lacks_numbers s = lacks_point s || lacks_ray s

-- the claim, the point or the ray is still due
abbrev pub lacks_part : StatedCertificate → Bool
lacks_part s = are_none s.claims || lacks_numbers s

-- a cut stands before the nodes, under a claim that has them
abbrev pub cut_code : StatedCertificate → Option ℕ
cut_code s = if lacks_part s || takes_ray s.claims then Some 6 else if are_none s.nodes then None else Some 6

abbrev pub node_code : StatedCertificate → Option ℕ
node_code s = if lacks_part s || takes_ray s.claims then Some 6 else if is_whole_tree s.nodes then Some 7 else None

-- the code of `end` by the nodes
abbrev pub end_tree_code : StatedCertificate → Option ℕ
end_tree_code s = if takes_ray s.claims then None else if are_none s.nodes then Some 6 else if is_whole_tree s.nodes then None else Some 7

-- the code of a statement by what stands before it
abbrev pub place_code : StatedCertificate → Statement → Option ℕ
place_code s (Claims claim) = if are_none s.claims then None else Some 6
place_code s (Point named) = if not (are_none s.claims) && lacks_point s then None else Some 6
place_code s (Cut cut) = cut_code s
place_code s (Node node) = node_code s
place_code s End = if lacks_part s then Some 6 else end_tree_code s
place_code s Header = Some 6
place_code s (Ray named) = if not (lacks_point s) && lacks_ray s then None else Some 6
place_code s Foreign = Some 6

abbrev pub said_code : StatedCertificate → Result Statement ℕ → Option ℕ
said_code s (Ok statement) = place_code s statement
said_code s (Err code) = Some code

-- the code of a line behind what is stated, if it has one
abbrev pub code_in : StatedCertificate → Result Statement ℕ → Option ℕ
code_in s said =
    if s.count == 0 then (if is_header_statement said then None else Some 1)
    else if s.ended then Some 8
    else said_code s said

abbrev pub or_no_end : Option ℕ → ℕ
or_no_end (Some code) = code
or_no_end None = 8

-- the code of what is missing where the text ends behind what is stated
abbrev pub end_code : StatedCertificate → Option ℕ
end_code s =
    if s.count == 0 then Some 1
    else if s.ended then None
    else Some (or_no_end (place_code s End))

-- the code of line k of some, the first being line 0
unfoldable pub code_at : List (List ℕ) → ℕ → Option ℕ
code_at lines k = code_in (stated (take k lines)) (line_says (get_or lines k []))

-- the first n lines are without fault
abbrev pub AreClean : List (List ℕ) → ℕ → Type 0
AreClean lines n = (k : ℕ) → k < n → code_at lines k ≡ None

-- ---- meaning and faults

abbrev pub first_claim : List Claim → Claim
first_claim [] = Infeasible
first_claim (claim ∷ claims) = claim

abbrev pub first_named : List Named → Named
first_named [] = []
first_named (named ∷ more) = named

abbrev pub cert_of : StatedCertificate → Cert
cert_of s = record { claim = first_claim s.claims; point = first_named s.points; ray = first_named s.rays; cuts = s.cuts; nodes = s.nodes }

-- the certificate that the text states
pub record MeantCertificate (text : List ℕ) (cert : Cert) : Type 0 where
  pub clean : AreClean (line_bytes text) (length (line_bytes text))
  pub ended : end_code (stated (line_bytes text)) ≡ None
  pub is : cert ≡ cert_of (stated (line_bytes text))

-- the first faulty line, from 1, and its least code
pub data FaultyCertificate (text : List ℕ) (line code : ℕ) : Type 0 where
  OnLine : (k : ℕ) → k < length (line_bytes text) → AreClean (line_bytes text) k → code_at (line_bytes text) k ≡ Some code → line ≡ suc k → FaultyCertificate text line code
  AtEnd : AreClean (line_bytes text) (length (line_bytes text)) → end_code (stated (line_bytes text)) ≡ Some code → line ≡ suc (length (line_bytes text)) → FaultyCertificate text line code
