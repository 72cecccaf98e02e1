-- The certificate of a search that is finished, exactly, and that of a model with a ray.
--     IsCertificateOf S cert     its claim and its point are the incumbent's, its cuts are those that count and that its nodes
--                                name, in the order of the pool, and its tree is the search's tree, split by split and leaf by
--                                leaf, with names in the place of places
--     IsCertificateWithin S g cert   the same of a search whose leaves are within the gap g, with the incumbent's value and that gap
--     unbounded_certificate M x d  the model is unbounded, by the point x and the ray d
use Rattle.std.specs.Prelude.{◌≡◌, ℕ, ◌<◌, if◌then◌else◌, IsTrue, List, [], ◌∷◌, length, All, AllPairs, Option, Some, None}
use Rattle.frac128.specs.Rational.{ℚ}
use Rattle.lp_model.specs.Program.{Program, Point, value}
use Rattle.lp_model.specs.Edits.{Named, is_zero}
use Rattle.lp_model.specs.Regions.{Path, IsEmptyRegion}
use Rattle.lp_model.specs.Formulations.{Formulation}
use Rattle.lp_model.specs.Cuts.{is_live}
use Rattle.lp_model.specs.declared.types.Col.{Col}
use Rattle.branch_tree.specs.Tree.{Leaf, Split, left_path, right_path}
use Rattle.branch_tree.specs.Plain.{Plain}
use Rattle.branch_tree.specs.declared.node.LeafData.{LeafData}
use Rattle.leaf_judging.specs.Closing.{IsRefuted}
use Rattle.search_parts.specs.Points.{IsIncumbent}
use Rattle.sound_searches.specs.Sound.{PlainSearch, formulation_of}
use Rattle.cert_text.specs.declared.cert.Claim.{Claim}
use Rattle.cert_text.specs.declared.cert.Claim.TheVariants.{Optimal, Within, Infeasible, Unbounded}
use Rattle.cert_text.specs.declared.cert.NamedCut.{NamedCut}
use Rattle.cert_text.specs.declared.cert.CertNode.{CertNode}
use Rattle.cert_text.specs.declared.cert.CertNode.TheVariants as node
use Rattle.cert_text.specs.declared.cert.Cert.{Cert}
use Rattle.cert_text.specs.Tree.{CertTree, certificate_nodes}
use Rattle.cert_text.specs.Tree.{Bound as CertBound, Farkas as CertFarkas, Empty as CertEmpty, Split as CertSplit}
use Rattle.lp_model.specs.Lawful.{column_name}
use Rattle.tree_cert.specs.Cuts.{named_cuts, used_number, mults_named, NameCuts}

-- ---- the claim and the point

-- its value in the model's own sense, where there is a point
abbrev pub claim_of : Program → Option Point → Claim
claim_of M None = Infeasible
claim_of M (Some x) = Optimal (value M 1 x)

abbrev pub unless_zero : List ℕ → ℚ → Named → Named
unless_zero name v named = if is_zero v then named else (name, v) ∷ named

-- the numbers that are not 0, beside the names of their columns, in the order of the columns
abbrev pub nonzero_numbers : List Col → Point → Named
nonzero_numbers [] x = []
nonzero_numbers (c ∷ cols) [] = []
nonzero_numbers (c ∷ cols) (v ∷ x) = unless_zero c.name v (nonzero_numbers cols x)

abbrev pub point_numbers : Program → Option Point → Named
point_numbers M None = []
point_numbers M (Some x) = nonzero_numbers M.cols x

-- ---- the tree

-- Why the leaf of a region closes: the region is empty, or else the leaf's Farkas multipliers refute it, or else its
-- multipliers bound it. Cuts are named by their numbers.
abbrev pub IsReason : Formulation → (ℕ → ℕ) → Path → LeafData → CertNode → Type 0
IsReason F number path kept node.Empty = IsEmptyRegion F.model path
IsReason F number path kept (node.Farkas mults) = (¬ IsEmptyRegion F.model path) × (IsRefuted F path kept.farkas × (mults ≡ mults_named F number kept.farkas))
IsReason F number path kept (node.Bound mults) = (¬ IsEmptyRegion F.model path) × ((¬ IsRefuted F path kept.farkas) × (mults ≡ mults_named F number kept.mult))
IsReason F number path kept (node.Split name w) = ⊥

-- the same splits, by the names of their columns, and each leaf's reason, where the root has this path
abbrev pub IsTreeOf : Formulation → (ℕ → ℕ) → Path → Plain → CertTree → Type 0
IsTreeOf F number path (Leaf l) (CertBound mults) = IsReason F number path l.kept (node.Bound mults)
IsTreeOf F number path (Leaf l) (CertFarkas mults) = IsReason F number path l.kept (node.Farkas mults)
IsTreeOf F number path (Leaf l) CertEmpty = IsReason F number path l.kept node.Empty
IsTreeOf F number path (Leaf l) (CertSplit col w first second) = ⊥
IsTreeOf F number path (Split kept j v left right) (CertBound mults) = ⊥
IsTreeOf F number path (Split kept j v left right) (CertFarkas mults) = ⊥
IsTreeOf F number path (Split kept j v left right) CertEmpty = ⊥
IsTreeOf F number path (Split kept j v left right) (CertSplit col w first second) =
    (col ≡ column_name F.model j) × ((w ≡ v) × (IsTreeOf F number (left_path path j v) left first × IsTreeOf F number (right_path path j v) right second))

-- ---- the certificate

-- the cuts that count at these places of the pool, by names, which the nodes name by their numbers, and the nodes of the tree
pub record IsProofOf (S : PlainSearch) (cuts : List NamedCut) (nodes : List CertNode) : Type 0 where
  pub used : List ℕ
  pub rising : AllPairs (λ a b. a < b) used
  pub live : All (λ k. IsTrue (is_live S.cuts k)) used
  pub cuts_are : cuts ≡ named_cuts S.model S.cuts used
  pub tree : CertTree
  pub nodes_are : certificate_nodes tree ≡ nodes
  pub like : IsTreeOf (formulation_of S) (used_number used) [] S.tree.root tree
  pub named : NameCuts (length used) nodes

pub record IsCertificateOf (S : PlainSearch) (cert : Cert) : Type 0 where
  pub incumbent : Option Point
  pub best : IsIncumbent S.model S.points incumbent
  pub claim : cert.claim ≡ claim_of S.model incumbent
  pub point : cert.point ≡ point_numbers S.model incumbent
  pub ray : cert.ray ≡ []
  pub proof : IsProofOf S cert.cuts cert.nodes

-- leaves may be open: each says why it closes against the incumbent's value less the gap
pub record IsCertificateWithin (S : PlainSearch) (g : ℚ) (cert : Cert) : Type 0 where
  pub best : Point
  pub incumbent : IsIncumbent S.model S.points (Some best)
  pub claim : cert.claim ≡ Within g (value S.model 1 best)
  pub point : cert.point ≡ nonzero_numbers S.model.cols best
  pub ray : cert.ray ≡ []
  pub proof : IsProofOf S cert.cuts cert.nodes

-- the numbers of the point and of the ray that are not 0, and no nodes
abbrev pub unbounded_certificate : Program → Point → Point → Cert
unbounded_certificate M x d = record { claim = Unbounded; point = nonzero_numbers M.cols x; ray = nonzero_numbers M.cols d; cuts = []; nodes = [] }
