-- Which cuts the nodes of a certificate name, and their numbers among them: what is made of nodes that name each cut by its place in
-- the pool, from 1.
use Rattle.std.specs.Prelude.{ℕ, suc, ◌-◌, ◌<◌, Bool, true, if◌then◌else◌, List, [], ◌∷◌, ◌++◌, length, map, set, get_or, All}
use Rattle.lp_model.specs.Program.{Program}
use Rattle.lp_model.specs.declared.types.Derivation.{Derivation}
use Rattle.cert_text.specs.declared.cert.CertMult.{CertMult}
use Rattle.cert_text.specs.declared.cert.CertMult.TheVariants as mult
use Rattle.cert_text.specs.declared.cert.CertNode.{CertNode}
use Rattle.cert_text.specs.declared.cert.CertNode.TheVariants as node
use Rattle.tree_cert.specs.Cuts.{node_mults, IsOfFirst}

-- ---- marks, one for each place

abbrev pub mark_of : List Bool → CertMult → List Bool
mark_of marks (mult.Row name v) = marks
mark_of marks (mult.Cut k v) = set marks (k - 1) true

abbrev pub marks_of : List Bool → List CertMult → List Bool
marks_of marks [] = marks
marks_of marks (m ∷ mults) = marks_of (mark_of marks m) mults

abbrev pub marks_in : List Bool → List CertNode → List Bool
marks_in marks [] = marks
marks_in marks (c ∷ nodes) = marks_in (marks_of marks (node_mults c)) nodes

-- each names places of so many alone
abbrev pub NodeNamesFirst : ℕ → CertNode → Type 0
NodeNamesFirst n c = All (IsOfFirst n) (node_mults c)

-- ---- the marked places, the first place being k

abbrev pub place_if : Bool → ℕ → List ℕ
place_if marked k = if marked then k ∷ [] else []

abbrev pub places_of : ℕ → List Bool → List ℕ
places_of k [] = []
places_of k (b ∷ marks) = place_if b k ++ places_of (suc k) marks

-- ---- how many marks stand before each place, n standing before the first

abbrev pub count_with : ℕ → Bool → ℕ
count_with n marked = if marked then suc n else n

abbrev pub counts_of : ℕ → List Bool → List ℕ
counts_of n [] = []
counts_of n (b ∷ marks) = n ∷ counts_of (count_with n b) marks

-- and before the end
abbrev pub count_all : ℕ → List Bool → ℕ
count_all n [] = n
count_all n (b ∷ marks) = count_all (count_with n b) marks

-- ---- cuts by their numbers among the marked ones

abbrev pub renumbered : List ℕ → CertMult → CertMult
renumbered counts (mult.Row name v) = mult.Row name v
renumbered counts (mult.Cut k v) = mult.Cut (suc (get_or counts (k - 1) 0)) v

abbrev pub renumbered_node : List ℕ → CertNode → CertNode
renumbered_node counts (node.Split col v) = node.Split col v
renumbered_node counts (node.Bound mults) = node.Bound (map (renumbered counts) mults)
renumbered_node counts (node.Farkas mults) = node.Farkas (map (renumbered counts) mults)
renumbered_node counts node.Empty = node.Empty

-- ---- derivations

-- the row and the columns that it names are there
pub record IsDerivationThere (M : Program) (d : Derivation) : Type 0 where
  pub row : d.row.0 < length M.rows
  pub literals : All (λ l. l.col.0 < length M.cols) d.literals
