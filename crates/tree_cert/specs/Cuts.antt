-- The cuts of a search's certificate: of those that count the ones that its nodes name, in the order of the pool, numbered from 1.
--     named_cuts M cuts used       the cuts at these places of a pool, by names
--     mults_named F number list    multipliers by the names of their rows and the numbers of their cuts; one of a cut that does not
--                                  count is left out
--     NameCuts n nodes             the numbers of cuts that the nodes name are those from 1 to n
use Rattle.std.specs.Prelude.{◌≡◌, ◌⊎◌, ℕ, suc, ◌<◌, ◌≤◌, Bool, if◌then◌else◌, List, [], ◌∷◌, ◌++◌, map, All}
use Rattle.frac128.specs.Rational.{ℚ}
use Rattle.lp_model.specs.Program.{Program}
use Rattle.lp_model.specs.Elements.{of_element}
use Rattle.lp_model.specs.Cuts.{is_live}
use Rattle.lp_model.specs.Lawful.{row_name, column_name}
use Rattle.lp_model.specs.Formulations.{Formulation}
use Rattle.lp_model.specs.declared.types.Var.{Var}
use Rattle.lp_model.specs.declared.types.Var.TheVariants.{Row, Col as ColVar, Cut}
use Rattle.lp_model.specs.declared.types.Side.TheVariants.{Hi}
use Rattle.lp_model.specs.declared.types.Literal.{Literal}
use Rattle.lp_model.specs.declared.types.Derivation.{Derivation}
use Rattle.lp_model.specs.declared.types.CutRow.{CutRow}
use Rattle.leaf_dual.specs.Dual.{Multipliers}
use Rattle.kept_cuts.specs.Places.{index_among}
use Rattle.cert_text.specs.declared.cert.CertMult.{CertMult}
use Rattle.cert_text.specs.declared.cert.CertMult.TheVariants as mult
use Rattle.cert_text.specs.declared.cert.CertNode.{CertNode}
use Rattle.cert_text.specs.declared.cert.CertNode.TheVariants as node
use Rattle.cert_text.specs.declared.cert.NamedCut.{NamedCut}

-- ---- a cut by names

abbrev pub named_literal : Program → Literal → List ℕ × Bool
named_literal M l = (column_name M l.col.0, l.plus)

abbrev pub named_cut : Program → Derivation → NamedCut
named_cut M d = record { row = row_name M d.row.0; side = d.side; literals = map (named_literal M) d.literals }

-- the derivation of the cut at a place of a pool, and past its end one without literals
abbrev pub no_derivation : Derivation
no_derivation = record { row = record { 0 = 0 }; side = Hi; literals = [] }

abbrev pub derivation_at : List CutRow → ℕ → Derivation
derivation_at cuts k = of_element no_derivation (λ c. c.from) cuts k

abbrev pub named_cuts : Program → List CutRow → List ℕ → List NamedCut
named_cuts M cuts used = map (λ k. named_cut M (derivation_at cuts k)) used

-- ---- multipliers by names

-- the number, from 1, of the cut at a place, among the places that are used
abbrev pub used_number : List ℕ → ℕ → ℕ
used_number used k = suc (index_among k used)

abbrev pub cut_named : List CutRow → (ℕ → ℕ) → ℕ → ℚ → List CertMult
cut_named cuts number k v = if is_live cuts k then mult.Cut (number k) v ∷ [] else []

abbrev pub mult_named : Formulation → (ℕ → ℕ) → Var → ℚ → List CertMult
mult_named F number (Row row) v = mult.Row (row_name F.model row.0) v ∷ []
mult_named F number (ColVar col) v = []
mult_named F number (Cut cut) v = cut_named F.cuts number cut.0 v

abbrev pub mults_named : Formulation → (ℕ → ℕ) → Multipliers → List CertMult
mults_named F number [] = []
mults_named F number (m ∷ list) = mult_named F number m.0 m.1 ++ mults_named F number list

-- ---- the cuts that nodes name

abbrev pub node_mults : CertNode → List CertMult
node_mults (node.Split col v) = []
node_mults (node.Bound mults) = mults
node_mults (node.Farkas mults) = mults
node_mults node.Empty = []

-- the multiplier is of a row, or of a cut with one of the numbers from 1 to n
abbrev pub IsOfFirst : ℕ → CertMult → Type 0
IsOfFirst n (mult.Row name v) = Unit {0}
IsOfFirst n (mult.Cut k v) = (0 < k) × (k ≤ n)

-- it is of the cut with the number k
abbrev pub IsOfCut : ℕ → CertMult → Type 0
IsOfCut k (mult.Row name v) = ⊥
IsOfCut k (mult.Cut n v) = n ≡ k

-- one of the multipliers is
abbrev pub NameNumber : ℕ → List CertMult → Type 0
NameNumber k [] = ⊥
NameNumber k (m ∷ mults) = IsOfCut k m ⊎ NameNumber k mults

-- one of the nodes' is
abbrev pub StandsAmong : ℕ → List CertNode → Type 0
StandsAmong k [] = ⊥
StandsAmong k (c ∷ nodes) = NameNumber k (node_mults c) ⊎ StandsAmong k nodes

pub record NameCuts (n : ℕ) (nodes : List CertNode) : Type 0 where
  pub within : All (λ c. All (IsOfFirst n) (node_mults c)) nodes
  pub all : (k : ℕ) → k < n → StandsAmong (suc k) nodes
