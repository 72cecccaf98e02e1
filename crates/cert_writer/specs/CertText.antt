-- The text of a certificate: its lines, each of words with one blank between them and a newline behind it.
use Rattle.std.specs.Prelude.{ℕ, ◌<◌, Bool, true, false, List, [], ◌∷◌, ◌++◌, map, length, codes, All}
use Rattle.std.specs.Fmt.{decimal, signed_decimal}
use Rattle.frac128.specs.Printing.{printed}
use Rattle.lp_model.specs.Edits.{Named}
use Rattle.lp_model.specs.declared.types.Side.{Side}
use Rattle.lp_model.specs.declared.types.Side.TheVariants.{Lo, Hi}
use Rattle.cert_text.specs.declared.cert.Claim.{Claim}
use Rattle.cert_text.specs.declared.cert.Claim.TheVariants.{Optimal, Within, Infeasible, Unbounded}
use Rattle.cert_text.specs.declared.cert.CertMult.{CertMult}
use Rattle.cert_text.specs.declared.cert.CertMult.TheVariants.{Row, Cut}
use Rattle.cert_text.specs.declared.cert.NamedCut.{NamedCut}
use Rattle.cert_text.specs.declared.cert.CertNode.{CertNode}
use Rattle.cert_text.specs.declared.cert.CertNode.TheVariants.{Split, Bound, Farkas, Empty}
use Rattle.cert_text.specs.declared.cert.Cert.{Cert}
use Rattle.text_lines.specs.Words.{IsWord, Words, spaced}

-- ---- words

-- `NAME V` for each
abbrev pub named_words : Named → Words
named_words [] = []
named_words (e ∷ named) = e.0 ∷ printed e.1 ∷ named_words named

-- `row NAME V` and `cut K V` for each
abbrev pub mult_words : CertMult → Words
mult_words (Row name v) = codes "row" ∷ name ∷ printed v ∷ []
mult_words (Cut k v) = codes "cut" ∷ decimal k ∷ printed v ∷ []

abbrev pub all_mult_words : List CertMult → Words
all_mult_words [] = []
all_mult_words (m ∷ mults) = mult_words m ++ all_mult_words mults

abbrev pub sign_of : Bool → ℕ
sign_of true = 43
sign_of false = 45

-- `+NAME` or `-NAME`
abbrev pub literal_word : List ℕ × Bool → List ℕ
literal_word l = sign_of l.1 ∷ l.0

abbrev pub literal_words : List (List ℕ × Bool) → Words
literal_words literals = map literal_word literals

abbrev pub side_word : Side → List ℕ
side_word Lo = codes "lo"
side_word Hi = codes "hi"

-- `cut ROW hi LIT..` or `cut ROW lo LIT..`
abbrev pub cut_words : NamedCut → Words
cut_words cut = codes "cut" ∷ cut.row ∷ side_word cut.side ∷ literal_words cut.literals

abbrev pub claim_words : Claim → Words
claim_words (Optimal v) = codes "claim" ∷ codes "optimal" ∷ printed v ∷ []
claim_words (Within g v) = codes "claim" ∷ codes "within" ∷ printed g ∷ printed v ∷ []
claim_words Infeasible = codes "claim" ∷ codes "infeasible" ∷ []
claim_words Unbounded = codes "claim" ∷ codes "unbounded" ∷ []

abbrev pub node_words : CertNode → Words
node_words (Split col v) = codes "split" ∷ col ∷ signed_decimal v ∷ []
node_words (Bound mults) = codes "leaf" ∷ codes "bound" ∷ all_mult_words mults
node_words (Farkas mults) = codes "leaf" ∷ codes "farkas" ∷ all_mult_words mults
node_words Empty = codes "leaf" ∷ codes "empty" ∷ []

-- a point has a line where a value is claimed, or that the model is unbounded
abbrev pub point_lines : Claim → Named → List Words
point_lines (Optimal v) named = (codes "point" ∷ named_words named) ∷ []
point_lines (Within g v) named = (codes "point" ∷ named_words named) ∷ []
point_lines Infeasible named = []
point_lines Unbounded named = (codes "point" ∷ named_words named) ∷ []

-- a ray has one where the model is claimed unbounded
abbrev pub ray_lines : Claim → Named → List Words
ray_lines (Optimal v) named = []
ray_lines (Within g v) named = []
ray_lines Infeasible named = []
ray_lines Unbounded named = (codes "ray" ∷ named_words named) ∷ []

abbrev pub cert_lines : Cert → List Words
cert_lines c =
    (codes "cert" ∷ codes "1" ∷ []) ∷ claim_words c.claim
    ∷ (point_lines c.claim c.point ++ (ray_lines c.claim c.ray ++ (map cut_words c.cuts ++ (map node_words c.nodes ++ (codes "end" ∷ []) ∷ []))))

-- ---- bytes

abbrev pub line_text : Words → List ℕ
line_text [] = []
line_text (word ∷ words) = word ++ spaced words

-- a newline behind each
abbrev pub lines_text : List Words → List ℕ
lines_text [] = []
lines_text (line ∷ lines) = line_text line ++ 10 ∷ lines_text lines

unfoldable pub cert_text : Cert → List ℕ
cert_text c = lines_text (cert_lines c)

-- ---- names that are words

abbrev pub HasNameWords : Named → Type 0
HasNameWords named = All (λ e. IsWord e.0) named

abbrev pub IsMultWord : CertMult → Type 0
IsMultWord (Row name v) = IsWord name
IsMultWord (Cut k v) = Unit {0}

-- a cut's names are words, and it has a literal
pub record HasCutWords (cut : NamedCut) : Type 0 where
  pub row : IsWord cut.row
  pub literals : All (λ l. IsWord l.0) cut.literals
  pub some : 0 < length cut.literals

abbrev pub HasNodeWords : CertNode → Type 0
HasNodeWords (Split col v) = IsWord col
HasNodeWords (Bound mults) = All IsMultWord mults
HasNodeWords (Farkas mults) = All IsMultWord mults
HasNodeWords Empty = Unit {0}

-- each name in the certificate is a word, and each of its cuts has a literal
pub record HasCertWords (cert : Cert) : Type 0 where
  pub point : HasNameWords cert.point
  pub ray : HasNameWords cert.ray
  pub cuts : All HasCutWords cert.cuts
  pub nodes : All HasNodeWords cert.nodes
