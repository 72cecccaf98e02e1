-- What the lines of a printed certificate say.
use Rattle.std.proofs.Common.{◌≡◌, ℕ, ◌-◌, ◌^◌, ◌<◌, length, Bool, true, false, List, [], ◌∷◌, ◌++◌, map, refl, sym, ap, subst, ◌∙◌, arith, if◌then◌else◌}
use Rattle.std.specs.Prelude.{All, codes, Some, Ok, Err, ℤ, pos, ◌+ℤ◌}
use Rattle.std.specs.Ordering.{int_eq}
use Rattle.std.specs.Fmt.{decimal, signed_decimal}
use Rattle.std.proofs.lemmas.Bool.{false_from_ne_true}
use Rattle.std.proofs.lemmas.Bool.Decides.{Decides-int_eq}
use Rattle.std.proofs.lemmas.Int.{ints}
use Rattle.std.proofs.lemmas.List.Elements.{All-nil, All-cons, All-head, All-tail}
use Rattle.frac128.specs.Rational.{ℚ, int, ◌≤ℚ◌}
use Rattle.frac128.proofs.Comparison.{rational_le-decides}
use Rattle.frac128.specs.Range.{Fits, IsNarrow}
use Rattle.frac_text.specs.Parsing.{parsed}
use Rattle.frac128.specs.Printing.{printed}
use Rattle.frac128.proofs.Printed.{printed-int}
use Rattle.frac_text.proofs.PrintedReads.{reading_of-printed}
use Rattle.frac128.proofs.Whole.{Fits-int}
use Rattle.lp_model.specs.Edits.{Named}
use Rattle.lp_model.specs.Sides.{side_of_word}
use Rattle.lp_model.specs.declared.types.Side.{Side}
use Rattle.lp_model.specs.declared.types.Side.TheVariants.{Lo, Hi}
use Rattle.cert_text.specs.declared.cert.Claim.{Claim}
use Rattle.cert_text.specs.declared.cert.Claim.TheVariants.{Optimal, Within, Infeasible, Unbounded}
use Rattle.cert_text.specs.declared.cert.CertMult.{CertMult}
use Rattle.cert_text.specs.declared.cert.CertMult.TheVariants.{Row, Cut}
use Rattle.cert_text.specs.declared.cert.NamedCut.{NamedCut}
use Rattle.cert_text.specs.declared.cert.CertNode.{CertNode}
use Rattle.cert_text.specs.declared.cert.CertNode.TheVariants as node
use Rattle.cert_text.specs.declared.cert.Cert.{Cert}
use Rattle.cert_text.specs.declared.line.Statement.{Statement}
use Rattle.cert_text.specs.declared.line.Statement.TheVariants as says
use Rattle.cert_text.specs.CutLines.{literal_in, with_literal, literals_in, cut_by, cut_line_in}
use Rattle.cert_text.specs.Mults.{row_mult, cut_mult, with_mult, mults_in}
use Rattle.cert_text.specs.Lines.{beside, named_in, claimed, gap_claimed, within_claimed, split_at, as_leaf, as_point, as_ray, as_cut, words_say, line_says}
use Rattle.frac_text.specs.Parsing.{spelled_number}
use Rattle.cert_text.specs.Text.{MeantCertificate}
use Rattle.cert_text.specs.Whole.{HasLawfulGap, IsNarrowNode, IsCertificate}
use Rattle.text_lines.specs.Words.{IsWord, Words}
use Rattle.cert_writer.specs.CertText.{named_words, all_mult_words, literal_word, literal_words, side_word, cut_words, claim_words, node_words, point_lines, ray_lines, cert_lines, line_text, lines_text, cert_text, HasNameWords, IsMultWord, HasCutWords, HasNodeWords, HasCertWords}
use Rattle.cert_writer.specs.Room.{HasFractions, MultFits, HasClaimRoom, HasPointRoom, HasRayRoom, HasNodeRoom, HasCertRoom}
use Rattle.cert_writer.proofs.WordLaws.{plain_word, decimal_word, word-cons, cut_number, signed_word, number_word, line-says, lines-cut}
use Rattle.cert_writer.proofs.StatedLaws.{SayAll, all_statements, cut_statements, point_statements, ray_statements, cert_statements, states}

-- ---- numbers

pub number_read : (x : ℚ) → Fits x → spelled_number (printed x) ≡ Ok x
number_read x fits = ap parsed (reading_of-printed x fits)

pub whole_read : (v : ℤ) → IsNarrow v → spelled_number (signed_decimal v) ≡ Ok (int v)
whole_read v narrow = ap spelled_number (sym (printed-int v)) ∙ number_read (int v) (Fits-int v narrow)

-- ---- words

abbrev All₂ : Named → Type 0
All₂ named = HasNameWords named × HasFractions named

named_read : (named : Named) → HasFractions named → named_in (named_words named) ≡ Ok named
named_read [] room = refl
named_read (e ∷ named) room =
    (λ i. beside e.0 (number_read e.1 (All-head (λ (d : List ℕ × ℚ). Fits d.1) e named room) i) (named_read named (All-tail (λ (d : List ℕ × ℚ). Fits d.1) e named room) i))

mults_read : (mults : List CertMult) → All MultFits mults → mults_in (all_mult_words mults) ≡ Ok mults
mults_read [] room = refl
mults_read (Row name v ∷ mults) room =
    (λ i. with_mult (row_mult name (number_read v (All-head MultFits (Row name v) mults room) i)) (mults_read mults (All-tail MultFits (Row name v) mults room) i))
mults_read (Cut k v ∷ mults) room =
    let here = All-head MultFits (Cut k v) mults room in
    (λ i. with_mult (cut_mult (cut_number k here.1 i) (number_read v here.0 i)) (mults_read mults (All-tail MultFits (Cut k v) mults room) i))

named_are : (named : Named) → HasNameWords named → HasFractions named → All IsWord (named_words named)
named_are [] words room = All-nil IsWord
named_are (e ∷ named) words room =
    All-cons IsWord e.0 (printed e.1 ∷ named_words named) (All-head (λ (d : List ℕ × ℚ). IsWord d.0) e named words)
    (All-cons IsWord (printed e.1) (named_words named) (number_word e.1 (All-head (λ (d : List ℕ × ℚ). Fits d.1) e named room))
    (named_are named (All-tail (λ (d : List ℕ × ℚ). IsWord d.0) e named words) (All-tail (λ (d : List ℕ × ℚ). Fits d.1) e named room)))

mults_are : (mults : List CertMult) → All IsMultWord mults → All MultFits mults → All IsWord (all_mult_words mults)
mults_are [] words room = All-nil IsWord
mults_are (Row name v ∷ mults) words room =
    All-cons IsWord (codes "row") (name ∷ printed v ∷ all_mult_words mults) (plain_word (codes "row") refl)
    (All-cons IsWord name (printed v ∷ all_mult_words mults) (All-head IsMultWord (Row name v) mults words)
    (All-cons IsWord (printed v) (all_mult_words mults) (number_word v (All-head MultFits (Row name v) mults room))
    (mults_are mults (All-tail IsMultWord (Row name v) mults words) (All-tail MultFits (Row name v) mults room))))
mults_are (Cut k v ∷ mults) words room =
    let here = All-head MultFits (Cut k v) mults room in
    All-cons IsWord (codes "cut") (decimal k ∷ printed v ∷ all_mult_words mults) (plain_word (codes "cut") refl)
    (All-cons IsWord (decimal k) (printed v ∷ all_mult_words mults) (decimal_word k (let few = here.1 in omega (arith, few)))
    (All-cons IsWord (printed v) (all_mult_words mults) (number_word v here.0)
    (mults_are mults (All-tail IsMultWord (Cut k v) mults words) (All-tail MultFits (Cut k v) mults room))))

-- ---- cuts

abbrev WordLiteral : List ℕ × Bool → Type 0
WordLiteral l = IsWord l.0

side_read : (s : Side) → side_of_word (side_word s) ≡ Some s
side_read Lo = refl
side_read Hi = refl

side_is_word : (s : Side) → IsWord (side_word s)
side_is_word Lo = plain_word (codes "lo") refl
side_is_word Hi = plain_word (codes "hi") refl

literal_read : (name : List ℕ) (plus : Bool) → IsWord name → literal_in (literal_word (name, plus)) ≡ Some (name, plus)
literal_read [] plus w = absurd (let s = w.some in omega (arith, s))
literal_read (byte ∷ name) true w = refl
literal_read (byte ∷ name) false w = refl

literals_read : (literals : List (List ℕ × Bool)) → All WordLiteral literals → literals_in (literal_words literals) ≡ Ok literals
literals_read [] all = refl
literals_read (l ∷ literals) all =
    (λ i. with_literal (literal_read l.0 l.1 (All-head WordLiteral l literals all) i) (literals_read literals (All-tail WordLiteral l literals all) i))

some_literals : (row : List ℕ) (s : Side) (literals : List (List ℕ × Bool)) → 0 < length literals → cut_by row (Some s) (Ok literals) ≡ Ok (record { row = row; side = s; literals = literals })
some_literals row s [] some = absurd (omega (arith, some))
some_literals row s (l ∷ literals) some = refl

cut_read : (cut : NamedCut) → HasCutWords cut → cut_line_in (cut.row ∷ side_word cut.side ∷ literal_words cut.literals) ≡ Ok cut
cut_read cut h = (λ i. cut_by cut.row (side_read cut.side i) (literals_read cut.literals h.literals i)) ∙ some_literals cut.row cut.side cut.literals h.some

literal_is_word : (name : List ℕ) (plus : Bool) → IsWord name → IsWord (literal_word (name, plus))
literal_is_word name true w = word-cons 43 name refl refl w
literal_is_word name false w = word-cons 45 name refl refl w

literals_are : (literals : List (List ℕ × Bool)) → All WordLiteral literals → All IsWord (literal_words literals)
literals_are [] all = All-nil IsWord
literals_are (l ∷ literals) all =
    All-cons IsWord (literal_word l) (literal_words literals) (literal_is_word l.0 l.1 (All-head WordLiteral l literals all)) (literals_are literals (All-tail WordLiteral l literals all))

-- ---- lines

-- a line of words that says a statement
pub record Line (words : Words) (x : Statement) : Type 0 where
  pub are : All IsWord words
  pub say : line_says (line_text words) ≡ Ok x

line_by : (word : List ℕ) (words : Words) (x : Statement) → IsWord word → All IsWord words → words_say false (word ∷ words) ≡ Ok x → Line (word ∷ words) x
line_by word words x first rest said = record { are = All-cons IsWord word words first rest; say = line-says word words first rest ∙ said }

pub two : (a b : List ℕ) → IsWord a → IsWord b → All IsWord (a ∷ b ∷ [])
two a b p q = All-cons IsWord a (b ∷ []) p (All-cons IsWord b [] q (All-nil IsWord))

header_line : Line (codes "cert" ∷ codes "1" ∷ []) says.Header
header_line = line_by (codes "cert") (codes "1" ∷ []) says.Header (plain_word (codes "cert") refl) (All-cons IsWord (codes "1") [] (plain_word (codes "1") refl) (All-nil IsWord)) refl

pub end_line : Line (codes "end" ∷ []) says.End
end_line = line_by (codes "end") [] says.End (plain_word (codes "end") refl) (All-nil IsWord) refl

pub three : (a b c : List ℕ) → IsWord a → IsWord b → IsWord c → All IsWord (a ∷ b ∷ c ∷ [])
three a b c p q r = All-cons IsWord a (b ∷ c ∷ []) p (two b c q r)

within_read : (g v : ℚ) → Fits g → Fits v → int (pos 0) ≤ℚ g → within_claimed (spelled_number (printed g)) (spelled_number (printed v)) ≡ Ok (says.Claims (Within g v))
within_read g v gap room some =
    (λ i. within_claimed (number_read g gap i) (number_read v room i))
    ∙ ap (λ (b : Bool). if b then gap_claimed g (Ok v) else Err 3) ((rational_le-decides (int (pos 0)) g).1 some)

claim_line : (claim : Claim) → HasClaimRoom claim → HasLawfulGap claim → Line (claim_words claim) (says.Claims claim)
claim_line (Optimal v) room gap =
    line_by (codes "claim") (codes "optimal" ∷ printed v ∷ []) (says.Claims (Optimal v)) (plain_word (codes "claim") refl) (two (codes "optimal") (printed v) (plain_word (codes "optimal") refl) (number_word v room)) (ap claimed (number_read v room))
claim_line (Within g v) room gap =
    line_by (codes "claim") (codes "within" ∷ printed g ∷ printed v ∷ []) (says.Claims (Within g v)) (plain_word (codes "claim") refl)
    (three (codes "within") (printed g) (printed v) (plain_word (codes "within") refl) (number_word g room.0) (number_word v room.1)) (within_read g v room.0 room.1 gap)
claim_line Infeasible room gap =
    line_by (codes "claim") (codes "infeasible" ∷ []) (says.Claims Infeasible) (plain_word (codes "claim") refl) (All-cons IsWord (codes "infeasible") [] (plain_word (codes "infeasible") refl) (All-nil IsWord)) refl
claim_line Unbounded room gap =
    line_by (codes "claim") (codes "unbounded" ∷ []) (says.Claims Unbounded) (plain_word (codes "claim") refl) (All-cons IsWord (codes "unbounded") [] (plain_word (codes "unbounded") refl) (All-nil IsWord)) refl

pub point_line : (named : Named) → HasNameWords named → HasFractions named → Line (codes "point" ∷ named_words named) (says.Point named)
point_line named words room = line_by (codes "point") (named_words named) (says.Point named) (plain_word (codes "point") refl) (named_are named words room) (ap as_point (named_read named room))

ray_line : (named : Named) → HasNameWords named → HasFractions named → Line (codes "ray" ∷ named_words named) (says.Ray named)
ray_line named words room = line_by (codes "ray") (named_words named) (says.Ray named) (plain_word (codes "ray") refl) (named_are named words room) (ap as_ray (named_read named room))

below_largest : (v : ℤ) → IsNarrow (v +ℤ pos 1) → int_eq v (pos (2 ^ 127 - 1)) ≡ false
below_largest v narrow = false_from_ne_true (int_eq v (pos (2 ^ 127 - 1))) (λ t. let e = (Decides-int_eq v (pos (2 ^ 127 - 1))).0 t in omega (arith, ints, e, narrow))

split_reads : (col : List ℕ) (v : ℤ) → IsNarrow (v +ℤ pos 1) → split_at col (Ok (int v)) ≡ Ok (says.Node (node.Split col v))
unfolding int
split_reads col v narrow = ap (λ (b : Bool). if b then Err 5 else Ok (says.Node (node.Split col v))) (below_largest v narrow)

pub cut_line : (cut : NamedCut) → HasCutWords cut → Line (cut_words cut) (says.Cut cut)
cut_line cut h =
    line_by (codes "cut") (cut.row ∷ side_word cut.side ∷ literal_words cut.literals) (says.Cut cut) (plain_word (codes "cut") refl)
    (All-cons IsWord cut.row (side_word cut.side ∷ literal_words cut.literals) h.row
    (All-cons IsWord (side_word cut.side) (literal_words cut.literals) (side_is_word cut.side) (literals_are cut.literals h.literals)))
    (ap as_cut (cut_read cut h))

pub node_line : (n : CertNode) → IsNarrowNode n → HasNodeWords n → HasNodeRoom n → Line (node_words n) (says.Node n)
node_line (node.Split col v) narrow words room =
    line_by (codes "split") (col ∷ signed_decimal v ∷ []) (says.Node (node.Split col v)) (plain_word (codes "split") refl) (two col (signed_decimal v) words (signed_word v narrow.0))
    (ap (split_at col) (whole_read v narrow.0) ∙ split_reads col v narrow.1)
node_line (node.Bound mults) narrow words room =
    line_by (codes "leaf") (codes "bound" ∷ all_mult_words mults) (says.Node (node.Bound mults)) (plain_word (codes "leaf") refl) (All-cons IsWord (codes "bound") (all_mult_words mults) (plain_word (codes "bound") refl) (mults_are mults words room))
    (ap (as_leaf node.Bound) (mults_read mults room))
node_line (node.Farkas mults) narrow words room =
    line_by (codes "leaf") (codes "farkas" ∷ all_mult_words mults) (says.Node (node.Farkas mults)) (plain_word (codes "leaf") refl) (All-cons IsWord (codes "farkas") (all_mult_words mults) (plain_word (codes "farkas") refl) (mults_are mults words room))
    (ap (as_leaf node.Farkas) (mults_read mults room))
node_line node.Empty narrow words room =
    line_by (codes "leaf") (codes "empty" ∷ []) (says.Node node.Empty) (plain_word (codes "leaf") refl) (All-cons IsWord (codes "empty") [] (plain_word (codes "empty") refl) (All-nil IsWord)) refl

-- ---- all lines

record Lines (lines : List Words) (xs : List Statement) : Type 0 where
  are : All (All IsWord) lines
  say : SayAll (map line_text lines) xs

lines_none : Lines [] []
lines_none = record { are = All-nil (All IsWord); say = tt }

lines_cons : (words : Words) (x : Statement) (lines : List Words) (xs : List Statement) → Line words x → Lines lines xs → Lines (words ∷ lines) (x ∷ xs)
lines_cons words x lines xs line rest = record { are = All-cons (All IsWord) words lines line.are rest.are; say = (line.say, rest.say) }

nodes_lines : (nodes : List CertNode) → All IsNarrowNode nodes → All HasNodeWords nodes → All HasNodeRoom nodes → Lines (map node_words nodes ++ (codes "end" ∷ []) ∷ []) (all_statements nodes ++ says.End ∷ [])
nodes_lines [] narrow words room = lines_cons (codes "end" ∷ []) says.End [] [] end_line lines_none
nodes_lines (n ∷ nodes) narrow words room =
    lines_cons (node_words n) (says.Node n) (map node_words nodes ++ (codes "end" ∷ []) ∷ []) (all_statements nodes ++ says.End ∷ [])
    (node_line n (All-head IsNarrowNode n nodes narrow) (All-head HasNodeWords n nodes words) (All-head HasNodeRoom n nodes room))
    (nodes_lines nodes (All-tail IsNarrowNode n nodes narrow) (All-tail HasNodeWords n nodes words) (All-tail HasNodeRoom n nodes room))

cuts_behind : (cuts : List NamedCut) (lines : List Words) (xs : List Statement) → All HasCutWords cuts → Lines lines xs → Lines (map cut_words cuts ++ lines) (cut_statements cuts ++ xs)
cuts_behind [] lines xs words rest = rest
cuts_behind (cut ∷ cuts) lines xs words rest =
    lines_cons (cut_words cut) (says.Cut cut) (map cut_words cuts ++ lines) (cut_statements cuts ++ xs) (cut_line cut (All-head HasCutWords cut cuts words))
    (cuts_behind cuts lines xs (All-tail HasCutWords cut cuts words) rest)

point_behind : (claim : Claim) (point : Named) (lines : List Words) (xs : List Statement) → HasNameWords point → HasPointRoom claim point → Lines lines xs → Lines (point_lines claim point ++ lines) (point_statements claim point ++ xs)
point_behind (Optimal v) point lines xs words room rest = lines_cons (codes "point" ∷ named_words point) (says.Point point) lines xs (point_line point words room) rest
point_behind (Within g v) point lines xs words room rest = lines_cons (codes "point" ∷ named_words point) (says.Point point) lines xs (point_line point words room) rest
point_behind Infeasible point lines xs words room rest = rest
point_behind Unbounded point lines xs words room rest = lines_cons (codes "point" ∷ named_words point) (says.Point point) lines xs (point_line point words room) rest

ray_behind : (claim : Claim) (ray : Named) (lines : List Words) (xs : List Statement) → HasNameWords ray → HasRayRoom claim ray → Lines lines xs → Lines (ray_lines claim ray ++ lines) (ray_statements claim ray ++ xs)
ray_behind (Optimal v) ray lines xs words room rest = rest
ray_behind (Within g v) ray lines xs words room rest = rest
ray_behind Infeasible ray lines xs words room rest = rest
ray_behind Unbounded ray lines xs words room rest = lines_cons (codes "ray" ∷ named_words ray) (says.Ray ray) lines xs (ray_line ray words room) rest

-- the printed text of a certificate whose names are words states it
pub printed_states : (cert : Cert) → IsCertificate cert → HasCertWords cert → HasCertRoom cert → MeantCertificate (cert_text cert) cert
unfolding cert_text
printed_states cert whole words room =
    let nodes = nodes_lines cert.nodes whole.narrow words.nodes room.nodes in
    let cuts = cuts_behind cert.cuts (map node_words cert.nodes ++ (codes "end" ∷ []) ∷ []) (all_statements cert.nodes ++ says.End ∷ []) words.cuts nodes in
    let ray = ray_behind cert.claim cert.ray _ _ words.ray room.ray cuts in
    let point = point_behind cert.claim cert.point _ _ words.point room.point ray in
    let all : Lines (cert_lines cert) (cert_statements cert) =
    lines_cons (codes "cert" ∷ codes "1" ∷ []) says.Header (claim_words cert.claim ∷ _) (says.Claims cert.claim ∷ _) header_line
    (lines_cons (claim_words cert.claim) (says.Claims cert.claim) _ _ (claim_line cert.claim room.claim whole.gap) point) in
    states (lines_text (cert_lines cert)) cert.claim cert.point cert.ray cert.cuts cert.nodes whole.tree whole.point whole.ray whole.cuts
    (subst (λ ls. SayAll ls (cert_statements cert)) (sym (lines-cut (cert_lines cert) all.are)) all.say)
