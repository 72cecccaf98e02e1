-- One item further: what was put so far, and what is to be put of the items that are left, is what is to be put of all.
use Rattle.std.proofs.Common.{◌≡◌, ℕ, ◌+◌, ◌<◌, ◌≤◌, List, [], ◌∷◌, ◌++◌, length, take, drop, get_or, map, refl, sym, ap, subst, ◌∙◌, append_assoc, if◌then◌else◌}
use Rattle.std.specs.Prelude.{Bool, All, codes, Result, Ok, Err, is_ok, IfOk, OnOk}
use Rattle.frac128.specs.Rational.{ℚ}
use Rattle.frac128.specs.Printing.{printed}
use Rattle.lp_model.specs.Edits.{Named}
use Rattle.cert_text.specs.declared.cert.CertMult.{CertMult}
use Rattle.cert_text.specs.declared.cert.NamedCut.{NamedCut}
use Rattle.cert_text.specs.declared.cert.CertNode.{CertNode}
use Rattle.cert_text.specs.declared.cert.Cert.{Cert}
use Rattle.cert_writer.specs.CertText.{named_words, mult_words, all_mult_words, literal_word, literal_words, cut_words, claim_words, node_words, point_lines, ray_lines, line_text, lines_text, cert_text}
use Rattle.text_lines.specs.Words.{spaced, Words}
use Rattle.std.proofs.lemmas.List.{drop_more, drop_all, take_all}
use Rattle.std.proofs.lemmas.List.Elements.{All-more}

nil_right : {A : Type 0} (l : List A) → l ++ [] ≡ l
nil_right [] = refl
nil_right (x ∷ l) = ap (λ m. x ∷ m) (nil_right l)

module _ {A B : Type 0} (all : List A → List B) (one : A → List B) (step : (x : A) (xs : List A) → all (x ∷ xs) ≡ one x ++ all xs) (items : List A) (k : ℕ) (whole old : List B) (before : whole ≡ old ++ all (drop k items)) where
  pub put_next : (x : A) (new : List B) → k < length items → x ≡ get_or items k x → new ≡ old ++ one x → whole ≡ new ++ all (drop (k + 1) items)
  put_next x new below is after =
      let rest = drop (k + 1) items in
      let cut : drop k items ≡ x ∷ rest = drop_more items k x below ∙ ap (λ y. y ∷ rest) (sym is) in
      before ∙ ap (λ l. old ++ all l) cut ∙ ap (λ l. old ++ l) (step x rest) ∙ sym (append_assoc old (one x) (all rest)) ∙ ap (λ l. l ++ all rest) (sym after)

  pub put_end : length items ≤ k → all [] ≡ [] → old ≡ whole
  put_end past none = sym (before ∙ ap (λ l. old ++ all l) (drop_all k items past) ∙ ap (λ l. old ++ l) none ∙ nil_right old)

module _ {A : Type 0} (P : A → Type 0) (items : List A) (k : ℕ) where
  pub all_next : (x : A) → k < length items → x ≡ get_or items k x → All P (take k items) → P x → All P (take (k + 1) items)
  all_next x below is before here = All-more P items k x below before (subst P is here)

  pub all_end : length items ≤ k → All P (take k items) → All P items
  all_end past all = subst (All P) (take_all k items past) all

-- ---- words and lines

pub spaced_append : (a b : Words) → spaced (a ++ b) ≡ spaced a ++ spaced b
spaced_append [] b = refl
spaced_append (word ∷ a) b = ap (λ l. 32 ∷ (word ++ l)) (spaced_append a b) ∙ ap (λ l. 32 ∷ l) (sym (append_assoc word (spaced a) (spaced b)))

pub lines_append : (a b : List Words) → lines_text (a ++ b) ≡ lines_text a ++ lines_text b
lines_append [] b = refl
lines_append (line ∷ a) b = ap (λ l. line_text line ++ 10 ∷ l) (lines_append a b) ∙ sym (append_assoc (line_text line) (10 ∷ lines_text a) (lines_text b))

pub named_step : (e : List ℕ × ℚ) (named : Named) → spaced (named_words (e ∷ named)) ≡ spaced (e.0 ∷ printed e.1 ∷ []) ++ spaced (named_words named)
named_step e named = spaced_append (e.0 ∷ printed e.1 ∷ []) (named_words named)

pub mult_step : (m : CertMult) (mults : List CertMult) → spaced (all_mult_words (m ∷ mults)) ≡ spaced (mult_words m) ++ spaced (all_mult_words mults)
mult_step m mults = spaced_append (mult_words m) (all_mult_words mults)

pub literal_step : (l : List ℕ × Bool) (literals : List (List ℕ × Bool)) → spaced (literal_words (l ∷ literals)) ≡ spaced (literal_word l ∷ []) ++ spaced (literal_words literals)
literal_step l literals = spaced_append (literal_word l ∷ []) (literal_words literals)

-- a word behind its blank
pub word_put : (old word one new : List ℕ) → one ≡ old ++ 32 ∷ [] → new ≡ one ++ word → new ≡ old ++ spaced (word ∷ [])
word_put old word one new first second = second ∙ ap (λ l. l ++ word) first ∙ append_assoc old (32 ∷ []) word ∙ ap (λ l. old ++ 32 ∷ l) (sym (nil_right word))

-- a word of a sign and further bytes
pub signed_put : (old bytes one new : List ℕ) (sign : ℕ) → one ≡ old ++ spaced ((sign ∷ []) ∷ []) → new ≡ one ++ bytes → new ≡ old ++ spaced ((sign ∷ bytes) ∷ [])
signed_put old bytes one new sign first second =
    second ∙ ap (λ l. l ++ bytes) first ∙ append_assoc old (32 ∷ sign ∷ []) bytes ∙ ap (λ l. old ++ 32 ∷ sign ∷ l) (sym (nil_right bytes))

-- words behind words
pub words_put : (a b : Words) (old one new : List ℕ) → one ≡ old ++ spaced a → new ≡ one ++ spaced b → new ≡ old ++ spaced (a ++ b)
words_put a b old one new first second = second ∙ ap (λ l. l ++ spaced b) first ∙ append_assoc old (spaced a) (spaced b) ∙ ap (λ l. old ++ l) (sym (spaced_append a b))

pub cut_step : (cut : NamedCut) (cuts : List NamedCut) → lines_text (map cut_words (cut ∷ cuts)) ≡ (line_text (cut_words cut) ++ 10 ∷ []) ++ lines_text (map cut_words cuts)
cut_step cut cuts = sym (append_assoc (line_text (cut_words cut)) (10 ∷ []) (lines_text (map cut_words cuts)))

pub line_step : (n : CertNode) (nodes : List CertNode) → lines_text (map node_words (n ∷ nodes)) ≡ (line_text (node_words n) ++ 10 ∷ []) ++ lines_text (map node_words nodes)
line_step n nodes = sym (append_assoc (line_text (node_words n)) (10 ∷ []) (lines_text (map node_words nodes)))

pub line_put : (old line one new : List ℕ) → one ≡ old ++ line → new ≡ one ++ 10 ∷ [] → new ≡ old ++ (line ++ 10 ∷ [])
line_put old line one new first second = second ∙ ap (λ l. l ++ 10 ∷ []) first ∙ append_assoc old line (10 ∷ [])

-- words behind the head of a line
pub behind_put : (old head : List ℕ) (words : Words) (one new : List ℕ) → one ≡ old ++ head → new ≡ one ++ spaced words → new ≡ old ++ (head ++ spaced words)
behind_put old head words one new first second = second ∙ ap (λ l. l ++ spaced words) first ∙ append_assoc old head (spaced words)

-- a line of a word and further words, put word by word
pub named_line_put : (old word : List ℕ) (words : Words) (a b c : List ℕ) → a ≡ old ++ word → b ≡ a ++ spaced words → c ≡ b ++ 10 ∷ [] → c ≡ old ++ lines_text ((word ∷ words) ∷ [])
named_line_put old word words a b c first second third =
    third
    ∙ ap (λ l. l ++ 10 ∷ []) (second ∙ ap (λ l. l ++ spaced words) first ∙ append_assoc old word (spaced words))
    ∙ append_assoc old (word ++ spaced words) (10 ∷ [])

-- a line of a word, two further words, and more words
pub three_put : (old word first second : List ℕ) (words : Words) (a b c d : List ℕ) → a ≡ old ++ word → b ≡ a ++ spaced (first ∷ []) → c ≡ b ++ spaced (second ∷ []) → d ≡ c ++ spaced words → d ≡ old ++ line_text (word ∷ first ∷ second ∷ words)
three_put old word first second words a b c d begun one two last =
    words_put (first ∷ second ∷ []) words a c d (words_put (first ∷ []) (second ∷ []) a b c one two) last
    ∙ ap (λ l. l ++ spaced (first ∷ second ∷ words)) begun
    ∙ append_assoc old word (spaced (first ∷ second ∷ words))

-- the parts of a certificate's text one after the other
pub text_parts : (cert : Cert) (a b c d r k e f : List ℕ) → a ≡ codes "cert 1\n" → b ≡ a ++ line_text (claim_words cert.claim) → c ≡ b ++ 10 ∷ [] → d ≡ c ++ lines_text (point_lines cert.claim cert.point) →
    r ≡ d ++ lines_text (ray_lines cert.claim cert.ray) → k ≡ r ++ lines_text (map cut_words cert.cuts) → e ≡ k ++ lines_text (map node_words cert.nodes) → f ≡ e ++ codes "end\n" → f ≡ cert_text cert
unfolding cert_text
text_parts cert a b c d r k e f first second third fourth fifth sixth seventh last =
    let claim = line_text (claim_words cert.claim) in
    let points = lines_text (point_lines cert.claim cert.point) in
    let rays = lines_text (ray_lines cert.claim cert.ray) in
    let cuts = lines_text (map cut_words cert.cuts) in
    let nodes = lines_text (map node_words cert.nodes) in
    let ended = codes "end\n" in
    let behind_nodes = map node_words cert.nodes ++ (codes "end" ∷ []) ∷ [] in
    let behind_cuts = map cut_words cert.cuts ++ behind_nodes in
    last
    ∙ ap (λ l. l ++ ended) (seventh ∙ ap (λ l. l ++ nodes) (sixth ∙ ap (λ l. l ++ cuts) (fifth ∙ ap (λ l. l ++ rays) (fourth ∙ ap (λ l. l ++ points) (third ∙ ap (λ l. l ++ 10 ∷ []) (second ∙ ap (λ l. l ++ claim) first))))))
    ∙ append_assoc (((((codes "cert 1\n" ++ claim) ++ 10 ∷ []) ++ points) ++ rays) ++ cuts) nodes ended
    ∙ append_assoc ((((codes "cert 1\n" ++ claim) ++ 10 ∷ []) ++ points) ++ rays) cuts (nodes ++ ended)
    ∙ append_assoc (((codes "cert 1\n" ++ claim) ++ 10 ∷ []) ++ points) rays (cuts ++ (nodes ++ ended))
    ∙ append_assoc ((codes "cert 1\n" ++ claim) ++ 10 ∷ []) points (rays ++ (cuts ++ (nodes ++ ended)))
    ∙ append_assoc (codes "cert 1\n" ++ claim) (10 ∷ []) (points ++ (rays ++ (cuts ++ (nodes ++ ended))))
    ∙ append_assoc (codes "cert 1\n") claim (10 ∷ (points ++ (rays ++ (cuts ++ (nodes ++ ended)))))
    ∙ ap (λ l. codes "cert 1\n" ++ (claim ++ 10 ∷ l))
    (ap (λ l. points ++ (rays ++ (cuts ++ l))) (sym (lines_append (map node_words cert.nodes) ((codes "end" ∷ []) ∷ [])))
    ∙ ap (λ l. points ++ (rays ++ l)) (sym (lines_append (map cut_words cert.cuts) behind_nodes))
    ∙ ap (λ l. points ++ l) (sym (lines_append (ray_lines cert.claim cert.ray) behind_cuts))
    ∙ sym (lines_append (point_lines cert.claim cert.point) (ray_lines cert.claim cert.ray ++ behind_cuts)))

-- ---- the same where the last call may have had no memory

module _ {T E : Type 0} where
  pub word_last : (last : Result T E) (old word one new : List ℕ) → one ≡ old ++ 32 ∷ [] → new ≡ (if is_ok last then one ++ word else one) → IfOk last (λ _. new ≡ old ++ spaced (word ∷ []))
  word_last (Ok x) old word one new first second = word_put old word one new first second
  word_last (Err x) old word one new first second = tt

  pub number_last : (last : Result T E) (old word one new : List ℕ) → one ≡ old ++ 32 ∷ [] → OnOk last (new ≡ one ++ word) → IfOk last (λ _. new ≡ old ++ spaced (word ∷ []))
  number_last (Ok x) old word one new first second = word_put old word one new first second
  number_last (Err x) old word one new first second = tt

  pub words_last : (last : Result T E) (a b : Words) (old one new : List ℕ) → one ≡ old ++ spaced a → IfOk last (λ _. new ≡ one ++ spaced b) → IfOk last (λ _. new ≡ old ++ spaced (a ++ b))
  words_last (Ok x) a b old one new first second = words_put a b old one new first second
  words_last (Err x) a b old one new first second = tt

  pub signed_last : (last : Result T E) (old bytes one new : List ℕ) (sign : ℕ) → one ≡ old ++ spaced ((sign ∷ []) ∷ []) → new ≡ (if is_ok last then one ++ bytes else one) → IfOk last (λ _. new ≡ old ++ spaced ((sign ∷ bytes) ∷ []))
  signed_last (Ok x) old bytes one new sign first second = signed_put old bytes one new sign first second
  signed_last (Err x) old bytes one new sign first second = tt

  pub piece_last : (last : Result T E) (old piece new : List ℕ) → new ≡ (if is_ok last then old ++ piece else old) → IfOk last (λ _. new ≡ old ++ piece)
  piece_last (Ok x) old piece new is = is
  piece_last (Err x) old piece new is = tt

  pub behind_last : (last : Result T E) (old head : List ℕ) (words : Words) (one new : List ℕ) → one ≡ old ++ head → IfOk last (λ _. new ≡ one ++ spaced words) → IfOk last (λ _. new ≡ old ++ (head ++ spaced words))
  behind_last (Ok x) old head words one new first second = behind_put old head words one new first second
  behind_last (Err x) old head words one new first second = tt

  pub named_line_last : (last : Result T E) (old word : List ℕ) (words : Words) (a b c : List ℕ) → a ≡ old ++ word → b ≡ a ++ spaced words → c ≡ (if is_ok last then b ++ 10 ∷ [] else b) → IfOk last (λ _. c ≡ old ++ lines_text ((word ∷ words) ∷ []))
  named_line_last (Ok x) old word words a b c first second third = named_line_put old word words a b c first second third
  named_line_last (Err x) old word words a b c first second third = tt

  pub three_last : (last : Result T E) (old word first second : List ℕ) (words : Words) (a b c d : List ℕ) → a ≡ old ++ word → b ≡ a ++ spaced (first ∷ []) → c ≡ b ++ spaced (second ∷ []) → IfOk last (λ _. d ≡ c ++ spaced words) →
      IfOk last (λ _. d ≡ old ++ line_text (word ∷ first ∷ second ∷ words))
  three_last (Ok x) old word first second words a b c d begun one two done = three_put old word first second words a b c d begun one two done
  three_last (Err x) old word first second words a b c d begun one two done = tt

  pub text_last : (last : Result T E) (cert : Cert) (a b c d r k e f : List ℕ) → a ≡ codes "cert 1\n" → b ≡ a ++ line_text (claim_words cert.claim) → c ≡ b ++ 10 ∷ [] → d ≡ c ++ lines_text (point_lines cert.claim cert.point) →
      r ≡ d ++ lines_text (ray_lines cert.claim cert.ray) → k ≡ r ++ lines_text (map cut_words cert.cuts) → e ≡ k ++ lines_text (map node_words cert.nodes) → f ≡ (if is_ok last then e ++ codes "end\n" else e) → IfOk last (λ _. f ≡ cert_text cert)
  text_last (Ok x) cert a b c d r k e f first second third fourth fifth sixth seventh ended = text_parts cert a b c d r k e f first second third fourth fifth sixth seventh ended
  text_last (Err x) cert a b c d r k e f first second third fourth fifth sixth seventh ended = tt

-- what holds whatever the last call answers
pub if_ok : {T E : Type 0} {P : Type 0} (last : Result T E) → P → IfOk last (λ _. P)
if_ok (Ok x) p = p
if_ok (Err x) p = tt
