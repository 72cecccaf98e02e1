-- The reply that tells outcomes shows them.
use Rattle.std.proofs.Common.{◌≡◌, ℕ, ◌^◌, ◌<◌, List, [], ◌∷◌, ◌++◌, length, map, refl, ap, ◌∙◌, arith, append_assoc, append-nil}
use Rattle.std.specs.Prelude.{ℤ, All, codes, drop, Option, Some, None}
use Rattle.std.specs.List.{slice_split, filter, onto_first}
use Rattle.std.specs.Fmt.{decimal, signed_decimal}
use Rattle.std.proofs.lemmas.List.Elements.{All-nil, All-cons, All-head, All-tail}
use Rattle.frac128.specs.Rational.{ℚ, int}
use Rattle.frac128.specs.Range.{IsNarrow}
use Rattle.frac_text.specs.Parsing.{spelled_number}
use Rattle.text_lines.specs.Lines.{Line, is_newline, lines_of, lines_of_pieces, line_bytes}
use Rattle.text_lines.specs.Words.{IsWord, Words, is_blank, is_piece, words_of}
use Rattle.text_lines.proofs.LineLemmas.{lines-ended}
use Rattle.lp_model.specs.Program.{Program}
use Rattle.lp_model.specs.declared.answers.StopWhy.{StopWhy}
use Rattle.lp_model.specs.declared.answers.StopWhy.TheVariants as stop
use Rattle.frontier.specs.declared.outcomes.Outcome.{Outcome}
use Rattle.cert_writer.specs.CertText.{line_text, lines_text}
use Rattle.cert_writer.proofs.PutLaws.{lines_append}
use Rattle.cert_writer.proofs.WordLaws.{plain_word, decimal_word, signed_word, words-there, line-one}
use Rattle.cert_writer.proofs.PrintedLaws.{two, whole_read}
use Rattle.reply_texts.specs.Texts.{part_stop_text}
use Rattle.wcn_driver.specs.declared.answers.Part.{Part}
use Rattle.front_replies.specs.FrontReplies.{row_words, head_words, complete_front_text, front_part_text, part_words, scale_stop_text, stopped_front_text}
use Rattle.front_replies.specs.FrontsShown.{whole_spelled, outcome_told, outcome_in, outcome_on, first_told, front_shown}
use Rattle.front_replies.specs.Laws.{HasNarrowValues, FrontShownLaw}

-- ---- lines before a text are lines of the whole

lines-then : (lines : List Words) (rest : List ℕ) → All (All IsWord) lines → line_bytes (lines_text lines ++ rest) ≡ map line_text lines ++ line_bytes rest
unfolding line_bytes
lines-then [] rest all = refl
lines-then (line ∷ lines) rest all =
    ap line_bytes (append_assoc (line_text line) (10 ∷ lines_text lines) rest)
    ∙ ap (map (λ (l : Line). l.bytes)) (lines-ended (line_text line) (lines_text lines ++ rest) (line-one line (All-head (All IsWord) line lines all)))
    ∙ ap (λ l. line_text line ∷ l) (lines-then lines rest (All-tail (All IsWord) line lines all))

-- ---- a line that begins with `s` tells no outcome

-- what begins so, and how it goes on
abbrev BeginsWith : ℕ → List (List ℕ) → Type 0
BeginsWith byte pieces = (piece : List ℕ) × ((more : List (List ℕ)) × (pieces ≡ (byte ∷ piece) ∷ more))

onto : (byte : ℕ) (pieces : List (List ℕ)) → BeginsWith byte (onto_first byte pieces)
onto byte [] = ([], ([], refl))
onto byte (piece ∷ more) = (piece, (more, refl))

-- 115 is `s`
first-line : (rest : List ℕ) → BeginsWith 115 (line_bytes (115 ∷ rest))
unfolding line_bytes lines_of lines_of_pieces
first-line rest = by (onto 115 (slice_split is_newline rest))
  where
    bytes : (piece : List ℕ) (more : List (List ℕ)) → BeginsWith 115 (map (λ (l : Line). l.bytes) (lines_of_pieces ((115 ∷ piece) ∷ more)))
    bytes piece [] = (piece, ([], refl))
    bytes piece (next ∷ more) = (piece, (map (λ (l : Line). l.bytes) (lines_of_pieces (next ∷ more)), refl))

    by : BeginsWith 115 (slice_split is_newline (115 ∷ rest)) → BeginsWith 115 (line_bytes (115 ∷ rest))
    by h = let found = bytes h.0 h.1.0 in (found.0, (found.1.0, ap (λ pieces. map (λ (l : Line). l.bytes) (lines_of_pieces pieces)) h.1.1 ∙ found.1.1))

first-word : (line : List ℕ) → BeginsWith 115 (words_of (115 ∷ line))
unfolding words_of
first-word line = let h : BeginsWith 115 (slice_split is_blank (115 ∷ line)) = onto 115 (slice_split is_blank line) in (h.0, (filter is_piece h.1.0, ap (filter is_piece) h.1.1))

other-word : (word : List ℕ) (more : List (List ℕ)) → outcome_in ((115 ∷ word) ∷ more) ≡ None
other-word word [] = refl
other-word word (a ∷ []) = refl
other-word word (a ∷ b ∷ []) = refl
other-word word (a ∷ b ∷ c ∷ more) = refl

other-line : (line : List ℕ) → outcome_on (115 ∷ line) ≡ None
other-line line = let h = first-word line in ap outcome_in h.1.1 ∙ other-word h.0 h.1.0

none-first : (rest : List ℕ) → first_told (map outcome_on (line_bytes (115 ∷ rest))) ≡ []
none-first rest =
    let h = first-line rest in
    ap (λ lines. first_told (map outcome_on lines)) h.1.1 ∙ (λ i. first_told (other-line h.0 i ∷ map outcome_on h.1.0))

-- ---- rows

value_read : (v : ℤ) → IsNarrow v → whole_spelled (spelled_number (signed_decimal v)) ≡ Some v
unfolding int
value_read v narrow = ap whole_spelled (whole_read v narrow)

row_read : (o : Outcome) → HasNarrowValues o → outcome_in (row_words o) ≡ Some o
row_read o narrow = (λ i. outcome_told (value_read o.f1 narrow.first i) (value_read o.f2 narrow.second i))

row_is : (o : Outcome) → HasNarrowValues o → All IsWord (row_words o)
row_is o narrow =
    All-cons IsWord (codes "f") (signed_decimal o.f1 ∷ signed_decimal o.f2 ∷ []) (plain_word (codes "f") refl)
    (two (signed_decimal o.f1) (signed_decimal o.f2) (signed_word o.f1 narrow.first) (signed_word o.f2 narrow.second))

row_on : (o : Outcome) → HasNarrowValues o → outcome_on (line_text (row_words o)) ≡ Some o
row_on o narrow =
    let are = row_is o narrow in
    let more = signed_decimal o.f1 ∷ signed_decimal o.f2 ∷ [] in
    ap outcome_in (words-there (codes "f") more (All-head IsWord (codes "f") more are) (All-tail IsWord (codes "f") more are)) ∙ row_read o narrow

rows_read : (outcomes : List Outcome) (more : List (List ℕ)) → All HasNarrowValues outcomes → first_told (map outcome_on (map line_text (map row_words outcomes) ++ more)) ≡ outcomes ++ first_told (map outcome_on more)
rows_read [] more narrow = refl
rows_read (o ∷ outcomes) more narrow =
    (λ i. first_told (row_on o (All-head HasNarrowValues o outcomes narrow) i ∷ map outcome_on (map line_text (map row_words outcomes) ++ more)))
    ∙ ap (λ l. o ∷ l) (rows_read outcomes more (All-tail HasNarrowValues o outcomes narrow))

rows_are : (outcomes : List Outcome) → All HasNarrowValues outcomes → All (All IsWord) (map row_words outcomes)
rows_are [] narrow = All-nil (All IsWord)
rows_are (o ∷ outcomes) narrow =
    All-cons (All IsWord) (row_words o) (map row_words outcomes) (row_is o (All-head HasNarrowValues o outcomes narrow)) (rows_are outcomes (All-tail HasNarrowValues o outcomes narrow))

head_is : (kind : List ℕ) (outcomes : List Outcome) → IsWord kind → length outcomes < 2 ^ 64 → All IsWord (head_words kind outcomes)
head_is kind outcomes word few =
    All-cons IsWord (codes "frontier") (kind ∷ decimal (length outcomes) ∷ []) (plain_word (codes "frontier") refl) (two kind (decimal (length outcomes)) word (decimal_word (length outcomes) (omega (arith, few))))

-- ---- replies

-- the rows behind a head, and no further line where what comes first behind them is none
shown-before : (kind : List ℕ) (outcomes : List Outcome) (rest : List ℕ) → IsWord kind → All HasNarrowValues outcomes → length outcomes < 2 ^ 64 → first_told (map outcome_on (line_bytes rest)) ≡ []
    → front_shown (lines_text (head_words kind outcomes ∷ map row_words outcomes) ++ rest) ≡ outcomes
unfolding front_shown
shown-before kind outcomes rest word narrow few none =
    let head = head_words kind outcomes in
    let rows = map row_words outcomes in
    ap (λ lines. first_told (map outcome_on (drop 1 lines))) (lines-then (head ∷ rows) rest (All-cons (All IsWord) head rows (head_is kind outcomes word few) (rows_are outcomes narrow)))
    ∙ rows_read outcomes (line_bytes rest) narrow
    ∙ ap (λ l. outcomes ++ l) none
    ∙ append-nil outcomes

end_alone : first_told (map outcome_on (line_bytes (codes "end\n"))) ≡ []
unfolding line_bytes lines_of lines_of_pieces words_of
end_alone = refl

shown-complete : (outcomes : List Outcome) → All HasNarrowValues outcomes → length outcomes < 2 ^ 64 → front_shown (complete_front_text outcomes) ≡ outcomes
shown-complete outcomes narrow few =
    ap front_shown (lines_append (head_words (codes "complete") outcomes ∷ map row_words outcomes) ((codes "end" ∷ []) ∷ []))
    ∙ shown-before (codes "complete") outcomes (codes "end\n") (plain_word (codes "complete") refl) narrow few end_alone

-- behind the rows stands a text that begins with `s`
shown-part : (outcomes : List Outcome) (rest text : List ℕ) → text ≡ 115 ∷ rest → All HasNarrowValues outcomes → length outcomes < 2 ^ 64 → front_shown (front_part_text outcomes ++ text) ≡ outcomes
shown-part outcomes rest text is narrow few =
    shown-before (codes "part") outcomes text (plain_word (codes "part") refl) narrow few (ap (λ t. first_told (map outcome_on (line_bytes t))) is ∙ none-first rest)

shown-stopped : (outcomes : List Outcome) → All HasNarrowValues outcomes → length outcomes < 2 ^ 64 → (M : Program) (part : Part) (why : StopWhy) (n : ℕ) (bound best : Option ℚ) → front_shown (stopped_front_text M outcomes part why n bound best) ≡ outcomes
shown-stopped outcomes narrow few M part stop.Nodes n bound best = let text = part_stop_text M (line_text (part_words part)) stop.Nodes n bound best ++ codes "end\n" in shown-part outcomes (drop 1 text) text refl narrow few
shown-stopped outcomes narrow few M part stop.Tree n bound best = let text = part_stop_text M (line_text (part_words part)) stop.Tree n bound best ++ codes "end\n" in shown-part outcomes (drop 1 text) text refl narrow few
shown-stopped outcomes narrow few M part (stop.Pivots place) n bound best = let text = part_stop_text M (line_text (part_words part)) (stop.Pivots place) n bound best ++ codes "end\n" in shown-part outcomes (drop 1 text) text refl narrow few
shown-stopped outcomes narrow few M part (stop.Wide at_) n bound best = let text = part_stop_text M (line_text (part_words part)) (stop.Wide at_) n bound best ++ codes "end\n" in shown-part outcomes (drop 1 text) text refl narrow few

pub shown : FrontShownLaw
shown outcomes narrow few = record {
  complete = shown-complete outcomes narrow few;
  stopped = shown-stopped outcomes narrow few;
  wide = λ M part place. let text = scale_stop_text M part place ++ codes "end\n" in shown-part outcomes (drop 1 text) text refl narrow few;
}
